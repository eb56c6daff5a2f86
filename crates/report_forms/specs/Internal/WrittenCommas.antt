-- What is put of a list with commas, some items at a time.
use Rattle.std.specs.Prelude.{ℕ, Bool, true, false, List, [], ◌∷◌}
use Rattle.report_forms.specs.Forms.Json.{with_commas, behind_commas}

abbrev pub is_none_yet : {A : Type 0} → List A → Bool
is_none_yet [] = true
is_none_yet (item ∷ more) = false

-- after none, or after others
abbrev pub next_items : Bool → List (List ℕ) → List ℕ
next_items true items = with_commas items
next_items false items = behind_commas items

abbrev pub comma_unless : Bool → List ℕ
comma_unless true = []
comma_unless false = 44 ∷ []
