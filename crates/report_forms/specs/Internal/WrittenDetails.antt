-- What is put of the details in parentheses, one at a time.
use Rattle.std.specs.Prelude.{ℕ, Bool, true, false, List, [], ◌∷◌, ◌++◌, codes}
use Rattle.report_forms.specs.Forms.Lines.{more_details}

abbrev pub has_details : List (List ℕ) → Bool
has_details [] = false
has_details (item ∷ more) = true

-- where a parenthesis is open, or not
abbrev pub separator : Bool → List ℕ
separator true = codes ", "
separator false = codes " ("

abbrev pub next_details : Bool → List (List ℕ) → List ℕ
next_details is_open [] = []
next_details is_open (first ∷ more) = separator is_open ++ (first ++ more_details more)

abbrev pub end : Bool → List ℕ
end true = codes ")"
end false = []
