-- The names that are left when a name has begun.
use Rattle.std.specs.Prelude.{◌≡◌, ◌+◌, ℕ, List, [], ◌∷◌, ◌++◌, length, ⊤, Option, Some, None}
use Rattle.geolint_report.specs.declared.name_lists.listed.NameEnd.{NameEnd}
use Rattle.geolint_report.specs.Listed.{end_byte, parts_of, some_of, names_in}

abbrev pub with_prefix : List ℕ → List (List ℕ) → List (List ℕ)
with_prefix begun [] = begun ∷ []
with_prefix begun (part ∷ more) = (begun ++ part) ∷ more

-- these bytes of a name came before
unfoldable pub names_from : ℕ → List ℕ → List ℕ → List (List ℕ)
names_from end begun bytes = some_of (with_prefix begun (parts_of end bytes))

-- these bytes of a name came, and the rest of the list is left
abbrev pub HasBegun : NameEnd → List ℕ → ℕ → Option (List ℕ) → Option (List ℕ) → Type 0
HasBegun end begun count None rest = ⊤
HasBegun end begun count (Some all) None = ⊥
HasBegun end begun count (Some all) (Some rest) = (names_in end all ≡ names_from (end_byte end) begun rest) × (length all ≡ count + length rest)
