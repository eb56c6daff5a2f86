-- The names in a list of files: its parts between the bytes that end a name, but for empty ones.
use Rattle.std.specs.Prelude.{ℕ, Bool, true, false, if◌then◌else◌, nat_eq, List, [], ◌∷◌, take}
use Rattle.geolint_report.specs.declared.name_lists.listed.Listed.{Listed}
use Rattle.geolint_report.specs.declared.name_lists.listed.Listed.TheVariants.{Name, NameWithNul, End}
use Rattle.geolint_report.specs.declared.name_lists.listed.NameEnd.{NameEnd}
use Rattle.geolint_report.specs.declared.name_lists.listed.NameEnd.TheVariants.{Lf, Nul}
use Rattle.geolint_report.specs.declared.name_lists.names.TheConstants.{LONGEST_NAME}

abbrev pub end_byte : NameEnd → ℕ
end_byte Lf = 10
end_byte Nul = 0

-- ---- the names

abbrev pub with_first : ℕ → List (List ℕ) → List (List ℕ)
with_first byte [] = (byte ∷ []) ∷ []
with_first byte (part ∷ more) = (byte ∷ part) ∷ more

-- the parts between these bytes: one more than there are of them
unfoldable pub parts_of : ℕ → List ℕ → List (List ℕ)
parts_of end [] = [] ∷ []
parts_of end (byte ∷ rest) = if nat_eq byte end then [] ∷ parts_of end rest else with_first byte (parts_of end rest)

-- those that are not empty
unfoldable pub some_of : List (List ℕ) → List (List ℕ)
some_of [] = []
some_of ([] ∷ more) = some_of more
some_of ((byte ∷ bytes) ∷ more) = (byte ∷ bytes) ∷ some_of more

unfoldable pub names_in : NameEnd → List ℕ → List (List ℕ)
names_in end bytes = some_of (parts_of (end_byte end) bytes)

-- ---- what is given of a name

-- its bytes before the first NUL
unfoldable pub before_nul : List ℕ → List ℕ
before_nul [] = []
before_nul (byte ∷ rest) = if nat_eq byte 0 then [] else byte ∷ before_nul rest

unfoldable pub has_nul : List ℕ → Bool
has_nul [] = false
has_nul (byte ∷ rest) = if nat_eq byte 0 then true else has_nul rest

abbrev pub given : List ℕ → List ℕ
given name = take LONGEST_NAME (before_nul name)

abbrev pub listed_by : Bool → Bool → Listed
listed_by true is_empty = NameWithNul
listed_by false true = End
listed_by false false = Name
