-- What is left of a list, and what a call takes from it.
use Rattle.std.specs.Prelude.{◌≡◌, ◌<◌, ◌≤◌, ◌^◌, ◌-◌, ℕ, true, false, List, [], ◌∷◌, length, take, drop, ⊤, Option, Some, None, Result, Ok, Err}
use Rattle.std.specs.Io.KnownBytes.{prepend_known}
use Rattle.geolint_report.specs.declared.name_lists.listed.Listed.{Listed}
use Rattle.geolint_report.specs.declared.name_lists.listed.Listed.TheVariants.{Name, NameWithNul, End}
use Rattle.geolint_report.specs.declared.name_lists.listed.NameEnd.{NameEnd}
use Rattle.geolint_report.specs.declared.name_lists.names.Names.{Names}
use Rattle.geolint_report.specs.Listed.{names_in, given, has_nul}

-- the bytes that were read and not yet taken, and then those that the reader has left
abbrev pub left_of : {R : Type 0} → (R → Option (List ℕ)) → Names R → Option (List ℕ)
left_of remaining names = prepend_known (drop names.at (take names.end names.piece)) (remaining names.reader)

-- one byte was taken, or none is left
abbrev pub Takes : {E : Type 0} → Option (List ℕ) → Option (List ℕ) → Result (Option ℕ) E → Type 0
Takes None new result = ⊤
Takes (Some all) None result = ⊥
Takes (Some all) (Some rest) (Ok (Some byte)) = all ≡ byte ∷ rest
Takes (Some all) (Some rest) (Ok None) = (all ≡ []) × (rest ≡ [])
Takes (Some all) (Some rest) (Err error) = rest ≡ all

-- a name was taken, and this was given of it, or none is left
abbrev pub NextIn : NameEnd → List ℕ → List ℕ → Listed → List ℕ → Type 0
NextIn end all rest Name name = (first : List ℕ) × (names_in end all ≡ first ∷ names_in end rest) × (name ≡ given first) × (has_nul first ≡ false)
NextIn end all rest NameWithNul name = (first : List ℕ) × (names_in end all ≡ first ∷ names_in end rest) × (name ≡ given first) × (has_nul first ≡ true)
NextIn end all rest End name = (names_in end all ≡ []) × (names_in end rest ≡ []) × (name ≡ [])

-- of a list of fewer than 2^64 - 1 bytes
abbrev pub NextOf : {E : Type 0} → Option (List ℕ) → Option (List ℕ) → NameEnd → Result Listed E → List ℕ → Type 0
NextOf (Some all) (Some rest) end (Ok listed) name = length all < 2 ^ 64 - 1 → (length rest ≤ length all) × NextIn end all rest listed name
NextOf (Some all) None end result name = ⊥
NextOf old new end result name = ⊤
