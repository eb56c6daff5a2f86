-- The bytes before the next of one value.
use Rattle.std.specs.Prelude.{ℕ, List, [], ◌∷◌, Bool, false, ◌||◌, nat_eq}

abbrev pub has_byte : ℕ → List ℕ → Bool
has_byte wanted [] = false
has_byte wanted (byte ∷ more) = nat_eq byte wanted || has_byte wanted more

abbrev pub begins_with : ℕ → List ℕ → Bool
begins_with wanted [] = false
begins_with wanted (byte ∷ more) = nat_eq byte wanted
