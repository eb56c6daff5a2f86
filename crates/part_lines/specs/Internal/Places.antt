-- Where the lines of parts are put in the order of these.
use Rattle.std.specs.Prelude.{◌≡◌, ℕ, suc, ◌-◌, ◌<◌, ◌≤◌, List, length, get_or}

-- The indices of the first so many lines, given the number of each, at the places of their numbers. At any other place is how many there are.
pub record ArePlaced (numbers : List ℕ) (count : ℕ) (order : List ℕ) : Type 0 where
  pub long : length order ≡ length numbers
  pub right : (k : ℕ) → k < length order → get_or order k 0 < length numbers → (get_or order k 0 < count) × (get_or numbers (get_or order k 0) 0 ≡ suc k)
  pub there : (i : ℕ) → i < count → get_or numbers i 0 ≤ length numbers → get_or order (get_or numbers i 0 - 1) 0 < length numbers
