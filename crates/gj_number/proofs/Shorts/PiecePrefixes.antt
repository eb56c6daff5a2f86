-- Fronts of a piece, as lists.
use Rattle.gj_number.proofs.Common.{List, ap, arith, drop, get_or, length, length-drop, length-take-le, refl, take, take-take, take_rest}
use Rattle.gj_number.proofs.Common.{ℕ, [], ◌+◌, ◌-◌, ◌<◌, ◌∷◌, ◌≡◌, ◌≤◌}

-- the first element alone
pub first_is : (piece : List ℕ) → 0 < length piece → get_or piece 0 0 ∷ [] ≡ take 1 piece
first_is [] h = absurd (omega arith)
first_is (b ∷ piece) h = refl

-- a prefix of a prefix
pub front_is : (piece : List ℕ) (m n : ℕ) → m ≤ length piece → n ≤ length (take m piece) → take n (take m piece) ≡ take n piece
front_is piece m n h k = take-take n m piece (omega (arith, length-take-le m piece h))

-- the first so many of what is left lie within the piece
pub more_within : (piece : List ℕ) (i n : ℕ) → i ≤ length piece → n ≤ length (take (length piece - i) (drop i piece)) → i + n ≤ length piece
more_within piece i n l h = omega (arith, ap length (take_rest piece i), length-drop i piece)
