-- The rest of a piece, as a slice has it.
use Rattle.gj_json.proofs.Common.{List, ap, arith, drop, length, ℕ, ◌+◌, ◌-◌, ◌∙◌, ◌≡◌, ◌≤◌}
use Rattle.std.proofs.Common.{take}
use Rattle.std.proofs.lemmas.List.{length-drop, drop-drop}
use Rattle.std.proofs.Math.Seq.{take-length}
pub use Rattle.std.proofs.lemmas.List.{take_rest as rest_of}
pub use Rattle.gj_number.proofs.Shorts.PiecePrefixes.{more_within}

pub take_all_of : (xs : List ℕ) (n : ℕ) → n ≡ length xs → take n xs ≡ xs
take_all_of xs n e = rw e (take-length xs)

-- ---- a rest of a piece, and what is left of it after so many bytes

rest_length : (rest : List ℕ) (n : ℕ) → length (take (length rest - n) (drop n rest)) ≡ length rest - n
rest_length rest n = ap length (rest_of rest n) ∙ length-drop n rest

module _ (piece rest : List ℕ) (n : ℕ) (within : length rest ≤ length piece) (few : n ≤ length rest) where
  pub left_within : length (take (length rest - n) (drop n rest)) ≤ length piece
  left_within = omega (arith, rest_length rest n)

  pub left_at : length piece - length rest + n ≡ length piece - length (take (length rest - n) (drop n rest))
  left_at = omega (arith, rest_length rest n)

  pub left_is : rest ≡ drop (length piece - length rest) piece
      → take (length rest - n) (drop n rest) ≡ drop (length piece - length (take (length rest - n) (drop n rest))) piece
  left_is e =
      rest_of rest n ∙ ap (drop n) e ∙ drop-drop n (length piece - length rest) piece ∙ ap (λ k. drop k piece) left_at
