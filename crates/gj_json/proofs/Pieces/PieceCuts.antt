-- The bytes of a piece from one index up to another.
use Rattle.gj_json.proofs.Common.{List, ap, arith, cut, drop, get_or, length, length-take-le, suc, sym, take-add, ℕ, ◌++◌, ◌+◌, ◌-◌, ◌<◌, ◌∙◌}
use Rattle.gj_json.proofs.Common.{◌∷◌, ◌≡◌, ◌≤◌}
use Rattle.std.proofs.Common.{take}
use Rattle.std.proofs.lemmas.List.{drop-drop, length-drop}
use Rattle.std.proofs.Math.Seq.{drop-cons}
use Rattle.gj_json.proofs.Pieces.PieceRests.{rest_of}

pub cut_joins : (piece : List ℕ) (a b c : ℕ) → a ≤ b → b ≤ c → cut piece a c ≡ cut piece a b ++ cut piece b c
cut_joins piece a b c v w =
    let e : c - a ≡ (b - a) + (c - b) = omega arith in
    let f : a + (b - a) ≡ b = omega arith in
    ap (λ n. take n (drop a piece)) e ∙ take-add (b - a) (c - b) (drop a piece)
    ∙ ap (λ xs. cut piece a b ++ take (c - b) xs) (drop-drop (b - a) a piece ∙ ap (λ n. drop n piece) f)

pub cut_length : (piece : List ℕ) (a b : ℕ) → b ≤ length piece → length (cut piece a b) ≡ b - a
cut_length piece a b w = length-take-le (b - a) (drop a piece) (omega (arith, length-drop a piece))

pub cut_byte : (piece : List ℕ) (a c : ℕ) → a < length piece → a < c → cut piece a c ≡ get_or piece a 0 ∷ cut piece (a + 1) c
cut_byte piece a c w v =
    let e : c - a ≡ suc (c - (a + 1)) = omega arith in
    let f : suc a ≡ a + 1 = omega arith in
    ap (λ n. take n (drop a piece)) e ∙ ap (λ xs. take (suc (c - (a + 1))) xs) (drop-cons piece a 0 w ∙ ap (λ n. get_or piece a 0 ∷ drop n piece) f)

-- a prefix of the rest of a piece
pub cut_front : (piece : List ℕ) (at n : ℕ) → cut piece at (at + n) ≡ take n (take (length piece - at) (drop at piece))
cut_front piece at n = let e : at + n - at ≡ n = omega arith in ap (λ k. take k (drop at piece)) e ∙ ap (λ xs. take n xs) (sym (rest_of piece at))
