-- The prefix of a piece that a literal takes.
use Rattle.gj_number.proofs.Common.{BeginsNumber, List, ap, append_assoc, drop, get_or, length}
use Rattle.gj_number.proofs.Common.{subst, sym, take, take-add, take_rest, ℕ, [], ◌++◌, ◌+◌, ◌-◌, ◌∙◌, ◌∷◌}
use Rattle.gj_number.proofs.Common.{◌≡◌}
use Rattle.gj_number.specs.Literal.{StandsFor}
use Rattle.gj_number.specs.declared.literal.Literal.{Literal}
use Rattle.gj_number.proofs.Literals.LiteralBytes.{begins}

-- the bytes so far with one more of the piece
pub one_more : (bytes piece : List ℕ) (i : ℕ) → take (i + 1) piece ≡ take i piece ++ get_or piece i 0 ∷ []
    → (bytes ++ take i piece) ++ get_or piece i 0 ∷ [] ≡ bytes ++ take (i + 1) piece
one_more bytes piece i e = append_assoc bytes (take i piece) (get_or piece i 0 ∷ []) ∙ ap (λ xs. bytes ++ xs) (sym e)

-- the bytes so far with a run of the piece
pub run_more : (bytes piece : List ℕ) (i n : ℕ) → (bytes ++ take i piece) ++ take n (drop i piece) ≡ bytes ++ take (i + n) piece
run_more bytes piece i n = append_assoc bytes (take i piece) (take n (drop i piece)) ∙ ap (λ xs. bytes ++ xs) (sym (take-add i n piece))

-- whatever a literal stands for begins a number
pub stands_begin : (literal : Literal) (bytes : List ℕ) → StandsFor literal bytes → BeginsNumber bytes
unfolding StandsFor
stands_begin literal bytes h = begins bytes h.0 h.1

-- a run of them, in a slice that is all that is left
pub run_stands : (bytes piece : List ℕ) (i n : ℕ) (mid new : Literal)
    → ((xs : List ℕ) → StandsFor mid xs → StandsFor new (xs ++ take n (take (length piece - i) (drop i piece)))) → StandsFor mid (bytes ++ take i piece)
    → StandsFor new (bytes ++ take (i + n) piece)
run_stands bytes piece i n mid new run h =
    let P : List ℕ → Type 0 = λ xs. StandsFor new xs in
    let Q : List ℕ → Type 0 = λ xs. StandsFor new ((bytes ++ take i piece) ++ take n xs) in
    subst P (run_more bytes piece i n) (subst Q (take_rest piece i) (run (bytes ++ take i piece) h))
