use Rattle.gj_number.proofs.Common.{List, StartsUsualPair, StartsWithPair, arith, drop, length, replicate, subst, sym, ℕ, ◌++◌, ◌+◌, ◌≡◌}
use Rattle.gj_number.specs.Short.{exact_of}
use Rattle.gj_number.proofs.Shorts.CopiedNumbers.{pair_there, usual_pair_more, usual_pair_end}
use Rattle.gj_number.proofs.short.pair.read_last_pair.Goals as goal

pub returns-clause-numbers : goal.returns-clause-numbers
returns-clause-numbers c =
    let piece = c.args.piece.now in
    let pair = c.in-Some.pair in
    let P : List ℕ → Type 0 =
    λ xs. StartsWithPair (xs ++ drop (length piece) (replicate 40 0)) (exact_of c.read_pair.new.first)
    (exact_of c.read_pair.new.second) pair.comma pair.second pair.end in
    pair_there piece _ _ _ _ _ _ c.if-pair-piece.false (subst P c.copy_from_slice.ensures.after c.in-Some.ensures.numbers)

-- the copy starts with the two usual numbers too, and they end where they did
copied : (front piece more : List ℕ) → front ≡ piece → (u : StartsUsualPair piece)
    → (v : StartsUsualPair (front ++ more)) × (v.second_at + v.length_other ≡ u.second_at + u.length_other)
copied front piece more is u =
    let P : List ℕ → Type 0 = λ xs. (v : StartsUsualPair (xs ++ more)) × (v.second_at + v.length_other ≡ u.second_at + u.length_other) in
    subst P (sym is) (usual_pair_more piece more u)

pub returns-in_default-clause-taken : goal.returns-in_default-clause-taken
returns-in_default-clause-taken c = λ u. c.in_default.ensures.taken (copied _ _ _ c.copy_from_slice.ensures.after u).0

pub returns-then-pair-piece-clause-taken : goal.returns-then-pair-piece-clause-taken
returns-then-pair-piece-clause-taken c = λ u.
    let v = copied _ _ _ c.copy_from_slice.ensures.after u in
    let end = c.in-Some.ensures.whole v.0 in
    absurd (omega (arith, c.if-pair-piece.true, end, v.1, usual_pair_end c.args.piece.now u))
