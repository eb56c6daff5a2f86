use Rattle.gj_number.proofs.Common.{List, rests_in, subst, ℕ, ◌≡◌}
use lib.Lanes.{Each1}
use Rattle.gj_number.proofs.Shorts.CutLanes.{rests_in_both, greater_is}
use Rattle.gj_number.proofs.short.cut_lanes.rests_of.Goals as goal

pub returns-then-has_no_rest-clause-first_none : goal.returns-then-has_no_rest-clause-first_none
returns-then-has_no_rest-clause-first_none c t =
    let P : List ℕ → Type 0 = λ xs. Each1 (λ x. x ≡ 0) (rests_in xs) in
    (rests_in_both c.args.first c.args.second c.fits-first.0 c.fits-second.0
    (subst P (greater_is c.args.first c.args.second) (c.has_no_rest.ensures.0 c.if-has_no_rest.true))).0

pub returns-then-has_no_rest-clause-second_none : goal.returns-then-has_no_rest-clause-second_none
returns-then-has_no_rest-clause-second_none c t =
    let P : List ℕ → Type 0 = λ xs. Each1 (λ x. x ≡ 0) (rests_in xs) in
    (rests_in_both c.args.first c.args.second c.fits-first.0 c.fits-second.0
    (subst P (greater_is c.args.first c.args.second) (c.has_no_rest.ensures.0 c.if-has_no_rest.true))).1
