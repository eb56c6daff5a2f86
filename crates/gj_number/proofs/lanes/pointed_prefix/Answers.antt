use Rattle.gj_number.proofs.Common.{List, ap, arith, get_or, subst, sym, with_value, ℕ, ◌<◌, ◌∙◌}
use Rattle.std.specs.Simd.Lanes.{Each1}
use Rattle.std.specs.List.{fold}
use Rattle.gj_number.proofs.Shorts.PointedNumbers.{before_found, both_fit, pointed_small, pointed_spell, after_ends, after_some}
use Rattle.gj_number.proofs.lanes.pointed_prefix.Goals as goal
use Rattle.gj_number.proofs.lanes.pointed_prefix.Goals.{then-natural-eq0-via-then-natural-eq0, then-natural-eq0-via-else-natural-eq0+then-natural-gt3}
use Rattle.gj_number.proofs.lanes.pointed_prefix.Goals.{then-natural-eq0-via-else-natural-eq0+else-natural-gt3+then-piece-natural-ne46}

pub without_point-requires-clause-within : goal.without_point-requires-clause-within
without_point-requires-clause-within c =
    both_fit c.args.piece.now _ c.requires c.type_inv.piece c.lanes_of-lanes.ensures _ c.from_ten_ended-others.ensures (omega (arith, c.if-natural-gt3.false))

pub returns-clause-few : goal.returns-clause-few
returns-clause-few c =
    both_fit c.args.piece.now _ c.requires c.type_inv.piece c.lanes_of-lanes.ensures _ c.from_ten_ended-others.ensures (omega (arith, c.if-natural-gt3.false))

pub returns-clause-digits : goal.returns-clause-digits
returns-clause-digits c =
    let P : List ℕ → Type 0 = λ xs. Each1 (λ x. x < 10) xs in
    subst P (sym c.without_point.ensures)
    (pointed_small c.args.piece.now _ c.requires c.type_inv.piece c.lanes_of-lanes.ensures _ c.from_ten_ended-others.ensures
    (omega (arith, c.if-natural-gt3.false)))

pub returns-clause-spells : goal.returns-clause-spells
returns-clause-spells c =
    pointed_spell c.args.piece.now _ c.requires c.type_inv.piece c.lanes_of-lanes.ensures _ c.from_ten_ended-others.ensures
    (omega (arith, c.if-natural-gt3.false)) _
    (ap (fold with_value 0) c.without_point.ensures) c.if-piece-natural-ne46.false c.if-fraction-eq0.false

pub returns-then-natural-eq0-clause-taken : goal.returns-then-natural-eq0-clause-taken
returns-then-natural-eq0-clause-taken c = λ n f p.
    let is = before_found c.args.piece.now _ c.requires c.type_inv.piece c.lanes_of-lanes.ensures _ c.from_ten_ended-others.ensures n f p in
    let some = p.some in
    let few = p.few in
    elim c.then-natural-eq0.branch [
      | then-natural-eq0-via-then-natural-eq0 w ↦ absurd (omega (arith, w.if-natural-eq0.true))
      | then-natural-eq0-via-else-natural-eq0+then-natural-gt3 w ↦ absurd (omega (arith, w.if-natural-gt3.true))
      | then-natural-eq0-via-else-natural-eq0+else-natural-gt3+then-piece-natural-ne46 w ↦ absurd
          (w.if-piece-natural-ne46.true (ap (λ i. get_or c.args.piece.now i 0) is ∙ p.point))
    ]

pub returns-then-fraction-eq0-clause-taken : goal.returns-then-fraction-eq0-clause-taken
returns-then-fraction-eq0-clause-taken c =
    λ n f p. absurd (after_some c.args.piece.now _ c.requires c.type_inv.piece c.lanes_of-lanes.ensures _ c.from_ten_ended-others.ensures
    (omega (arith, c.if-natural-gt3.false)) n f p c.if-fraction-eq0.true)

pub returns-clause-ends : goal.returns-clause-ends
returns-clause-ends c =
    after_ends c.args.piece.now _ c.requires c.type_inv.piece c.lanes_of-lanes.ensures _ c.from_ten_ended-others.ensures (omega (arith, c.if-natural-gt3.false))
