-- The runs are found by the bits of the lanes that are no digits.
use Rattle.gj_number.proofs.Common.{List, ap, arith, subst, sym, with_value, ℕ, ◌<◌, ◌∙◌}
use Rattle.std.specs.Simd.Lanes.{Each1}
use Rattle.std.specs.List.{fold}
use Rattle.gj_number.proofs.Shorts.SixteenLanes.{natural_few, natural_ends, natural_small, natural_spell, both_few, both_small, both_spell, lanes_end, next}
use Rattle.gj_number.proofs.Shorts.UnsignedNumbers.{some_other, first_allowed, whole_is, rest_some, after_some, both_is}
use Rattle.gj_number.proofs.lanes.unsigned_prefix.Goals as goal
use Rattle.gj_number.proofs.lanes.unsigned_prefix.Goals.{then-rest-eq0-via-then-rest-eq0, then-rest-eq0-via-else-rest-eq0+then-fraction-eq0}

pub bounds-piece-natural : goal.bounds-piece-natural
bounds-piece-natural c =
    let few = natural_few c.args.piece.now _ c.requires c.type_inv.piece c.lanes_of-lanes.ensures _ c.from_ten-others.ensures c.if-others-eq0.false in
    omega arith

pub moved_to_end-requires : goal.moved_to_end-requires
moved_to_end-requires c =
    let few = natural_few c.args.piece.now _ c.requires c.type_inv.piece c.lanes_of-lanes.ensures _ c.from_ten-others.ensures c.if-others-eq0.false in
    omega arith

pub number_of-requires : goal.number_of-requires
number_of-requires c =
    let P : List ℕ → Type 0 = λ xs. Each1 (λ x. x < 10) xs in
    subst P (sym c.moved_to_end.ensures)
    (natural_small c.args.piece.now _ c.requires c.type_inv.piece c.lanes_of-lanes.ensures _ c.from_ten-others.ensures c.if-others-eq0.false)

pub returns-then-piece-natural-ne46-clause-few : goal.returns-then-piece-natural-ne46-clause-few
returns-then-piece-natural-ne46-clause-few c =
    natural_few c.args.piece.now _ c.requires c.type_inv.piece c.lanes_of-lanes.ensures _ c.from_ten-others.ensures c.if-others-eq0.false

pub returns-then-piece-natural-ne46-clause-spells : goal.returns-then-piece-natural-ne46-clause-spells
returns-then-piece-natural-ne46-clause-spells c =
    natural_spell c.args.piece.now _ c.requires c.type_inv.piece c.lanes_of-lanes.ensures _ c.from_ten-others.ensures c.if-others-eq0.false _
    (c.number_of.ensures ∙ ap (fold with_value 0) c.moved_to_end.ensures)

pub overflow_shr-rest : goal.overflow_shr-rest
overflow_shr-rest c =
    let few = natural_few c.args.piece.now _ c.requires c.type_inv.piece c.lanes_of-lanes.ensures _ c.from_ten-others.ensures c.if-others-eq0.false in
    omega arith

pub without_lane-requires : goal.without_lane-requires
without_lane-requires c =
    natural_few c.args.piece.now _ c.requires c.type_inv.piece c.lanes_of-lanes.ensures _ c.from_ten-others.ensures c.if-others-eq0.false

pub moved_to_end-requires-2 : goal.moved_to_end-requires-2
moved_to_end-requires-2 c =
    let few = both_few c.args.piece.now _ c.requires c.type_inv.piece c.lanes_of-lanes.ensures _ c.from_ten-others.ensures c.if-others-eq0.false
    c.if-rest-eq0.false in
    omega arith

pub number_of-requires-2 : goal.number_of-requires-2
number_of-requires-2 c =
    let P : List ℕ → Type 0 = λ xs. Each1 (λ x. x < 10) xs in
    subst P (sym (rw c.without_lane.ensures at c.moved_to_end-2.ensures))
    (both_small c.args.piece.now _ c.requires c.type_inv.piece c.lanes_of-lanes.ensures _ c.from_ten-others.ensures c.if-others-eq0.false
    c.if-rest-eq0.false)

pub returns-clause-few : goal.returns-clause-few
returns-clause-few c =
    both_few c.args.piece.now _ c.requires c.type_inv.piece c.lanes_of-lanes.ensures _ c.from_ten-others.ensures c.if-others-eq0.false c.if-rest-eq0.false

pub returns-clause-spells : goal.returns-clause-spells
returns-clause-spells c =
    both_spell c.args.piece.now _ c.requires c.type_inv.piece c.lanes_of-lanes.ensures _ c.from_ten-others.ensures c.if-others-eq0.false c.if-rest-eq0.false _
    (c.number_of-2.ensures ∙ ap (fold with_value 0) (rw c.without_lane.ensures at c.moved_to_end-2.ensures)) c.if-piece-natural-ne46.false
    c.if-fraction-eq0.false

pub returns-then-piece-natural-ne46-clause-ends : goal.returns-then-piece-natural-ne46-clause-ends
returns-then-piece-natural-ne46-clause-ends c =
    natural_ends c.args.piece.now _ c.requires c.type_inv.piece c.lanes_of-lanes.ensures _ c.from_ten-others.ensures c.if-others-eq0.false

pub returns-then-piece-natural-ne46-clause-last : goal.returns-then-piece-natural-ne46-clause-last
returns-then-piece-natural-ne46-clause-last c =
    natural_ends c.args.piece.now _ c.requires c.type_inv.piece c.lanes_of-lanes.ensures _ c.from_ten-others.ensures c.if-others-eq0.false

pub returns-clause-last : goal.returns-clause-last
returns-clause-last c =
    let after = next c.args.piece.now _ c.requires c.type_inv.piece c.lanes_of-lanes.ensures _ c.from_ten-others.ensures c.if-others-eq0.false
    c.if-rest-eq0.false in
    lanes_end c.args.piece.now _ c.requires c.type_inv.piece c.lanes_of-lanes.ensures _ c.from_ten-others.ensures _ _ after.1 after.0

pub returns-then-others-eq0-clause-taken : goal.returns-then-others-eq0-clause-taken
returns-then-others-eq0-clause-taken c = λ n few u.
    some_other c.args.piece.now _ c.requires c.type_inv.piece c.lanes_of-lanes.ensures _ c.from_ten-others.ensures n few u c.if-others-eq0.true

pub returns-then-piece-natural-ne46-clause-taken : goal.returns-then-piece-natural-ne46-clause-taken
returns-then-piece-natural-ne46-clause-taken c = λ n few u. (
  whole_is c.args.piece.now _ c.requires c.type_inv.piece c.lanes_of-lanes.ensures _ c.from_ten-others.ensures n few u c.if-others-eq0.false
      c.if-piece-natural-ne46.true,
  first_allowed c.args.piece.now _ c.requires c.type_inv.piece c.lanes_of-lanes.ensures _ c.from_ten-others.ensures n few u c.if-others-eq0.false,
)

pub returns-then-rest-eq0-clause-taken : goal.returns-then-rest-eq0-clause-taken
returns-then-rest-eq0-clause-taken c = λ n few u. elim c.then-rest-eq0.branch [
  | then-rest-eq0-via-then-rest-eq0 w ↦ rest_some c.args.piece.now _ c.requires c.type_inv.piece c.lanes_of-lanes.ensures _ c.from_ten-others.ensures n few u
      c.if-others-eq0.false c.if-piece-natural-ne46.false w.if-rest-eq0.true
  | then-rest-eq0-via-else-rest-eq0+then-fraction-eq0 w ↦ after_some c.args.piece.now _ c.requires c.type_inv.piece c.lanes_of-lanes.ensures _ c.from_ten-others.ensures n few u
      c.if-others-eq0.false c.if-piece-natural-ne46.false w.if-rest-eq0.false w.if-fraction-eq0.true
]

pub returns-clause-taken : goal.returns-clause-taken
returns-clause-taken c = λ n few u. (
  both_is c.args.piece.now _ c.requires c.type_inv.piece c.lanes_of-lanes.ensures _ c.from_ten-others.ensures n few u c.if-others-eq0.false
      c.if-piece-natural-ne46.false c.if-rest-eq0.false,
  first_allowed c.args.piece.now _ c.requires c.type_inv.piece c.lanes_of-lanes.ensures _ c.from_ten-others.ensures n few u c.if-others-eq0.false,
)
