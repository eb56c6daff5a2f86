use Rattle.gj_number.proofs.Common.{List, ap, subst, sym, with_value, ℕ, ◌<◌, ◌∙◌}
use Rattle.std.specs.Simd.Lanes.{Each1}
use Rattle.std.specs.List.{fold}
use Rattle.gj_number.proofs.Shorts.SixteenLanes.{moved_small, first_spell, run_whole}
use Rattle.gj_number.proofs.lanes.first_digits.Goals as goal

pub number_of-requires : goal.number_of-requires
number_of-requires c = let P : List ℕ → Type 0 =
    λ xs. Each1 (λ x. x < 10) xs in subst P (sym c.moved_to_end.ensures) (moved_small _ _ c.leading_digits-count.ensures.count)

pub returns-clause-spells : goal.returns-clause-spells
returns-clause-spells c =
    first_spell c.args.piece.now _ _ _ c.requires c.type_inv.piece c.lanes_of-lanes.ensures c.leading_digits-count.ensures.count
    c.leading_digits-count.ensures.few
    (c.number_of.ensures ∙ ap (fold with_value 0) c.moved_to_end.ensures)

pub returns-clause-whole : goal.returns-clause-whole
returns-clause-whole c = λ count r.
    let spells = first_spell c.args.piece.now _ _ _ c.requires c.type_inv.piece c.lanes_of-lanes.ensures c.leading_digits-count.ensures.count
    c.leading_digits-count.ensures.few
    (c.number_of.ensures ∙ ap (fold with_value 0) c.moved_to_end.ensures) in
    run_whole c.args.piece.now _ _ count c.requires c.lanes_of-lanes.ensures c.leading_digits-count.ensures.count c.leading_digits-count.ensures.few
    spells.digits r
