use Rattle.gj_number.proofs.Common.{List, ap, subst, sym, with_value, ℕ, ◌<◌}
use Rattle.std.specs.Simd.Lanes.{Each1}
use Rattle.std.specs.List.{fold}
use Rattle.gj_number.proofs.Shorts.SixteenLanes.{moved_small, first_spell}
use Rattle.gj_number.proofs.lanes.digits_prefix.Goals as goal

pub returns-clause-digits : goal.returns-clause-digits
returns-clause-digits c = let P : List ℕ → Type 0 =
    λ xs. Each1 (λ x. x < 10) xs in subst P (sym c.moved_to_end.ensures) (moved_small _ _ c.leading_digits-count.ensures.count)

pub returns-clause-spells : goal.returns-clause-spells
returns-clause-spells c =
    first_spell c.args.piece.now _ _ _ c.requires c.type_inv.piece c.lanes_of-lanes.ensures c.leading_digits-count.ensures.count
    c.leading_digits-count.ensures.few
    (ap (fold with_value 0) c.moved_to_end.ensures)
