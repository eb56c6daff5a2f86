use Rattle.gj_number.proofs.Common.{List, ap, subst, sym, ℕ, ◌<◌, ◌∙◌}
use Rattle.std.specs.Simd.Lanes.{Each1}
use Rattle.gj_number.specs.Internal.DigitLanes.{by_both}
use Rattle.gj_number.proofs.Shorts.SixteenLanes.{twos_small, fours_are}
use Rattle.gj_number.proofs.lanes.fours_of.Goals as goal

pub both_of-requires : goal.both_of-requires
both_of-requires c =
    let P : List ℕ → Type 0 = λ xs. Each1 (λ x. x < 100) xs in
    subst P (sym c.twos_of.ensures) (twos_small c.args.digits c.requires)

pub returns : goal.returns
returns c = c.both_of.ensures ∙ ap by_both c.twos_of.ensures ∙ fours_are c.args.digits 4 c.fits-digits.0
