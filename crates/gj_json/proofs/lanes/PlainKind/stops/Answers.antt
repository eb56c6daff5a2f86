-- The mask of three comparisons.
use Rattle.gj_json.proofs.Common.{arith, is_unescaped, not, refl, zip2_splat}
use Rattle.gj_json.proofs.Pieces.LaneTests.{equal, less, either, mask_is}
use Rattle.gj_json.proofs.lanes.PlainKind.stops.Goals as goal

pub returns : goal.returns
returns c =
    let v = c.args.lanes in
    let long = c.fits-lanes.0 in
    mask_is _ (λ b. not (is_unescaped b)) v _ (omega arith) c.fits-lanes.1
    (either _ _ v (either _ _ v (zip2_splat equal v 16 34 long) (zip2_splat equal v 16 92 long)) (zip2_splat less v 16 32 long)) refl
