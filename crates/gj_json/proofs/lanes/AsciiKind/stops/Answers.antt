-- The mask of four comparisons.
use Rattle.gj_json.proofs.Common.{arith, is_unescaped_ascii, not, refl, zip2_splat}
use Rattle.std.proofs.lemmas.Simd.{zip2_splat_left}
use Rattle.gj_json.proofs.Pieces.LaneTests.{equal, less, either, mask_is}
use Rattle.gj_json.proofs.lanes.AsciiKind.stops.Goals as goal

pub returns : goal.returns
returns c =
    let v = c.args.lanes in
    let long = c.fits-lanes.0 in
    mask_is _ (λ b. not (is_unescaped_ascii b)) v _ (omega arith) c.fits-lanes.1
    (either _ _ v (either _ _ v (either _ _ v (zip2_splat equal v 16 34 long) (zip2_splat equal v 16 92 long)) (zip2_splat less v 16 32 long))
    (zip2_splat_left less 127 16 v long)) refl
