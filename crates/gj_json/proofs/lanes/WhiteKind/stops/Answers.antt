-- The table, read at the lower halves, and the bytes that differ from what it says.
use Rattle.gj_json.proofs.Common.{and_le_r, arith, bit_and, get_or, is_white, map-id, not, refl, sym, zip2_splat}
use Rattle.std.proofs.lemmas.Simd.{zip2_of_maps}
use Rattle.gj_json.specs.declared.lanes.TheConstants.{WHITE}
use Rattle.gj_json.proofs.Pieces.LaneTables.{lower_ok, looked_up}
use Rattle.gj_json.proofs.Pieces.LaneTests.{mask_is, differs}
use Rattle.gj_json.proofs.lanes.WhiteKind.stops.Goals as goal

pub swizzle-same : goal.swizzle-same
swizzle-same c = lower_ok c.args.lanes c.fits-lanes.0

pub returns : goal.returns
returns c =
    let v = c.args.lanes in
    let long = c.fits-lanes.0 in
    let same = looked_up WHITE (λ x. bit_and x 15) v _ long c.fits-lanes.1 (zip2_splat bit_and v 16 15 long) (λ x h. omega (arith, and_le_r x 15)) in
    mask_is _ (λ b. not (is_white b)) v _ (omega arith) c.fits-lanes.1
    (zip2_of_maps differs (λ x. x) (λ x. get_or WHITE (bit_and x 15) 0) v (sym (map-id v)) same) refl
