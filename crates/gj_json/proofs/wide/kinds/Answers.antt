-- Two tables, read at the halves of each byte.
use Rattle.gj_json.proofs.Common.{and_le_r, arith, bit_and, zip2_splat, ◌/◌}
use Rattle.gj_json.specs.declared.wide.TheConstants.{LOWER, UPPER}
use Rattle.gj_json.proofs.Pieces.LaneTables.{down, lower_ok, upper_ok, looked_up}
use Rattle.gj_json.proofs.Pieces.WideLanes.{kinds_are}
use Rattle.gj_json.proofs.wide.kinds.Goals as goal

pub swizzle-lower : goal.swizzle-lower
swizzle-lower c = lower_ok c.args.here c.fits-here.0

pub swizzle-upper : goal.swizzle-upper
swizzle-upper c = upper_ok c.args.here c.fits-here.0 c.fits-here.1

pub returns : goal.returns
returns c =
    let v = c.args.here in
    let long = c.fits-here.0 in
    kinds_are c.args.before v c.fits-before.0 long
    (looked_up LOWER (λ x. bit_and x 15) v _ long c.fits-here.1 (zip2_splat bit_and v 16 15 long) (λ x h. omega (arith, and_le_r x 15)))
    (looked_up UPPER (λ x. x / 16) v _ long c.fits-here.1 (zip2_splat down v 16 4 long) (λ x h. omega arith))
