-- The mask of the bytes that end a character or go on wrongly.
use Rattle.gj_json.proofs.Common.{arith, zip2_splat, ◌/◌}
use Rattle.gj_json.specs.declared.wide.TheConstants.{BEFORE}
use Rattle.gj_json.proofs.Pieces.LaneTables.{down, upper_ok, looked_up}
use Rattle.gj_json.proofs.Pieces.WideLanes.{ends_are}
use Rattle.gj_json.proofs.wide.ends.Goals as goal

pub swizzle-ending : goal.swizzle-ending
swizzle-ending c = upper_ok c.args.next c.fits-next.0 c.fits-next.1

pub returns : goal.returns
returns c =
    let v = c.args.next in
    let long = c.fits-next.0 in
    ends_are c.args.before c.args.here v c.fits-before.0 c.fits-here.0 long c.fits-here.1 c.fits-next.1 c.kinds.ensures
    (looked_up BEFORE (λ x. x / 16) v _ long c.fits-next.1 (zip2_splat down v 16 4 long) (λ x h. omega arith))
