-- The outermost frame is the first.
use Rattle.gj_rules.proofs.Common.{arith, sym}
use Rattle.gj_rules.specs.Internal.RulesState.{no_frame}
use Rattle.gj_rules.proofs.Doom.InsideValues.{first_root}
use Rattle.gj_rules.proofs.rules.FramedRules.outermost.Goals as goal

pub returns : goal.returns
unfolding no_frame
returns g c = sym (first_root c.args.self.now.frames c.args.self.now.around (omega arith))
