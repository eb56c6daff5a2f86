-- The innermost step goes.
use Rattle.gj_json.proofs.Paths.PathSteps.{steps_closed}
use Rattle.gj_json.proofs.path.Path.close.Goals as goal

pub returns-then-self-gt0 : goal.returns-then-self-gt0
returns-then-self-gt0 c = steps_closed c.args.self.now.steps c.args.self.now.count _
