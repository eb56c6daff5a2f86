-- The innermost step is replaced.
use Rattle.gj_json.proofs.Common.{rules}
use Rattle.gj_json.proofs.Paths.PathSteps.{steps_set}
use Rattle.gj_json.proofs.path.Path.set_inner.Goals as goal

pub returns-then-self-gt0 : goal.returns-then-self-gt0
returns-then-self-gt0 c = steps_set c.args.self.now.steps c.args.self.now.count c.args.step (search rules) c.if-self-gt0.true
