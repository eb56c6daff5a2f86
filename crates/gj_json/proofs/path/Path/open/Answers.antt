-- The step that is added stands innermost.
use Rattle.gj_json.proofs.Common.{rules}
use Rattle.gj_json.proofs.Paths.PathSteps.{steps_pushed}
use Rattle.gj_json.proofs.path.Path.open.Goals as goal

pub returns-then-self-lt-MOST_LEVELS : goal.returns-then-self-lt-MOST_LEVELS
returns-then-self-lt-MOST_LEVELS c = λ h. steps_pushed c.args.self.now.steps c.args.self.now.count _ (search rules)
