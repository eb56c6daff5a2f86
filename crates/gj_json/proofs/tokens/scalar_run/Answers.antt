-- The literal names, by their letters.
use Rattle.gj_json.proofs.Common.{False, Null, True}
use Rattle.gj_json.specs.Internal.Scalars.{literal}
use Rattle.gj_json.proofs.tokens.scalar_run.Goals as goal

pub returns-in-110-clause-scalar : goal.returns-in-110-clause-scalar
returns-in-110-clause-scalar c = λ some. literal Null (c.constant_run.ensures.letters some)

pub returns-in-116-clause-scalar : goal.returns-in-116-clause-scalar
returns-in-116-clause-scalar c = λ some. literal True (c.constant_run-in-116.ensures.letters some)

pub returns-in-102-clause-scalar : goal.returns-in-102-clause-scalar
returns-in-102-clause-scalar c = λ some. literal False (c.constant_run-in-102.ensures.letters some)
