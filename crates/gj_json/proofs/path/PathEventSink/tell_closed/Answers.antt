-- Whichever events closed the innermost level, the steps around it are left.
use Rattle.gj_json.proofs.Common.{inner_steps, []}
use Rattle.gj_json.proofs.Paths.EventTrails.{follows_on}
use Rattle.gj_json.proofs.Paths.ClosedLevels.{follows_closed}
use Rattle.gj_json.proofs.path.PathEventSink.tell_closed.Goals as goal

pub returns-clause-heard : goal.returns-clause-heard
returns-clause-heard c = λ told events inner h l.
    follows_on (inner_steps c.args.self.now) (inner_steps c.advance.new.self) inner
    (λ t e. follows_closed (inner_steps c.args.self.now) (inner_steps c.close.new.self)
    (inner_steps c.advance.new.self) c.close.ensures c.advance.ensures t e inner l) events [] h
