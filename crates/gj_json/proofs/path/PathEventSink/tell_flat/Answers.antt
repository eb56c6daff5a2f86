-- An array of numbers is one more element.
use Rattle.gj_json.proofs.Common.{flat_events, inner_steps, []}
use Rattle.gj_json.proofs.Paths.EventTrails.{follows_on, follows_flat}
use Rattle.gj_json.proofs.path.PathEventSink.tell_flat.Goals as goal

pub returns : goal.returns
returns c = λ events h. follows_on (inner_steps c.args.self.now) (inner_steps c.advance.new.self) (flat_events c.args._flat.now)
    (follows_flat (inner_steps c.args.self.now) (inner_steps c.advance.new.self) c.args._flat.now c.advance.ensures) events [] h
