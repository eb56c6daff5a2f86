-- The steps follow one more event.
use Rattle.gj_json.proofs.Common.{List, PathStep, inner_steps, subst, [], ◌∷◌}
use Rattle.gj_json.specs.Internal.PathTrail.{Follows}
use Rattle.gj_json.proofs.Paths.EventTrails.{follows_on}
use Rattle.gj_json.proofs.path.PathEventSink.tell.Goals as goal

pub returns : goal.returns
returns c = λ events h.
    let P : List PathStep → Type 0 = λ t. Follows (inner_steps c.follow.new.self) (c.args.event ∷ []) t in
    follows_on (inner_steps c.args.self.now) (inner_steps c.follow.new.self) (c.args.event ∷ []) (λ t e. subst P e c.follow.ensures) events [] h
