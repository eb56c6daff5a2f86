use Rattle.std.proofs.Common.{◌≡◌, ◌<◌, ◌+◌, ◌++◌, ◌∷◌, [], List, length, take, sym, ap, ◌∙◌, subst, arith}
use Rattle.std.proofs.lemmas.List.{take_more}
use Rattle.gj_json.specs.declared.event.Event.{Event}
use Rattle.gj_rules.specs.Rules.{StandsFor}
use Rattle.layer_tests.proofs.rules.events.fault_of.Goals as goal

pub loop-event-preserved : goal.loop-event-preserved
loop-event-preserved c =
    let events : List Event = c.args.events.now in
    let at = c.loop-event.event-index in
    let found : Event = c.event-item.result in
    let l : at < length events = omega arith in
    let e : take at events ++ found ∷ [] ≡ take (at + 1) events =
    ap (λ (x : Event). take at events ++ x ∷ []) c.event-item.is ∙ sym (take_more events at found l) in
    subst (λ (es : List Event). StandsFor c.tell.new.self es) e (c.tell.ensures (take at events) c.loop-event.invariant)
