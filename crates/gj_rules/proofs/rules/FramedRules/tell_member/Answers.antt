use Rattle.gj_rules.proofs.Common.{false, is_feeding, refl, ◌∙◌}
use Rattle.std.proofs.Common.{◌≡◌}
use Rattle.gj_json.specs.declared.event.What.TheVariants as W
use Rattle.gj_rules.proofs.Objects.RestingSummaries.{names}
use Rattle.gj_rules.proofs.Texts.OneEventMore.{told_on, steps_taken}
use Rattle.gj_rules.proofs.rules.FramedRules.tell_member.Goals as goal

pub returns-then-awaits : goal.returns-then-awaits
returns-then-awaits g c = λ events h.
    let old = c.args.self.now in
    let none = c.awaits.ensures.skipped c.if-awaits.true in
    let due = c.awaits.ensures.mode c.if-awaits.true in
    let rests : is_feeding old.skipped old.mode ≡ false = rw (none, due) refl in
    told_on old c.names.new.self _ events
    (steps_taken old c.names.new.self _ rests
    (λ few room. c.names.ensures.core ∙ names old (W.Name c.args.name) c.args.place none due) c.names.ensures.holds) h
