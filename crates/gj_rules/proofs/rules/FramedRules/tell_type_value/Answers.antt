use Rattle.gj_rules.proofs.Common.{false, is_feeding, refl, ◌∙◌}
use Rattle.std.proofs.Common.{◌≡◌}
use Rattle.gj_rules.proofs.Objects.RestingSummaries.{rests, types}
use Rattle.gj_rules.proofs.Texts.OneEventMore.{told_on, steps_taken}
use Rattle.gj_rules.proofs.rules.FramedRules.tell_type_value.Goals as goal

pub returns-then-awaits : goal.returns-then-awaits
returns-then-awaits g c = λ events h.
    let old = c.args.self.now in
    let new = c.value.new.self in
    let none = c.awaits.ensures.skipped c.if-awaits.true in
    let due = c.awaits.ensures.mode c.if-awaits.true in
    let idle : is_feeding old.skipped old.mode ≡ false = rw (none, due) refl in
    told_on old new _ events
    (steps_taken old new _ idle (λ few room. c.value.ensures.core (room none) ∙ types old c.args.word c.args.place none due)
    (rests new c.value.ensures.rests)) h
