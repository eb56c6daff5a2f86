use Rattle.gj_rules.proofs.Common.{false, is_feeding, refl, ◌∙◌}
use Rattle.std.proofs.Common.{◌≡◌}
use Rattle.gj_rules.proofs.Objects.RestingSummaries.{rests, opens_properties}
use Rattle.gj_rules.proofs.Texts.OneEventMore.{told_on, steps_taken}
use Rattle.gj_rules.proofs.rules.FramedRules.open_properties.Goals as goal

pub returns : goal.returns
returns g c = λ events h.
    let old = c.args.self.now in
    let new = c.begin.new.self in
    let none : is_feeding old.skipped old.mode ≡ false = rw (c.requires.skipped, c.requires.mode) refl in
    told_on old new _ events
    (steps_taken old new _ none
    (λ few room. c.begin.ensures.core ∙ opens_properties old c.args.place c.requires.skipped c.requires.mode)
    (rests new c.begin.ensures.rests)) h
