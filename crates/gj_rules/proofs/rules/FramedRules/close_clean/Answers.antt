-- Nothing is found in the object that closes.
use Rattle.gj_rules.proofs.Common.{Findings, ap, core_of, false, is_feeding, refl, sym, ◌∙◌}
use Rattle.std.proofs.Common.{◌≡◌}
use Rattle.gj_json.specs.declared.event.What.TheVariants as W
use Rattle.gj_rules.specs.Internal.EventSteps.{popped}
use Rattle.gj_rules.proofs.Objects.RestingSummaries.{names, rests}
use Rattle.gj_rules.proofs.Texts.OneEventMore.{told_on, steps_taken}
use Rattle.gj_rules.proofs.rules.FramedRules.close_clean.Goals as goal

pub returns : goal.returns
returns g c = λ place events h.
    let old = c.args.self.now in
    let new = c.pop_clean.new.self in
    let feeds : is_feeding old.skipped old.mode ≡ false = rw (c.requires.skipped, c.requires.mode) refl in
    told_on old new _ events
    (steps_taken old new _ feeds
    (λ few room. c.pop_clean.ensures.core
    ∙ (ap (λ (found : Findings). popped (core_of old).outer (core_of old).top.slots.role found (core_of old)) (sym c.requires.clean)
    ∙ names old (W.CloseObject) place c.requires.skipped c.requires.mode)) (rests new c.pop_clean.ensures.rests)) h
