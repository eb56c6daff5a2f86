use Rattle.gj_rules.proofs.Common.{Findings, ap, arith, length, value_events, ◌<◌, ◌^◌, ◌∙◌}
use Rattle.gj_rules.proofs.Objects.WarningsKept.{text_is}
use Rattle.gj_rules.proofs.Texts.LinterEvents.{fewer_of_value}
use Rattle.gj_rules.proofs.Texts.OneEventMore.{answered}
use Rattle.gj_rules.proofs.rules.FramedRules.warnings.Goals as goal

pub returns-clause-kept : goal.returns-clause-kept
returns-clause-kept g c = λ text d h. c.all.ensures ∙ ap (λ (x : Findings). x.warned) (answered c.args.self.now text d h)

pub returns-clause-stands : goal.returns-clause-stands
returns-clause-stands g c = λ text d h few.
    let short : length (value_events text.value) < 2 ^ 64 = omega (arith, fewer_of_value text, few) in
    c.all.ensures ∙ (ap (λ (x : Findings). x.warned) (answered c.args.self.now text d h) ∙ text_is (2 ^ 64) c.kept_warnings.ensures.short text short)
