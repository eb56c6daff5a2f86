use Rattle.gj_rules.proofs.Common.{◌∙◌}
use Rattle.gj_rules.proofs.Texts.OneEventMore.{judged_is}
use Rattle.gj_rules.proofs.rules.FramedRules.judged.Goals as goal

pub returns : goal.returns
returns g c = λ text bytes n t d h. c.frames.ensures ∙ judged_is c.args.self.now text bytes n t d h
