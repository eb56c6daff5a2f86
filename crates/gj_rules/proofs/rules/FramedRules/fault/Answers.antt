use Rattle.gj_rules.proofs.Common.{Findings, ap}
use Rattle.gj_rules.proofs.Texts.OneEventMore.{answered}
use Rattle.gj_rules.proofs.rules.FramedRules.fault.Goals as goal

pub returns : goal.returns
returns g c = λ text d h. ap (λ (x : Findings). x.fault) (answered c.args.self.now text d h)
