use Rattle.gj_rules.proofs.Common.{arith}
use Rattle.gj_rules.proofs.Texts.RoleDepths.{judged_open, judged_half}
use Rattle.gj_rules.proofs.laws.judged_levels.Goals as goal

pub returns-clause-open : goal.returns-clause-open
returns-clause-open c = λ text n. judged_open text n

pub returns-clause-half : goal.returns-clause-half
returns-clause-half c = λ text bytes n h. omega (arith, judged_half text bytes n h)
