use Rattle.gj_number.proofs.Common.{ap, arith, ◌^◌, ◌∙◌}
use Rattle.gj_number.proofs.Shorts.TensTable.{power_at}
use Rattle.gj_number.proofs.tens.ten_to.Goals as goal

pub returns : goal.returns
returns c = power_at 0 20 c.args.n (omega arith) ∙ ap (λ k. 10 ^ k) (omega arith)
