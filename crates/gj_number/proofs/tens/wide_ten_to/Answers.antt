use Rattle.gj_number.proofs.Common.{ap, arith, pow-add, sym, ◌+◌, ◌-◌, ◌^◌, ◌∙◌, ◌≡◌}
use Rattle.gj_number.proofs.tens.wide_ten_to.Goals as goal

pub returns-else-n-le19 : goal.returns-else-n-le19
returns-else-n-le19 c =
    let e : 19 + (c.args.n - 19) ≡ c.args.n = omega arith in
    rw (c.ten_to-else-n-le19.ensures, c.ten_to-else-n-le19-2.ensures) (sym (pow-add 10 19 (c.args.n - 19)) ∙ ap (λ n. 10 ^ n) e)
