use Rattle.std.proofs.Common.{◌≡◌, sym, ap, ◌∙◌}
use Rattle.gj_rules.specs.declared.verdict.Verdict.{Verdict}
use Rattle.gj_rules.specs.declared.verdict.Verdict.TheVariants.{Valid}
use Rattle.gj_join.specs.Internal.PassedRuns.{whole}
use Rattle.gj_join.proofs.WholeVerdicts.{by_sum, whole_other}
use Rattle.gj_join.proofs.whole.whole_of.Goals as goal

pub returns-in-Valid : goal.returns-in-Valid
returns-in-Valid c =
    let exact : Valid c.join.result ≡ whole c.args.rest c.args.warnings =
    ap Valid c.join.ensures.exact ∙ ap (λ (x : Verdict). whole x c.args.warnings) (sym c.in-Valid.is) in
    record { exact = exact; whole = λ limits before run after sum e b h same room v. by_sum limits before run after sum c.args.rest _ c.args.warnings e b h same room v exact }

pub returns-in_default : goal.returns-in_default
returns-in_default c =
    let exact : c.args.rest ≡ whole c.args.rest c.args.warnings = sym (whole_other c.args.rest c.args.warnings c.in_default.not-Valid) in
    record { exact = exact; whole = λ limits before run after sum e b h same room v. by_sum limits before run after sum c.args.rest _ c.args.warnings e b h same room v exact }
