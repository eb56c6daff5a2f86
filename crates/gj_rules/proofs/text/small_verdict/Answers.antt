-- A refusal under a few levels that is not for the depth is that under the limits.
use Rattle.gj_rules.proofs.Common.{Allowed, ap, arith, ◌∙◌, ◌≤◌}
use Rattle.std.proofs.Common.{◌≡◌}
use Rattle.gj_rules.proofs.Texts.WiderLimits.{refused}
use Rattle.gj_rules.proofs.text.small_verdict.Goals as goal

pub returns-in_default-cause : goal.returns-in_default-cause
returns-in_default-cause c =
    let few : Allowed = c.in_ok-few.few in
    let limits : Allowed = c.args.limits in
    let made = c.in_ok-few.ensures.1 in
    let deep : few.depth ≡ c.min.result = ap (λ (a : Allowed). a.depth) made in
    let long : few.bytes ≡ c.bytes.result = ap (λ (a : Allowed). a.bytes) made in
    let shallow : few.depth ≤ limits.depth = omega (arith, deep, c.min.ensures, c.depth.ensures.value) in
    let short : few.bytes ≡ limits.bytes = long ∙ c.bytes.ensures.value in
    let v = rw (c.in-NotJson.is) at (c.framed_verdict.ensures) in
    refused few limits c.args.text.now shallow short c.in-NotJson.fault.cause c.in-NotJson.fault.place c.in_default-cause.not-Depth v
