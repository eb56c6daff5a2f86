-- No place passes the end of what fits, since none that the verdict names does.
use Rattle.gj_rules.proofs.Common.{Broken, NotJson, TellsPlace, Valid, Verdict, arith, refl, ◌+◌, ◌^◌, ◌≤◌}
use Rattle.std.proofs.Common.{ℕ}
use Rattle.gj_rules.proofs.sequence.verdict.shifted.Goals as goal

abbrev Stays : ℕ → Verdict → Type 0
Stays by verdict = (place : ℕ) → TellsPlace place verdict → place + by ≤ 2 ^ 61

pub shifted-requires : goal.shifted-requires
shifted-requires c = let r : Stays c.args.by (Valid c.in-Valid.warnings) = rw (c.in-Valid.is) at c.requires in λ kind place e. r place (kind, e)

pub overflow_add-result : goal.overflow_add-result
overflow_add-result c =
    let r : Stays c.args.by (Broken c.in-Broken.fault) = rw (c.in-Broken.is) at c.requires in
    omega (arith, r c.in-Broken.fault.place refl)

pub overflow_add-result-in-NotJson : goal.overflow_add-result-in-NotJson
overflow_add-result-in-NotJson c =
    let r : Stays c.args.by (NotJson c.in-NotJson.fault) = rw (c.in-NotJson.is) at c.requires in
    omega (arith, r c.in-NotJson.fault.place refl)
