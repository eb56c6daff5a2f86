-- The report of a verdict is that of the bytes whose verdict it is.
use Rattle.std.proofs.Common.{◌≡◌, ◌≢◌, ℕ, List, [], ◌∷◌, refl, ap, subst}
use Rattle.gj_json.specs.Limits.{Allowed}
use Rattle.gj_json.specs.declared.fault.JsonFault.{JsonFault}
use Rattle.gj_coords.specs.Warnings.{Warning}
use Rattle.gj_coords.specs.WarningsStand.{StandsFor}
use Rattle.gj_coords.specs.declared.fault.Fault.{Fault}
use Rattle.gj_coords.specs.declared.warnings.Warnings.{Warnings}
use Rattle.gj_rules.specs.TextWarnings.{text_warnings}
use Rattle.gj_rules.specs.Verdict.{valid, broken, refused, IsVerdict}
use Rattle.gj_rules.specs.declared.verdict.Verdict.{Verdict}
use Rattle.gj_rules.specs.declared.verdict.Verdict.TheVariants.{Valid, Broken, NotJson}
use Rattle.geolint_c.specs.Report.{all_warned, valid_report, broken_report, refusal_report, Reports}
use Rattle.geolint_c.specs.declared.report.Report.{Report}
use Rattle.geolint_c.specs.declared.report.Warned.{Warned}

pub reports_valid : (limits : Allowed) (bytes : List ℕ) (verdict : Verdict) (told : Warnings) (report : Report) → verdict ≡ Valid told
    → ((all : List Warning) → StandsFor told all → report ≡ valid_report all) → IsVerdict limits bytes verdict → Reports limits bytes report
reports_valid limits bytes verdict told report same right is =
    let v : IsVerdict limits bytes (Valid told) = subst (IsVerdict limits bytes) same is in
    (valid (text_warnings v.0), (v.0, v.1, v.2, refl), right (text_warnings v.0) v.3)

pub reports_broken : (limits : Allowed) (bytes : List ℕ) (verdict : Verdict) (fault : Fault) (report : Report) → verdict ≡ Broken fault
    → report ≡ broken_report fault → IsVerdict limits bytes verdict → Reports limits bytes report
reports_broken limits bytes verdict fault report same right is = (broken fault, subst (IsVerdict limits bytes) same is, right)

pub reports_refused : (limits : Allowed) (bytes : List ℕ) (verdict : Verdict) (fault : JsonFault) (report : Report) → verdict ≡ NotJson fault
    → report ≡ refusal_report fault → IsVerdict limits bytes verdict → Reports limits bytes report
reports_refused limits bytes verdict fault report same right is = (refused fault, subst (IsVerdict limits bytes) same is, right)

abbrev warned_with : List Warned → Report
warned_with told = record { status = 0; verdict = 1; rule = 0; cause = 0; place = 0; warned = 1; warnings = told }

-- the report of a valid text with a warning
pub with_warnings : (all : List Warning) (told : List Warned) → told ≡ all_warned all → all ≢ [] → warned_with told ≡ valid_report all
with_warnings [] told e some = absurd (some refl)
with_warnings (warning ∷ more) told e some = ap warned_with e
