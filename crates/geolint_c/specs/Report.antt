-- What an input is, in plain numbers.
use Rattle.std.specs.Prelude.{◌≡◌, ℕ, List, [], ◌∷◌, map, Option, Some, None}
use Rattle.gj_json.specs.Limits.{Allowed}
use Rattle.gj_json.specs.declared.fault.JsonFault.{JsonFault}
use Rattle.gj_coords.specs.declared.fault.Fault.{Fault}
use Rattle.gj_coords.specs.declared.kind.Kind.{Kind}
use Rattle.gj_coords.specs.Fault.{number_of}
use Rattle.gj_coords.specs.Warnings.{Warning, kinds, count_of, first_of}
use Rattle.gj_rules.specs.Verdict.{Judgement, valid, broken, refused, IsJudgement}
use Rattle.geolint_c.specs.declared.report.Report.{Report}
use Rattle.geolint_c.specs.declared.report.Warned.{Warned}
pub use Rattle.gj_json.specs.Texts.{cause_number}

abbrev pub place_or_zero : Option ℕ → ℕ
place_or_zero None = 0
place_or_zero (Some place) = place

-- how many warnings of a kind there are, and the least place
abbrev pub warned_of : List Warning → Kind → Warned
warned_of warnings kind = record { count = count_of kind warnings; first = place_or_zero (first_of kind warnings) }

-- of each kind, in the order of their numbers
abbrev pub all_warned : List Warning → List Warned
all_warned warnings = map (warned_of warnings) kinds

abbrev pub no_warning : Warned
no_warning = record { count = 0; first = 0 }

abbrev pub nothing_warned : List Warned
nothing_warned = map (λ kind. no_warning) kinds

-- 1 where there is a warning
abbrev pub is_warned : List Warning → ℕ
is_warned [] = 0
is_warned (warning ∷ more) = 1

abbrev pub valid_report : List Warning → Report
valid_report warnings =
    record { status = 0; verdict = 1; rule = 0; cause = 0; place = 0; warned = is_warned warnings; warnings = all_warned warnings }

abbrev pub broken_report : Fault → Report
broken_report fault =
    record { status = 0; verdict = 2; rule = number_of fault.rule; cause = 0; place = fault.place; warned = 0; warnings = nothing_warned }

abbrev pub refusal_report : JsonFault → Report
refusal_report fault =
    record { status = 0; verdict = 3; rule = 0; cause = cause_number fault.cause; place = fault.place; warned = 0; warnings = nothing_warned }

abbrev pub report_of : Judgement → Report
report_of (valid warnings) = valid_report warnings
report_of (broken fault) = broken_report fault
report_of (refused fault) = refusal_report fault

-- the report is that of what these bytes are
abbrev pub Reports : Allowed → List ℕ → Report → Type 0
Reports limits bytes report = (judgement : Judgement) × IsJudgement limits bytes judgement × (report ≡ report_of judgement)

-- no verdict, and why there is none
abbrev pub no_report : ℕ → Report
no_report status =
    record { status = status; verdict = 0; rule = 0; cause = 0; place = 0; warned = 0; warnings = nothing_warned }
