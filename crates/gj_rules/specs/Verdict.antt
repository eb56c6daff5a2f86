-- What an input is, as a whole: a GeoJSON text (RFC 7946), a JSON text that breaks a rule, or no JSON text (RFC 8259).
use Rattle.std.specs.Prelude.{◌≡◌, ℕ, List, [], ◌++◌, Some}
use Rattle.gj_json.specs.declared.fault.JsonFault.{JsonFault}
use Rattle.gj_json.specs.Limits.{Allowed}
use Rattle.gj_json.specs.Refusal.{IsRefusal, IsAdmitted}
use Rattle.gj_json.specs.Tree.{Text}
use Rattle.gj_coords.specs.Fault.{least}
use Rattle.gj_coords.specs.Warnings.{Warning}
use Rattle.gj_coords.specs.WarningsStand.{StandsFor as WarningsStandFor}
use Rattle.gj_coords.specs.declared.fault.Fault.{Fault}
use Rattle.gj_rules.specs.Faults.{text_faults}
use Rattle.gj_rules.specs.TextWarnings.{text_warnings}
use Rattle.gj_rules.specs.declared.verdict.Verdict.{Verdict}
use Rattle.gj_rules.specs.declared.verdict.Verdict.TheVariants.{Valid, Broken, NotJson}

-- valid, with the list of all its warnings; broken, by this fault; no JSON text, by this refusal
pub data Judgement : Type 0 where
  valid : (warnings : List Warning) → Judgement
  broken : (fault : Fault) → Judgement
  refused : (fault : JsonFault) → Judgement

abbrev pub IsJudgement : Allowed → List ℕ → Judgement → Type 0
-- an admitted text without a fault, with all its warnings
IsJudgement limits bytes (valid warnings) = (text : Text) × IsAdmitted limits text bytes × (text_faults text ≡ []) × (warnings ≡ text_warnings text)
-- an admitted text, of whose faults this is the least by place and then by rule
IsJudgement limits bytes (broken fault) = (text : Text) × IsAdmitted limits text bytes × (least (text_faults text) ≡ Some fault)
-- a refusal comes before every rule
IsJudgement limits bytes (refused fault) = IsRefusal limits bytes fault

-- a verdict says the same, and of the warnings what a `Warnings` says
abbrev pub Says : Verdict → Judgement → Type 0
Says (Valid told) (valid warnings) = WarningsStandFor told warnings
Says (Broken told) (broken fault) = told ≡ fault
Says (NotJson told) (refused fault) = told ≡ fault
Says _ _ = ⊥

-- an admitted text without a fault, and this holds of all its warnings
abbrev pub IsValidWith : Allowed → List ℕ → (List Warning → Type 0) → Type 0
IsValidWith limits bytes Holds = (text : Text) × IsAdmitted limits text bytes × (text_faults text ≡ []) × Holds (text_warnings text)

-- the verdict that says what the input is
abbrev pub IsVerdict : Allowed → List ℕ → Verdict → Type 0
IsVerdict limits bytes (Valid told) = IsValidWith limits bytes (WarningsStandFor told)
IsVerdict limits bytes (Broken fault) = IsJudgement limits bytes (broken fault)
IsVerdict limits bytes (NotJson fault) = IsJudgement limits bytes (refused fault)

-- no input that begins with these bytes is valid, whatever its warnings
abbrev pub NeverValid : Allowed → List ℕ → Type 0
NeverValid limits bytes = (more : List ℕ) (warnings : List Warning) → IsJudgement limits (bytes ++ more) (valid warnings) → ⊥
