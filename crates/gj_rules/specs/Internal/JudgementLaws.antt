-- The verdict of an input says what the input is.
use Rattle.std.specs.Prelude.{ℕ, List, refl}
use Rattle.std.proofs.Common.{subst, sym}
use Rattle.gj_json.specs.declared.fault.JsonFault.{JsonFault}
use Rattle.gj_json.specs.Limits.{Allowed}
use Rattle.gj_coords.specs.WarningsStand.{StandsFor as WarningsStandFor}
use Rattle.gj_coords.specs.declared.fault.Fault.{Fault}
use Rattle.gj_rules.specs.TextWarnings.{text_warnings}
use Rattle.gj_rules.specs.Verdict.{Judgement, valid, broken, refused, IsJudgement, Says, IsVerdict}
use Rattle.gj_rules.specs.declared.verdict.Verdict.{Verdict}
use Rattle.gj_rules.specs.declared.verdict.Verdict.TheVariants.{Valid, Broken, NotJson}

pub said : (limits : Allowed) (bytes : List ℕ) (verdict : Verdict) → IsVerdict limits bytes verdict
    → (judgement : Judgement) × IsJudgement limits bytes judgement × Says verdict judgement
said limits bytes (Valid told) is = (valid (text_warnings is.0), (is.0, is.1, is.2, refl), is.3)
said limits bytes (Broken fault) is = (broken fault, is, refl)
said limits bytes (NotJson fault) is = (refused fault, is, refl)

-- and no other verdict does
pub says : (limits : Allowed) (bytes : List ℕ) (verdict : Verdict) (judgement : Judgement) → IsJudgement limits bytes judgement → Says verdict judgement
    → IsVerdict limits bytes verdict
says limits bytes (Valid told) (valid warnings) is says_it = (is.0, is.1, is.2, subst (WarningsStandFor told) is.3 says_it)
says limits bytes (Broken told) (broken fault) is says_it = subst (λ (f : Fault). IsVerdict limits bytes (Broken f)) (sym says_it) is
says limits bytes (NotJson told) (refused fault) is says_it = subst (λ (f : JsonFault). IsVerdict limits bytes (NotJson f)) (sym says_it) is
says limits bytes (Valid told) (broken fault) is says_it = elim says_it [ ]
says limits bytes (Valid told) (refused fault) is says_it = elim says_it [ ]
says limits bytes (Broken told) (valid warnings) is says_it = elim says_it [ ]
says limits bytes (Broken told) (refused fault) is says_it = elim says_it [ ]
says limits bytes (NotJson told) (valid warnings) is says_it = elim says_it [ ]
says limits bytes (NotJson told) (broken fault) is says_it = elim says_it [ ]
