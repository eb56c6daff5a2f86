-- Lemmas on the verdict of what was read.
use Rattle.std.proofs.Common.{refl, ◌+◌, ◌-◌, ◌≡◌, ℕ, List, [], ◌++◌, Some, None, ap, sym, ◌∙◌, subst, append-nil}
use Rattle.std.specs.Prelude.{Option}
use Rattle.std.specs.Io.KnownBytes.{Consumes, IsAtEnd}
use Rattle.gj_json.specs.Limits.{Allowed}
use Rattle.gj_json.specs.Refusal.{IsRefusal}
use Rattle.gj_rules.specs.declared.verdict.Verdict.{Verdict}
use Rattle.gj_rules.specs.declared.verdict.Verdict.TheVariants.{NotJson}
use Rattle.gj_rules.specs.Internal.JudgementLaws.{said}
use Rattle.gj_rules.specs.Verdict.{Judgement, refused, IsJudgement, IsVerdict, Says}
use Rattle.geolint_report.specs.Fed.{IsRefused}
use Rattle.geolint_report.specs.ReadingLoop.{Ends}
use Rattle.geolint_report.specs.declared.reading_loop.Stage.{Stage}
use Rattle.geolint_report.specs.declared.reading_loop.Stage.TheVariants.{Open, Decided}
use Rattle.geolint.specs.Judged.{JudgesBy}
use Rattle.geolint_report.proofs.QuickFiles.{HasOne}

-- the reader has come to its end
pub Judges-end : {V : Type 0} (Is : Allowed → List ℕ → V → Type 0) (limits : Allowed) (old new : Option (List ℕ)) (read : List ℕ) (verdict : V)
    → Consumes old new read → IsAtEnd new → Is limits read verdict → JudgesBy Is limits old new verdict
Judges-end Is limits None new read verdict took ended is = (read, took, is, tt)
Judges-end Is limits (Some all) None read verdict took ended is = absurd took
Judges-end Is limits (Some all) (Some rest) read verdict took ended is =
    let nothing_more : all ≡ read = took ∙ ap (λ (ys : List ℕ). read ++ ys) ended ∙ append-nil read in
    (read, took, is, (subst (λ (bytes : List ℕ). Is limits bytes verdict) (sym nothing_more) is, λ more_is_left. absurd (more_is_left ended)))

-- the verdict lasts, whatever follows
pub Judges-lasting : {V : Type 0} (Is : Allowed → List ℕ → V → Type 0) (limits : Allowed) (old new : Option (List ℕ)) (read : List ℕ) (verdict : V)
    → Consumes old new read → ((more : List ℕ) → Is limits (read ++ more) verdict) → JudgesBy Is limits old new verdict
Judges-lasting Is limits None new read verdict took lasts = (read, took, subst (λ (bytes : List ℕ). Is limits bytes verdict) (append-nil read) (lasts []), tt)
Judges-lasting Is limits (Some all) None read verdict took lasts = absurd took
Judges-lasting Is limits (Some all) (Some rest) read verdict took lasts =
    let here : Is limits read verdict = subst (λ (bytes : List ℕ). Is limits bytes verdict) (append-nil read) (lasts []) in
    (read, took, here, (subst (λ (bytes : List ℕ). Is limits bytes verdict) (sym took) (lasts rest), λ more_is_left. lasts))

-- ---- a text

abbrev pub SaysRead : Allowed → Option (List ℕ) → Option (List ℕ) → Verdict → Type 0
SaysRead limits old new verdict = (judgement : Judgement) × Says verdict judgement × JudgesBy IsJudgement limits old new judgement

text-here : HasOne → (Stands : List ℕ → Type 0) (limits : Allowed) (old new : Option (List ℕ)) (stage : Stage) (verdict : Verdict)
    → Ends Stands (IsRefused limits) old new stage
    → ((read : List ℕ) → Stands read → IsVerdict limits read verdict) → SaysRead limits old new verdict
text-here one Stands limits old new Open verdict (read, took, stands, ended) is =
    let (judgement, is_it, says) = said limits read verdict (is read stands) in
    (judgement, says, Judges-end IsJudgement limits old new read judgement took ended is_it)
text-here one Stands limits old new Decided verdict (read, took, stands, (fault, lasts)) is =
    let here : IsVerdict limits read (NotJson fault) = subst (λ (bytes : List ℕ). IsRefusal limits bytes fault) (append-nil read) (lasts []) in
    let same : NotJson fault ≡ verdict = one limits read (NotJson fault) verdict here (is read stands) in
    (refused fault, subst (λ (v : Verdict). Says v (refused fault)) same refl, Judges-lasting IsJudgement limits old new read (refused fault) took lasts)

pub text-read : HasOne → (Stands : List ℕ → Type 0) (here limits : Allowed) → here ≡ limits → (old new : Option (List ℕ)) (stage : Stage) (verdict : Verdict)
    → Ends Stands (IsRefused here) old new stage → ((read : List ℕ) → Stands read → IsVerdict here read verdict) → SaysRead limits old new verdict
text-read one Stands here limits same old new stage verdict ends is =
    subst (λ (l : Allowed). SaysRead l old new verdict) same (text-here one Stands here old new stage verdict ends is)
