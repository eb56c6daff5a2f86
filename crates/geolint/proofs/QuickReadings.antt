-- Lemmas on what a quick reading answers.
use Rattle.std.proofs.Common.{◌≡◌, ℕ, List, ◌++◌, Option, Some, None, refl, ap, sym, ◌∙◌, subst, append-nil}
use Rattle.std.specs.Io.KnownBytes.{Consumes, IsAtEnd}
use Rattle.gj_json.specs.Limits.{Allowed}
use Rattle.gj_coords.specs.Internal.KeptWarnings.{warnings_of}
use Rattle.gj_coords.specs.Warnings.{Warning}
use Rattle.gj_coords.specs.WarningsStand.{StandsFor as WarningsStandFor}
use Rattle.gj_coords.specs.declared.warnings.Warnings.{Warnings}
use Rattle.gj_rules.specs.declared.verdict.Verdict.{Verdict}
use Rattle.gj_rules.specs.declared.verdict.Verdict.TheVariants.{Valid, Broken, NotJson}
use Rattle.gj_rules.specs.TextWarnings.{text_warnings}
use Rattle.gj_rules.specs.Verdict.{valid, IsJudgement, IsVerdict, NeverValid}
use Rattle.geolint_report.specs.Judged.{valid_in}
use Rattle.geolint_report.specs.ReadingLoop.{Ends}
use Rattle.geolint_report.specs.declared.reading_loop.Stage.TheVariants.{Open, Decided}
use Rattle.geolint.specs.Quick.{JudgesQuickly, SaysValid}
use Rattle.geolint_report.proofs.QuickFiles.{HasOne}

-- what a `Warnings` tells of the list is told by the verdict
told_valid : (limits : Allowed) (bytes : List ℕ) (warnings : List Warning) → IsJudgement limits bytes (valid warnings)
    → IsVerdict limits bytes (Valid (warnings_of warnings))
told_valid limits bytes warnings is = (is.0, is.1, is.2, ap warnings_of is.3)

other : HasOne → (limits : Allowed) (bytes : List ℕ) (verdict : Verdict) → IsVerdict limits bytes verdict → valid_in verdict ≡ None → (warnings : List Warning)
    → IsJudgement limits bytes (valid warnings) → ⊥
other one limits bytes verdict is none warnings is_valid =
    let same : verdict ≡ Valid (warnings_of warnings) =
    one limits bytes verdict (Valid (warnings_of warnings)) is (told_valid limits bytes warnings is_valid) in
    let some : valid_in verdict ≡ Some (warnings_of warnings) = ap valid_in same in
    cc

-- an input that is not valid, read to its end
at_end : HasOne → (limits : Allowed) (old new : Option (List ℕ)) (read : List ℕ) (verdict : Verdict)
    → Consumes old new read → IsAtEnd new → IsVerdict limits read verdict → valid_in verdict ≡ None → JudgesQuickly limits old new None
at_end one limits None new read verdict took ended is none = (read, took, tt)
at_end one limits (Some all) None read verdict took ended is none = absurd took
at_end one limits (Some all) (Some rest) read verdict took ended is none =
    let same : all ≡ read = took ∙ ap (λ (ys : List ℕ). read ++ ys) ended ∙ append-nil read in (
      read,
      took,
      (
        other one limits all verdict (subst (λ (bytes : List ℕ). IsVerdict limits bytes verdict) (sym same) is) none,
        λ more_is_left. absurd
            (more_is_left ended),
      ),
    )

abbrev pub QuicklySays : Allowed → Option (List ℕ) → Option (List ℕ) → Option Warnings → Type 0
QuicklySays limits old new told = (warnings : Option (List Warning)) × SaysValid told warnings × JudgesQuickly limits old new warnings

-- the reader has come to its end
quick-end : HasOne → (limits : Allowed) (old new : Option (List ℕ)) (read : List ℕ) (verdict : Verdict)
    → Consumes old new read → IsAtEnd new → IsVerdict limits read verdict → QuicklySays limits old new (valid_in verdict)
quick-end one limits old new read (Valid told) took ended is = (Some (text_warnings is.0), is.3, go old new took ended)
  where
    go : (from to : Option (List ℕ)) → Consumes from to read → IsAtEnd to → JudgesQuickly limits from to (Some (text_warnings is.0))
    go None to took ended = tt
    go (Some all) None took ended = absurd took
    go (Some all) (Some rest) took ended =
        let same : all ≡ read = took ∙ ap (λ (ys : List ℕ). read ++ ys) ended ∙ append-nil read in (
          subst (λ (bytes : List ℕ). all ≡ bytes ++ rest) (sym same) took,
          subst (λ (bytes : List ℕ). IsJudgement limits bytes (valid (text_warnings is.0)))
              (sym same) (is.0, is.1, is.2, refl),
        )
quick-end one limits old new read (Broken fault) took ended is = (None, tt, at_end one limits old new read (Broken fault) took ended is refl)
quick-end one limits old new read (NotJson fault) took ended is = (None, tt, at_end one limits old new read (NotJson fault) took ended is refl)

-- no bytes make it valid
never_quick : (limits : Allowed) (old new : Option (List ℕ)) (read : List ℕ) → Consumes old new read → NeverValid limits read
    → JudgesQuickly limits old new None
never_quick limits None new read took never = (read, took, tt)
never_quick limits (Some all) None read took never = absurd took
never_quick limits (Some all) (Some rest) read took never = (
  read,
  took,
  (
    λ warnings is. never rest warnings (subst (λ (bytes : List ℕ). IsJudgement limits bytes (valid warnings)) took is),
    λ more_is_left. never,
  ),
)

quick-lasting : (limits : Allowed) (old new : Option (List ℕ)) (read : List ℕ) → Consumes old new read → NeverValid limits read
    → QuicklySays limits old new None
quick-lasting limits old new read took never = (None, tt, never_quick limits old new read took never)

pub quick-open : HasOne → (Stands : List ℕ → Type 0) (here limits : Allowed) → here ≡ limits → (old new : Option (List ℕ)) (verdict : Verdict)
    → Ends Stands (NeverValid here) old new Open
    → ((read : List ℕ) → Stands read → IsVerdict here read verdict) → QuicklySays limits old new (valid_in verdict)
quick-open one Stands here limits same old new verdict (read, took, stands, ended) is =
    subst (λ (l : Allowed). QuicklySays l old new (valid_in verdict)) same (quick-end one here old new read verdict took ended (is read stands))

pub quick-decided : (Stands : List ℕ → Type 0) (here limits : Allowed) → here ≡ limits → (old new : Option (List ℕ))
    → Ends Stands (NeverValid here) old new Decided → QuicklySays limits old new None
quick-decided Stands here limits same old new (read, took, stands, never) =
    quick-lasting limits old new read took (subst (λ (l : Allowed). NeverValid l read) same never)

-- what is right for each list that the warnings of a valid text stand for
pub for_some : (P : Option (List Warning) → Type 0) (answer : Option Warnings) (told : Warnings) → answer ≡ Some told
    → ((warnings : List Warning) → WarningsStandFor told warnings → P (Some warnings)) → (warnings : Option (List Warning)) → SaysValid answer warnings
    → P warnings
for_some P answer told same right warnings says = go warnings (subst (λ (v : Option Warnings). SaysValid v warnings) same says)
  where
    go : (o : Option (List Warning)) → SaysValid (Some told) o → P o
    go (Some all) h = right all h
    go None h = elim h [ ]
