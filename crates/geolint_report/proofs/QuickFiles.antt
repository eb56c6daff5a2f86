-- Lemmas on what a quick reading answers.
use Rattle.geolint_report.proofs.Common.{◌≡◌, ℕ, List, [], ◌++◌, Option, Some, None, refl, ap, sym, ◌∙◌, subst, append-nil, Allowed}
use Rattle.std.specs.Io.KnownBytes.{Consumes, IsAtEnd}
use Rattle.gj_coords.specs.declared.warnings.Warnings.{Warnings}
use Rattle.gj_rules.specs.declared.verdict.Verdict.{Verdict}
use Rattle.gj_rules.specs.declared.verdict.Verdict.TheVariants.{Valid, Broken, NotJson}
use Rattle.gj_rules.specs.TextWarnings.{text_warnings}
use Rattle.gj_rules.specs.Verdict.{IsVerdict, NeverValid}
use Rattle.geolint_report.specs.Judged.{IsQuick, JudgesQuickly, valid_in}
use Rattle.geolint_report.specs.ReadingLoop.{Ends}
use Rattle.geolint_report.specs.declared.reading_loop.Stage.TheVariants.{Open, Decided}

-- each input has one verdict
abbrev pub HasOne : Type 0
HasOne = (limits : Allowed) (bytes : List ℕ) (first second : Verdict) → IsVerdict limits bytes first → IsVerdict limits bytes second → first ≡ second

other : HasOne → (limits : Allowed) (bytes : List ℕ) (verdict : Verdict) → IsVerdict limits bytes verdict → valid_in verdict ≡ None → (warnings : Warnings)
    → IsVerdict limits bytes (Valid warnings) → ⊥
other one limits bytes verdict is none warnings valid =
    let same : verdict ≡ Valid warnings = one limits bytes verdict (Valid warnings) is valid in
    let some : valid_in verdict ≡ Some warnings = ap valid_in same in
    cc

read_to_end : HasOne → (limits : Allowed) (all read rest : List ℕ) (verdict : Verdict) → all ≡ read ++ rest → rest ≡ [] → IsVerdict limits read verdict
    → IsQuick limits all rest (valid_in verdict)
read_to_end one limits all read rest verdict split ended is = go verdict (subst (λ (bytes : List ℕ). IsVerdict limits bytes verdict) (sym same) is)
  where
    same : all ≡ read
    same = split ∙ ap (λ (ys : List ℕ). read ++ ys) ended ∙ append-nil read

    go : (v : Verdict) → IsVerdict limits all v → IsQuick limits all rest (valid_in v)
    go (Valid warnings) v = (ended, v)
    go (Broken fault) v =
        record { read = read; split = split; lasting = λ more_is_left. absurd (more_is_left ended); of_all = other one limits all (Broken fault) v refl }
    go (NotJson fault) v =
        record { read = read; split = split; lasting = λ more_is_left. absurd (more_is_left ended); of_all = other one limits all (NotJson fault) v refl }

-- the reader has come to its end
quick-end : HasOne → (limits : Allowed) (old new : Option (List ℕ)) (read : List ℕ) (verdict : Verdict)
    → Consumes old new read → IsAtEnd new → IsVerdict limits read verdict → JudgesQuickly limits old new (valid_in verdict)
quick-end one limits None new read verdict took ended is = tt
quick-end one limits (Some all) None read verdict took ended is = took
quick-end one limits (Some all) (Some rest) read verdict took ended is = read_to_end one limits all read rest verdict took ended is

-- no bytes make it valid
quick-lasting : (limits : Allowed) (old new : Option (List ℕ)) (read : List ℕ) → Consumes old new read → NeverValid limits read
    → JudgesQuickly limits old new None
quick-lasting limits None new read took never = tt
quick-lasting limits (Some all) None read took never = took
quick-lasting limits (Some all) (Some rest) read took never = record {
  read = read;
  split = took;
  lasting = λ more_is_left. never;
  of_all = λ warnings is.
      let here = subst (λ (bytes : List ℕ). IsVerdict limits bytes (Valid warnings)) took is in
      never rest (text_warnings here.0) (here.0, here.1, here.2, refl);
}

-- the reader was read to its end, or what it gave makes it invalid
quick-here : HasOne → (Stands : List ℕ → Type 0) (limits : Allowed) (old new : Option (List ℕ)) (verdict : Verdict)
    → Ends Stands (NeverValid limits) old new Open
    → ((read : List ℕ) → Stands read → IsVerdict limits read verdict) → JudgesQuickly limits old new (valid_in verdict)
quick-here one Stands limits old new verdict (read, took, stands, ended) is = quick-end one limits old new read verdict took ended (is read stands)

pub quick-open : HasOne → (Stands : List ℕ → Type 0) (here limits : Allowed) → here ≡ limits → (old new : Option (List ℕ)) (verdict : Verdict)
    → Ends Stands (NeverValid here) old new Open
    → ((read : List ℕ) → Stands read → IsVerdict here read verdict) → JudgesQuickly limits old new (valid_in verdict)
quick-open one Stands here limits same old new verdict ends is =
    subst (λ (l : Allowed). JudgesQuickly l old new (valid_in verdict)) same (quick-here one Stands here old new verdict ends is)

pub quick-decided : (Stands : List ℕ → Type 0) (here limits : Allowed) → here ≡ limits → (old new : Option (List ℕ))
    → Ends Stands (NeverValid here) old new Decided → JudgesQuickly limits old new None
quick-decided Stands here limits same old new (read, took, stands, never) =
    quick-lasting limits old new read took (subst (λ (l : Allowed). NeverValid l read) same never)
