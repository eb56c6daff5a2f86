-- Lemmas on the verdict of what was read.
use Rattle.geolint_report.proofs.Common.{◌≡◌, ℕ, List, [], ◌++◌, Some, None, take, ap, sym, ◌∙◌, subst, append-nil, Option, Consumes-trans, Allowed}
use Rattle.geolint_report.proofs.Common.{IsVerdict}
use Rattle.std.specs.Io.KnownBytes.{Consumes, IsAtEnd}
use Rattle.gj_json.specs.Refusal.{IsRefusal}
use Rattle.gj_json.specs.declared.fault.JsonFault.{JsonFault}
use Rattle.gj_rules.specs.declared.verdict.Verdict.TheVariants.{NotJson}
use Rattle.geolint_report.specs.Judged.{JudgesBy}
use Rattle.geolint_report.specs.ReadingLoop.{Ends}
use Rattle.geolint_report.specs.declared.reading_loop.Stage.{Stage}
use Rattle.geolint_report.specs.declared.reading_loop.Stage.TheVariants.{Open, Decided}

-- the reader has come to its end
pub Judges-end : {V : Type 0} (Is : Allowed → List ℕ → V → Type 0) (limits : Allowed) (old new : Option (List ℕ)) (read : List ℕ) (verdict : V)
    → Consumes old new read → IsAtEnd new → Is limits read verdict → JudgesBy Is limits old new verdict
Judges-end Is limits None new read verdict took ended is = tt
Judges-end Is limits (Some all) None read verdict took ended is = took
Judges-end Is limits (Some all) (Some rest) read verdict took ended is =
    let nothing_more : all ≡ read = took ∙ ap (λ (ys : List ℕ). read ++ ys) ended ∙ append-nil read in
    record {
      read = read;
      split = took;
      of_read = is;
      lasting = λ more_is_left. absurd (more_is_left ended);
      of_all = subst (λ (bytes : List ℕ). Is limits bytes verdict) (sym nothing_more) is;
    }

-- the verdict lasts, whatever follows
pub Judges-lasting : {V : Type 0} (Is : Allowed → List ℕ → V → Type 0) (limits : Allowed) (old new : Option (List ℕ)) (read : List ℕ) (verdict : V)
    → Consumes old new read → ((more : List ℕ) → Is limits (read ++ more) verdict) → JudgesBy Is limits old new verdict
Judges-lasting Is limits None new read verdict took lasts = tt
Judges-lasting Is limits (Some all) None read verdict took lasts = took
Judges-lasting Is limits (Some all) (Some rest) read verdict took lasts =
    let here : Is limits read verdict = subst (λ (bytes : List ℕ). Is limits bytes verdict) (append-nil read) (lasts []) in
    record {
      read = read;
      split = took;
      of_read = here;
      lasting = λ more_is_left. lasts;
      of_all = subst (λ (bytes : List ℕ). Is limits bytes verdict) (sym took) (lasts rest);
    }

-- the verdict of what was read is that of all that begins so
stays : {V : Type 0} (Is : Allowed → List ℕ → V → Type 0)
    → ((limits : Allowed) (bytes : List ℕ) (first second : V) → Is limits bytes first → Is limits bytes second → first ≡ second)
    → (limits : Allowed) (read : List ℕ) (settled verdict : V) → ((more : List ℕ) → Is limits (read ++ more) settled) → Is limits read verdict
    → (more : List ℕ) → Is limits (read ++ more) verdict
stays Is one limits read settled verdict lasting is more =
    let here : Is limits read settled = subst (λ (bytes : List ℕ). Is limits bytes settled) (append-nil read) (lasting []) in
    subst (Is limits (read ++ more)) (one limits read settled verdict here is) (lasting more)

-- what was fed is right, and what decides it lasts
judges-here : {V : Type 0} (Is : Allowed → List ℕ → V → Type 0)
    → ((limits : Allowed) (bytes : List ℕ) (first second : V) → Is limits bytes first → Is limits bytes second → first ≡ second)
    → (Stands Decides : List ℕ → Type 0) (limits : Allowed) (old new : Option (List ℕ)) (stage : Stage) (verdict : V) → Ends Stands Decides old new stage
    → ((read : List ℕ) → Stands read → Is limits read verdict)
    → ((read : List ℕ) → Decides read → (settled : V) × ((more : List ℕ) → Is limits (read ++ more) settled))
    → JudgesBy Is limits old new verdict
judges-here Is one Stands Decides limits old new Open verdict (read, took, stands, ended) is lasts =
    Judges-end Is limits old new read verdict took ended (is read stands)
judges-here Is one Stands Decides limits old new Decided verdict (read, took, stands, decided) is lasts =
    Judges-lasting Is limits old new read verdict took (stays Is one limits read (lasts read decided).0 verdict (lasts read decided).1 (is read stands))

pub Judges-fed : {V : Type 0} (Is : Allowed → List ℕ → V → Type 0)
    → ((limits : Allowed) (bytes : List ℕ) (first second : V) → Is limits bytes first → Is limits bytes second → first ≡ second)
    → (Stands Decides : List ℕ → Type 0) (here limits : Allowed) → here ≡ limits → (old new : Option (List ℕ)) (stage : Stage) (verdict : V)
    → Ends Stands Decides old new stage
    → ((read : List ℕ) → Stands read → Is here read verdict)
    → ((read : List ℕ) → Decides read → (settled : V) × ((more : List ℕ) → Is here (read ++ more) settled))
    → JudgesBy Is limits old new verdict
Judges-fed Is one Stands Decides here limits same old new stage verdict ends is lasts =
    subst (λ (l : Allowed). JudgesBy Is l old new verdict) same (judges-here Is one Stands Decides here old new stage verdict ends is lasts)

-- a read of 0 bytes
pub Consumes-none : (a b c : Option (List ℕ)) (read piece : List ℕ) (n : ℕ) → n ≡ 0 → Consumes a b read → Consumes b c (take n piece) → Consumes a c read
Consumes-none a b c read piece n none first second =
    let same = subst (λ (k : ℕ). Consumes b c (take k piece)) none second in
    subst (Consumes a c) (append-nil read) (Consumes-trans a b c read [] first same)

pub IsVerdict-of_refusal : (here limits : Allowed) (bytes : List ℕ) (fault : JsonFault) → here ≡ limits
    → ((more : List ℕ) → IsRefusal here (bytes ++ more) fault) → (more : List ℕ) → IsVerdict limits (bytes ++ more) (NotJson fault)
IsVerdict-of_refusal here limits bytes fault same refused more = subst (λ (l : Allowed). IsRefusal l (bytes ++ more) fault) same (refused more)
