-- Lemmas on a sequence that a byte has decided.
use Rattle.std.proofs.Common.{◌≡◌, ℕ, Bool, true, false, List, [], ◌++◌, ap, sym, ◌∙◌, subst, append-nil}
use Rattle.std.specs.Prelude.{Option, ◌↔◌}
use Rattle.gj_json.specs.Limits.{Allowed}
use Rattle.gj_json.specs.declared.fault.Cause.TheVariants.{Syntax}
use Rattle.gj_coords.specs.Warnings.{Warning}
use Rattle.gj_coords.specs.WarningsStand.{StandsFor as WarningsStandFor}
use Rattle.gj_coords.specs.declared.warnings.Warnings.{Warnings}
use Rattle.gj_rules.specs.declared.sequence.verdict.SeqVerdict.{SeqVerdict}
use Rattle.gj_rules.specs.declared.verdict.Verdict.{Verdict}
use Rattle.gj_rules.specs.declared.verdict.Verdict.TheVariants.{Valid, Broken, NotJson}
use Rattle.gj_rules.specs.Sequence.{SequenceRecord, records_of, is_stray, not_json, is_valid, IsJudgedBy, IsSequenceVerdict, SequenceJudgement, all_valid}
use Rattle.gj_rules.specs.Sequence.{failing, is_valid_sequence, SequenceSays}
use Rattle.gj_rules.specs.SequenceJudgement.{IsSequenceJudgement}
use Rattle.gj_rules.specs.SequenceStands.{IsSettled}
use Rattle.gj_rules.specs.Verdict.{Judgement, valid, broken, refused, Says}
use Rattle.geolint_report.specs.Fed.{IsDecidedSequence}
use Rattle.geolint_report.specs.ReadingLoop.{Ends}
use Rattle.geolint_report.specs.declared.reading_loop.Stage.{Stage}
use Rattle.geolint_report.specs.declared.reading_loop.Stage.TheVariants.{Open, Decided}
use Rattle.geolint.specs.Sequence.{JudgesSequence}
use Rattle.geolint.proofs.ReadVerdicts.{Judges-end, Judges-lasting}

-- each sequence has one verdict, which says what it is
abbrev pub HasOneVerdict : Type 0
HasOneVerdict = (limits : Allowed) (bytes : List ℕ) (first second : SeqVerdict) → IsSequenceVerdict limits bytes first → IsSequenceVerdict limits bytes second
    → first ≡ second

abbrev pub Saying : Allowed → List ℕ → SeqVerdict → Type 0
Saying limits bytes verdict = (judgement : SequenceJudgement) × IsSequenceJudgement limits bytes judgement × SequenceSays verdict judgement

abbrev pub IsSaid : Type 0
IsSaid = (limits : Allowed) (bytes : List ℕ) (verdict : SeqVerdict) → IsSequenceVerdict limits bytes verdict ↔ Saying limits bytes verdict

-- the verdict of what was read is that of every sequence that begins so
settled_lasts : HasOneVerdict → (limits : Allowed) (read : List ℕ) (place : ℕ) (settled verdict : SeqVerdict)
    → IsSettled limits read place settled → IsSequenceVerdict limits read verdict → (settled ≡ verdict)
    × ((more : List ℕ) → IsSequenceVerdict limits (read ++ more) verdict)
settled_lasts one limits read place settled verdict h is =
    let here : IsSequenceVerdict limits read settled = subst (λ (bytes : List ℕ). IsSequenceVerdict limits bytes settled) (append-nil read) (h.lasting []) in
    let same = one limits read settled verdict here is in
    (same, λ more. subst (λ (v : SeqVerdict). IsSequenceVerdict limits (read ++ more) v) same (h.lasting more))

-- ---- a verdict that is not valid says one thing alone

broken_alike : (verdict : Verdict) (first second : Judgement) → is_valid verdict ≡ false → Says verdict first → Says verdict second → first ≡ second
broken_alike (Valid told) first second fails h k = cc
broken_alike (Broken told) (broken one) (broken other) fails h k = ap broken (sym h ∙ k)
broken_alike (NotJson told) (refused one) (refused other) fails h k = ap refused (sym h ∙ k)
broken_alike (Broken told) (valid warnings) second fails h k = elim h [ ]
broken_alike (Broken told) (refused one) second fails h k = elim h [ ]
broken_alike (Broken told) (broken one) (valid warnings) fails h k = elim k [ ]
broken_alike (Broken told) (broken one) (refused other) fails h k = elim k [ ]
broken_alike (NotJson told) (valid warnings) second fails h k = elim h [ ]
broken_alike (NotJson told) (broken one) second fails h k = elim h [ ]
broken_alike (NotJson told) (refused one) (valid warnings) fails h k = elim k [ ]
broken_alike (NotJson told) (refused one) (broken other) fails h k = elim k [ ]

record_fails : (stray : Bool) (levels : ℕ) (records : List SequenceRecord) (number : ℕ) (verdict : Verdict)
    → IsJudgedBy stray levels records (SeqVerdict.Record number verdict) → is_valid verdict ≡ false
record_fails true levels records number verdict h = let same : verdict ≡ not_json 0 Syntax = cc in ap is_valid same
record_fails false levels records number verdict h = h.fails

failing_alike : (limits : Allowed) (bytes : List ℕ) (verdict : SeqVerdict) (first second : SequenceJudgement) → IsSequenceVerdict limits bytes verdict
    → is_valid_sequence verdict ≡ false
    → SequenceSays verdict first → SequenceSays verdict second → first ≡ second
failing_alike limits bytes (SeqVerdict.Valid count told) first second is fails h k = cc
failing_alike limits bytes (SeqVerdict.Record number verdict) (failing one judgement) (failing other too) is fails h k =
    ap (λ (n : ℕ). failing n judgement) (sym h.0 ∙ k.0)
    ∙ ap (failing other) (broken_alike verdict judgement too (record_fails (is_stray bytes) limits.depth (records_of limits bytes) number verdict is) h.1 k.1)
failing_alike limits bytes (SeqVerdict.Record number verdict) (all_valid count warnings) second is fails h k = elim h [ ]
failing_alike limits bytes (SeqVerdict.Record number verdict) (failing one judgement) (all_valid count warnings) is fails h k = elim k [ ]

-- ---- what was read says what the sequence is

abbrev pub SaysSequence : Allowed → Option (List ℕ) → Option (List ℕ) → SeqVerdict → Type 0
SaysSequence limits old new verdict = (judgement : SequenceJudgement) × SequenceSays verdict judgement × JudgesSequence limits old new judgement

sequence-here : HasOneVerdict → IsSaid → (Stands : List ℕ → Type 0) (limits : Allowed) (old new : Option (List ℕ)) (stage : Stage) (verdict : SeqVerdict)
    → Ends Stands (IsDecidedSequence limits) old new stage → ((read : List ℕ) → Stands read → IsSequenceVerdict limits read verdict)
    → SaysSequence limits old new verdict
sequence-here one said Stands limits old new Open verdict (read, took, stands, ended) is =
    let (judgement, is_it, says) = (said limits read verdict).0 (is read stands) in
    (judgement, says, Judges-end IsSequenceJudgement limits old new read judgement took ended is_it)
sequence-here one said Stands limits old new Decided verdict (read, took, stands, (place, settled, h)) is =
    let (alike, lasts) = settled_lasts one limits read place settled verdict h (is read stands) in
    let fails = ap is_valid_sequence (sym alike) ∙ h.fails in
    let (judgement, is_it, says) = (said limits read verdict).0 (is read stands) in
    let all : (more : List ℕ) → IsSequenceJudgement limits (read ++ more) judgement = (λ more.
    let (other, is_other, says_other) = (said limits (read ++ more) verdict).0 (lasts more) in
    subst (IsSequenceJudgement limits (read ++ more))
    (failing_alike limits (read ++ more) verdict other judgement (lasts more) fails says_other says) is_other) in
    (judgement, says, Judges-lasting IsSequenceJudgement limits old new read judgement took all)

pub sequence-read : HasOneVerdict → IsSaid → (Stands : List ℕ → Type 0) (here limits : Allowed) → here ≡ limits
    → (old new : Option (List ℕ)) (stage : Stage) (verdict : SeqVerdict)
    → Ends Stands (IsDecidedSequence here) old new stage → ((read : List ℕ) → Stands read → IsSequenceVerdict here read verdict)
    → SaysSequence limits old new verdict
sequence-read one said Stands here limits same old new stage verdict ends is =
    subst (λ (l : Allowed). SaysSequence l old new verdict) same (sequence-here one said Stands here old new stage verdict ends is)

-- what is right for each list that the warnings of a valid sequence stand for
pub for_all_valid : (P : SequenceJudgement → Type 0) (verdict : SeqVerdict) (count : ℕ) (told : Warnings) → verdict ≡ SeqVerdict.Valid count told
    → ((records : ℕ) (warnings : List Warning) → WarningsStandFor told warnings → P (all_valid records warnings))
    → (judgement : SequenceJudgement) → SequenceSays verdict judgement → P judgement
for_all_valid P verdict count told same right judgement says = go judgement (subst (λ (v : SeqVerdict). SequenceSays v judgement) same says)
  where
    go : (j : SequenceJudgement) → SequenceSays (SeqVerdict.Valid count told) j → P j
    go (all_valid records warnings) h = right records warnings h.1
    go (failing number one) h = elim h [ ]
