-- A text sequence is what its records make it.
use Rattle.gj_rules.proofs.Common.{AllValid, Allowed, AreFindings, Bool, Broken, Entry, Framing, Input, IsFirstFailing, IsJudgedBy, IsNumberedVerdict}
use Rattle.gj_rules.proofs.Common.{IsOwnVerdict, IsRecordVerdict, IsSequenceVerdict, Limit, List, NotJson, Part, Record, RecordEnd, Separator}
use Rattle.gj_rules.proofs.Common.{SeqVerdict, SequenceRecord, Syntax, Valid, Verdict, Warnings, ap, arith, begins_with_separator, entries_from}
use Rattle.gj_rules.proofs.Common.{entry_at, false, has_separator, if◌then◌else◌, inl, inr, is_separator, is_stray, is_too_long, is_valid, joined_assoc, joined_none_first, joined_none_last, length}
use Rattle.gj_rules.proofs.Common.{nat_tests, not, not_json, part_at, parts_from, records_from, refl, subst, suc, sym, take, take_all, true}
use Rattle.gj_rules.proofs.Common.{up_to_separator, whole_from, whole_of, zero, [], ⊎_elim, ◌&&◌, ◌+◌, ◌<◌, ◌||◌, ◌∙◌, ◌∷◌, ◌≤◌, ◌⊎◌}
use Rattle.std.proofs.Common.{◌≡◌, ℕ}
use Rattle.gj_coords.specs.Internal.KeptWarnings.{no_warnings, joined}
use Rattle.gj_rules.specs.declared.records.framing.Framing.TheVariants as Framings
use Rattle.gj_rules.specs.RecordFindings.{AreAllFindings, joined_with}
use Rattle.gj_rules.specs.Records.{with_first, parts_of, counts, are_none, at_least_one}
use Rattle.gj_rules.proofs.Parts.FoundRecords.{failing_stays}
use Rattle.gj_rules.proofs.Sequences.OneVerdict.{failing_later, failing_here}

-- ---- the records of a sequence are the parts that count

abbrev pub record_at : ℕ → List ℕ → Bool → SequenceRecord
record_at start bytes is_cut = record { start = start; bytes = bytes; is_cut = is_cut }

abbrev pub is_limit : RecordEnd → Bool
is_limit Separator = false
is_limit Input = false
is_limit Limit = true

-- what ends the last part, and what ends bytes that may hold a separator
abbrev pub last_end : Bool → RecordEnd
last_end true = Limit
last_end false = Input

abbrev pub end_if : Bool → Bool → RecordEnd
end_if true is_cut = Separator
end_if false is_cut = last_end is_cut

abbrev pub as_record : Part → SequenceRecord
as_record part = record_at part.start part.bytes (is_limit part.end)

abbrev pub keep_if : Bool → SequenceRecord → List SequenceRecord → List SequenceRecord
keep_if true r more = r ∷ more
keep_if false r more = more

-- whether a part after the first separator counts
abbrev pub keeps : Part → Bool
keeps part = counts Framings.Sequence 1 part.end (are_none part.bytes)

abbrev pub kept : List Part → List SequenceRecord
kept [] = []
kept (part ∷ more) = keep_if (keeps part) (as_record part) (kept more)

-- the first part, and those after it
pub record CutAs (is_cut : Bool) (place : ℕ) (bytes : List ℕ) : Type 0 where
  pub rest : List Part
  pub parts : parts_from Framings.Sequence (last_end is_cut) place bytes ≡ part_at place (up_to_separator bytes) (end_if (has_separator bytes) is_cut) ∷ rest
  pub records : kept rest ≡ records_from is_cut place bytes

one_kept : (is_cut : Bool) (place : ℕ) (more : List ℕ) (rest : List SequenceRecord)
    → keep_if (keeps (part_at (place + 1) (up_to_separator more) (end_if (has_separator more) is_cut)))
    (as_record (part_at (place + 1) (up_to_separator more) (end_if (has_separator more) is_cut))) rest
    ≡ (if true && not (begins_with_separator more) then record_at (place + 1) (up_to_separator more) (is_cut && not (has_separator more)) ∷ rest else rest)
one_kept true place [] rest = refl
one_kept false place [] rest = refl
one_kept is_cut place (byte ∷ more) rest = by_test (is_separator byte)
  where
    open_end : (cut has : Bool) (bytes : List ℕ)
        → keep_if (counts Framings.Sequence 1 (end_if has cut) (are_none (byte ∷ bytes)))
        (record_at (place + 1) (byte ∷ bytes) (is_limit (end_if has cut))) rest
        ≡ record_at (place + 1) (byte ∷ bytes) (cut && not has) ∷ rest
    open_end true true bytes = refl
    open_end true false bytes = refl
    open_end false true bytes = refl
    open_end false false bytes = refl

    by_test : (t : Bool)
        → keep_if (counts Framings.Sequence 1 (end_if (t || has_separator more) is_cut) (are_none (if t then [] else byte ∷ up_to_separator more)))
        (record_at (place + 1) (if t then [] else byte ∷ up_to_separator more) (is_limit (end_if (t || has_separator more) is_cut))) rest
        ≡ (if true && not t then record_at (place + 1) (if t then [] else byte ∷ up_to_separator more)
        (is_cut && not (t || has_separator more)) ∷ rest else rest)
    by_test true = refl
    by_test false = open_end is_cut (has_separator more) (up_to_separator more)

pub cut_as : (is_cut : Bool) (place : ℕ) (bytes : List ℕ) → CutAs is_cut place bytes
cut_as is_cut place [] = record { rest = []; parts = refl; records = refl }
cut_as is_cut place (byte ∷ more) = by_test (cut_as is_cut (place + 1) more) (is_separator byte) refl
  where
    by_test : CutAs is_cut (place + 1) more → (t : Bool) → is_separator byte ≡ t → CutAs is_cut place (byte ∷ more)
    by_test h true e =
        let first = part_at (place + 1) (up_to_separator more) (end_if (has_separator more) is_cut) in
        record {
          rest = first ∷ h.rest;
          parts = rw e (ap (λ ps. part_at place [] Separator ∷ ps) h.parts);
          records = rw e (ap (keep_if (keeps first) (as_record first)) h.records ∙ one_kept is_cut place more (records_from is_cut (place + 1) more));
        }
    by_test h false e =
        record {
          rest = h.rest;
          parts = rw e (ap (with_first place byte) h.parts);
          records = rw e h.records;
        }

-- ---- what is reported of them

-- as many, in order, counted on from a number
abbrev Shown : ℕ → ℕ → List SequenceRecord → List Record → Type 0
Shown levels number [] [] = Unit {0}
Shown levels number (r ∷ more) (found ∷ others) = (found.number ≡ number) × IsRecordVerdict levels r found.verdict × Shown levels (number + 1) more others
Shown levels number other another = ⊥

record_verdict : (levels start : ℕ) (bytes : List ℕ) (end : RecordEnd) (verdict : Verdict)
    → IsOwnVerdict Framings.Sequence levels (part_at start bytes end) verdict
    → IsRecordVerdict levels (record_at start bytes (is_limit end)) verdict
record_verdict levels start bytes Separator verdict h = h
record_verdict levels start bytes other verdict h = h

own_of : (framing : Framing) (levels number : ℕ) (part : Part) (verdict : Verdict) → 0 < number → IsNumberedVerdict framing levels number part verdict
    → IsOwnVerdict framing levels part verdict
own_of framing levels zero part verdict some h = absurd (omega (arith, some))
own_of framing levels (suc n) part verdict some h = h

counts_alike : (number : ℕ) (end : RecordEnd) (void : Bool) → 0 < number → counts Framings.Sequence number end void ≡ counts Framings.Sequence 1 end void
counts_alike number Separator void some = refl
counts_alike number Limit void some = refl
counts_alike zero Input void some = absurd (omega (arith, some))
counts_alike (suc n) Input void some = refl

pub stays_some : (number : ℕ) → 0 < number → at_least_one number ≡ number
stays_some zero some = absurd (omega (arith, some))
stays_some (suc n) some = refl

abbrev ShowsRest : ℕ → List Part → Type 0
ShowsRest levels parts =
    (n : ℕ) (all : List Record) → 0 < n → AreFindings Framings.Sequence levels (entries_from Framings.Sequence n parts) all → Shown levels n (kept parts) all

shown : (levels number : ℕ) (parts : List Part) (found : List Record) → 0 < number
    → AreFindings Framings.Sequence levels (entries_from Framings.Sequence number parts) found → Shown levels number (kept parts) found
shown levels number [] [] some h = tt
shown levels number [] (one ∷ found) some h = h
shown levels number (part ∷ parts) found some h =
    by_test (λ n all more k. shown levels n parts all more k) (keeps part) (counts_alike number part.end (are_none part.bytes) some) found h
  where
    told : ShowsRest levels parts → (all : List Record)
        → AreFindings Framings.Sequence levels (entry_at number part ∷ entries_from Framings.Sequence (number + 1) parts) all
        → Shown levels number (as_record part ∷ kept parts) all
    told again [] k = k
    told again (one ∷ all) k = (
      k.0.number,
      record_verdict levels part.start part.bytes part.end one.verdict (own_of Framings.Sequence levels number part one.verdict some k.0.verdict),
      again (number + 1) all (omega (arith, some)) k.1,
    )

    by_test : ShowsRest levels parts → (b : Bool) → counts Framings.Sequence number part.end (are_none part.bytes) ≡ b → (all : List Record)
        → AreFindings Framings.Sequence levels (entries_from Framings.Sequence number (part ∷ parts)) all
        → Shown levels number (keep_if b (as_record part) (kept parts)) all
    by_test again true e all k = told again all (rw e at k)
    by_test again false e all k =
        let N : ℕ → Type 0 = λ n. AreFindings Framings.Sequence levels (entries_from Framings.Sequence n parts) all in
        again number all some (subst N (stays_some number some) (rw e at k))

-- ---- the verdict

-- all are valid, or one is the first that is not, after so many
abbrev Judged : ℕ → ℕ → Warnings → List SequenceRecord → SeqVerdict → Type 0
Judged levels count before records verdict =
    ((all : Warnings) × AllValid levels records all × (verdict ≡ SeqVerdict.Valid (count + length records) (joined before all)))
    ⊎ ((number : ℕ) × (own : Verdict) × IsFirstFailing levels records number own × (verdict ≡ SeqVerdict.Record (count + number) own))

-- ---- the first part

pub first_counts : (is_cut : Bool) (taken : List ℕ) → (is_cut ≡ true → 0 < length taken)
    → counts Framings.Sequence 0 (end_if (has_separator taken) is_cut) (are_none (up_to_separator taken)) ≡ is_stray taken
first_counts false [] some = refl
first_counts true [] some = absurd (omega (arith, some refl))
first_counts is_cut (byte ∷ more) some = by_test (is_separator byte)
  where
    open_end : (cut has : Bool) → counts Framings.Sequence 0 (end_if has cut) false ≡ true
    open_end true true = refl
    open_end true false = refl
    open_end false true = refl
    open_end false false = refl

    by_test : (t : Bool)
        → counts Framings.Sequence 0 (end_if (t || has_separator more) is_cut) (are_none (if t then [] else byte ∷ up_to_separator more)) ≡ not t
    by_test true = refl
    by_test false = open_end is_cut (has_separator more)

parts_taken : (limits : Allowed) (bytes : List ℕ)
    → parts_of Framings.Sequence limits bytes ≡ parts_from Framings.Sequence (last_end (is_too_long limits bytes)) 0 (take limits.bytes bytes)
parts_taken limits bytes = by_test (is_too_long limits bytes) refl
  where
    fits : is_too_long limits bytes ≡ false → length bytes ≤ limits.bytes
    fits e = grind (arith, nat_tests)

    by_test : (t : Bool) → is_too_long limits bytes ≡ t
        → (if t then parts_from Framings.Sequence Limit 0 (take limits.bytes bytes) else parts_from Framings.Sequence Input 0 bytes) ≡ parts_from
        Framings.Sequence (last_end t) 0 (take limits.bytes bytes)
    by_test true e = refl
    by_test false e = ap (parts_from Framings.Sequence Input 0) (sym (take_all limits.bytes bytes (fits e)))

some_taken : (limits : Allowed) (bytes : List ℕ) → 1 ≤ limits.bytes → is_too_long limits bytes ≡ true → 0 < length (take limits.bytes bytes)
some_taken limits bytes least e = by_limit limits.bytes bytes least (longer e)
  where
    longer : is_too_long limits bytes ≡ true → limits.bytes < length bytes
    longer f = grind (arith, nat_tests)

    by_limit : (n : ℕ) (xs : List ℕ) → 1 ≤ n → n < length xs → 0 < length (take n xs)
    by_limit zero xs l k = absurd (omega (arith, l))
    by_limit (suc n) [] l k = absurd (omega (arith, k))
    by_limit (suc n) (x ∷ xs) l k = omega arith

stray_taken : (n : ℕ) (bytes : List ℕ) → 1 ≤ n → is_stray (take n bytes) ≡ is_stray bytes
stray_taken zero bytes l = absurd (omega (arith, l))
stray_taken (suc n) [] l = refl
stray_taken (suc n) (byte ∷ bytes) l = refl

-- bytes before the first separator decide
stray_first : (levels : ℕ) (start : ℕ) (bytes : List ℕ) (end : RecordEnd) (more : List Entry) (found : List Record)
    → AreFindings Framings.Sequence levels (entry_at 0 (part_at start bytes end) ∷ more) found → whole_of found ≡ SeqVerdict.Record 0 (not_json start Syntax)
stray_first levels start bytes end more [] h = absurd h
stray_first levels start bytes end more (one ∷ found) h =
    ap (λ v. whole_from (joined_with no_warnings one.number v) found) h.0.verdict
    ∙ (ap (λ n. whole_from (SeqVerdict.Record n (not_json start Syntax)) found) h.0.number ∙ failing_stays 0 (not_json start Syntax) found)

fails_here : (levels count : ℕ) (before : Warnings) (r : SequenceRecord) (more : List SequenceRecord) (number : ℕ) (verdict : Verdict) (found : List Record)
    → number ≡ count + 1
    → IsRecordVerdict levels r verdict → is_valid verdict ≡ false
    → Judged levels count before (r ∷ more) (whole_from (SeqVerdict.Record number verdict) found)
fails_here levels count before r more number verdict found e h f =
    inr (1, verdict, failing_here levels r more verdict h f, failing_stays number verdict found ∙ ap (λ n. SeqVerdict.Record n verdict) e)

later : (levels count : ℕ) (before first : Warnings) (r : SequenceRecord) (more : List SequenceRecord) (verdict : SeqVerdict)
    → IsRecordVerdict levels r (Valid first)
    → Judged levels (count + 1) (joined before first) more verdict → Judged levels count before (r ∷ more) verdict
later levels count before first r more verdict h (inl a) = inl (
  joined first a.0,
  (first, a.0, h, a.1, refl),
  a.2 ∙ (ap (λ n. SeqVerdict.Valid n (joined (joined before first) a.0)) (one_on count (length more))
      ∙ ap (SeqVerdict.Valid (count + suc (length more))) (joined_assoc before first a.0)),
)
  where
    one_on : (n m : ℕ) → n + 1 + m ≡ n + suc m
    one_on n m = omega arith
later levels count before first r more verdict h (inr f) =
    inr (f.0 + 1, f.1, failing_later levels r more first f.0 f.1 h f.2, f.3 ∙ ap (λ n. SeqVerdict.Record n f.1) (one_on count f.0))
  where
    one_on : (n m : ℕ) → n + 1 + m ≡ n + (m + 1)
    one_on n m = omega arith

judged : (levels count : ℕ) (before : Warnings) (records : List SequenceRecord) (found : List Record) → Shown levels (count + 1) records found
    → Judged levels count before records (whole_from (SeqVerdict.Valid count before) found)
judged levels count before [] [] h =
    inl (no_warnings, refl, ap (λ n. SeqVerdict.Valid n before) (none_on count) ∙ ap (SeqVerdict.Valid (count + 0)) (sym (joined_none_last before)))
  where
    none_on : (n : ℕ) → n ≡ n + 0
    none_on n = omega arith
judged levels count before [] (one ∷ found) h = absurd h
judged levels count before (r ∷ records) [] h = absurd h
judged levels count before (r ∷ records) (one ∷ found) h =
    by_verdict (λ first. judged levels (count + 1) (joined before first) records found h.2) one.verdict h.1
  where
    by_verdict : ((first : Warnings)
        → Judged levels (count + 1) (joined before first) records (whole_from (SeqVerdict.Valid (count + 1) (joined before first)) found)) → (v : Verdict)
        → IsRecordVerdict levels r v → Judged levels count before (r ∷ records) (whole_from (joined_with before one.number v) found)
    by_verdict rest (Valid first) k =
        let J : ℕ → Type 0 = λ n. Judged levels count before (r ∷ records) (whole_from (SeqVerdict.Valid n (joined before first)) found) in
        subst J (sym h.0) (later levels count before first r records _ k (rest first))
    by_verdict rest (Broken fault) k = fails_here levels count before r records one.number (Broken fault) found h.0 k refl
    by_verdict rest (NotJson fault) k = fails_here levels count before r records one.number (NotJson fault) found h.0 k refl

by_records : (levels : ℕ) (records : List SequenceRecord) (found : List Record) → Shown levels 1 records found
    → IsJudgedBy false levels records (whole_of found)
by_records levels records found h =
    let B : SeqVerdict → Type 0 = λ v. IsJudgedBy false levels records v in
    ⊎_elim (λ a. let A : Warnings → Type 0 = λ w. AllValid levels records w in
    subst B (sym a.2) (subst A (sym (joined_none_first a.0)) a.1, zero_on (length records)))
    (λ f. let F : ℕ → Type 0 = λ n. IsFirstFailing levels records n f.1 in
    subst B (sym f.3) (subst F (sym (zero_on f.0)) f.2))
    (judged levels 0 no_warnings records found h)
  where
    zero_on : (n : ℕ) → 0 + n ≡ n
    zero_on n = omega arith

-- ---- all together

pub by_first : (levels : ℕ) (first : Part) (rest : List Part) (found : List Record) (stray : Bool)
    → counts Framings.Sequence 0 first.end (are_none first.bytes) ≡ stray → first.start ≡ 0
    → AreFindings Framings.Sequence levels (entries_from Framings.Sequence 0 (first ∷ rest)) found → IsJudgedBy stray levels (kept rest) (whole_of found)
by_first levels first rest found true e start h =
    stray_first levels first.start first.bytes first.end _ found (rw e at h) ∙ ap (λ n. SeqVerdict.Record 0 (not_json n Syntax)) start
by_first levels first rest found false e start h = by_records levels (kept rest) found (shown levels 1 rest found (omega arith) (rw e at h))

pub sequence_by_records : (limits : Allowed) (bytes : List ℕ) (found : List Record) → 1 ≤ limits.bytes → AreAllFindings Framings.Sequence limits bytes found
    → IsSequenceVerdict limits bytes (whole_of found)
sequence_by_records limits bytes found least h =
    let is_cut = is_too_long limits bytes in
    let taken = take limits.bytes bytes in
    let c = cut_as is_cut 0 taken in
    let first = part_at 0 (up_to_separator taken) (end_if (has_separator taken) is_cut) in
    let P : List Part → Type 0 = λ ps. AreFindings Framings.Sequence limits.depth (entries_from Framings.Sequence 0 ps) found in
    let R : List SequenceRecord → Type 0 = λ rs. IsJudgedBy (is_stray bytes) limits.depth rs (whole_of found) in
    let stray = first_counts is_cut taken (some_taken limits bytes least) ∙ stray_taken limits.bytes bytes least in
    subst R c.records (by_first limits.depth first c.rest found (is_stray bytes) stray refl (subst P (parts_taken limits bytes ∙ c.parts) h))
