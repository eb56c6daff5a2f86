-- Which bytes decide a sequence, by the parts that have ended and the open one.
use Rattle.gj_rules.proofs.Common.{AllValid, Allowed, AreFindings, Bool, Framing, Input, IsJudgedBy, IsSequenceVerdict, IsSettled, IsUndecided}
use Rattle.gj_rules.proofs.Common.{IsVerdict, IsViableWithin, List, Syntax, not_json, take-append-add}
use Rattle.gj_rules.proofs.Common.{Part, Record, SeqVerdict, SequenceRecord, Verdict, Warnings, ap, arith, entries_in, false, get_or, has_byte, is_stray}
use Rattle.gj_rules.proofs.Common.{length, nat_lt, nat_tests, not, part_at, parts_from, records_from, records_of, refl, separator_of, subst, sym, take}
use Rattle.gj_rules.proofs.Common.{take_all, true, whole_of, [], ◌++◌, ◌+◌, ◌∙◌, ◌∷◌, ◌≤◌}
use Rattle.std.proofs.Common.{◌≡◌, ℕ, length-append, min}
use Rattle.std.proofs.Math.Seq.{get_or-append_seam, take-append_seam}
use Rattle.std.proofs.lemmas.List.{append_cancel_right, length-take}
use Rattle.gj_rules.specs.declared.records.Records.{Records}
use Rattle.gj_rules.specs.declared.records.framing.Framing.TheVariants.{Sequence}
use Rattle.gj_rules.specs.Internal.OpenParts.{IsOpen}
use Rattle.gj_rules.specs.Records.{counts, are_none}
use Rattle.gj_rules.specs.Sequence.{IsOpenIn, AreOpen, is_valid_sequence}
use Rattle.gj_rules.proofs.Parts.PartCuts.{one_part, plain_take}
use Rattle.gj_rules.proofs.Parts.SequencesByRecords.{record_at, as_record, keep_if, keeps, kept, cut_as, first_counts, by_first}
use Rattle.gj_rules.proofs.Sequences.OneVerdict.{one_sequence}
use Rattle.gj_rules.proofs.Sequences.OpenRecords.{none_viable}

-- ---- lists

head_is : {A : Type 0} {x y : A} {xs ys : List A} → x ∷ xs ≡ y ∷ ys → x ≡ y
head_is e = cc

tail_is : {A : Type 0} {x y : A} {xs ys : List A} → x ∷ xs ≡ y ∷ ys → xs ≡ ys
tail_is e = cc

pub snoc_last : (xs ys : List SequenceRecord) (x y : SequenceRecord) → xs ++ x ∷ [] ≡ ys ++ y ∷ [] → (x ≡ y) × (xs ≡ ys)
snoc_last xs ys x y e =
    let n : length xs + 1 ≡ length ys + 1 = sym (length-append xs (x ∷ [])) ∙ (ap length e ∙ length-append ys (y ∷ [])) in
    let same : length xs ≡ length ys = omega (arith, n) in
    let one : x ≡ y = sym (get_or-append_seam xs x [] x) ∙ (ap (λ zs. get_or zs (length xs) x) e
    ∙ (ap (λ k. get_or (ys ++ y ∷ []) k x) same ∙ get_or-append_seam ys y [] x)) in
    (one, append_cancel_right xs ys (y ∷ []) (ap (λ z. xs ++ z ∷ []) (sym one) ∙ e))

kept-append : (done : List Part) (last : Part) → keeps last ≡ true → kept (done ++ last ∷ []) ≡ kept done ++ as_record last ∷ []
kept-append [] last e = ap (λ b. keep_if b (as_record last) []) e
kept-append (part ∷ done) last e = by_test (keeps part) (kept-append done last e)
  where
    by_test : (b : Bool) → kept (done ++ last ∷ []) ≡ kept done ++ as_record last ∷ []
        → keep_if b (as_record part) (kept (done ++ last ∷ [])) ≡ keep_if b (as_record part) (kept done) ++ as_record last ∷ []
    by_test true h = ap (λ rs. as_record part ∷ rs) h
    by_test false h = h

open_in : (levels : ℕ) (records before : List SequenceRecord) (last : SequenceRecord) → records ≡ before ++ last ∷ [] → AreOpen levels records
    → IsOpenIn levels records
open_in levels [] [] last e h = cc
open_in levels [] (r ∷ before) last e h = cc
open_in levels (r ∷ more) before last e h = h

are_open : (levels : ℕ) (records : List SequenceRecord) → IsOpenIn levels records → AreOpen levels records
are_open levels [] h = tt
are_open levels (r ∷ more) h = h

-- of records of which the last is known
open_last : (levels : ℕ) (records before : List SequenceRecord) (last : SequenceRecord) → records ≡ before ++ last ∷ [] → AreOpen levels records →
    IsViableWithin levels last.bytes × ((w : Warnings) × AllValid levels before w)
open_last levels records before last e h =
    let o = open_in levels records before last e h in
    let p = snoc_last o.before before o.last last (sym o.split ∙ e) in
    let P : SequenceRecord → Type 0 = λ r. IsViableWithin levels r.bytes in
    let Q : List SequenceRecord → Type 0 = λ rs. AllValid levels rs o.warnings in
    (subst P p.0 o.viable, (o.warnings, subst Q p.1 o.valid))

-- ---- the records, by the parts

-- bytes that are cut into parts that have ended, in which this is found, and an open one
pub record Cut (limits : Allowed) (bytes : List ℕ) (done : List Part) (start : ℕ) (given : List ℕ) (found : List Record) : Type 0 where
  pub fits : length bytes ≤ limits.bytes
  pub parts : parts_from Sequence Input 0 bytes ≡ done ++ part_at start given Input ∷ []
  pub are : AreFindings Sequence limits.depth (entries_in Sequence done) found

cut_of : (s : Records) (bytes : List ℕ) (found : List Record) (h : IsOpen s bytes found) → s.framing ≡ Sequence → (given : List ℕ)
    → has_byte (separator_of s.framing) given ≡ false → length (h.before ++ given) ≤ s.limits.bytes
    → Cut s.limits (h.before ++ given) h.done s.record.start given found
cut_of s bytes found h framing given plain fits =
    let C : Framing → Type 0 = λ f. parts_from f Input 0 (h.before ++ given) ≡ h.done ++ part_at s.record.start given Input ∷ [] in
    let A : Framing → Type 0 = λ f. AreFindings f s.limits.depth (entries_in f h.done) found in record {
      fits = fits;
      parts = subst C framing (h.cut Input given ∙ ap (λ ps. h.done ++ ps) (one_part s.framing Input s.record.start given plain));
      are = subst A framing h.are;
    }

pub cut_whole : (s : Records) (bytes : List ℕ) (found : List Record) (h : IsOpen s bytes found) → s.framing ≡ Sequence
    → Cut s.limits bytes h.done s.record.start h.given found
cut_whole s bytes found h framing =
    let C : List ℕ → Type 0 = λ bs. Cut s.limits bs h.done s.record.start h.given found in
    let L : List ℕ → Type 0 = λ bs. length bs ≤ s.limits.bytes in
    subst C (sym h.split) (cut_of s bytes found h framing h.given h.plain (subst L h.split h.fits))

-- up to a byte of the open record
pub cut_short : (s : Records) (bytes : List ℕ) (found : List Record) (h : IsOpen s bytes found) → s.framing ≡ Sequence → (n : ℕ)
    → Cut s.limits (h.before ++ take n h.given) h.done s.record.start (take n h.given) found
cut_short s bytes found h framing n =
    let fits = h.fits in
    let whole : length bytes ≡ length h.before + length h.given = ap length h.split ∙ length-append h.before h.given in
    let part : length (h.before ++ take n h.given) ≡ length h.before + length (take n h.given) = length-append h.before (take n h.given) in
    let least : length (take n h.given) ≡ min n (length h.given) = length-take n h.given in
    cut_of s bytes found h framing (take n h.given) (plain_take (separator_of s.framing) n h.given h.plain) (omega (arith, fits, whole, part, least))

fitting : (limits : Allowed) (bytes : List ℕ) → length bytes ≤ limits.bytes → records_of limits bytes ≡ records_from false 0 bytes
fitting limits bytes l =
    let e : nat_lt limits.bytes (length bytes) ≡ false = grind (arith, nat_tests) in
    ap (λ b. records_from b 0 (take limits.bytes bytes)) e ∙ ap (records_from false 0) (take_all limits.bytes bytes l)

-- no separator has come
pub none_begun : (limits : Allowed) (bytes : List ℕ) (start : ℕ) (given : List ℕ) (found : List Record) → Cut limits bytes [] start given found
    → (records_of limits bytes ≡ []) × (is_stray bytes ≡ not (are_none given))
none_begun limits bytes start given found h =
    let c = cut_as false 0 bytes in
    let e = sym c.parts ∙ h.parts in (
      fitting limits bytes h.fits ∙ (sym c.records ∙ ap kept (tail_is e)),
      sym (first_counts false bytes (λ f. cc)) ∙ ap (λ part. counts Sequence 0 part.end (are_none part.bytes)) (head_is e),
    )

-- a record is open
pub some_begun : (limits : Allowed) (bytes : List ℕ) (first : Part) (done : List Part) (start : ℕ) (given : List ℕ) (found : List Record)
    → Cut limits bytes (first ∷ done) start given found
    → (records_of limits bytes ≡ kept done ++ record_at start given false ∷ []) × IsJudgedBy (is_stray bytes) limits.depth (kept done) (whole_of found)
some_begun limits bytes first done start given found h =
    let c = cut_as false 0 bytes in
    let e = sym c.parts ∙ h.parts in
    let one = sym (head_is e) in (
      fitting limits bytes h.fits ∙ (sym c.records ∙ (ap kept (tail_is e) ∙ kept-append done (part_at start given Input) refl)),
      by_first limits.depth first done found (is_stray bytes)
          (ap (λ part. counts Sequence 0 part.end (are_none part.bytes)) one ∙ first_counts false bytes (λ f. cc)) (ap (λ part. part.start) one) h.are,
    )

-- ---- bytes of which none has decided

all_valid : (stray : Bool) (levels : ℕ) (records : List SequenceRecord) (verdict : SeqVerdict) → IsJudgedBy stray levels records verdict
    → is_valid_sequence verdict ≡ true
    → (stray ≡ false) × ((w : Warnings) × AllValid levels records w)
all_valid true levels records verdict h valid = let f : false ≡ true = sym (ap is_valid_sequence h) ∙ valid in cc
all_valid false levels records (SeqVerdict.Valid count w) h valid = (refl, (w, h.0))
all_valid false levels records (SeqVerdict.Record number verdict) h valid = cc

pub undecided : (limits : Allowed) (bytes : List ℕ) (done : List Part) (start : ℕ) (given : List ℕ) (found : List Record)
    → Cut limits bytes done start given found → is_valid_sequence (whole_of found) ≡ true → (done ≡ [] → are_none given ≡ true)
    → IsViableWithin limits.depth given → IsUndecided limits bytes
undecided limits bytes [] start given found h valid none viable =
    let (records, stray) = none_begun limits bytes start given found h in
    record { fits = h.fits; begun = stray ∙ ap not (none refl); «open» = subst (AreOpen limits.depth) (sym records) tt }
undecided limits bytes (first ∷ done) start given found h valid none viable =
    let (records, judged) = some_begun limits bytes first done start given found h in
    let (begun, (w, are)) = all_valid (is_stray bytes) limits.depth (kept done) (whole_of found) judged valid in record {
      fits = h.fits;
      begun = begun;
      «open» = are_open limits.depth (records_of limits bytes)
          (record { before = kept done; last = record_at start given false; split = records; warnings = w; valid = are; viable = viable });
    }

pub undecided_viable : (limits : Allowed) (bytes : List ℕ) (done : List Part) (start : ℕ) (given : List ℕ) (found : List Record)
    → Cut limits bytes done start given found → (done ≡ [] → ⊥) → IsUndecided limits bytes → IsViableWithin limits.depth given
undecided_viable limits bytes [] start given found h begun u = absurd (begun refl)
undecided_viable limits bytes (first ∷ done) start given found h begun u =
    (open_last limits.depth (records_of limits bytes) (kept done) (record_at start given false)
    (some_begun limits bytes first done start given found h).0 u.«open»).0

pub undecided_valid : ((limits : Allowed) (bytes : List ℕ) (first second : Verdict) → IsVerdict limits bytes first → IsVerdict limits bytes second
    → first ≡ second)
    → (limits : Allowed) (bytes : List ℕ) (done : List Part) (start : ℕ) (given : List ℕ) (found : List Record)
    → Cut limits bytes done start given found → IsUndecided limits bytes → is_valid_sequence (whole_of found) ≡ true
undecided_valid one limits bytes [] start given [] h u = refl
undecided_valid one limits bytes [] start given (other ∷ found) h u = absurd h.are
undecided_valid one limits bytes (first ∷ done) start given found h u =
    let (records, judged) = some_begun limits bytes first done start given found h in
    let (viable, (w, are)) = open_last limits.depth (records_of limits bytes) (kept done) (record_at start given false) records u.«open» in
    let B : Bool → Type 0 = λ b. IsJudgedBy b limits.depth (kept done) (whole_of found) in
    ap is_valid_sequence
    (one_sequence one false limits.depth (kept done) (whole_of found) (SeqVerdict.Valid (length (kept done)) w) (subst B u.begun judged) (are, refl))

-- ---- the bytes that decide

pub none_undecided : (limits : Allowed) → IsUndecided limits []
none_undecided limits =
    undecided limits [] [] 0 [] [] (record { fits = omega arith; parts = refl; are = tt }) refl (λ e. refl) (none_viable limits.depth)

-- a byte before the first separator
pub settled_stray : (limits : Allowed) (bytes : List ℕ) → is_stray bytes ≡ true → IsSettled limits bytes 0 (SeqVerdict.Record 0 (not_json 0 Syntax))
settled_stray limits [] e = cc
settled_stray limits (byte ∷ more) e = record {
  at = record {
    within = omega arith;
    before = none_undecided limits;
    decides = λ u. (let begun = u.begun in let f : true ≡ false = sym e ∙ begun in cc);
  };
  fails = refl;
  lasting = λ rest.
      let all = byte ∷ (more ++ rest) in
      let B : Bool → Type 0 = λ b. IsJudgedBy b limits.depth (records_of limits all) (SeqVerdict.Record 0 (not_json 0 Syntax)) in
      subst B (sym e) refl;
}

-- one that ends a record
pub settled_last : (limits : Allowed) (bytes : List ℕ) (byte : ℕ) (verdict : SeqVerdict) → IsUndecided limits bytes
    → (IsUndecided limits (bytes ++ byte ∷ []) → ⊥)
    → is_valid_sequence verdict ≡ false → ((more : List ℕ) → IsSequenceVerdict limits ((bytes ++ byte ∷ []) ++ more) verdict)
    → IsSettled limits (bytes ++ byte ∷ []) (length bytes) verdict
settled_last limits bytes byte verdict before never fails lasting =
    let longer : length (bytes ++ byte ∷ []) ≡ length bytes + 1 = length-append bytes (byte ∷ []) in
    let U : List ℕ → Type 0 = λ bs. IsUndecided limits bs in record {
      at = record {
        within = omega (arith, longer);
        before = subst U (sym (take-append_seam bytes (byte ∷ []))) before;
        decides = λ u. never (subst U (take-append-add bytes (byte ∷ []) 1) u);
      };
      fails = fails;
      lasting = lasting;
    }
