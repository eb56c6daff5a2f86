-- What `Records` stand for, from step to step.
use Rattle.gj_rules.proofs.Common.{Allowed, AreFindings, Bool, Entry, Framing, HaveTold, HaveToldIf, Input, Limit, List, Part, Record, RecordEnd}
use Rattle.gj_rules.proofs.Common.{Separator, SeqVerdict, after, ap, append_assoc, arith, drop, entries_in, entries_of, entry_at, false, first_number}
use Rattle.gj_rules.proofs.Common.{has_byte, length, not, number_from, part_at, parts_from, refl, separator_of, subst, suc, sym, take, take_all, true}
use Rattle.gj_rules.proofs.Common.{whole_of, zero, [], ◌&&◌, ◌++◌, ◌+◌, ◌-◌, ◌<◌, ◌∙◌, ◌∷◌, ◌≤◌}
use Rattle.std.proofs.Common.{◌≡◌, ℕ, length-append}
use Rattle.std.proofs.Common.{append-nil, take-add}
use Rattle.std.proofs.lemmas.List.{length-drop, take-append-drop, take-append-le}
use Rattle.gj_coords.specs.Internal.KeptWarnings.{no_warnings}
use Rattle.gj_rules.specs.declared.records.Records.{Records}
use Rattle.gj_rules.specs.Internal.OpenParts.{IsOpen, IsOver}
use Rattle.gj_rules.specs.Internal.OpenRecord.{StandsFor as RecordStandsFor}
use Rattle.gj_rules.specs.Internal.ToldRecords.{Keeps, TellsOne}
use Rattle.gj_rules.specs.RecordFindings.{IsFinding, AreAllFindings, AreFindingsSoFar, but_last}
use Rattle.gj_rules.specs.Records.{entry_if, counts, is_void, is_counted, number_after, at_least_one}
use Rattle.gj_rules.specs.Records.{parts_of}
use Rattle.gj_rules.specs.RecordsStand.{StandsBy, StandsFor, HaveToldAllIf}
use Rattle.gj_rules.proofs.Parts.CountedParts.{next_number, next_entries}
use Rattle.gj_rules.proofs.Parts.FoundRecords.{found-append, whole-append, after_fails, limit_fails}
use Rattle.gj_rules.specs.Sequence.{is_valid_sequence}
use Rattle.gj_rules.proofs.Parts.PartCuts.{other-append, one_part, first_part, void-append, but_last-append, short_parts, long_parts, short_whole, long_whole}
use Rattle.gj_rules.proofs.Parts.PartCuts.{no_bytes_void}

-- ---- which of the two they stand for

pub open_of : (s : Records) (bytes : List ℕ) (found : List Record) → s.is_over ≡ false → StandsFor s bytes found → IsOpen s bytes found
open_of s bytes found e h = let P : Bool → Type 0 = λ b. StandsBy b s bytes found in subst P e h

pub over_of : (s : Records) (bytes : List ℕ) (found : List Record) → s.is_over ≡ true → StandsFor s bytes found → IsOver s bytes found
over_of s bytes found e h = let P : Bool → Type 0 = λ b. StandsBy b s bytes found in subst P e h

pub stand_open : (s : Records) (bytes : List ℕ) (found : List Record) → s.is_over ≡ false → IsOpen s bytes found → StandsFor s bytes found
stand_open s bytes found e h = let P : Bool → Type 0 = λ b. StandsBy b s bytes found in subst P (sym e) h

pub stand_over : (s : Records) (bytes : List ℕ) (found : List Record) → s.is_over ≡ true → IsOver s bytes found → StandsFor s bytes found
stand_over s bytes found e h = let P : Bool → Type 0 = λ b. StandsBy b s bytes found in subst P (sym e) h

-- ---- the parts, as they end

-- all parts, the open one last
pub all_parts : (s : Records) (bytes : List ℕ) (found : List Record) (h : IsOpen s bytes found) (last : RecordEnd)
    → parts_from s.framing last 0 bytes ≡ h.done ++ part_at s.record.start h.given last ∷ []
all_parts s bytes found h last =
    ap (parts_from s.framing last 0) h.split
    ∙ (h.cut last h.given ∙ ap (λ ps. h.done ++ ps) (one_part s.framing last s.record.start h.given h.plain))

-- what is found in the records that have ended
pub so_far : (s : Records) (bytes : List ℕ) (found : List Record) → StandsFor s bytes found → AreFindingsSoFar s.framing s.limits bytes found
so_far s bytes found h = by_test s.is_over refl
  where
    by_test : (b : Bool) → s.is_over ≡ b → AreFindingsSoFar s.framing s.limits bytes found
    by_test false e =
        let k = open_of s bytes found e h in
        let P : List Part → Type 0 = λ ps. AreFindings s.framing s.limits.depth (entries_in s.framing ps) found in
        subst P (sym (short_whole s.framing s.limits bytes k.fits
        ∙ (ap but_last (all_parts s bytes found k Input) ∙ but_last-append k.done (part_at s.record.start k.given Input)))) k.are
    by_test true e =
        let k = over_of s bytes found e h in
        let P : List Part → Type 0 = λ ps. AreFindings s.framing s.limits.depth (entries_in s.framing ps) found in
        subst P (sym (long_whole s.framing s.limits bytes k.beyond)) k.are

-- ---- what was reported

pub have_told : (told : List Record → Type 0) (s : Records) (bytes : List ℕ) (before found more : List Record) → StandsFor s bytes (found ++ more)
    → told (before ++ (found ++ more)) → HaveTold told s bytes before found
have_told told s bytes before found more h t = record { more = more; stands = h; findings = so_far s bytes (found ++ more) h; heard = t }

pub none_told : (told : List Record → Type 0) (s : Records) (bytes : List ℕ) (before found : List Record) → StandsFor s bytes found → told (before ++ found)
    → HaveTold told s bytes before found
none_told told s bytes before found h t =
    let P : List Record → Type 0 = λ rs. StandsFor s bytes rs in
    let T : List Record → Type 0 = λ rs. told (before ++ rs) in
    have_told told s bytes before found [] (subst P (sym (append-nil found)) h) (subst T (sym (append-nil found)) t)

-- no record, or one
pub none_if : (told : List Record → Type 0) (s : Records) (bytes : List ℕ) (before found : List Record) → StandsFor s bytes found → told (before ++ found)
    → HaveToldIf false told s bytes before found
unfolding none_told have_told
none_if told s bytes before found h t = record { have = none_told told s bytes before found h t; one_or_none = refl }

pub one_if : (told : List Record → Type 0) (s : Records) (bytes : List ℕ) (before found : List Record) (one : Record) → StandsFor s bytes (found ++ one ∷ [])
    → told (before ++ (found ++ one ∷ [])) → HaveToldIf true told s bytes before found
unfolding have_told
one_if told s bytes before found one h t = record { have = have_told told s bytes before found (one ∷ []) h t; one_or_none = refl }

pub then_told : (first second : List Record → Type 0) (s t : Records) (bytes more : List ℕ) (before found : List Record) → HaveTold first s bytes before found
    → ((all : List Record) → StandsFor s bytes all → first (before ++ all) → HaveTold second t more before all) → HaveTold second t more before found
then_told first second s t bytes more before found h step =
    let k = step (found ++ h.more) h.stands h.heard in
    let P : List Record → Type 0 = λ rs. StandsFor t more rs in
    let T : List Record → Type 0 = λ rs. second (before ++ rs) in
    have_told second t more before found (h.more ++ k.more) (subst P (append_assoc found h.more k.more) k.stands)
    (subst T (append_assoc found h.more k.more) k.heard)

-- no record was reported before
pub then_if : (b : Bool) (first second : List Record → Type 0) (s t : Records) (bytes more : List ℕ) (before found : List Record)
    → HaveToldIf false first s bytes before found
    → ((all : List Record) → StandsFor s bytes all → first (before ++ all) → HaveToldIf b second t more before all) → HaveToldIf b second t more before found
unfolding have_told
then_if b first second s t bytes more before found h step =
    let k = step (found ++ h.have.more) h.have.stands h.have.heard in
    let P : List Record → Type 0 = λ rs. StandsFor t more rs in
    let T : List Record → Type 0 = λ rs. second (before ++ rs) in
    let both = length-append h.have.more k.have.more in
    let none = h.one_or_none in
    let same : length (h.have.more ++ k.have.more) ≡ length k.have.more = omega (arith, both, none) in
    record {
      have = have_told second t more before found (h.have.more ++ k.have.more) (subst P (append_assoc found h.have.more k.have.more) k.have.stands)
          (subst T (append_assoc found h.have.more k.have.more) k.have.heard);
      one_or_none = same ∙ k.one_or_none;
    }

-- bytes beyond the limit change nothing
pub over_more : (s : Records) (bytes more : List ℕ) (found : List Record) → s.is_over ≡ true → StandsFor s bytes found → StandsFor s (bytes ++ more) found
over_more s bytes more found e h =
    let k = over_of s bytes found e h in
    let longer : length (bytes ++ more) ≡ length bytes + length more = length-append bytes more in
    let beyond : s.limits.bytes < length (bytes ++ more) = (let b = k.beyond in omega (arith, b, longer)) in
    let P : List Part → Type 0 = λ ps. AreFindings s.framing s.limits.depth (entries_in s.framing ps) found in
    stand_over s (bytes ++ more) found e (record {
      beyond = beyond;
      end = k.end;
      fails = k.fails;
      are = subst P (long_parts s.framing s.limits bytes k.beyond
          ∙ (ap (parts_from s.framing Limit 0) (sym (take-append-le s.limits.bytes bytes more (let b = k.beyond in omega (arith, b))))
          ∙ sym (long_parts s.framing s.limits (bytes ++ more) beyond))) k.are;
      whole = k.whole;
    })

-- ---- one byte or run more

pub regrouped : (bytes before given more : List ℕ) → bytes ≡ before ++ given → bytes ++ more ≡ before ++ (given ++ more)
regrouped bytes before given more split = ap (λ bs. bs ++ more) split ∙ append_assoc before given more

-- bytes of the open part
pub run_open : (s t : Records) (bytes run : List ℕ) (found : List Record) (h : IsOpen s bytes found) → t.framing ≡ s.framing → t.limits ≡ s.limits
    → t.number ≡ s.number → t.whole ≡ s.whole
    → has_byte (separator_of s.framing) run ≡ false → s.record.end + length run ≤ s.limits.bytes
    → RecordStandsFor t.record (h.given ++ run) → t.record.start ≡ s.record.start → t.record.end ≡ s.record.end + length run → t.record.limits ≡ s.record.limits
    → t.is_void ≡ (s.is_void && is_void s.framing run) → IsOpen t (bytes ++ run) found
run_open s t bytes run found h framing over number whole plain room stands start end limits void =
    let taken = h.taken in
    let longer : length (bytes ++ run) ≡ length bytes + length run = length-append bytes run in
    let C : Framing → ℕ → Type 0 =
    λ f n. (last : RecordEnd) (more : List ℕ) → parts_from f last 0 (h.before ++ more) ≡ h.done ++ parts_from f last n more in
    let A : Framing → Allowed → Type 0 = λ f l. AreFindings f l.depth (entries_in f h.done) found in
    record {
      done = h.done;
      before = h.before;
      given = h.given ++ run;
      split = regrouped bytes h.before h.given run h.split;
      cut = subst (λ (f : Framing). C f t.record.start) (sym framing) (subst (λ (n : ℕ). C s.framing n) (sym start) h.cut);
      plain = ap (λ f. has_byte (separator_of f) (h.given ++ run)) framing ∙ other-append (separator_of s.framing) h.given run h.plain plain;
      stands = stands;
      depth = ap (λ l. l.depth) limits ∙ (h.depth ∙ sym (ap (λ l. l.depth) over));
      taken = omega (arith, end, taken, longer);
      fits = subst (λ (l : Allowed). length (bytes ++ run) ≤ l.bytes) (sym over) (omega (arith, room, taken, longer));
      void = void ∙ (ap (λ b. b && is_void s.framing run) h.void
          ∙ (sym (void-append s.framing h.given run) ∙ ap (λ f. is_void f (h.given ++ run)) (sym framing)));
      number = number ∙ (h.number ∙ ap (λ f. number_from f (first_number f) h.done) (sym framing));
      are = subst (λ (f : Framing). A f t.limits) (sym framing) (subst (λ (l : Allowed). A s.framing l) (sym over) h.are);
      whole = whole ∙ h.whole;
    }

-- the open part ends with a separator, and the next has no byte
pub next_open : (s t : Records) (bytes : List ℕ) (found all : List Record) (h : IsOpen s bytes found) (b : Bool) → t.framing ≡ s.framing → t.limits ≡ s.limits
    → s.record.end < s.limits.bytes → RecordStandsFor t.record [] → t.record.start ≡ s.record.end + 1 → t.record.end ≡ s.record.end + 1
    → t.record.limits ≡ s.record.limits
    → t.is_void ≡ true → s.is_void ≡ not b → t.number ≡ number_after b s.number
    → AreFindings s.framing s.limits.depth (entries_in s.framing h.done ++ entry_if b (entry_at s.number (part_at s.record.start h.given Separator)) []) all
    → t.whole ≡ whole_of all → IsOpen t (bytes ++ separator_of s.framing ∷ []) all
next_open s t bytes found all h b framing over room stands start end limits void was number are whole =
    let part = part_at s.record.start h.given Separator in
    let taken = h.taken in
    let counted = h.stands.counted in
    let longer : length (bytes ++ separator_of s.framing ∷ []) ≡ length bytes + 1 = length-append bytes (separator_of s.framing ∷ []) in
    let C : Framing → ℕ → Type 0 = λ f n. (last : RecordEnd) (more : List ℕ)
    → parts_from f last 0 ((bytes ++ separator_of s.framing ∷ []) ++ more) ≡ (h.done ++ part ∷ []) ++ parts_from f last n more in
    let cut : C s.framing t.record.start = λ last more.
    ap (parts_from s.framing last 0) (append_assoc bytes (separator_of s.framing ∷ []) more ∙ regrouped bytes h.before h.given (separator_of s.framing ∷ more) h.split)
    ∙ (h.cut last (h.given ++ separator_of s.framing ∷ more)
    ∙ (ap (λ ps. h.done ++ ps) (first_part s.framing last s.record.start t.record.start h.given more h.plain (omega (arith, start, counted)))
    ∙ sym (append_assoc h.done (part ∷ []) (parts_from s.framing last t.record.start more)))) in
    let counting : is_counted s.framing s.number part ≡ b = ap not (sym h.void) ∙ (ap not was ∙ not_not b) in
    let A : Framing → Allowed → Type 0 = λ f l. AreFindings f l.depth (entries_in f (h.done ++ part ∷ [])) all in
    let a : A s.framing s.limits =
    subst (λ (es : List Entry). AreFindings s.framing s.limits.depth es all) (sym (next_entries s.framing h.done part s.number b h.number counting)) are in
    record {
      done = h.done ++ part ∷ [];
      before = bytes ++ separator_of s.framing ∷ [];
      given = [];
      split = sym (append-nil (bytes ++ separator_of s.framing ∷ []));
      cut = subst (λ (f : Framing). C f t.record.start) (sym framing) cut;
      plain = refl;
      stands = stands;
      depth = ap (λ l. l.depth) limits ∙ (h.depth ∙ sym (ap (λ l. l.depth) over));
      taken = omega (arith, end, taken, longer);
      fits = subst (λ (l : Allowed). length (bytes ++ separator_of s.framing ∷ []) ≤ l.bytes) (sym over) (omega (arith, room, taken, longer));
      void = void ∙ (sym (no_bytes_void s.framing) ∙ ap (λ f. is_void f []) (sym framing));
      number = number ∙ (sym (next_number s.framing h.done part s.number b h.number counting)
          ∙ ap (λ f. number_from f (first_number f) (h.done ++ part ∷ [])) (sym framing));
      are = subst (λ (f : Framing). A f t.limits) (sym framing) (subst (λ (l : Allowed). A s.framing l) (sym over) a);
      whole = whole;
    }
  where
    not_not : (c : Bool) → not (not c) ≡ c
    not_not true = refl
    not_not false = refl

-- ---- the open record is reported

-- the finding of the open record, and the verdict of all with it
pub told_next : (before after_it : List Record → Type 0) (ending : RecordEnd) (next : ℕ) (s t : Records) (bytes : List ℕ) (earlier found : List Record)
    (h : IsOpen s bytes found)
    → TellsOne before after_it ending next s t → before (earlier ++ found)
    → (one : Record) × AreFindings s.framing s.limits.depth (entries_in s.framing h.done ++ entry_at s.number (part_at s.record.start h.given ending) ∷ [])
    (found ++ one ∷ [])
    × (t.whole ≡ whole_of (found ++ one ∷ [])) × after_it (earlier ++ (found ++ one ∷ []))
told_next before after_it ending next s t bytes earlier found h tells was =
    let (one, finding, whole, told) = tells.tells h.given (earlier ++ found) h.stands was in
    let P : ℕ → Type 0 = λ d. IsFinding s.framing d (entry_at s.number (part_at s.record.start h.given ending)) one in (
      one,
      found-append s.framing s.limits.depth (entries_in s.framing h.done) found (entry_at s.number (part_at s.record.start h.given ending)) one h.are
          (subst P h.depth finding),
      whole ∙ (ap (λ v. after v one) h.whole ∙ sym (whole-append (SeqVerdict.Valid 0 no_warnings) found one)),
      subst after_it (append_assoc earlier found (one ∷ [])) told,
    )

-- the first byte beyond the limit
pub over_next : (before after_it : List Record → Type 0) (s t new : Records) (bytes ended : List ℕ) (byte next : ℕ) (earlier found : List Record)
    (h : IsOpen s bytes found)
    → TellsOne before after_it Limit next s t → next ≡ s.limits.bytes → s.record.end ≡ s.limits.bytes → ended ≡ byte ∷ []
    → new.is_over ≡ true → new.framing ≡ t.framing → new.limits ≡ t.limits → new.record.end ≡ t.record.end → new.whole ≡ t.whole → before (earlier ++ found)
    → HaveToldIf true after_it new (bytes ++ ended) earlier found
over_next before after_it s t new bytes ended byte next earlier found h tells to full is over same_framing same_limits same_end same_whole was =
    let (one, are, whole, told) = told_next before after_it Limit next s t bytes earlier found h tells was in
    let part = part_at s.record.start h.given Limit in
    let framing : new.framing ≡ s.framing = same_framing ∙ tells.rest.framing in
    let limits : new.limits ≡ s.limits = same_limits ∙ tells.rest.limits in
    let taken = h.taken in
    let longer : length (bytes ++ byte ∷ []) ≡ length bytes + 1 = length-append bytes (byte ∷ []) in
    let beyond : s.limits.bytes < length (bytes ++ byte ∷ []) = omega (arith, taken, full, longer) in
    let all : parts_of s.framing s.limits (bytes ++ byte ∷ []) ≡ h.done ++ part ∷ [] =
    long_parts s.framing s.limits (bytes ++ byte ∷ []) beyond
    ∙ (ap (parts_from s.framing Limit 0)
    (take-append-le s.limits.bytes bytes (byte ∷ []) (omega (arith, taken, full)) ∙ take_all s.limits.bytes bytes (omega (arith, taken, full)))
    ∙ all_parts s bytes found h Limit) in
    let entries = ap (entries_in s.framing) all ∙ next_entries s.framing h.done part s.number true h.number refl in
    let A : Framing → Allowed → Type 0 = λ f l. AreAllFindings f l (bytes ++ byte ∷ []) (found ++ one ∷ []) in
    let a : A s.framing s.limits = subst (λ (es : List Entry). AreFindings s.framing s.limits.depth es (found ++ one ∷ [])) (sym entries) are in
    let E : Allowed → Type 0 = λ l. new.record.end ≡ l.bytes in
    let B : Allowed → Type 0 = λ l. l.bytes < length (bytes ++ byte ∷ []) in
    let H : List ℕ → Type 0 = λ bs. HaveToldIf true after_it new (bytes ++ bs) earlier found in
    let (other, finding, ended, heard) = tells.tells h.given (earlier ++ found) h.stands was in
    let fails = ap is_valid_sequence ended
    ∙ after_fails s.whole other (limit_fails s.framing s.record.limits.depth s.number s.record.start h.given other.verdict finding.verdict) in
    subst H (sym is) (one_if after_it new (bytes ++ byte ∷ []) earlier found one (stand_over new (bytes ++ byte ∷ []) (found ++ one ∷ []) over (record {
      beyond = subst B (sym limits) beyond;
      end = subst E (sym limits) (same_end ∙ (tells.end ∙ to));
      are = subst (λ (f : Framing). A f new.limits) (sym framing) (subst (λ (l : Allowed). A s.framing l) (sym limits) a);
      whole = same_whole ∙ whole;
      fails = ap is_valid_sequence same_whole ∙ fails;
    })) told)

-- the entries of all parts, the open one among them where it counts
end_entries : (s : Records) (bytes : List ℕ) (found : List Record) (h : IsOpen s bytes found) (b : Bool) → counts s.framing s.number Input s.is_void ≡ b
    → entries_of s.framing s.limits bytes ≡ entries_in s.framing h.done ++ entry_if b (entry_at s.number (part_at s.record.start h.given Input)) []
end_entries s bytes found h b counted =
    ap (entries_in s.framing) (short_parts s.framing s.limits bytes h.fits ∙ all_parts s bytes found h Input)
    ∙ next_entries s.framing h.done (part_at s.record.start h.given Input) s.number b h.number (ap (counts s.framing s.number Input) (sym h.void) ∙ counted)

all_told : (told : List Record → Type 0) (s : Records) (bytes : List ℕ) (earlier found : List Record) → AreAllFindings s.framing s.limits bytes found
    → s.whole ≡ whole_of found
    → told (earlier ++ found) → HaveToldAllIf false told s.framing s.limits bytes earlier found s.whole
all_told told s bytes earlier found are whole was =
    let nil = sym (append-nil found) in
    let A : List Record → Type 0 = λ rs. AreAllFindings s.framing s.limits bytes rs in
    let T : List Record → Type 0 = λ rs. told (earlier ++ rs) in
    record { have = record { more = []; findings = subst A nil are; whole = whole ∙ ap whole_of nil; heard = subst T nil was }; one_or_none = refl }

-- the end of the input, where the open part counts
pub ends_counted : (before after_it : List Record → Type 0) (s t : Records) (bytes : List ℕ) (next : ℕ) (earlier found : List Record) (h : IsOpen s bytes found)
    → TellsOne before after_it Input next s t → counts s.framing s.number Input s.is_void ≡ true → before (earlier ++ found)
    → HaveToldAllIf true after_it s.framing s.limits bytes earlier found t.whole
ends_counted before after_it s t bytes next earlier found h tells counted was =
    let (one, are, whole, told) = told_next before after_it Input next s t bytes earlier found h tells was in
    let entries = end_entries s bytes found h true counted in
    record {
      have = record {
        more = one ∷ [];
        findings = subst (λ (es : List Entry). AreFindings s.framing s.limits.depth es (found ++ one ∷ [])) (sym entries) are;
        whole = whole;
        heard = told;
      };
      one_or_none = refl;
    }

-- and where it does not
pub ends_open : (told : List Record → Type 0) (s : Records) (bytes : List ℕ) (earlier found : List Record) (h : IsOpen s bytes found)
    → counts s.framing s.number Input s.is_void ≡ false → told (earlier ++ found) → HaveToldAllIf false told s.framing s.limits bytes earlier found s.whole
ends_open told s bytes earlier found h counted was =
    let entries = end_entries s bytes found h false counted ∙ append-nil (entries_in s.framing h.done) in
    all_told told s bytes earlier found (subst (λ (es : List Entry). AreFindings s.framing s.limits.depth es found) (sym entries) h.are) h.whole was

-- or a byte beyond the limit has come
pub ends_over : (told : List Record → Type 0) (s : Records) (bytes : List ℕ) (earlier found : List Record) → IsOver s bytes found → told (earlier ++ found)
    → HaveToldAllIf false told s.framing s.limits bytes earlier found s.whole
ends_over told s bytes earlier found h was = all_told told s bytes earlier found h.are h.whole was

-- ---- pieces

-- a part that is passed over
pub passed_open : (s t : Records) (bytes : List ℕ) (found : List Record) (h : IsOpen s bytes found) → t.framing ≡ s.framing → t.limits ≡ s.limits
    → s.record.end < s.limits.bytes → RecordStandsFor t.record [] → t.record.start ≡ s.record.end + 1 → t.record.end ≡ s.record.end + 1
    → t.record.limits ≡ s.record.limits
    → t.is_void ≡ true → s.is_void ≡ true → t.number ≡ at_least_one s.number → t.whole ≡ s.whole → IsOpen t (bytes ++ separator_of s.framing ∷ []) found
passed_open s t bytes found h framing over room stands start end limits void was number whole =
    next_open s t bytes found found h false framing over room stands start end limits void was number
    (subst (λ (es : List Entry). AreFindings s.framing s.limits.depth es found) (sym (append-nil (entries_in s.framing h.done))) h.are)
    (whole ∙ h.whole)

pub numbered : (number next : ℕ) → (number ≡ 0 → next ≡ 1) → (0 < number → next ≡ number) → next ≡ at_least_one number
numbered zero next none some = none refl
numbered (suc n) next none some = some (omega arith)

-- the rest of a piece is beyond the limit
pub over_rest : (told : List Record → Type 0) (s : Records) (bytes piece : List ℕ) (n : ℕ) (before found : List Record) → s.is_over ≡ true
    → HaveTold told s (bytes ++ take n piece) before found → HaveTold told s (bytes ++ piece) before found
over_rest told s bytes piece n before found over h =
    let P : List ℕ → Type 0 = λ bs. StandsFor s bs (found ++ h.more) in
    have_told told s (bytes ++ piece) before found h.more
    (subst P (append_assoc bytes (take n piece) (drop n piece) ∙ ap (λ xs. bytes ++ xs) (take-append-drop n piece))
    (over_more s (bytes ++ take n piece) (drop n piece) (found ++ h.more) over h.stands))
    h.heard

pub over_rest_if : (told : List Record → Type 0) (s : Records) (bytes piece : List ℕ) (n : ℕ) (before found : List Record) → s.is_over ≡ true
    → HaveToldIf false told s (bytes ++ take n piece) before found → HaveToldIf false told s (bytes ++ piece) before found
unfolding over_rest have_told
over_rest_if told s bytes piece n before found over h = record { have = over_rest told s bytes piece n before found over h.have; one_or_none = h.one_or_none }

-- what a step took of the rest of a piece, after what was taken before
pub further_at : (P : List ℕ → Type 0) (bytes piece : List ℕ) (n m : ℕ) → n ≤ length piece
    → P ((bytes ++ take n piece) ++ take m (take (length piece - n) (drop n piece))) → P (bytes ++ take (n + m) piece)
further_at P bytes piece n m l h =
    let rest : take (length piece - n) (drop n piece) ≡ drop n piece = take_all (length piece - n) (drop n piece) (omega (arith, length-drop n piece)) in
    subst P (append_assoc bytes (take n piece) (take m (take (length piece - n) (drop n piece)))
    ∙ ap (λ xs. bytes ++ xs) (ap (λ xs. take n piece ++ take m xs) rest ∙ sym (take-add n m piece))) h

pub further : (told : List Record → Type 0) (s : Records) (bytes piece : List ℕ) (n m : ℕ) (before found : List Record) → n ≤ length piece
    → HaveTold told s ((bytes ++ take n piece) ++ take m (take (length piece - n) (drop n piece))) before found
    → HaveTold told s (bytes ++ take (n + m) piece) before found
further told s bytes piece n m before found l h = further_at (λ bs. HaveTold told s bs before found) bytes piece n m l h

pub kept_on : (a b c : Records) → Keeps a b → Keeps b c → Keeps a c
kept_on a b c h k = record { limits = k.limits ∙ h.limits; framing = k.framing ∙ h.framing }

-- ---- the end of the input

-- nothing is left to report
pub finished_none : (told : List Record → Type 0) (s : Records) (bytes : List ℕ) (earlier found : List Record)
    → (s.is_over ≡ false → counts s.framing s.number Input s.is_void ≡ false)
    → StandsFor s bytes found → told (earlier ++ found) → HaveToldAllIf false told s.framing s.limits bytes earlier found s.whole
finished_none told s bytes earlier found live h was = by_test s.is_over refl
  where
    by_test : (b : Bool) → s.is_over ≡ b → HaveToldAllIf false told s.framing s.limits bytes earlier found s.whole
    by_test true e = ends_over told s bytes earlier found (over_of s bytes found e h) was
    by_test false e = ends_open told s bytes earlier found (open_of s bytes found e h) (live e) was

-- the open record is reported
pub finished_some : (before after_it : List Record → Type 0) (s t : Records) (bytes : List ℕ) (next : ℕ) (earlier found : List Record) → (s.is_over ≡ true → ⊥)
    → (s.is_over ≡ false → counts s.framing s.number Input s.is_void ≡ true)
    → TellsOne before after_it Input next s t → StandsFor s bytes found → before (earlier ++ found)
    → HaveToldAllIf true after_it s.framing s.limits bytes earlier found t.whole
finished_some before after_it s t bytes next earlier found over live tells h was = by_test s.is_over refl
  where
    by_test : (b : Bool) → s.is_over ≡ b → HaveToldAllIf true after_it s.framing s.limits bytes earlier found t.whole
    by_test true e = absurd (over e)
    by_test false e = ends_counted before after_it s t bytes next earlier found (open_of s bytes found e h) tells (live e) was

-- ---- what was taken

pub taken_so_far : (s : Records) (bytes : List ℕ) (found : List Record) → StandsFor s bytes found → s.record.end ≡ length (take s.limits.bytes bytes)
taken_so_far s bytes found h = by_test s.is_over refl
  where
    length_beyond : (n : ℕ) (xs : List ℕ) → n ≤ length xs → n ≡ length (take n xs)
    length_beyond zero xs l = refl
    length_beyond (suc n) [] l = absurd (omega (arith, l))
    length_beyond (suc n) (x ∷ xs) l = ap suc (length_beyond n xs (omega (arith, l)))

    by_test : (b : Bool) → s.is_over ≡ b → s.record.end ≡ length (take s.limits.bytes bytes)
    by_test true e =
        let k = over_of s bytes found e h in
        let beyond = k.beyond in
        k.end ∙ length_beyond s.limits.bytes bytes (omega (arith, beyond))
    by_test false e =
        let k = open_of s bytes found e h in
        k.taken ∙ sym (ap length (take_all s.limits.bytes bytes k.fits))

pub over_where : (s : Records) (bytes : List ℕ) (found : List Record) → StandsFor s bytes found → s.is_over ≡ true → s.limits.bytes < length bytes
over_where s bytes found h e = (over_of s bytes found e h).beyond

pub where_over : (s : Records) (bytes : List ℕ) (found : List Record) → StandsFor s bytes found → s.limits.bytes < length bytes → s.is_over ≡ true
where_over s bytes found h l = by_test s.is_over refl
  where
    by_test : (b : Bool) → s.is_over ≡ b → s.is_over ≡ true
    by_test true e = e
    by_test false e =
        let k = open_of s bytes found e h in
        let fits = k.fits in
        absurd (omega (arith, l, fits))
