-- An input that a record has decided: each that begins so is the same as a whole.
use Rattle.gj_rules.proofs.Common.{Allowed, AreFindings, Bool, Entry, Framing, Input, IsNumberedVerdict, IsVerdict, Limit, Lines, List, Part, Record}
use Rattle.gj_rules.proofs.Common.{RecordEnd, SeqVerdict, Separator, Verdict, after, ap, append_assoc, entries_from, entries_in, entry_at, false}
use Rattle.gj_rules.proofs.Common.{first_number, if◌then◌else◌, is_too_long, is_valid, length, number_from, part_at, parts_from, refl, subst, suc}
use Rattle.gj_rules.proofs.Common.{sym, take, true, whole_from, whole_of, zero, [], ◌&&◌, ◌++◌, ◌+◌, ◌-◌, ◌∙◌, ◌∷◌, ◌≤◌}
use Rattle.std.proofs.Common.{◌≡◌, ℕ}
use Rattle.gj_coords.specs.Internal.KeptWarnings.{no_warnings}
use Rattle.gj_rules.specs.declared.records.Records.{Records}
use Rattle.gj_rules.specs.declared.records.framing.Framing.TheVariants.{Sequence}
use Rattle.gj_rules.specs.Internal.OpenParts.{IsOpen}
use Rattle.gj_rules.specs.RecordFindings.{IsWholeVerdict}
use Rattle.gj_rules.specs.Records.{parts_of, counts, is_counted, is_void}
use Rattle.gj_rules.specs.RecordsStand.{StandsFor}
use Rattle.gj_rules.specs.Sequence.{is_valid_sequence}
use Rattle.gj_rules.proofs.Parts.CountedParts.{entries-append, next_entries}
use Rattle.gj_rules.proofs.Parts.FoundRecords.{failing_stays, found-append, whole-append, first_to_fail}
use Rattle.gj_rules.proofs.Parts.OneFinding.{some_findings}
use Rattle.gj_rules.proofs.Parts.PartCuts.{part_on, void-append}
use Rattle.gj_rules.proofs.Parts.RecordSteps.{open_of, over_of, over_more, regrouped}
use Rattle.gj_rules.proofs.Texts.LinterEvents.{take_both}

-- ---- what is found, with more after it

both_found : (framing : Framing) (levels : ℕ) (entries others : List Entry) (found more : List Record) → AreFindings framing levels entries found
    → AreFindings framing levels others more
    → AreFindings framing levels (entries ++ others) (found ++ more)
both_found framing levels [] others [] more h k = k
both_found framing levels [] others (other ∷ found) more h k = absurd h
both_found framing levels (first ∷ entries) others [] more h k = absurd h
both_found framing levels (first ∷ entries) others (other ∷ found) more h k = (h.0, both_found framing levels entries others found more h.1 k)

pub whole_both : (verdict : SeqVerdict) (found more : List Record) → whole_from verdict (found ++ more) ≡ whole_from (whole_from verdict found) more
whole_both verdict [] more = refl
whole_both verdict (one ∷ found) more = whole_both (after verdict one) found more

whole_stays : (verdict : SeqVerdict) (more : List Record) → is_valid_sequence verdict ≡ false → whole_from verdict more ≡ verdict
whole_stays (SeqVerdict.Valid count warnings) more fails = absurd (cc)
whole_stays (SeqVerdict.Record number verdict) more fails = failing_stays number verdict more

-- an input whose first parts are these
lasts : ((limits : Allowed) (bytes : List ℕ) → (verdict : Verdict) × IsVerdict limits bytes verdict)
    → (framing : Framing) (limits : Allowed) (bytes : List ℕ) (done others : List Part) (found : List Record) → parts_of framing limits bytes ≡ done ++ others
    → AreFindings framing limits.depth (entries_in framing done) found → is_valid_sequence (whole_of found) ≡ false
    → IsWholeVerdict framing limits bytes (whole_of found)
lasts some framing limits bytes done others found split are fails =
    let more = entries_from framing (number_from framing (first_number framing) done) others in
    let rest = some_findings some framing limits.depth more in
    let entries = ap (entries_in framing) split ∙ entries-append framing (first_number framing) done others in (
      found ++ rest.0,
      subst (λ (es : List Entry). AreFindings framing limits.depth es (found ++ rest.0)) (sym entries)
          (both_found framing limits.depth (entries_in framing done) more found rest.0 are rest.1),
      sym (whole_both (SeqVerdict.Valid 0 _) found rest.0 ∙ whole_stays (whole_of found) rest.0 fails),
    )

-- ---- the parts, with more bytes

-- those that have ended are the first, and the open one goes on
parts_more : (s : Records) (bytes more : List ℕ) (found : List Record) (h : IsOpen s bytes found) → (last : RecordEnd) × (after_it : List ℕ)
    × (parts_of s.framing s.limits (bytes ++ more) ≡ h.done ++ parts_from s.framing last s.record.start (h.given ++ after_it))
parts_more s bytes more found h = by_test (is_too_long s.limits (bytes ++ more)) refl
  where
    room : ℕ
    room = s.limits.bytes - length bytes

    by_test : (b : Bool) → is_too_long s.limits (bytes ++ more) ≡ b → (last : RecordEnd) × (after_it : List ℕ)
        × (parts_of s.framing s.limits (bytes ++ more) ≡ h.done ++ parts_from s.framing last s.record.start (h.given ++ after_it))
    by_test true e = (
      Limit,
      take room more,
      ap (λ t. if t then parts_from s.framing Limit 0 (take s.limits.bytes (bytes ++ more)) else parts_from s.framing Input 0 (bytes ++ more)) e
          ∙ (ap (parts_from s.framing Limit 0) (take_both bytes more s.limits.bytes h.fits ∙ regrouped bytes h.before h.given (take room more) h.split)
          ∙ h.cut Limit (h.given ++ take room more)),
    )
    by_test false e = (
      Input,
      more,
      ap (λ t. if t then parts_from s.framing Limit 0 (take s.limits.bytes (bytes ++ more)) else parts_from s.framing Input 0 (bytes ++ more)) e
          ∙ (ap (parts_from s.framing Input 0) (regrouped bytes h.before h.given more h.split) ∙ h.cut Input (h.given ++ more)),
    )

-- ---- the whole

module _ (some : (limits : Allowed) (bytes : List ℕ) → (verdict : Verdict) × IsVerdict limits bytes verdict) where
  pub decided_lasts : (s : Records) (bytes more : List ℕ) (found : List Record) → StandsFor s bytes found
      → is_valid_sequence (whole_of found) ≡ false → IsWholeVerdict s.framing s.limits (bytes ++ more) (whole_of found)
  decided_lasts s bytes more found h fails = by_test s.is_over refl
    where
      by_test : (b : Bool) → s.is_over ≡ b → IsWholeVerdict s.framing s.limits (bytes ++ more) (whole_of found)
      by_test true e = (let k = over_of s (bytes ++ more) found e (over_more s bytes more found e h) in (found, k.are, refl))
      by_test false e =
          let k = open_of s bytes found e h in
          let (last, after_it, split) = parts_more s bytes more found k in
          lasts some s.framing s.limits (bytes ++ more) k.done _ found split k.are fails

  -- the open part is not valid, however it goes on
  pub open_lasts : (s : Records) (bytes more : List ℕ) (found : List Record) (h : IsOpen s bytes found) (verdict : Verdict) → s.is_void ≡ false
      → is_valid_sequence (whole_of found) ≡ true → is_valid verdict ≡ false
      → ((rest : List ℕ) (end : RecordEnd) → IsNumberedVerdict s.framing s.limits.depth s.number (part_at s.record.start (h.given ++ rest) end) verdict)
      → IsWholeVerdict s.framing s.limits (bytes ++ more) (SeqVerdict.Record s.number verdict)
  open_lasts s bytes more found h verdict some_given valid fails is =
      let (last, after_it, split) = parts_more s bytes more found h in
      let (rest, end, others, first) = part_on s.framing last s.record.start h.given after_it h.plain in
      let part = part_at s.record.start (h.given ++ rest) end in
      let one : Record = record { number = s.number; place = s.record.start; end = s.record.start + length (h.given ++ rest); verdict = verdict } in
      let void = void-append s.framing h.given rest ∙ ap (λ b. b && is_void s.framing rest) (sym h.void ∙ some_given) in
      let counted : is_counted s.framing s.number part ≡ true = ap (counts s.framing s.number end) void ∙ some_counts s.framing s.number end in
      let are = found-append s.framing s.limits.depth (entries_in s.framing h.done) found (entry_at s.number part) one h.are
      (record { number = refl; place = refl; end = refl; verdict = is rest end }) in
      let whole = whole-append (SeqVerdict.Valid 0 no_warnings) found one ∙ first_to_fail (whole_of found) one valid fails in
      subst (IsWholeVerdict s.framing s.limits (bytes ++ more)) whole
      (lasts some s.framing s.limits (bytes ++ more) (h.done ++ part ∷ []) others (found ++ one ∷ [])
      (split ∙ (ap (λ ps. h.done ++ ps) first ∙ sym (append_assoc h.done (part ∷ []) others)))
      (subst (λ (es : List Entry). AreFindings s.framing s.limits.depth es (found ++ one ∷ []))
      (sym (next_entries s.framing h.done part s.number true h.number counted)) are)
      (ap is_valid_sequence whole))
    where
      some_counts : (framing : Framing) (number : ℕ) (end : RecordEnd) → counts framing number end false ≡ true
      some_counts framing number Separator = refl
      some_counts framing number Limit = refl
      some_counts Lines number Input = refl
      some_counts Sequence zero Input = refl
      some_counts Sequence (suc n) Input = refl

-- what was reported so far
pub whole_so_far : (s : Records) (bytes : List ℕ) (found : List Record) → StandsFor s bytes found → s.whole ≡ whole_of found
whole_so_far s bytes found h = by_test s.is_over refl
  where
    by_test : (b : Bool) → s.is_over ≡ b → s.whole ≡ whole_of found
    by_test true e = (over_of s bytes found e h).whole
    by_test false e = (open_of s bytes found e h).whole

pub fits_so_far : (s : Records) (bytes : List ℕ) (found : List Record) → StandsFor s bytes found → is_valid_sequence s.whole ≡ true
    → length bytes ≤ s.limits.bytes
fits_so_far s bytes found h valid = by_test s.is_over refl
  where
    by_test : (b : Bool) → s.is_over ≡ b → length bytes ≤ s.limits.bytes
    by_test true e = let fails = (over_of s bytes found e h).fails in cc
    by_test false e = (open_of s bytes found e h).fits

pub valid_live : (s : Records) (bytes : List ℕ) (found : List Record) → StandsFor s bytes found → is_valid_sequence s.whole ≡ true → s.is_over ≡ false
valid_live s bytes found h valid = by_test s.is_over refl
  where
    by_test : (b : Bool) → s.is_over ≡ b → s.is_over ≡ false
    by_test true e = let fails = (over_of s bytes found e h).fails in cc
    by_test false e = e
