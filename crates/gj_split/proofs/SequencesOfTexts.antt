-- Valid texts, each as a record, are a valid sequence.
use Rattle.gj_split.proofs.Common.{AllByRecursion, Allowed, Broken, IsAdmitted, IsRefusal, IsText, IsTextWithin, IsValidSequence, IsVerdict, List}
use Rattle.gj_split.proofs.Common.{None, NotJson, Some, Text, Valid, Verdict, add-zero, all-append, ap, arith, false, inl, inr, length, line_feed}
use Rattle.gj_split.proofs.Common.{ne_eqb, refl, separator, subst, suc, sym, text_faults, true, ℕ, [], ◌++◌, ◌+◌, ◌<◌, ◌∙◌, ◌∷◌, ◌≡◌, ◌≤◌}
use Rattle.std.proofs.lemmas.Bool.{le-ltb}
use Rattle.std.proofs.lemmas.List.{append-nil, take_all}
use Rattle.gj_json.specs.declared.fault.JsonFault.{JsonFault}
use Rattle.gj_coords.specs.Fault.{least}
use Rattle.gj_coords.specs.Internal.KeptWarnings.{no_warnings, joined, shifted}
use Rattle.gj_coords.specs.declared.warnings.Warnings.{Warnings}
use Rattle.gj_rules.specs.Sequence.{is_separator, begins_with_separator, up_to_separator, SequenceRecord, records_from, records_of}
use Rattle.gj_rules.specs.Sequence.{ends_in_line_feed, own_limits, IsRecordVerdict, AllValid, is_stray}
use Rattle.gj_split.specs.Split.{sequence_of}
use Rattle.gj_split.proofs.RecordTexts.{last_of_more}
use Rattle.gj_split.proofs.SpelledBytes.{AreInText, InText, no_separator_byte}
use Rattle.gj_split.proofs.TextsAlone.{IsSoundAlone}

-- a text without a fault, with LF after it, and no separator in it
pub record IsSoundLine (levels : ℕ) (own : List ℕ) : Type 0 where
  pub text : Text
  pub spelled : IsTextWithin levels text (own ++ line_feed ∷ [])
  pub sound : text_faults text ≡ []
  pub plain : AreInText own

pub sound_lines : (levels : ℕ) (texts : List (List ℕ)) → AllByRecursion (IsSoundAlone levels) texts → AllByRecursion (IsSoundLine levels) texts
sound_lines levels [] h = tt
sound_lines levels (own ∷ more) h = (
  record { text = h.0.alone.text; spelled = h.0.alone.spelled (line_feed ∷ []) (inr (inr (inl refl)), tt); sound = h.0.sound; plain = h.0.alone.plain },
  sound_lines levels more h.1,
)

-- ---- bytes without a separator

plain_first : (b : ℕ) → InText b → is_separator b ≡ false
plain_first b h = ne_eqb b separator h

begins_plain : (bytes more : List ℕ) → 0 < length bytes → AreInText bytes → begins_with_separator (bytes ++ more) ≡ false
begins_plain [] more l h = absurd (omega (arith, l))
begins_plain (b ∷ bytes) more l h = plain_first b h.0

up_to_plain : (bytes more : List ℕ) → AreInText bytes → up_to_separator (bytes ++ more) ≡ bytes ++ up_to_separator more
up_to_plain [] more h = refl
up_to_plain (b ∷ bytes) more h = let e = plain_first b h.0 in rw e (ap (λ xs. b ∷ xs) (up_to_plain bytes more h.1))

past_plain : (place : ℕ) (bytes more : List ℕ) → AreInText bytes → records_from false place (bytes ++ more) ≡ records_from false (place + length bytes) more
past_plain place [] more h = ap (λ n. records_from false n more) (sym (add-zero place))
past_plain place (b ∷ bytes) more h =
    let e = plain_first b h.0 in
    rw e (past_plain (place + 1) bytes more h.1 ∙ ap (λ n. records_from false n more) (one_on place (length bytes)))
  where
    one_on : (p n : ℕ) → p + 1 + n ≡ p + suc n
    one_on p n = omega arith

-- ---- the records of a sequence

abbrev line_of : List ℕ → List ℕ
line_of own = own ++ line_feed ∷ []

abbrev record_at : ℕ → List ℕ → SequenceRecord
record_at place own = record { start = place + 1; bytes = line_of own; is_cut = false }

abbrev records_at : ℕ → List (List ℕ) → List SequenceRecord
records_at place [] = []
records_at place (own ∷ more) = record_at place own ∷ records_at (place + 1 + length (line_of own)) more

up_to_none : (texts : List (List ℕ)) → up_to_separator (sequence_of texts) ≡ []
up_to_none [] = refl
up_to_none (own ∷ more) = refl

line_plain : (own : List ℕ) → AreInText own → AreInText (line_of own)
line_plain own h = all-append InText own (line_feed ∷ []) h (no_separator_byte line_feed refl, tt)

line_long : (own : List ℕ) → 0 < length (line_of own)
line_long [] = omega arith
line_long (b ∷ own) = omega arith

first_record : (place : ℕ) (line rest : List ℕ) → 0 < length line → AreInText line → up_to_separator rest ≡ [] →
    records_from false place (separator ∷ (line ++ rest)) ≡ record { start = place + 1; bytes = line; is_cut = false } ∷ records_from false
    (place + 1 + length line) rest
first_record place line rest l h e =
    let b = begins_plain line rest l h in
    let u = up_to_plain line rest h ∙ (ap (λ xs. line ++ xs) e ∙ append-nil line) in
    rw (b, u, past_plain (place + 1) line rest h) refl

cut : (place : ℕ) (texts : List (List ℕ)) → AllByRecursion AreInText texts → records_from false place (sequence_of texts) ≡ records_at place texts
cut place [] h = refl
cut place (own ∷ more) h =
    first_record place (line_of own) (sequence_of more) (line_long own) (line_plain own h.0) (up_to_none more)
    ∙ ap (λ rs. record_at place own ∷ rs) (cut (place + 1 + length (line_of own)) more h.1)

as_many : (place : ℕ) (texts : List (List ℕ)) → length texts ≡ length (records_at place texts)
as_many place [] = refl
as_many place (own ∷ more) = ap suc (as_many (place + 1 + length (line_of own)) more)

line_ends : (own : List ℕ) → ends_in_line_feed (line_of own) ≡ true
line_ends own = rw (last_of_more separator line_feed own) refl

-- ---- each is valid

module _ (some : (limits : Allowed) (bytes : List ℕ) → (verdict : Verdict) × IsVerdict limits bytes verdict)
    (one_text : (first second : Text) (bytes : List ℕ) → IsText first bytes → IsText second bytes → first ≡ second)
    (never_both : (limits : Allowed) (bytes : List ℕ) (fault : JsonFault) (text : Text) → IsRefusal limits bytes fault → IsAdmitted limits text bytes → ⊥) where
  valid_verdict : (limits : Allowed) (text : Text) (bytes : List ℕ) → IsAdmitted limits text bytes → text_faults text ≡ [] → (warnings : Warnings)
      × IsVerdict limits bytes (Valid warnings)
  valid_verdict limits text bytes h e = let v = some limits bytes in by_verdict v.0 v.1
    where
      by_verdict : (verdict : Verdict) → IsVerdict limits bytes verdict → (warnings : Warnings) × IsVerdict limits bytes (Valid warnings)
      by_verdict (Valid warnings) k = (warnings, k)
      by_verdict (Broken fault) k =
          let f : least (text_faults text) ≡ Some fault = subst (λ t. least (text_faults t) ≡ Some fault) (one_text k.0 text bytes k.1.0.0 h.0.0) k.2 in
          let g : None ≡ Some fault = ap least (sym e) ∙ f in
          cc
      by_verdict (NotJson fault) k = absurd (never_both limits bytes fault text k h)

  valid_record : (levels place : ℕ) (own : List ℕ) → IsSoundLine levels own → (warnings : Warnings)
      × IsRecordVerdict levels (record_at place own) (Valid warnings)
  valid_record levels place own h =
      let v = valid_verdict (own_limits levels (line_of own)) h.text (line_of own) (h.spelled, omega arith) h.sound in
      (shifted v.0 (place + 1), (Valid v.0, v.1, rw (line_ends own) refl))

  all_valid : (levels place : ℕ) (texts : List (List ℕ)) → AllByRecursion (IsSoundLine levels) texts → (warnings : Warnings)
      × AllValid levels (records_at place texts) warnings
  all_valid levels place [] h = (no_warnings, refl)
  all_valid levels place (own ∷ more) h =
      let v = valid_record levels place own h.0 in
      let w = all_valid levels (place + 1 + length (line_of own)) more h.1 in
      (joined v.0 w.0, (v.0, w.0, v.1, w.1, refl))

  are_plain : (levels : ℕ) (texts : List (List ℕ)) → AllByRecursion (IsSoundLine levels) texts → AllByRecursion AreInText texts
  are_plain levels [] h = tt
  are_plain levels (own ∷ more) h = (h.0.plain, are_plain levels more h.1)

  not_stray : (texts : List (List ℕ)) → is_stray (sequence_of texts) ≡ false
  not_stray [] = refl
  not_stray (own ∷ more) = refl

  within_limits : (limits : Allowed) (bytes : List ℕ) → length bytes ≤ limits.bytes → records_of limits bytes ≡ records_from false 0 bytes
  within_limits limits bytes l = rw (le-ltb limits.bytes (length bytes) l, take_all limits.bytes bytes l) refl

  pub valid_sequence : (levels : ℕ) (texts : List (List ℕ)) → AllByRecursion (IsSoundLine levels) texts
      → IsValidSequence levels (length texts) (sequence_of texts)
  valid_sequence levels texts h most l =
      let limits : Allowed = record { depth = levels; bytes = most } in
      let v = all_valid levels 0 texts h in
      let e : records_of limits (sequence_of texts) ≡ records_at 0 texts =
      within_limits limits (sequence_of texts) l ∙ cut 0 texts (are_plain levels texts h) in
      (v.0, rw (not_stray texts, e) (v.1, as_many 0 texts))
