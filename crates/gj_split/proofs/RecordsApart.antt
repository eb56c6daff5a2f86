-- The records of an input, set apart: each valid one is a text without a fault, and both parts together have each of them.
use Rattle.gj_split.proofs.Common.{AllByRecursion, Allowed, Bool, Broken, Framing, IsText, IsTextWithin, IsVerdict, IsWhite, List, NotJson, Record}
use Rattle.gj_split.proofs.Common.{Text, Valid, Verdict, all-append, ap, append_assoc, false, inl, inr, length, line_feed, map, refl, split_records}
use Rattle.gj_split.proofs.Common.{subst, suc, sym, text_faults, true, ℕ, [], ◌++◌, ◌∙◌, ◌∷◌, ◌≡◌}
use Rattle.std.proofs.Common.{zero}
use Rattle.gj_json.specs.Text.{SpellsMark}
use Rattle.gj_json.specs.declared.fault.Cause.{Cause}
use Rattle.gj_json.specs.declared.fault.Cause.TheVariants.{Syntax, Truncated, Depth, Length}
use Rattle.gj_rules.specs.declared.records.framing.Framing.TheVariants.{Sequence, Lines}
use Rattle.gj_rules.specs.declared.records.framing.RecordEnd.{RecordEnd}
use Rattle.gj_rules.specs.declared.records.framing.RecordEnd.TheVariants.{Separator, Input, Limit}
use Rattle.gj_rules.specs.RecordFindings.{ended_as, IsNumberedVerdict, IsFinding, AreFindings, AreAllFindings}
use Rattle.gj_rules.specs.Records.{Part, Entry, entries_of}
use Rattle.gj_rules.specs.Sequence.{shifted_verdict, ends_in_line_feed, if_ended, if_cut, cut_fault, own_limits, is_valid}
use Rattle.gj_split.specs.Split.{IsMerged, none_left, from_first, from_second}
use Rattle.gj_split.specs.RecordSplit.{text_in, found_text, with_record, entry_text, all_records}
use Rattle.gj_split.proofs.RecordTexts.{HasText, ended, bare, has_text, Stands, entries_stand, own_of_part}
use Rattle.gj_split.proofs.SequencesOfTexts.{IsSoundLine}
use Rattle.gj_split.proofs.SpelledBytes.{AreInText, InText, all-map, no_separator_byte, value_ends, white_in}

-- ---- what a valid record is

still_not : (end : ℕ) (cause : Cause) (place : ℕ) → is_valid (cut_fault cause place end) ≡ false
still_not end Syntax place = refl
still_not end other place = refl

not_cut : (end : ℕ) (own : Verdict) → is_valid (if_cut end own) ≡ false
not_cut end (Valid warnings) = refl
not_cut end (Broken fault) = refl
not_cut end (NotJson fault) = still_not end fault.cause fault.place

not_ended : (t : Bool) (end : ℕ) (own : Verdict) → is_valid own ≡ false → is_valid (if_ended t end own) ≡ false
not_ended true end own e = e
not_ended false end (Valid warnings) e = refl
not_ended false end other e = refl

-- a text that is not valid is no valid record
stays_invalid : (framing : Framing) (ending : RecordEnd) (t : Bool) (end : ℕ) (own : Verdict) → is_valid own ≡ false
    → is_valid (ended_as framing ending t end own) ≡ false
stays_invalid Sequence Separator t end own e = not_ended t end own e
stays_invalid Sequence Input t end own e = not_ended t end own e
stays_invalid Sequence Limit t end own e = not_cut end own
stays_invalid Lines Separator t end own e = e
stays_invalid Lines Input t end own e = e
stays_invalid Lines Limit t end own e = not_cut end own

same_shifted : (by : ℕ) (own : Verdict) → is_valid (shifted_verdict by own) ≡ is_valid own
same_shifted by (Valid warnings) = refl
same_shifted by other = refl

-- the bytes are a text without a fault
record IsSound (levels : ℕ) (bytes : List ℕ) : Type 0 where
  text : Text
  spelled : IsTextWithin levels text bytes
  sound : text_faults text ≡ []

valid_is_sound : (framing : Framing) (levels number : ℕ) (part : Part) (verdict : Verdict) → IsNumberedVerdict framing levels number part verdict
    → is_valid verdict ≡ true → IsSound levels part.bytes
valid_is_sound framing levels zero part verdict h e =
    let f : is_valid verdict ≡ false = ap is_valid h in
    let none : true ≡ false = sym e ∙ f in
    cc
valid_is_sound framing levels (suc n) part verdict h e = by_own h.0 h.1
    (sym (same_shifted part.start _) ∙ (ap is_valid (sym h.2) ∙ e))
  where
    by_own : (own : Verdict) → IsVerdict (own_limits levels part.bytes) part.bytes own
        → is_valid (ended_as framing part.end (ends_in_line_feed part.bytes) (length part.bytes) own) ≡ true → IsSound levels part.bytes
    by_own (Valid warnings) k v = record { text = k.0; spelled = k.1.0; sound = k.2 }
    by_own (Broken fault) k v =
        let f = stays_invalid framing part.end (ends_in_line_feed part.bytes) (length part.bytes) (Broken fault) refl in
        let none : true ≡ false = sym v ∙ f in
        cc
    by_own (NotJson fault) k v =
        let f = stays_invalid framing part.end (ends_in_line_feed part.bytes) (length part.bytes) (NotJson fault) refl in
        let none : true ≡ false = sym v ∙ f in
        cc

-- ---- the bytes of a text

mark_plain : (marked : Bool) (bytes : List ℕ) → SpellsMark marked 0 bytes → AreInText bytes
mark_plain true bytes h = subst AreInText (sym h) (no_separator_byte _ refl, (no_separator_byte _ refl, (no_separator_byte _ refl, tt)))
mark_plain false bytes h = subst AreInText (sym h) tt

white_plain : (bytes : List ℕ) → AllByRecursion IsWhite bytes → AreInText bytes
white_plain bytes h = all-map IsWhite InText white_in bytes h

-- no separator stands in a text
text_plain : (text : Text) (bytes : List ℕ) → IsText text bytes → AreInText bytes
text_plain text bytes h =
    let v = value_ends text.value _ h.after.after.first h.after.after.before in
    let last = all-append InText h.after.after.first h.after.after.rest v.1 (white_plain h.after.after.rest h.after.after.after) in
    let after = all-append InText h.after.first h.after.rest (white_plain h.after.first h.after.before) (subst AreInText (sym h.after.after.joined) last) in
    subst AreInText (sym h.joined) (all-append InText h.first h.rest (mark_plain text.marked h.first h.before) (subst AreInText (sym h.after.joined) after))

plain_before : (xs ys : List ℕ) → AreInText (xs ++ ys) → AreInText xs
plain_before [] ys h = tt
plain_before (x ∷ xs) ys h = (h.0, plain_before xs ys h.1)

white_more : (bytes more : List ℕ) → AllByRecursion IsWhite bytes → AllByRecursion IsWhite more → AllByRecursion IsWhite (bytes ++ more)
white_more bytes more h k = all-append IsWhite bytes more h k

-- white space may follow a text
text_more : (text : Text) (bytes more : List ℕ) → AllByRecursion IsWhite more → IsText text bytes → IsText text (bytes ++ more)
text_more text bytes more w h = record {
  first = h.first;
  rest = h.rest ++ more;
  joined = ap (λ xs. xs ++ more) h.joined ∙ append_assoc h.first h.rest more;
  before = h.before;
  after = record {
    first = h.after.first;
    rest = h.after.rest ++ more;
    joined = ap (λ xs. xs ++ more) h.after.joined ∙ append_assoc h.after.first h.after.rest more;
    before = h.after.before;
    after = record {
      first = h.after.after.first;
      rest = h.after.after.rest ++ more;
      joined = ap (λ xs. xs ++ more) h.after.after.joined ∙ append_assoc h.after.after.first h.after.after.rest more;
      before = h.after.after.before;
      after = white_more h.after.after.rest more h.after.after.after w;
    };
  };
}

-- with LF after it, the text of such a record is one of a sequence
sound_line : (levels : ℕ) (bytes : List ℕ) → IsSound levels bytes → IsSoundLine levels (text_in bytes)
sound_line levels bytes h = by_end (has_text bytes)
  where
    by_end : HasText bytes → IsSoundLine levels (text_in bytes)
    by_end (ended e) = record {
      text = h.text;
      spelled = subst (IsTextWithin levels h.text) e h.spelled;
      sound = h.sound;
      plain = plain_before (text_in bytes) (line_feed ∷ []) (subst AreInText e (text_plain h.text bytes h.spelled.0));
    }
    by_end (bare e) = record {
      text = h.text;
      spelled = (text_more h.text (text_in bytes) (line_feed ∷ []) (inr (inr (inl refl)), tt) (subst (IsText h.text) e h.spelled.0), h.spelled.1);
      sound = h.sound;
      plain = subst AreInText e (text_plain h.text bytes h.spelled.0);
    }

-- ---- all records

abbrev AllStand : List ℕ → List Entry → Type 0
AllStand bytes entries = AllByRecursion (λ entry. Stands bytes entry.part) entries

own_text : (framing : Framing) (levels : ℕ) (bytes : List ℕ) (entry : Entry) (found : Record) → Stands bytes entry.part → IsFinding framing levels entry found
    → found_text bytes found ≡ entry_text entry
own_text framing levels bytes entry found s h = ap text_in (own_of_part bytes entry.part found.place found.end h.place h.end s)

sound_from : (framing : Framing) (levels : ℕ) (bytes : List ℕ) (entries : List Entry) (found : List Record) → AllStand bytes entries
    → AreFindings framing levels entries found → AllByRecursion (IsSoundLine levels) (split_records bytes found).valid
sound_from framing levels bytes [] [] s h = tt
sound_from framing levels bytes [] (f ∷ found) s h = absurd h
sound_from framing levels bytes (entry ∷ entries) [] s h = absurd h
sound_from framing levels bytes (entry ∷ entries) (f ∷ found) s h = by_verdict f.verdict refl (sound_from framing levels bytes entries found s.1 h.1)
  where
    by_verdict : (verdict : Verdict) → f.verdict ≡ verdict → AllByRecursion (IsSoundLine levels) (split_records bytes found).valid
        → AllByRecursion (IsSoundLine levels) (with_record verdict (found_text bytes f) (split_records bytes found)).valid
    by_verdict (Valid warnings) e k = (
      subst (IsSoundLine levels) (sym (own_text framing levels bytes entry f s.0 h.0))
          (sound_line levels entry.part.bytes (valid_is_sound framing levels entry.number entry.part f.verdict h.0.verdict (ap is_valid e))),
      k,
    )
    by_verdict (Broken fault) e k = k
    by_verdict (NotJson fault) e k = k

pub sound_records : (framing : Framing) (limits : Allowed) (bytes : List ℕ) (found : List Record) → AreAllFindings framing limits bytes found
    → AllByRecursion (IsSoundLine limits.depth) (split_records bytes found).valid
sound_records framing limits bytes found h =
    sound_from framing limits.depth bytes (entries_of framing limits bytes) found (entries_stand framing limits bytes) h

merged_from : (framing : Framing) (levels : ℕ) (bytes : List ℕ) (entries : List Entry) (found : List Record) → AllStand bytes entries
    → AreFindings framing levels entries found
    → IsMerged (split_records bytes found).valid (split_records bytes found).broken (map entry_text entries)
merged_from framing levels bytes [] [] s h = none_left
merged_from framing levels bytes [] (f ∷ found) s h = absurd h
merged_from framing levels bytes (entry ∷ entries) [] s h = absurd h
merged_from framing levels bytes (entry ∷ entries) (f ∷ found) s h =
    subst (λ own. IsMerged (split_records bytes (f ∷ found)).valid (split_records bytes (f ∷ found)).broken (own ∷ map entry_text entries))
    (own_text framing levels bytes entry f s.0 h.0) (by_verdict f.verdict (merged_from framing levels bytes entries found s.1 h.1))
  where
    by_verdict : (verdict : Verdict) → IsMerged (split_records bytes found).valid (split_records bytes found).broken (map entry_text entries)
        → IsMerged (with_record verdict (found_text bytes f) (split_records bytes found)).valid
        (with_record verdict (found_text bytes f) (split_records bytes found)).broken
        (found_text bytes f ∷ map entry_text entries)
    by_verdict (Valid warnings) k = from_first (found_text bytes f) k
    by_verdict other k = from_second (found_text bytes f) k

pub merged_records : (framing : Framing) (limits : Allowed) (bytes : List ℕ) (found : List Record) → AreAllFindings framing limits bytes found
    → IsMerged (split_records bytes found).valid (split_records bytes found).broken (all_records framing limits bytes)
merged_records framing limits bytes found h =
    merged_from framing limits.depth bytes (entries_of framing limits bytes) found (entries_stand framing limits bytes) h
