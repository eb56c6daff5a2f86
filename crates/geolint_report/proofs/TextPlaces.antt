-- The places of a text, or of a record: the bytes up to one can go on.
use Rattle.geolint_report.proofs.Common.{arith, refl, inl, inr, ◌⊎◌, ◌≡◌, ◌≤◌, ◌<◌, ℕ, ◌+◌, ◌-◌, ◌^◌, ◌∷◌, [], List, length, take, drop, get_or, ap, sym}
use Rattle.geolint_report.proofs.Common.{◌∙◌, subst, true, false, Option, Some, None, Contains, Framing, Site}
use Rattle.std.proofs.Common.{◌||◌, ◌&&◌, zero, suc, Bool, not, if◌then◌else◌, length-take-le}
use Rattle.std.proofs.lemmas.Bool.Decides.{nat_tests}
use Rattle.std.proofs.lemmas.List.{take-append-drop, take-take, length-take}
use Rattle.std.proofs.lemmas.Bool.{and_parts, or_right, or_from}
use Rattle.gj_json.specs.Limits.{Allowed, IsAllowed}
use Rattle.gj_json.specs.Text.{IsTextWithin}
use Rattle.gj_json.specs.Tree.{Text}
use Rattle.gj_rules.specs.declared.records.framing.Framing.TheVariants.{Sequence, Lines}
use Rattle.gj_rules.specs.declared.records.framing.RecordEnd.{RecordEnd}
use Rattle.gj_rules.specs.declared.records.framing.RecordEnd.TheVariants.{Separator, Input, Limit}
use Rattle.gj_rules.specs.Records.{Part, part_at, parts_from, parts_of, with_first, is_too_long}
use Rattle.gj_rules.specs.Sequence.{is_separator as is_RS, has_separator as has_RS, begins_with_separator, up_to_separator, SequenceRecord, records_from}
use Rattle.gj_rules.specs.Sequence.{records_of}
use Rattle.geolint_report.specs.Sites.{is_separator, has_separator, last_record, CanGoOn, IsUnderWay, IsInText, ToldBy, ToldInTextsBy}

-- some bytes of a text can go on
CanGoOn-take : (limits : Allowed) (bytes : List ℕ) (n : ℕ) (text : Text) → IsTextWithin limits.depth text bytes → n ≤ length bytes → n ≤ limits.bytes
    → CanGoOn limits (take n bytes)
CanGoOn-take limits bytes n text is within fits = (
  (drop n bytes, text, subst (λ (ys : List ℕ). IsTextWithin limits.depth text ys) (sym (take-append-drop n bytes)) is),
  omega
      (arith, length-take-le n bytes within, fits),
)

-- ---- parts

-- the bytes before the next separator
abbrev up_to : Framing → List ℕ → List ℕ
up_to framing [] = []
up_to framing (byte ∷ more) = if is_separator framing byte then [] else byte ∷ up_to framing more

-- the bytes up to the n-th of a record that begins so far after others
record EndsIn (framing : Framing) (bytes : List ℕ) (from start n : ℕ) (own : List ℕ) : Type 0 where
  before : ℕ
  begins : start ≡ from + before
  within : before + n ≤ length bytes
  begun : has_separator framing (take (before + n) bytes) ≡ true
  ends : last_record framing (take (before + n) bytes) ≡ take n own

module _ (framing : Framing) where
  last_record-plain : (bytes : List ℕ) → has_separator framing bytes ≡ false → last_record framing bytes ≡ bytes
  last_record-plain [] none = refl
  last_record-plain (byte ∷ more) none = ap (λ (b : Bool). if b then last_record framing more else byte ∷ more) none

  -- what stands before the next separator
  plain-by : (b : Bool) (byte n : ℕ) (more : List ℕ) → is_separator framing byte ≡ b → n ≤ length (if b then [] else byte ∷ up_to framing more)
      → ((k : ℕ) → k ≤ length (up_to framing more) → has_separator framing (take k more) ≡ false) → has_separator framing (take n (byte ∷ more)) ≡ false
  plain-by b byte zero more is within rest = refl
  plain-by true byte (suc n) more is within rest = absurd (omega (arith, within))
  plain-by false byte (suc n) more is within rest =
      or_from (is_separator framing byte) (has_separator framing (take n more)) is (rest n (omega (arith, within)))

  plain-front : (bytes : List ℕ) (n : ℕ) → n ≤ length (up_to framing bytes) → has_separator framing (take n bytes) ≡ false
  plain-front [] zero within = refl
  plain-front [] (suc n) within = refl
  plain-front (byte ∷ more) n within = plain-by (is_separator framing byte) byte n more refl within (plain-front more)

  same-by : (b : Bool) (byte n : ℕ) (more : List ℕ) → n ≤ length (if b then [] else byte ∷ up_to framing more)
      → ((k : ℕ) → k ≤ length (up_to framing more) → (k ≤ length more) × (take k more ≡ take k (up_to framing more)))
      → (n ≤ length (byte ∷ more)) × (take n (byte ∷ more) ≡ take n (if b then [] else byte ∷ up_to framing more))
  same-by true byte zero more within rest = (omega arith, refl)
  same-by true byte (suc n) more within rest = absurd (omega (arith, within))
  same-by false byte zero more within rest = (omega arith, refl)
  same-by false byte (suc n) more within rest =
      let (stored, same) = rest n (omega (arith, within)) in
      (omega (arith, stored), ap (λ (ys : List ℕ). byte ∷ ys) same)

  same-front : (bytes : List ℕ) (n : ℕ) → n ≤ length (up_to framing bytes) → (n ≤ length bytes) × (take n bytes ≡ take n (up_to framing bytes))
  same-front [] n within = (within, refl)
  same-front (byte ∷ more) n within = same-by (is_separator framing byte) byte n more within (same-front more)

  -- the record that a separator begins
  ends-first : (byte from n : ℕ) (more : List ℕ) → is_separator framing byte ≡ true → n ≤ length (up_to framing more)
      → EndsIn framing (byte ∷ more) from (from + 1) n (up_to framing more)
  ends-first byte from n more is within =
      let (stored, same) = same-front more n within in
      let begun : has_separator framing (byte ∷ take n more) ≡ true = ap (λ (b : Bool). b || has_separator framing (take n more)) is in
      let sum : 1 + n ≡ suc n = omega arith in
      let reach : take (1 + n) (byte ∷ more) ≡ byte ∷ take n more = ap (λ (k : ℕ). take k (byte ∷ more)) sum in
      record {
        before = 1;
        begins = refl;
        within = omega (arith, stored);
        begun = ap (λ (ys : List ℕ). has_separator framing ys) reach ∙ begun;
        ends = ap (λ (ys : List ℕ). last_record framing ys) reach
            ∙ (ap (λ (b : Bool). if b then last_record framing (take n more) else byte ∷ take n more) begun
            ∙ (last_record-plain (take n more) (plain-front more n within) ∙ same));
      }

  -- one that begins later
  ends-later : (byte from start n : ℕ) (more own : List ℕ) → EndsIn framing more (from + 1) start n own → EndsIn framing (byte ∷ more) from start n own
  ends-later byte from start n more own ends =
      let later = ends.before + n in
      let begun : has_separator framing (byte ∷ take later more) ≡ true =
      or_right (is_separator framing byte) (has_separator framing (take later more)) ends.begun in
      let sum : ends.before + 1 + n ≡ suc later = omega arith in
      let reach : take (ends.before + 1 + n) (byte ∷ more) ≡ byte ∷ take later more = ap (λ (k : ℕ). take k (byte ∷ more)) sum in
      let within = ends.within in
      let begins = ends.begins in
      record {
        before = ends.before + 1;
        begins = omega (arith, begins);
        within = omega (arith, within);
        begun = ap (λ (ys : List ℕ). has_separator framing ys) reach ∙ begun;
        ends = ap (λ (ys : List ℕ). last_record framing ys) reach
            ∙ (ap (λ (b : Bool). if b then last_record framing (take later more) else byte ∷ take later more) begun ∙ ends.ends);
      }

-- ---- the records of a sequence

up_to-same : (bytes : List ℕ) → up_to Sequence bytes ≡ up_to_separator bytes
up_to-same [] = refl
up_to-same (byte ∷ more) = ap (λ (ys : List ℕ). if is_separator Sequence byte then [] else byte ∷ ys) (up_to-same more)

first-ends : (byte from n : ℕ) (more : List ℕ) → is_separator Sequence byte ≡ true → n ≤ length (up_to_separator more)
    → EndsIn Sequence (byte ∷ more) from (from + 1) n (up_to_separator more)
first-ends byte from n more is fits =
    subst (λ (ys : List ℕ). EndsIn Sequence (byte ∷ more) from (from + 1) n ys) (up_to-same more)
    (ends-first Sequence byte from n more is (subst (λ (ys : List ℕ). n ≤ length ys) (sym (up_to-same more)) fits))

found-by : (b : Bool) (first r : SequenceRecord) (rest : List SequenceRecord) (k : ℕ) → k < length (if b then first ∷ rest else rest)
    → get_or (if b then first ∷ rest else rest) k r ≡ r → ((b ≡ true) × (first ≡ r)) ⊎ Contains rest r
found-by true first r rest zero within is = inl (refl, is)
found-by true first r rest (suc k) within is = inr (k, omega (arith, within), is)
found-by false first r rest k within is = inr (k, within, is)

record-ends : (is_cut : Bool) (from : ℕ) (bytes : List ℕ) (r : SequenceRecord) (n : ℕ) → Contains (records_from is_cut from bytes) r → n ≤ length r.bytes
    → EndsIn Sequence bytes from r.start n r.bytes
record-ends is_cut from [] r n (k, within, is) fits = absurd (omega (arith, within))
record-ends is_cut from (byte ∷ more) r n (k, within, is) fits =
    let first : SequenceRecord = record { start = from + 1; bytes = up_to_separator more; is_cut = is_cut && not (has_RS more) } in
    elim (found-by (is_RS byte && not (begins_with_separator more)) first r (records_from is_cut (from + 1) more) k within is) [
      | inl found ↦ subst (λ (s : SequenceRecord). EndsIn Sequence (byte ∷ more) from s.start n s.bytes) found.1
          (first-ends byte from n more (and_parts (is_RS byte) (not (begins_with_separator more)) found.0).0
          (subst (λ (s : SequenceRecord). n ≤ length s.bytes) (sym found.1) fits))
      | inr later ↦ ends-later Sequence byte from r.start n more r.bytes (record-ends is_cut (from + 1) more r n later fits)
    ]

place-in-record : (limits : Allowed) (bytes : List ℕ) (place : ℕ) (r : SequenceRecord) (text : Text) → IsAllowed limits.depth limits.bytes
    → Contains (records_of limits bytes) r
    → IsTextWithin limits.depth text r.bytes → r.start ≤ place → place < r.start + length r.bytes → IsUnderWay limits (Some Sequence) (take (place + 1) bytes)
place-in-record limits bytes place r text allowed contained is begun within =
    let n = place + 1 - r.start in
    let fits : n ≤ length r.bytes = omega (arith, begun, within) in
    let read = take limits.bytes bytes in
    let ends = record-ends _ 0 read r n contained fits in
    let most = allowed.most_bytes in
    let begins = ends.begins in
    let inside = ends.within in
    let reach : ends.before + n ≡ place + 1 = omega (arith, begins, begun) in
    let short : place + 1 ≤ limits.bytes = omega (arith, reach, inside, length-take limits.bytes bytes) in
    let same : take (ends.before + n) read ≡ take (place + 1) bytes = ap (λ (k : ℕ). take k read) reach ∙ take-take (place + 1) limits.bytes bytes short in
    let own : Allowed = record { depth = limits.depth; bytes = 2 ^ 60 } in (
      subst (λ (ys : List ℕ). has_separator Sequence ys ≡ true) same ends.begun,
      subst (λ (ys : List ℕ). CanGoOn own ys) (sym ends.ends ∙ ap (λ (ys : List ℕ). last_record Sequence ys) same)
          (CanGoOn-take own r.bytes n text is fits (omega (arith, short, most))),
    )

-- ---- lines

-- the first part of some bytes, and those after it
record Parted (framing : Framing) (last : RecordEnd) (from : ℕ) (bytes : List ℕ) : Type 0 where
  first : Part
  rest : List Part
  are : parts_from framing last from bytes ≡ first ∷ rest
  begins : first.start ≡ from
  holds : first.bytes ≡ up_to framing bytes
  later : (part : Part) (n : ℕ) → Contains rest part → n ≤ length part.bytes → EndsIn framing bytes from part.start n part.bytes

module _ (framing : Framing) (last : RecordEnd) where
  part-ends : (byte from : ℕ) (more : List ℕ) (parted : Parted framing last (from + 1) more) (part : Part) (n k : ℕ) → is_separator framing byte ≡ true
      → k < length (parted.first ∷ parted.rest) → get_or (parted.first ∷ parted.rest) k part ≡ part → n ≤ length part.bytes
      → EndsIn framing (byte ∷ more) from part.start n part.bytes
  part-ends byte from more parted part n zero is within same fits =
      let own : up_to framing more ≡ part.bytes = sym parted.holds ∙ ap (λ (p : Part). p.bytes) same in
      let start : from + 1 ≡ part.start = sym parted.begins ∙ ap (λ (p : Part). p.start) same in
      subst (λ (s : ℕ). EndsIn framing (byte ∷ more) from s n part.bytes) start
      (subst (λ (ys : List ℕ). EndsIn framing (byte ∷ more) from (from + 1) n ys) own
      (ends-first framing byte from n more is (subst (λ (ys : List ℕ). n ≤ length ys) (sym own) fits)))
  part-ends byte from more parted part n (suc k) is within same fits =
      ends-later framing byte from part.start n more part.bytes (parted.later part n (k, omega (arith, within), same) fits)

  parted-by : (b : Bool) (byte from : ℕ) (more : List ℕ) → is_separator framing byte ≡ b → Parted framing last (from + 1) more
      → Parted framing last from (byte ∷ more)
  parted-by true byte from more is parted = record {
    first = part_at from [] Separator;
    rest = parts_from framing last (from + 1) more;
    are = ap (λ (b : Bool). if b then part_at from [] Separator ∷ parts_from framing last (from + 1) more else with_first from byte
        (parts_from framing last (from + 1) more)) is;
    begins = refl;
    holds = ap (λ (b : Bool). if b then [] else byte ∷ up_to framing more) (sym is);
    later = λ part n contained fits.
        let (k, within, same) = subst (λ (parts : List Part). Contains parts part) parted.are contained in
        part-ends byte from more parted part n k is within same fits;
  }
  parted-by false byte from more is parted = record {
    first = part_at from (byte ∷ parted.first.bytes) parted.first.end;
    rest = parted.rest;
    are = ap (λ (b : Bool). if b then part_at from [] Separator ∷ parts_from framing last (from + 1) more else with_first from byte
        (parts_from framing last (from + 1) more)) is
        ∙ ap (λ (parts : List Part). with_first from byte parts) parted.are;
    begins = refl;
    holds = ap (λ (ys : List ℕ). byte ∷ ys) parted.holds ∙ ap (λ (b : Bool). if b then [] else byte ∷ up_to framing more) (sym is);
    later = λ part n contained fits. ends-later framing byte from part.start n more part.bytes (parted.later part n contained fits);
  }

  parted : (from : ℕ) (bytes : List ℕ) → Parted framing last from bytes
  parted from [] = record {
    first = part_at from [] last;
    rest = [];
    are = refl;
    begins = refl;
    holds = refl;
    later = λ part n contained fits. let (k, within, same) = contained in absurd (omega (arith, within));
  }
  parted from (byte ∷ more) = parted-by (is_separator framing byte) byte from more refl (parted (from + 1) more)

-- the bytes up to the n-th of a line
record LineEnds (bytes : List ℕ) (start n : ℕ) (own : List ℕ) : Type 0 where
  within : start + n ≤ length bytes
  ends : last_record Lines (take (start + n) bytes) ≡ take n own

first-line : (bytes own : List ℕ) (start n : ℕ) → start ≡ 0 → own ≡ up_to Lines bytes → n ≤ length own → LineEnds bytes start n own
first-line bytes own start n zero_is own_is fits =
    let front : n ≤ length (up_to Lines bytes) = subst (λ (ys : List ℕ). n ≤ length ys) own_is fits in
    let (stored, same) = same-front Lines bytes n front in
    let reach : start + n ≡ n = omega (arith, zero_is) in
    record {
      within = omega (arith, reach, stored);
      ends = ap (λ (k : ℕ). last_record Lines (take k bytes)) reach ∙ (last_record-plain Lines (take n bytes) (plain-front Lines bytes n front)
          ∙ (same ∙ ap (λ (ys : List ℕ). take n ys) (sym own_is)));
    }

later-line : (bytes own : List ℕ) (start n : ℕ) → EndsIn Lines bytes 0 start n own → LineEnds bytes start n own
later-line bytes own start n ends =
    let begins = ends.begins in
    let within = ends.within in
    let reach : start + n ≡ ends.before + n = omega (arith, begins) in
    record {
      within = omega (arith, reach, within);
      ends = ap (λ (k : ℕ). last_record Lines (take k bytes)) reach ∙ ends.ends;
    }

line-by : (last : RecordEnd) (bytes : List ℕ) (line : Part) (n k : ℕ) (h : Parted Lines last 0 bytes) → k < length (h.first ∷ h.rest)
    → get_or (h.first ∷ h.rest) k line ≡ line
    → n ≤ length line.bytes → LineEnds bytes line.start n line.bytes
line-by last bytes line n zero h within same fits =
    first-line bytes line.bytes line.start n (ap (λ (p : Part). p.start) (sym same) ∙ h.begins) (ap (λ (p : Part). p.bytes) (sym same) ∙ h.holds) fits
line-by last bytes line n (suc k) h within same fits = later-line bytes line.bytes line.start n (h.later line n (k, omega (arith, within), same) fits)

line-ends : (last : RecordEnd) (bytes : List ℕ) (line : Part) (n : ℕ) → Contains (parts_from Lines last 0 bytes) line → n ≤ length line.bytes
    → LineEnds bytes line.start n line.bytes
line-ends last bytes line n contained fits =
    let h = parted Lines last 0 bytes in
    let (k, within, same) = subst (λ (parts : List Part). Contains parts line) h.are contained in
    line-by last bytes line n k h within same fits

-- of those that are read, as many as are allowed
line-of : (limits : Allowed) (bytes : List ℕ) (line : Part) (n : ℕ) → Contains (parts_of Lines limits bytes) line → n ≤ length line.bytes
    → LineEnds bytes line.start n line.bytes × (line.start + n ≤ limits.bytes)
line-of limits bytes line n contained fits = by_test (is_too_long limits bytes) refl contained
  where
    by_test : (b : Bool) → is_too_long limits bytes ≡ b
        → Contains (if b then parts_from Lines Limit 0 (take limits.bytes bytes) else parts_from Lines Input 0 bytes) line
        → LineEnds bytes line.start n line.bytes × (line.start + n ≤ limits.bytes)
    by_test true is within =
        let ends = line-ends Limit (take limits.bytes bytes) line n within fits in
        let inside = ends.within in
        let long = length-take limits.bytes bytes in
        let short : line.start + n ≤ limits.bytes = omega (arith, inside, long) in
        let stored : line.start + n ≤ length bytes = omega (arith, inside, long) in (
          record { within = stored; ends = ap (λ (ys : List ℕ). last_record Lines ys) (sym (take-take (line.start + n) limits.bytes bytes short)) ∙ ends.ends },
          short,
        )
    by_test false is within =
        let ends = line-ends Input bytes line n within fits in
        let inside = ends.within in
        let most : length bytes ≤ limits.bytes = grind (arith, nat_tests) in
        (ends, omega (arith, inside, most))

place-in-line : (limits : Allowed) (bytes : List ℕ) (place : ℕ) (line : Part) (text : Text) → IsAllowed limits.depth limits.bytes
    → Contains (parts_of Lines limits bytes) line
    → IsTextWithin limits.depth text line.bytes → line.start ≤ place → place < line.start + length line.bytes
    → IsUnderWay limits (Some Lines) (take (place + 1) bytes)
place-in-line limits bytes place line text allowed contained is begun within =
    let n = place + 1 - line.start in
    let fits : n ≤ length line.bytes = omega (arith, begun, within) in
    let (ends, short) = line-of limits bytes line n contained fits in
    let most = allowed.most_bytes in
    let reach : line.start + n ≡ place + 1 = omega (arith, begun) in
    let own : Allowed = record { depth = limits.depth; bytes = 2 ^ 60 } in (
      refl,
      subst (λ (ys : List ℕ). CanGoOn own ys) (sym ends.ends ∙ ap (λ (k : ℕ). last_record Lines (take k bytes)) reach)
          (CanGoOn-take own line.bytes n text is fits (omega (arith, short, most))),
    )

-- ---- texts

UnderWay-in : (limits : Allowed) (framing : Option Framing) (bytes : List ℕ) (place : ℕ) → IsAllowed limits.depth limits.bytes
    → IsInText limits framing bytes place
    → IsUnderWay limits framing (take (place + 1) bytes)
UnderWay-in limits None bytes place allowed (text, (is, fits), within) =
    (refl, CanGoOn-take limits bytes (place + 1) text is (omega (arith, within)) (omega (arith, within, fits)))
UnderWay-in limits (Some Sequence) bytes place allowed (r, text, contained, is, begun, within) =
    place-in-record limits bytes place r text allowed contained is begun within
UnderWay-in limits (Some Lines) bytes place allowed (line, text, contained, is, begun, within) =
    place-in-line limits bytes place line text allowed contained is begun within

length-in-text : (limits : Allowed) (framing : Option Framing) (bytes : List ℕ) (place : ℕ) → IsInText limits framing bytes place → place < length bytes
length-in-text limits None bytes place (text, is, within) = within
length-in-text limits (Some Sequence) bytes place (r, text, contained, is, begun, within) =
    let n = length r.bytes in
    let ends = record-ends _ 0 (take limits.bytes bytes) r n contained (omega arith) in
    let begins = ends.begins in
    let inside = ends.within in
    omega (arith, within, begins, inside, length-take limits.bytes bytes)
length-in-text limits (Some Lines) bytes place (line, text, contained, is, begun, within) =
    let (ends, short) = line-of limits bytes line (length line.bytes) contained (omega arith) in
    let inside = ends.within in
    omega (arith, within, inside)

pub ToldInTexts-by : (limits : Allowed) (framing : Option Framing) (a : Option (List ℕ)) (sites : List Site) → IsAllowed limits.depth limits.bytes
    → ToldBy limits framing a sites
    → ToldInTextsBy limits framing a sites
ToldInTexts-by limits framing None sites allowed told = tt
ToldInTexts-by limits framing (Some bytes) sites allowed told = λ i other stored found is.
    told i other stored found (length-in-text limits framing bytes _ is) (UnderWay-in limits framing bytes _ allowed is)
