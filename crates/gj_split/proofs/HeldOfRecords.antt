-- What two writers hold after one record of an input more.
use Rattle.gj_split.proofs.Common.{Appends, AreHeld, Broken, Counts, List, None, NotJson, Option, Record, Some, Split, Valid, Verdict, ap, refl}
use Rattle.gj_split.proofs.Common.{split_records, subst, sym, true, ℕ, [], ◌++◌, ◌+◌, ◌∙◌, ◌∷◌, ◌≡◌}
use Rattle.std.specs.Io.Iter.{u64_saturate}
use Rattle.gj_coords.specs.declared.warnings.Warnings.{Warnings}
use Rattle.gj_rules.specs.Sequence.{is_valid}
use Rattle.gj_split.specs.Internal.HeldOfRecords.{HoldsRecords}
use Rattle.gj_split.specs.RecordSplit.{found_text, with_record}
use Rattle.gj_split.specs.Split.{record_of}
use Rattle.gj_split.proofs.HeldRecords.{counted_more, known_more}

-- ---- one record more, after the others

abbrev appended : Verdict → List ℕ → Split → Split
appended (Valid warnings) own parts = record { valid = parts.valid ++ own ∷ []; broken = parts.broken }
appended other own parts = record { valid = parts.valid; broken = parts.broken ++ own ∷ [] }

swapped : (a b : Verdict) (own last : List ℕ) (parts : Split) → with_record a own (appended b last parts) ≡ appended b last (with_record a own parts)
swapped (Valid v) (Valid w) own last parts = refl
swapped (Valid v) (Broken w) own last parts = refl
swapped (Valid v) (NotJson w) own last parts = refl
swapped (Broken v) (Valid w) own last parts = refl
swapped (Broken v) (Broken w) own last parts = refl
swapped (Broken v) (NotJson w) own last parts = refl
swapped (NotJson v) (Valid w) own last parts = refl
swapped (NotJson v) (Broken w) own last parts = refl
swapped (NotJson v) (NotJson w) own last parts = refl

one_of_none : (a : Verdict) (own : List ℕ) → with_record a own (record { valid = []; broken = [] }) ≡ appended a own (record { valid = []; broken = [] })
one_of_none (Valid v) own = refl
one_of_none other own = refl

split_more : (bytes : List ℕ) (records : List Record) (found : Record)
    → split_records bytes (records ++ found ∷ []) ≡ appended found.verdict (found_text bytes found) (split_records bytes records)
split_more bytes [] found = one_of_none found.verdict (found_text bytes found)
split_more bytes (r ∷ records) found =
    ap (λ parts. with_record r.verdict (found_text bytes r) parts) (split_more bytes records found)
    ∙ swapped r.verdict found.verdict (found_text bytes r) (found_text bytes found) (split_records bytes records)

-- to which part it goes
more_valid : (verdict : Verdict) (own : List ℕ) (parts : Split) → is_valid verdict ≡ true
    → appended verdict own parts ≡ record { valid = parts.valid ++ own ∷ []; broken = parts.broken }
more_valid (Valid warnings) own parts e = refl
more_valid other own parts e = cc

more_broken : (verdict : Verdict) (own : List ℕ) (parts : Split) → ((warnings : Warnings) → verdict ≡ Valid warnings → ⊥)
    → appended verdict own parts ≡ record { valid = parts.valid; broken = parts.broken ++ own ∷ [] }
more_broken (Valid warnings) own parts n = absurd (n warnings refl)
more_broken other own parts n = refl

-- ---- what is held

abbrev Writes : Option (List ℕ) → Record → Option (List ℕ) → Option (List ℕ) → Type 0
Writes known found old new = (bytes : List ℕ) → known ≡ Some bytes → Appends old new (record_of (found_text bytes found))

-- a valid record is one more of the first
pub found_valid : {A : Type 0} (known : Option (List ℕ)) (stop : Option A) (valid more broken : Option (List ℕ)) (counts : Counts) (count : ℕ)
    (records : List Record) (found : Record) (warnings : Warnings)
    → stop ≡ None → found.verdict ≡ Valid warnings → Writes known found valid more → count ≡ u64_saturate (counts.valid + 1)
    → HoldsRecords known stop valid broken counts records
    → HoldsRecords known stop more broken (record { valid = count; broken = counts.broken }) (records ++ found ∷ [])
found_valid known None valid more broken counts count records found warnings e f write n h = λ bytes k.
    let before = h bytes k in
    let parts = split_records bytes records in
    let own = found_text bytes found in
    subst (λ ps. AreHeld ps more broken (record { valid = count; broken = counts.broken }))
    (sym (split_more bytes records found ∙ more_valid found.verdict own parts (ap is_valid f)))
    (record {
      valid_records = known_more valid more parts.valid own before.valid_records (write bytes k);
      broken_records = before.broken_records;
      valid_counted = counted_more parts.valid own counts.valid count before.valid_counted n;
      broken_counted = before.broken_counted;
    })
found_valid known (Some stop) valid more broken counts count records found warnings e f write n h = cc

-- and each other is one of the second
pub found_broken : {A : Type 0} (known : Option (List ℕ)) (stop : Option A) (valid broken more : Option (List ℕ)) (counts : Counts) (count : ℕ)
    (records : List Record) (found : Record)
    → stop ≡ None → ((warnings : Warnings) → found.verdict ≡ Valid warnings → ⊥) → Writes known found broken more → count ≡ u64_saturate (counts.broken + 1)
    → HoldsRecords known stop valid broken counts records
    → HoldsRecords known stop valid more (record { valid = counts.valid; broken = count }) (records ++ found ∷ [])
found_broken known None valid broken more counts count records found e f write n h = λ bytes k.
    let before = h bytes k in
    let parts = split_records bytes records in
    let own = found_text bytes found in
    subst (λ ps. AreHeld ps valid more (record { valid = counts.valid; broken = count }))
    (sym (split_more bytes records found ∙ more_broken found.verdict own parts f))
    (record {
      valid_records = before.valid_records;
      broken_records = known_more broken more parts.broken own before.broken_records (write bytes k);
      valid_counted = before.valid_counted;
      broken_counted = counted_more parts.broken own counts.broken count before.broken_counted n;
    })
found_broken known (Some stop) valid broken more counts count records found e f write n h = cc

-- where nothing has stopped it, that is what was found in all
pub held_records : {A : Type 0} (known : Option (List ℕ)) (stop : Option A) (valid broken : Option (List ℕ)) (counts : Counts) (records : List Record)
    (bytes : List ℕ) → stop ≡ None → known ≡ Some bytes → HoldsRecords known stop valid broken counts records
    → AreHeld (split_records bytes records) valid broken counts
held_records known None valid broken counts records bytes e k h = h bytes k
held_records known (Some stop) valid broken counts records bytes e k h = cc
