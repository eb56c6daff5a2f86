-- What two writers hold after one record more, and what that is of a text.
use Rattle.gj_split.proofs.Common.{AllByRecursion, Appends, AreHeld, Counts, Fault, Feature, List, None, Option, Some, Split, ap, arith, length, refl}
use Rattle.gj_split.proofs.Common.{same_Some, subst, sym, with_feature, ℕ, [], ◌++◌, ◌+◌, ◌∙◌, ◌∷◌, ◌≡◌}
use Rattle.std.proofs.Common.{length-append}
use Rattle.std.proofs.lemmas.Grind.{flat_map-append}
use Rattle.std.proofs.lemmas.List.{append-nil}
use Rattle.std.specs.Io.Iter.{u64_saturate}
use Rattle.gj_split.specs.Split.{record_of, sequence_of}
use Rattle.gj_split.specs.Internal.ToldFeatures.{told_bytes, told_split, EndsKnown}
use Rattle.gj_split.specs.Internal.HeldRecords.{Holds, WritesRecord}

-- ---- one feature more, after the others

abbrev appended : Option Fault → List ℕ → Split → Split
appended None own parts = record { valid = parts.valid ++ own ∷ []; broken = parts.broken }
appended (Some fault) own parts = record { valid = parts.valid; broken = parts.broken ++ own ∷ [] }

swapped : (a b : Option Fault) (own last : List ℕ) (parts : Split) → with_feature a own (appended b last parts) ≡ appended b last (with_feature a own parts)
swapped None None own last parts = refl
swapped None (Some fault) own last parts = refl
swapped (Some fault) None own last parts = refl
swapped (Some fault) (Some other) own last parts = refl

one_of_none : (a : Option Fault) (own : List ℕ) → with_feature a own (record { valid = []; broken = [] }) ≡ appended a own (record { valid = []; broken = [] })
one_of_none None own = refl
one_of_none (Some fault) own = refl

split_more : (bytes : List ℕ) (features : List Feature) (feature : Feature)
    → told_split bytes (features ++ feature ∷ []) ≡ appended feature.fault (told_bytes bytes feature) (told_split bytes features)
split_more bytes [] feature = one_of_none feature.fault (told_bytes bytes feature)
split_more bytes (f ∷ features) feature =
    ap (λ parts. with_feature f.fault (told_bytes bytes f) parts) (split_more bytes features feature)
    ∙ swapped f.fault feature.fault (told_bytes bytes f) (told_bytes bytes feature) (told_split bytes features)

-- ---- one record more

record_more : (owns : List (List ℕ)) (own : List ℕ) → sequence_of (owns ++ own ∷ []) ≡ sequence_of owns ++ record_of own
record_more owns own = flat_map-append record_of owns (own ∷ []) ∙ ap (λ xs. sequence_of owns ++ xs) (append-nil (record_of own))

pub counted_more : (owns : List (List ℕ)) (own : List ℕ) (old new : ℕ) → old ≡ u64_saturate (length owns) → new ≡ u64_saturate (old + 1)
    → new ≡ u64_saturate (length (owns ++ own ∷ []))
counted_more owns own old new e f = let l = length-append owns (own ∷ []) in by_number (length owns) (length (owns ++ own ∷ [])) l e f
  where
    by_number : (n m : ℕ) → m ≡ n + 1 → old ≡ u64_saturate n → new ≡ u64_saturate (old + 1) → new ≡ u64_saturate m
    by_number n m l e f = omega (arith, l, e, f)

pub known_more : (old new : Option (List ℕ)) (owns : List (List ℕ)) (own : List ℕ) → old ≡ Some (sequence_of owns) → Appends old new (record_of own)
    → new ≡ Some (sequence_of (owns ++ own ∷ []))
known_more None new owns own e h = cc
known_more (Some xs) None owns own e h = absurd h
known_more (Some xs) (Some ys) owns own e h =
    ap Some (h ∙ (ap (λ zs. zs ++ record_of own) (same_Some xs (sequence_of owns) e) ∙ sym (record_more owns own)))

known_ends : (bytes : List ℕ) (features : List Feature) (feature : Feature) → AllByRecursion (EndsKnown bytes) features → EndsKnown bytes feature
    → AllByRecursion (EndsKnown bytes) (features ++ feature ∷ [])
known_ends bytes [] feature h k = (k, tt)
known_ends bytes (f ∷ features) feature h k = (h.0, known_ends bytes features feature h.1 k)

-- a feature without a fault is a record more of the first
pub held_valid : {A : Type 0} (known : Option (List ℕ)) (stop : Option A) (valid more broken : Option (List ℕ)) (counts : Counts) (count : ℕ)
    (features : List Feature) (feature : Feature)
    → stop ≡ None → feature.fault ≡ None → ((bytes : List ℕ) → known ≡ Some bytes → WritesRecord bytes feature valid more)
    → count ≡ u64_saturate (counts.valid + 1)
    → Holds known stop valid broken counts features → Holds known stop more broken (record { valid = count; broken = counts.broken }) (features ++ feature ∷ [])
held_valid known None valid more broken counts count features feature e f write n h = λ bytes k.
    let before = h bytes k in
    let parts = told_split bytes features in
    let own = told_bytes bytes feature in
    let written = write bytes k in
    record {
      held = subst (λ ps. AreHeld ps more broken (record { valid = count; broken = counts.broken }))
          (sym (split_more bytes features feature ∙ ap (λ o. appended o own parts) f))
          (record {
            valid_records = known_more valid more parts.valid own before.held.valid_records written.0;
            broken_records = before.held.broken_records;
            valid_counted = counted_more parts.valid own counts.valid count before.held.valid_counted n;
            broken_counted = before.held.broken_counted;
          });
      ended = known_ends bytes features feature before.ended written.1;
    }
held_valid known (Some stop) valid more broken counts count features feature e f write n h = cc

-- and each other is one of the second
pub held_broken : {A : Type 0} (known : Option (List ℕ)) (stop : Option A) (valid broken more : Option (List ℕ)) (counts : Counts) (count : ℕ)
    (features : List Feature) (feature : Feature) (fault : Fault)
    → stop ≡ None → feature.fault ≡ Some fault → ((bytes : List ℕ) → known ≡ Some bytes → WritesRecord bytes feature broken more)
    → count ≡ u64_saturate (counts.broken + 1)
    → Holds known stop valid broken counts features → Holds known stop valid more (record { valid = counts.valid; broken = count }) (features ++ feature ∷ [])
held_broken known None valid broken more counts count features feature fault e f write n h = λ bytes k.
    let before = h bytes k in
    let parts = told_split bytes features in
    let own = told_bytes bytes feature in
    let written = write bytes k in
    record {
      held = subst (λ ps. AreHeld ps valid more (record { valid = counts.valid; broken = count }))
          (sym (split_more bytes features feature ∙ ap (λ o. appended o own parts) f))
          (record {
            valid_records = before.held.valid_records;
            broken_records = known_more broken more parts.broken own before.held.broken_records written.0;
            valid_counted = before.held.valid_counted;
            broken_counted = counted_more parts.broken own counts.broken count before.held.broken_counted n;
          });
      ended = known_ends bytes features feature before.ended written.1;
    }
held_broken known (Some stop) valid broken more counts count features feature fault e f write n h = cc
