-- Lemmas on the notes that are kept.
use Rattle.geolint_report.proofs.Common.{arith, refl, inl, inr, ◌⊎◌, true, false, ◌≡◌, ◌<◌, ◌≤◌, ℕ, ◌+◌, ◌^◌, ◌++◌, ◌∷◌, [], List, ap, sym, ◌∙◌, subst}
use Rattle.geolint_report.proofs.Common.{length, take, drop, append-nil, length-append, cases_lt, u64_saturate, flat_map, Option, Some, None, Allowed}
use Rattle.geolint_report.proofs.Common.{Framing, Note, Asked}
use Rattle.std.proofs.Common.{Bool}
use Rattle.std.proofs.lemmas.List.{drop-append-le, drop_all}
use Rattle.std.proofs.lemmas.List.Concat.{flat_map-append}
use Rattle.std.specs.Io.KnownBytes.{Consumes, IsAtEnd}
use Rattle.gj_json.specs.declared.fault.JsonFault.{JsonFault}
use Rattle.gj_rules.specs.declared.verdict.Verdict.{Verdict}
use Rattle.gj_rules.specs.declared.verdict.Verdict.TheVariants.{Valid, Broken, NotJson}
use Rattle.gj_coords.specs.Internal.KeptWarnings.{no_warnings}
use Rattle.gj_rules.specs.CleanFeature.{feature_of}
use Rattle.gj_rules.specs.declared.feature.CleanFeature.{CleanFeature}
use Rattle.gj_rules.specs.declared.feature.Feature.{Feature}
use Rattle.geolint_report.specs.declared.judge.Finding.{Finding}
use Rattle.geolint_report.specs.declared.every.listing.Listing.{Listing}
use Rattle.geolint_report.specs.declared.every.tally.Tally.{Tally}
use Rattle.geolint_report.specs.Every.{feature_notes, notes_of, notes_of_records, Keeps, KeepsOf, KeepsNotes, Lists, ListsIn, ListsBy, ListsFor, AreFirst}
use Rattle.geolint_report.specs.Every.{AreNotesAll, AreNotesIn, AreNotesBy}
use Rattle.geolint_report.proofs.ElementsInTurn.{take-full}

-- there is no room for one more where so many are passed over
window-full : {A : Type 0} (skipped room : ℕ) (all : List A) (x : A) → skipped ≤ length all → room ≤ length (take room (drop skipped all))
    → take room (drop skipped (all ++ x ∷ [])) ≡ take room (drop skipped all)
window-full {A = A} skipped room all x within none =
    ap (λ (ys : List A). take room ys) (drop-append-le skipped all (x ∷ []) within) ∙ take-full room (drop skipped all) x none

-- it is passed over itself
window-before : {A : Type 0} (skipped room : ℕ) (all : List A) (x : A) → length all < skipped
    → take room (drop skipped (all ++ x ∷ [])) ≡ take room (drop skipped all)
window-before {A = A} skipped room all x before =
    let longer : length (all ++ x ∷ []) ≡ length all + 1 = length-append all (x ∷ []) in
    ap (λ (ys : List A). take room ys)
    (drop_all skipped (all ++ x ∷ []) (omega (arith, before, longer)) ∙ sym (drop_all skipped all (omega (arith, before))))

-- one that is not kept changes nothing
pub window-still : {A : Type 0} (skipped room count : ℕ) (all : List A) (x : A) → skipped < 2 ^ 64 → count ≡ u64_saturate (length all)
    → ((skipped ≤ count) × (length (take room (drop skipped all)) < room) → ⊥)
    → take room (drop skipped (all ++ x ∷ [])) ≡ take room (drop skipped all)
window-still skipped room count all x small counted none =
    elim (cases_lt (length all) skipped) [
      | inl before ↦ window-before skipped room all x before
      | inr within ↦ by-room within (cases_lt (length (take room (drop skipped all))) room)
    ]
  where
    by-room : skipped ≤ length all → (length (take room (drop skipped all)) < room) ⊎ (room ≤ length (take room (drop skipped all)))
        → take room (drop skipped (all ++ x ∷ [])) ≡ take room (drop skipped all)
    by-room within (inl some) = absurd (none (omega (arith, small, counted, within), some))
    by-room within (inr full) = window-full skipped room all x within full

-- the notes of one feature more
pub notes_of-more : (with_warnings : Bool) (features : List Feature) (feature : Feature)
    → notes_of with_warnings (features ++ feature ∷ []) ≡ notes_of with_warnings features ++ feature_notes with_warnings feature
unfolding notes_of
notes_of-more with_warnings features feature =
    flat_map-append (feature_notes with_warnings) features (feature ∷ [])
    ∙ ap (λ (ys : List Note). flat_map (feature_notes with_warnings) features ++ ys) (append-nil (feature_notes with_warnings feature))

-- ---- before the first feature

pub KeepsNotes-none : (listing : Listing) → Keeps listing [] → listing.tally.items ≡ 0 → KeepsNotes listing []
unfolding notes_of
KeepsNotes-none listing keeps none = record { keeps = keeps; items_are = none }

-- ---- a feature more

-- one more is counted
pub items-more : {A : Type 0} (old new : Listing) (xs : List A) (x : A) → new.tally.items ≡ u64_saturate (old.tally.items + 1)
    → old.tally.items ≡ u64_saturate (length xs)
    → new.tally.items ≡ u64_saturate (length (xs ++ x ∷ []))
items-more old new xs x adds were = omega (arith, adds, were, length-append xs (x ∷ []))

pub KeepsNotes-more : (old new : Listing) (features : List Feature) (feature : Feature) → new.asked ≡ old.asked
    → new.tally.items ≡ u64_saturate (old.tally.items + 1)
    → ((all : List Note) → Keeps old all → Keeps new (all ++ feature_notes old.asked.with_warnings feature)) → KeepsNotes old features
    → KeepsNotes new (features ++ feature ∷ [])
KeepsNotes-more old new features feature asked counted adds before =
    let all = notes_of old.asked.with_warnings features in
    record {
      keeps = subst (λ (a : Asked). Keeps new (notes_of a.with_warnings (features ++ feature ∷ []))) (sym asked)
          (subst (λ (ys : List Note). Keeps new ys) (sym (notes_of-more old.asked.with_warnings features feature)) (adds all before.keeps));
      items_are = items-more old new features feature counted before.items_are;
    }

-- ---- a feature in which nothing is found

no_notes : (with_warnings : Bool) (clean : CleanFeature) → feature_notes with_warnings (feature_of clean) ≡ []
unfolding no_warnings
no_notes true clean = refl
no_notes false clean = refl

pub KeepsNotes-clean : (old new : Listing) (features : List Feature) (clean : CleanFeature) → new.asked ≡ old.asked
    → new.tally.items ≡ u64_saturate (old.tally.items + 1) → ((all : List Note) → Keeps old all → Keeps new all)
    → KeepsNotes old features → KeepsNotes new (features ++ feature_of clean ∷ [])
KeepsNotes-clean old new features clean asked counted still keeps =
    KeepsNotes-more old new features (feature_of clean) asked counted
    (λ all kept. subst (λ (ys : List Note). Keeps new (all ++ ys)) (sym (no_notes old.asked.with_warnings clean))
    (subst (λ (ys : List Note). Keeps new ys) (sym (append-nil all)) (still all kept))) keeps

-- ---- when the input has ended

-- of any verdict, since of what is no JSON nothing is said
pub ListsFor-text : (verdict : Verdict) (limits : Allowed) (had : Option (List ℕ)) (listing : Listing) → ListsBy None limits had listing
    → ListsFor None (Finding.Text verdict) limits had listing
ListsFor-text (NotJson fault) limits had listing by = tt
ListsFor-text other limits had listing by = by

pub Lists-end : (verdict : Verdict) (here limits : Allowed) (old new : Option (List ℕ)) (read : List ℕ) (listing : Listing) → here ≡ limits
    → Consumes old new read → IsAtEnd new
    → Lists here read listing → ListsFor None (Finding.Text verdict) limits old listing
Lists-end verdict here limits old new read listing same took ended lists = ListsFor-text verdict limits old listing (at-end old new took ended)
  where
    at-end : (old new : Option (List ℕ)) → Consumes old new read → IsAtEnd new → ListsBy None limits old listing
    at-end None new took ended = tt
    at-end (Some all) None took ended = absurd took
    at-end (Some all) (Some rest) took ended =
        let is : all ≡ read = took ∙ (ap (λ (ys : List ℕ). read ++ ys) ended ∙ append-nil read) in
        subst (λ (bytes : List ℕ). Lists limits bytes listing) (sym is) (subst (λ (l : Allowed). Lists l read listing) same lists)

pub Lists-refused : (verdict : Verdict) (fault : JsonFault) (limits : Allowed) (old : Option (List ℕ)) (listing : Listing) → verdict ≡ NotJson fault
    → ListsFor None (Finding.Text verdict) limits old listing
Lists-refused verdict fault limits old listing is = subst (λ (v : Verdict). ListsFor None (Finding.Text v) limits old listing) (sym is) tt

-- ---- what is told of them

-- what is told of a listing that kept these notes and counted so many features or records
all-of : (listing : Listing) (asked : Asked) (notes : List Note) (count : ℕ) (tally : Tally) (of : Asked → List Note) (items : ℕ) → listing.asked ≡ asked
    → tally ≡ listing.tally
    → ((all : List Note) → Keeps listing all → AreFirst listing.asked notes count all) → KeepsOf listing (of listing.asked) items
    → AreNotesAll asked notes count tally (of asked) items
all-of listing asked notes count tally of items same counts kept before =
    subst (λ (a : Asked). AreNotesAll a notes count tally (of a) items) same
    (subst (λ (t : Tally). AreNotesAll listing.asked notes count t (of listing.asked) items) (sym counts)
    (record { are_first = kept (of listing.asked) before.keeps; tallied = before.keeps.tally; items_are = before.items_are }))

pub AreNotes-of : (framing : Option Framing) (finding : Finding) (listing : Listing) (asked : Asked) (notes : List Note) (count : ℕ) (tally : Tally)
    (limits : Allowed) (had : Option (List ℕ)) → listing.asked ≡ asked
    → tally ≡ listing.tally → ((all : List Note) → Keeps listing all → AreFirst listing.asked notes count all)
    → ListsFor framing finding limits had listing → ((fault : JsonFault) → finding ≡ Finding.Text (NotJson fault) → ⊥)
    → AreNotesBy framing asked notes count tally limits had
AreNotes-of framing finding listing asked notes count tally limits had same counts kept lists is_json = by-bytes had (of-json finding lists is_json)
  where
    of-json : (finding : Finding) → ListsFor framing finding limits had listing → ((fault : JsonFault) → finding ≡ Finding.Text (NotJson fault) → ⊥)
        → ListsBy framing limits had listing
    of-json (Finding.Text (NotJson fault)) lists is_json = absurd (is_json fault refl)
    of-json other lists is_json = lists

    by-framing : (framing : Option Framing) (bytes : List ℕ) → ListsIn framing limits bytes listing → AreNotesIn framing asked notes count tally limits bytes
    by-framing None bytes lists = λ text admitted.
        let (features, keeps, say) = lists text admitted in (
          features,
          all-of listing asked notes count tally (λ (a : Asked). notes_of a.with_warnings features) (length features) same counts kept keeps,
          say,
        )
    by-framing (Some framing) bytes (found, are, keeps) = (
      found,
      are,
      all-of listing asked notes count tally (λ (a : Asked). notes_of_records a.with_warnings found) (length found) same counts kept keeps,
    )

    by-bytes : (had : Option (List ℕ)) → ListsBy framing limits had listing → AreNotesBy framing asked notes count tally limits had
    by-bytes None lists = tt
    by-bytes (Some bytes) lists = by-framing framing bytes lists
