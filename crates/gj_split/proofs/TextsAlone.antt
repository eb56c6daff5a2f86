-- A feature by its bytes alone: it is a JSON text, and a valid one where it has no fault as a feature.
use Rattle.gj_split.proofs.Common.{AllByRecursion, Fault, IsText, IsTextWithin, IsWhite, List, None, Option, Some, Spells, Text, Tree, add-zero, ap}
use Rattle.gj_split.proofs.Common.{arith, bytes_between, depth, drop, end_of, false, features_of, length, map, place_of, refl, split_of, subst, sym}
use Rattle.gj_split.proofs.Common.{take, text_faults, with_feature, ℕ, [], ◌++◌, ◌+◌, ◌-◌, ◌∙◌, ◌∷◌, ◌≡◌, ◌≤◌}
use Rattle.std.proofs.lemmas.List.{append-nil}
use Rattle.std.proofs.Math.Seq.{take-append_seam, drop-append_seam}
use Rattle.gj_coords.specs.Fault.{least}
use Rattle.gj_rules.specs.declared.role.Role.{Role}
use Rattle.gj_rules.specs.Faults.{faults}
use Rattle.gj_rules.specs.FeatureFindings.{FeatureFinding, findings_from}
use Rattle.gj_split.specs.Split.{feature_bytes, split_findings, IsMerged, none_left, from_first, from_second, IsJson}
use Rattle.gj_split.specs.Split.{IsValidAlone}
use Rattle.gj_split.proofs.ElementBytes.{StandsIn, IsElementIn, features_in, features_within, AreWithin}
use Rattle.gj_split.proofs.MovedFaults.{sound_moved}
use Rattle.gj_split.proofs.MovedTrees.{moved, back, same_depth, spelled_back}
use Rattle.gj_split.proofs.SpelledBytes.{AreInText, value_ends, value_begins}
use Rattle.gj_coords.proofs.Readers.LeastOfSome.{least_none}

-- ---- the bytes of a value

-- of a value that stands in a text, those from its place to its end are its own
pub own_bytes : (v : Tree) (bytes : List ℕ) (s : StandsIn v 0 bytes) → bytes_between (place_of v) (end_of v) bytes ≡ s.own
own_bytes v bytes s =
    let p = value_begins v _ s.own s.spelled in
    let e = (value_ends v _ s.own s.spelled).0 in
    by_places (place_of v) (end_of v) (length s.before) (length s.own) p e
    ∙ (ap (λ xs. take (length s.own) (drop (length s.before) xs)) s.joined
    ∙ (ap (λ xs. take (length s.own) xs) (drop-append_seam s.before (s.own ++ s.after)) ∙ take-append_seam s.own s.after))
  where
    by_places : (place end a b : ℕ) → place ≡ 0 + a → end ≡ 0 + a + b → bytes_between place end bytes ≡ take b (drop a bytes)
    by_places place end a b p e =
        let q : place ≡ a = omega (arith, p) in
        let l : end - place ≡ b = omega (arith, p, e) in
        rw (l, q) refl

-- ---- as a text

-- white space may follow it
pub record IsAlone (levels : ℕ) (own : List ℕ) : Type 0 where
  pub text : Text
  pub spelled : (last : List ℕ) → AllByRecursion IsWhite last → IsTextWithin levels text (own ++ last)
  pub plain : AreInText own

pub record IsSoundAlone (levels : ℕ) (own : List ℕ) : Type 0 where
  pub alone : IsAlone levels own
  pub sound : text_faults alone.text ≡ []

abbrev alone_text : ℕ → Tree → Text
alone_text n v = record { marked = false; value = moved (back n) v }

spelled_alone : (v : Tree) (n : ℕ) (own last : List ℕ) → AllByRecursion IsWhite last → Spells v n own → IsText (alone_text n v) (own ++ last)
spelled_alone v n own last w h = record {
  first = [];
  rest = own ++ last;
  joined = refl;
  before = refl;
  after = record {
    first = [];
    rest = own ++ last;
    joined = refl;
    before = tt;
    after = record { first = own; rest = last; joined = refl; before = spelled_back n v 0 own (subst (λ m. Spells v m own) (sym (add-zero n)) h); after = w };
  };
}

abbrev is_alone : (v : Tree) (levels n : ℕ) (own : List ℕ) → depth v ≤ levels → Spells v n own → IsAlone levels own
is_alone v levels n own l h = record {
  text = alone_text n v;
  spelled = λ last w. (spelled_alone v n own last w h, subst (λ d. d ≤ levels) (sym (same_depth (back n) v)) l);
  plain = (value_ends v n own h).1;
}

value_alone : (v : Tree) (levels : ℕ) (bytes : List ℕ) → depth v ≤ levels → StandsIn v 0 bytes → IsAlone levels (bytes_between (place_of v) (end_of v) bytes)
value_alone v levels bytes l s = subst (IsAlone levels) (sym (own_bytes v bytes s)) (is_alone v levels _ s.own l s.spelled)

sound_alone : (v : Tree) (levels : ℕ) (bytes : List ℕ) → depth v ≤ levels → StandsIn v 0 bytes → least (faults Role.Feature v) ≡ None
    → IsSoundAlone levels (bytes_between (place_of v) (end_of v) bytes)
sound_alone v levels bytes l s e =
    subst (IsSoundAlone levels) (sym (own_bytes v bytes s))
    (record { alone = is_alone v levels _ s.own l s.spelled; sound = sound_moved (back (0 + length s.before)) v ((least_none (faults Role.Feature v)).0 e) })

-- ---- all features

abbrev AreIn : List Tree → List ℕ → Type 0
AreIn vs bytes = AllByRecursion (λ v. IsElementIn v 0 bytes) vs

valid_from : (levels index : ℕ) (vs : List Tree) (bytes : List ℕ) → AreIn vs bytes → AreWithin vs levels
    → AllByRecursion (IsSoundAlone levels) (split_findings bytes (findings_from index vs)).valid
valid_from levels index [] bytes h l = tt
valid_from levels index (v ∷ vs) bytes h l = by_fault (least (faults Role.Feature v)) refl (valid_from levels (index + 1) vs bytes h.1 l.1)
  where
    by_fault : (o : Option Fault) → least (faults Role.Feature v) ≡ o
        → AllByRecursion (IsSoundAlone levels) (split_findings bytes (findings_from (index + 1) vs)).valid →
        AllByRecursion (IsSoundAlone levels)
        (with_feature o (bytes_between (place_of v) (end_of v) bytes) (split_findings bytes (findings_from (index + 1) vs))).valid
    by_fault None e k = (sound_alone v levels bytes l.0 h.0.stands e, k)
    by_fault (Some fault) e k = k

texts_from : (levels index : ℕ) (vs : List Tree) (bytes : List ℕ) → AreIn vs bytes → AreWithin vs levels
    → AllByRecursion (λ f. IsAlone levels (feature_bytes bytes f)) (findings_from index vs)
texts_from levels index [] bytes h l = tt
texts_from levels index (v ∷ vs) bytes h l = (value_alone v levels bytes l.0 h.0.stands, texts_from levels (index + 1) vs bytes h.1 l.1)

within : (levels : ℕ) (v : Tree) → depth v ≤ levels → AreWithin (features_of v) levels
within levels v l = go (features_of v) (features_within v)
  where
    go : (vs : List Tree) → AllByRecursion (λ w. depth w ≤ depth v) vs → AreWithin vs levels
    go [] h = tt
    go (w ∷ ws) h = (omega (arith, h.0, l), go ws h.1)

pub valid_alone : (levels : ℕ) (text : Text) (bytes : List ℕ) → IsTextWithin levels text bytes
    → AllByRecursion (IsSoundAlone levels) (split_of bytes text).valid
valid_alone levels text bytes h = valid_from levels 0 (features_of text.value) bytes (features_in text bytes h.0) (within levels text.value h.1)

pub all_alone : (levels : ℕ) (text : Text) (bytes : List ℕ) → IsTextWithin levels text bytes
    → AllByRecursion (λ f. IsAlone levels (feature_bytes bytes f)) (findings_from 0 (features_of text.value))
all_alone levels text bytes h = texts_from levels 0 (features_of text.value) bytes (features_in text bytes h.0) (within levels text.value h.1)

-- ---- what a caller is told

abbrev is_json : (levels : ℕ) (own : List ℕ) → IsAlone levels own → IsJson levels own
is_json levels own h = (h.text, subst (λ bytes. IsTextWithin levels h.text bytes) (append-nil own) (h.spelled [] tt))

pub valid_by_itself : (levels : ℕ) (owns : List (List ℕ)) → AllByRecursion (IsSoundAlone levels) owns → AllByRecursion (IsValidAlone levels) owns
valid_by_itself levels [] h = tt
valid_by_itself levels (own ∷ more) h = ((h.0.alone.text, ((is_json levels own h.0.alone).1, omega arith), h.0.sound, tt), valid_by_itself levels more h.1)

pub json_by_itself : (levels : ℕ) (bytes : List ℕ) (findings : List FeatureFinding) → AllByRecursion (λ f. IsAlone levels (feature_bytes bytes f)) findings →
    AllByRecursion (IsJson levels) (map (feature_bytes bytes) findings)
json_by_itself levels bytes [] h = tt
json_by_itself levels bytes (f ∷ more) h = (is_json levels (feature_bytes bytes f) h.0, json_by_itself levels bytes more h.1)

pub merged : (bytes : List ℕ) (findings : List FeatureFinding)
    → IsMerged (split_findings bytes findings).valid (split_findings bytes findings).broken (map (feature_bytes bytes) findings)
merged bytes [] = none_left
merged bytes (f ∷ more) = by_fault f.fault (merged bytes more)
  where
    by_fault : (o : Option Fault) → IsMerged (split_findings bytes more).valid (split_findings bytes more).broken (map (feature_bytes bytes) more) →
        IsMerged (with_feature o (feature_bytes bytes f) (split_findings bytes more)).valid
        (with_feature o (feature_bytes bytes f) (split_findings bytes more)).broken
        (feature_bytes bytes f ∷ map (feature_bytes bytes) more)
    by_fault None h = from_first (feature_bytes bytes f) h
    by_fault (Some fault) h = from_second (feature_bytes bytes f) h
