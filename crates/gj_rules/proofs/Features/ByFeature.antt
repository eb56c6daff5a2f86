-- What is found in a FeatureCollection is what is found in it without its features, and in these.
use Rattle.gj_rules.proofs.Common.{AllByRecursion, Bool, Coordinates, Fault, Features, G8, Geometries, Geometry, List, Members, Properties, Role}
use Rattle.gj_rules.proofs.Common.{Text, Tree, TypeValue, W1, Warning, ap, append_assoc, array, complete_at, complete_in, constant, crs_warnings}
use Rattle.gj_rules.proofs.Common.{elements_if, false, faults, feature_findings, features_of, findings_by, findings_from, first, first_value}
use Rattle.gj_rules.proofs.Common.{first_warnings, flat_map, least, least-append, lesser, nat_le, number, object, refl, repeated, string, sym}
use Rattle.gj_rules.proofs.Common.{text_faults, text_warnings, true, warned_if, warnings, [], ◌++◌, ◌+◌, ◌∙◌, ◌∷◌}
use Rattle.std.proofs.Common.{◌≡◌, ℕ, Option, Some, None}
use Rattle.gj_json.specs.declared.names.Known.TheVariants.{Bbox}
use Rattle.gj_rules.specs.Members.{first_type}
use Rattle.gj_rules.specs.Faults.{forbidden, optional, due}
use Rattle.gj_rules.specs.FeatureFindings.{FeatureFinding, finding_of, unless_broken}
use Rattle.gj_rules.specs.FeatureFindings.{members_emptied, without_features, own_faults, own_warnings, names_collection}
use Rattle.gj_rules.specs.FeatureFindings.{IsCollection, least_found, warnings_found}
use Rattle.gj_rules.proofs.Features.OwnText.{own_first, own_type, own_repeated, own_crs, own_box, due_each, features_each}
use Rattle.gj_coords.proofs.Readers.LeastOfSome.{least_none}

-- ---- lists

pub no_parts : {A : Type 0} (xs ys : List A) → xs ++ ys ≡ [] → (xs ≡ []) × (ys ≡ [])
no_parts [] ys e = (refl, e)
no_parts (x ∷ xs) ys e = cc

-- ---- the findings

abbrev of_features : List Tree → List Fault
of_features vs = flat_map (λ v. faults Role.Feature v) vs

least_each : (index : ℕ) (vs : List Tree) → least (of_features vs) ≡ least_found (findings_from index vs)
least_each index [] = refl
least_each index (v ∷ vs) =
    least-append (faults Role.Feature v) (of_features vs) ∙ ap (λ x. lesser (least (faults Role.Feature v)) x) (least_each (index + 1) vs)

all_sound : (index : ℕ) (vs : List Tree) → of_features vs ≡ [] → AllByRecursion (λ finding. finding.fault ≡ None) (findings_from index vs)
all_sound index [] e = tt
all_sound index (v ∷ vs) e =
    let p = no_parts (faults Role.Feature v) (of_features vs) e in
    (ap (λ xs. least xs) p.0, all_sound (index + 1) vs p.1)

sound_all : (index : ℕ) (vs : List Tree) → AllByRecursion (λ finding. finding.fault ≡ None) (findings_from index vs) → of_features vs ≡ []
sound_all index [] h = refl
sound_all index (v ∷ vs) h = rw ((least_none (faults Role.Feature v)).0 h.0) (sound_all (index + 1) vs h.1)

warned_all : (index : ℕ) (vs : List Tree) → of_features vs ≡ [] → flat_map (λ v. warnings Role.Feature v) vs ≡ warnings_found (findings_from index vs)
warned_all index [] e = refl
warned_all index (v ∷ vs) e =
    let p = no_parts (faults Role.Feature v) (of_features vs) e in
    let l : least (faults Role.Feature v) ≡ None = ap (λ xs. least xs) p.0 in
    ap (λ xs. warnings Role.Feature v ++ xs) (warned_all (index + 1) vs p.1)
    ∙ ap (λ o. unless_broken o (warnings Role.Feature v) ++ warnings_found (findings_from (index + 1) vs)) (sym l)

-- ---- a FeatureCollection

abbrev forbidden_there : Members → List Fault
forbidden_there ms =
    forbidden (first Coordinates ms) ++ (forbidden (first Geometries ms) ++ (forbidden (first Geometry ms) ++ (forbidden (first Properties ms) ++ [])))

-- the faults of a FeatureCollection
abbrev collected_faults : ℕ → Members → List Fault
collected_faults place ms = repeated [] ms ++ (optional (first Bbox ms) ++ (forbidden_there ms ++ due place G8 (first Features ms)))

root_faults : (place close : ℕ) (ms : Members) (o : Option TypeValue) → first_type ms ≡ o → names_collection o
    → faults Role.Root (object place ms close) ≡ collected_faults place ms
root_faults place close ms None e h = absurd h
root_faults place close ms (Some value) e h = rw (e, h) refl

abbrev collected_warnings : Members → List Warning
collected_warnings ms = crs_warnings ms ++ (first_warnings Bbox ms ++ first_warnings Features ms)

root_warnings : (place close : ℕ) (ms : Members) (o : Option TypeValue) → first_type ms ≡ o → names_collection o
    → warnings Role.Root (object place ms close) ≡ collected_warnings ms
root_warnings place close ms None e h = absurd h
root_warnings place close ms (Some value) e h = rw (e, h) refl

-- a list in three parts and more, of which the last goes on
goes_on : {A : Type 0} (a b c d e : List A) → a ++ (b ++ (c ++ (d ++ e))) ≡ (a ++ (b ++ (c ++ d))) ++ e
goes_on a b c d e = sym (append_assoc a (b ++ (c ++ d)) e ∙ ap (λ xs. a ++ xs) (append_assoc b (c ++ d) e ∙ ap (λ xs. b ++ xs) (append_assoc c d e)))

own_collected : (place : ℕ) (ms : Members)
    → collected_faults place ms ≡ collected_faults place (members_emptied ms) ++ of_features (elements_if (first_value Features ms))
own_collected place ms =
    rw (
      own_repeated [] ms,
      own_first Bbox ms refl,
      own_first Coordinates ms refl,
      own_first Geometries ms refl,
      own_first Geometry ms refl,
      own_first Properties ms refl,
      due_each place ms,
    )
    (goes_on (repeated [] ms) (optional (first Bbox ms)) (forbidden_there ms) (due place G8 (first Features (members_emptied ms)))
    (of_features (elements_if (first_value Features ms))))

-- the faults of a FeatureCollection are its own and those of its features
by_features : (v : Tree) → IsCollection v → faults Role.Root v ≡ faults Role.Root (without_features v) ++ of_features (features_of v)
by_features (object place ms close) h =
    root_faults place close ms (first_type ms) refl h
    ∙ (own_collected place ms
    ∙ ap (λ xs. xs ++ of_features (elements_if (first_value Features ms))) (sym (root_faults place close (members_emptied ms) (first_type ms) (own_type ms) h)))
by_features other h = absurd h

warned_by_features : (v : Tree) → IsCollection v
    → warnings Role.Root v ≡ warnings Role.Root (without_features v) ++ flat_map (λ v. warnings Role.Feature v) (features_of v)
warned_by_features (object place ms close) h =
    root_warnings place close ms (first_type ms) refl h
    ∙ (own_warned ms
    ∙ ap (λ xs. xs ++ flat_map (λ v. warnings Role.Feature v) (elements_if (first_value Features ms)))
    (sym (root_warnings place close (members_emptied ms) (first_type ms) (own_type ms) h)))
  where
    own_warned : (ms : Members)
        → collected_warnings ms ≡ collected_warnings (members_emptied ms) ++ flat_map (λ v. warnings Role.Feature v) (elements_if (first_value Features ms))
    own_warned ms =
        rw (own_crs ms, own_box ms, features_each ms)
        (goes_on [] (crs_warnings ms) (first_warnings Bbox ms) (first_warnings Features (members_emptied ms))
        (flat_map (λ v. warnings Role.Feature v) (elements_if (first_value Features ms))))
warned_by_features other h = absurd h

-- ---- the laws

pub least_of_all : (text : Text) → IsCollection text.value → least (text_faults text) ≡ lesser (least (own_faults text)) (least_found (feature_findings text))
least_of_all text h =
    ap (λ xs. least xs) (by_features text.value h)
    ∙ (least-append (own_faults text) (of_features (features_of text.value))
    ∙ ap (λ x. lesser (least (own_faults text)) x) (least_each 0 (features_of text.value)))

pub sound_parts : (text : Text) → IsCollection text.value → text_faults text ≡ [] → (own_faults text ≡ []) × (of_features (features_of text.value) ≡ [])
sound_parts text h e = no_parts (own_faults text) (of_features (features_of text.value)) (sym (by_features text.value h) ∙ e)

pub all_valid : (text : Text) → IsCollection text.value → text_faults text ≡ [] → (own_faults text ≡ [])
    × AllByRecursion (λ finding. finding.fault ≡ None) (feature_findings text)
all_valid text h e = let p = sound_parts text h e in (p.0, all_sound 0 (features_of text.value) p.1)

pub valid_all : (text : Text) → IsCollection text.value → (own_faults text ≡ []) × AllByRecursion (λ finding. finding.fault ≡ None) (feature_findings text)
    → text_faults text ≡ []
valid_all text h p =
    by_features text.value h ∙ (ap (λ xs. xs ++ of_features (features_of text.value)) p.0 ∙ sound_all 0 (features_of text.value) p.1)

pub warned_all_in : (text : Text) → IsCollection text.value → text_faults text ≡ []
    → text_warnings text ≡ own_warnings text ++ warnings_found (feature_findings text)
warned_all_in text h e =
    let p = sound_parts text h e in
    ap (λ xs. warned_if text.marked 0 W1 ++ xs)
    (warned_by_features text.value h ∙ ap (λ xs. warnings Role.Root (without_features text.value) ++ xs) (warned_all 0 (features_of text.value) p.1))
    ∙ sym (append_assoc (warned_if text.marked 0 W1) (warnings Role.Root (without_features text.value)) (warnings_found (feature_findings text)))

-- ---- the first of all findings

so_far : (n index : ℕ) (vs : List Tree) → (later : List FeatureFinding) × (findings_from index vs ≡ findings_from index (complete_in n vs) ++ later)
so_far n index [] = ([], refl)
so_far n index (v ∷ vs) = split (nat_le (complete_at v) n) refl (so_far n (index + 1) vs)
  where
    split : (b : Bool) → nat_le (complete_at v) n ≡ b → (later : List FeatureFinding)
        × (findings_from (index + 1) vs ≡ findings_from (index + 1) (complete_in n vs) ++ later) → (later : List FeatureFinding)
        × (findings_from index (v ∷ vs) ≡ findings_from index (complete_in n (v ∷ vs)) ++ later)
    split true e k = (k.0, rw e (ap (λ xs. finding_of index v ∷ xs) k.1))
    split false e k = (findings_from index (v ∷ vs), rw e refl)

pub first_of_all : (text : Text) (n : ℕ) → (later : List FeatureFinding) × (feature_findings text ≡ findings_by n text ++ later)
first_of_all text n = so_far n 0 (features_of text.value)
