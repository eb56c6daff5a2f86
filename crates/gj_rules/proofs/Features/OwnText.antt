-- A text without its features has the members of the text, but for the elements of `features`.
use Rattle.gj_rules.proofs.Common.{Bool, Features, G8, List, Members, Role, Tree, TypeName, all_faults, ap, array, constant, crs_warnings, element}
use Rattle.gj_rules.proofs.Common.{elements_if, elements_of, end_of_array, end_of_object, false, faults, first, first_value, first_warnings, flat_map}
use Rattle.gj_rules.proofs.Common.{items, member, number, object, refl, repeated, same, string, true, warnings, ◌++◌, ◌∙◌, ◌∷◌}
use Rattle.std.proofs.Common.{◌≡◌, ℕ}
use Rattle.gj_json.specs.declared.names.Known.{Known}
use Rattle.gj_json.specs.declared.names.Known.TheVariants.{Bbox}
use Rattle.gj_json.specs.Names.{known_of}
use Rattle.gj_json.specs.Tree as Tree
use Rattle.gj_rules.specs.Members.{first_type}
use Rattle.gj_rules.specs.Faults.{listed, due}
use Rattle.gj_rules.specs.TextWarnings.{list_warnings, all_warnings}
use Rattle.gj_rules.specs.FeatureFindings.{emptied, members_emptied}

pub is_features : (k : Known) → same Features k ≡ true → k ≡ Features
is_features Features e = refl
is_features _ e = cc

-- ---- members of other names

pub own_first : (name : Known) (ms : Members) → same name Features ≡ false → first name (members_emptied ms) ≡ first name ms
own_first name end_of_object e = refl
own_first name (member place found end v more) e = split (same Features (known_of found)) refl (own_first name more e)
  where
    split : (b : Bool) → same Features (known_of found) ≡ b → first name (members_emptied more) ≡ first name more
        → first name (members_emptied (member place found end v more)) ≡ first name (member place found end v more)
    split true f h =
        let g : same name (known_of found) ≡ false = ap (λ k. same name k) (is_features (known_of found) f) ∙ e in
        rw (f, g) refl
    split false f h = rw (f, h) refl

pub own_type : (ms : Members) → first_type (members_emptied ms) ≡ first_type ms
own_type end_of_object = refl
own_type (member place found end v more) = split (same Features (known_of found)) refl (own_type more)
  where
    split : (b : Bool) → same Features (known_of found) ≡ b → first_type (members_emptied more) ≡ first_type more
        → first_type (members_emptied (member place found end v more)) ≡ first_type (member place found end v more)
    split true f h =
        let g : same TypeName (known_of found) ≡ false = ap (λ k. same TypeName k) (is_features (known_of found) f) in
        rw (f, g) refl
    split false f h = rw (f, h) refl

pub own_repeated : (before : List Known) (ms : Members) → repeated before (members_emptied ms) ≡ repeated before ms
own_repeated before end_of_object = refl
own_repeated before (member place found end v more) = split (same Features (known_of found)) refl (own_repeated (known_of found ∷ before) more)
  where
    split : (b : Bool) → same Features (known_of found) ≡ b
        → repeated (known_of found ∷ before) (members_emptied more) ≡ repeated (known_of found ∷ before) more
        → repeated before (members_emptied (member place found end v more)) ≡ repeated before (member place found end v more)
    split true f h = rw f refl
    split false f h = rw (f, h) refl

pub own_crs : (ms : Members) → crs_warnings (members_emptied ms) ≡ crs_warnings ms
own_crs end_of_object = refl
own_crs (member place found end v more) = split (same Features (known_of found)) refl (own_crs more)
  where
    split : (b : Bool) → same Features (known_of found) ≡ b → crs_warnings (members_emptied more) ≡ crs_warnings more
        → crs_warnings (members_emptied (member place found end v more)) ≡ crs_warnings (member place found end v more)
    split true f h = rw f refl
    split false f h = rw (f, h) refl

pub own_box : (ms : Members) → first_warnings Bbox (members_emptied ms) ≡ first_warnings Bbox ms
own_box end_of_object = refl
own_box (member place found end v more) = split (same Features (known_of found)) refl (own_box more)
  where
    split : (b : Bool) → same Features (known_of found) ≡ b → first_warnings Bbox (members_emptied more) ≡ first_warnings Bbox more
        → first_warnings Bbox (members_emptied (member place found end v more)) ≡ first_warnings Bbox (member place found end v more)
    split true f h =
        let g : same Bbox (known_of found) ≡ false = ap (λ k. same Bbox k) (is_features (known_of found) f) in
        rw (f, g) refl
    split false f h = rw (f, h) refl

-- ---- the elements of `features`

pub faults_each : (es : Tree.Elements) → all_faults Role.Feature es ≡ flat_map (λ v. faults Role.Feature v) (items es)
faults_each end_of_array = refl
faults_each (element v more) = ap (λ xs. faults Role.Feature v ++ xs) (faults_each more)

pub warnings_each : (es : Tree.Elements) → all_warnings Role.Feature es ≡ flat_map (λ v. warnings Role.Feature v) (items es)
warnings_each end_of_array = refl
warnings_each (element v more) = ap (λ xs. warnings Role.Feature v ++ xs) (warnings_each more)

listed_each : (v : Tree) → listed Role.Feature v ≡ listed Role.Feature (emptied v) ++ flat_map (λ v. faults Role.Feature v) (elements_of v)
listed_each (array place es close) = faults_each es
listed_each other = refl

warned_each : (v : Tree) → list_warnings Role.Feature v ≡ list_warnings Role.Feature (emptied v) ++ flat_map (λ v. warnings Role.Feature v) (elements_of v)
warned_each (array place es close) = warnings_each es
warned_each other = refl

pub due_each : (place : ℕ) (ms : Members)
    → due place G8 (first Features ms) ≡ due place G8 (first Features (members_emptied ms)) ++ flat_map (λ v. faults Role.Feature v)
    (elements_if (first_value Features ms))
due_each place end_of_object = refl
due_each place (member at found end v more) = split (same Features (known_of found)) refl (due_each place more)
  where
    split : (b : Bool) → same Features (known_of found) ≡ b
        → due place G8 (first Features more) ≡ due place G8 (first Features (members_emptied more)) ++ flat_map (λ v. faults Role.Feature v)
        (elements_if (first_value Features more))
        → due place G8 (first Features (member at found end v more)) ≡ due place G8 (first Features (members_emptied (member at found end v more))) ++ flat_map
        (λ v. faults Role.Feature v) (elements_if (first_value Features (member at found end v more)))
    split true f h = rw (f, f) (listed_each v)
    split false f h = rw (f, f) h

pub features_each : (ms : Members)
    → first_warnings Features ms ≡ first_warnings Features (members_emptied ms) ++ flat_map (λ v. warnings Role.Feature v)
    (elements_if (first_value Features ms))
features_each end_of_object = refl
features_each (member at found end v more) = split (same Features (known_of found)) refl (features_each more)
  where
    split : (b : Bool) → same Features (known_of found) ≡ b
        → first_warnings Features more ≡ first_warnings Features (members_emptied more) ++ flat_map (λ v. warnings Role.Feature v)
        (elements_if (first_value Features more))
        → first_warnings Features (member at found end v more) ≡ first_warnings Features (members_emptied (member at found end v more)) ++ flat_map
        (λ v. warnings Role.Feature v) (elements_if (first_value Features (member at found end v more)))
    split true f h = rw (f, f) (warned_each v)
    split false f h = rw (f, f) h
