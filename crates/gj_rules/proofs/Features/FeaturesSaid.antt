-- What is reported of features says what is found in them.
use Rattle.gj_rules.proofs.Common.{AllByRecursion, Bool, Fault, Features, List, Members, Role, Simple, Text, Tree, Warning, Warnings, all_events}
use Rattle.gj_rules.proofs.Common.{arith, array, complete_at, complete_in, constant, coordinates_kept, coordinates_warnings, element, elements_events}
use Rattle.gj_rules.proofs.Common.{elements_if, elements_of, end_of_array, end_of_object, events, false, faults, feature_findings, features_by}
use Rattle.gj_rules.proofs.Common.{features_from, features_of, findings_by, findings_from, first_value, if◌then◌else◌, items, least, length}
use Rattle.gj_rules.proofs.Common.{length-map, mark_events, member, members_events, nat_le, number, object, refl, same, string, suc, sym, text_events}
use Rattle.gj_rules.proofs.Common.{timed, true, value_events, warnings, warnings_of, warnings_of_none, [], ◌++◌, ◌+◌, ◌<◌, ◌^◌, ◌∷◌}
use Rattle.std.proofs.Common.{◌≡◌, ℕ, length-append, Option, Some}
use Rattle.std.proofs.Common.{None}
use Rattle.gj_json.specs.declared.event.What.TheVariants as What
use Rattle.gj_json.specs.Names.{known_of}
use Rattle.gj_json.specs.Tree as Tree
use Rattle.gj_rules.specs.FeatureFindings.{unless_broken}
use Rattle.gj_rules.specs.FeaturesTold.{SayFindings}
use Rattle.gj_rules.specs.Internal.FeatureSteps.{kept_unless}
use Rattle.gj_rules.proofs.Objects.WarningsKept.{value_is}

-- ---- each feature of a text has no more events than the text

abbrev AllFew : List Tree → Type 0
AllFew vs = AllByRecursion (λ v. length (events v) < 2 ^ 64) vs

few_elements : (es : Tree.Elements) → length (elements_events es) < 2 ^ 64 → AllFew (items es)
few_elements end_of_array h = tt
few_elements (element v more) h =
    let l = length-append (events v) (elements_events more) in
    (omega (arith, h, l), few_elements more (omega (arith, h, l)))

few_in : (v : Tree) → length (events v) < 2 ^ 64 → AllFew (elements_of v)
few_in (array place es close) h = few_elements es (omega (arith, h, length-append (elements_events es) (timed (close + 1) close What.CloseArray ∷ [])))
few_in other h = tt

few_members : (ms : Members) → length (members_events ms) < 2 ^ 64 → AllFew (elements_if (first_value Features ms))
few_members end_of_object h = tt
few_members (member place name end v more) h =
    let l = length-append (events v) (members_events more) in
    choose (same Features (known_of name)) (few_in v (omega (arith, h, l))) (few_members more (omega (arith, h, l)))
  where
    choose : (b : Bool) → AllFew (elements_of v) → AllFew (elements_if (first_value Features more))
        → AllFew (elements_if (if b then Some v else first_value Features more))
    choose true f g = f
    choose false f g = g

few_features : (v : Tree) → length (events v) < 2 ^ 64 → AllFew (features_of v)
few_features (object place ms close) h = few_members ms (omega (arith, h, length-append (members_events ms) (timed (close + 1) close What.CloseObject ∷ [])))
few_features other h = tt

few_complete : (n : ℕ) (vs : List Tree) → AllFew vs → AllFew (complete_in n vs)
few_complete n [] h = tt
few_complete n (v ∷ vs) h = cut (nat_le (complete_at v) n) (few_complete n vs h.1)
  where
    cut : (b : Bool) → AllFew (complete_in n vs) → AllFew (if b then v ∷ complete_in n vs else [])
    cut true on = (h.0, on)
    cut false on = tt

-- ---- what is reported says what is found

warned_says : (o : Option Fault) (kept : Warnings) (all : List Warning) → kept ≡ warnings_of all → kept_unless o kept ≡ warnings_of (unless_broken o all)
warned_says None kept all e = e
warned_says (Some fault) kept all e = sym warnings_of_none

module _ (law : (simple : Simple) (value : Tree) → length (value_events value) < 2 ^ 64
    → coordinates_kept simple value ≡ warnings_of (coordinates_warnings simple value)) where
  all_say : (i j : ℕ) (vs : List Tree) → i ≡ j → AllFew vs → SayFindings (features_from i vs) (findings_from j vs)
  all_say i j [] e h = tt
  all_say i j (v ∷ vs) e h = (
    (e, refl, refl, refl, refl, warned_says (least (faults Role.Feature v)) _ (warnings Role.Feature v) (value_is (2 ^ 64) law Role.Feature v h.0)),
    all_say (suc i) (j + 1) vs (omega (arith, e)) h.1,
  )

  few_in_text : (text : Text) → length (all_events text) < 2 ^ 64 → AllFew (features_of text.value)
  few_in_text text h =
      let l : length (all_events text) ≡ length (mark_events text.marked ++ events text.value) = length-map (text_events text) (λ x. x.event) in
      let m = length-append (mark_events text.marked) (events text.value) in
      few_features text.value (omega (arith, h, l, m))

  pub told_says : (text : Text) (n : ℕ) → length (all_events text) < 2 ^ 64 → SayFindings (features_by n text) (findings_by n text)
  told_says text n h = all_say 0 0 (complete_in n (features_of text.value)) refl (few_complete n (features_of text.value) (few_in_text text h))

  pub all_told_says : (text : Text) → length (all_events text) < 2 ^ 64 → SayFindings (features_from 0 (features_of text.value)) (feature_findings text)
  all_told_says text h = all_say 0 0 (features_of text.value) refl (few_in_text text h)
