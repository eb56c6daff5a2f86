-- What is found in a text whose array `features` has these elements.
use Rattle.std.proofs.Common.{◌≡◌, ◌⊎◌, ℕ, inl, inr, Bool, List, [], ◌∷◌, ◌++◌, Some, refl, sym, ap, subst, ◌∙◌, append_assoc}
use Rattle.gj_json.specs.Broken.{Member, back_elements, back_members, member_of}
use Rattle.gj_json.specs.declared.names.Known.TheVariants.{Features}
use Rattle.gj_json.specs.Tree.{Tree, array, object, Elements, end_of_array, element, Members, member, Text}
use Rattle.gj_coords.specs.Fault.{lesser, least}
use Rattle.gj_coords.specs.Internal.KeptWarnings.{warnings_of, joined}
use Rattle.gj_coords.specs.Items.{items}
use Rattle.gj_rules.specs.declared.role.Role.{Role}
use Rattle.gj_rules.specs.Faults.{First, faults, first, listed, selected, text_faults}
use Rattle.gj_rules.specs.FeatureFindings.{feature_findings, findings_from, features_of, least_found, members_emptied, names_collection, own_faults, own_text}
use Rattle.gj_rules.specs.FeatureFindings.{own_warnings, warnings_found}
use Rattle.gj_rules.specs.Members.{first_type}
use Rattle.gj_rules.specs.TextWarnings.{text_warnings}
use Rattle.gj_rules.proofs.Features.ByFeature.{least_of_all, warned_all_in}
use Rattle.gj_rules.proofs.Features.OwnText.{own_type}
use Rattle.gj_join.proofs.ClosedTexts.{back_items, closed_features, tree_of}
use Rattle.gj_join.proofs.ElementRuns.{and_more, and_more_items, done_after, last_of}
use Rattle.gj_join.proofs.OtherRoots.{other_root}
use Rattle.gj_join.proofs.ReachedFeatures.{Around, NoFeatures}
use Rattle.gj_join.proofs.SoundElements.{Sound, least_without, warned, warned_trees, warned_between}

-- ---- the elements

pub done_elements : (done : List Tree) (v : Tree) (vs : List Tree) (more : Elements)
    → back_elements (done_after done v vs) (element (last_of v vs) more) ≡ back_elements done (element v (and_more vs more))
done_elements done v [] more = refl
done_elements done v (u ∷ us) more = done_elements (v ∷ done) u us more

abbrev pub items_before : List Tree → Tree → List Tree
items_before done v = items (back_elements done end_of_array) ++ v ∷ []

pub elements_after : (done : List Tree) (v : Tree) (vs : List Tree) (more : Elements)
    → items (back_elements (done_after done v vs) (element (last_of v vs) more)) ≡ items_before done v ++ (vs ++ items more)
elements_after done v vs more =
    ap items (done_elements done v vs more) ∙ back_items done (element v (and_more vs more))
    ∙ ap (λ xs. items (back_elements done end_of_array) ++ v ∷ xs) (and_more_items vs more)
    ∙ sym (append_assoc (items (back_elements done end_of_array)) (v ∷ []) (vs ++ items more))

-- ---- the members

module _ (a : Around) (close : ℕ) (others : Members) (end : ℕ) where
  abbrev members_with : Elements → Members
  members_with es = back_members a.members (member a.name_place a.name a.name_end (array a.place es close) others)

  first_after : (ms : List Member) → NoFeatures ms → (more : Members) → first Features (back_members ms more) ≡ first Features more
  first_after [] h more = refl
  first_after (m ∷ ms) h more = first_after ms h.1 (member_of m more) ∙ rw (h.0) refl

  first_is : Elements → First
  first_is es =
      let v = array a.place es close in
      record { name_at = a.name_place; value = v; faults = selected Features v (faults Role.Geometry v) (listed Role.Part v) (listed Role.Feature v) }

  first_there : (es : Elements) → first Features (members_with es) ≡ Some (first_is es)
  unfolding first_is
  first_there es =
      let ms = member a.name_place a.name a.name_end (array a.place es close) others in
      let e : first Features ms ≡ Some (first_is es) = rw (a.named) refl in
      first_after a.members a.fresh ms ∙ e

  emptied_after : (ms : List Member) → NoFeatures ms → (more : Members) → members_emptied (back_members ms more) ≡ back_members ms (members_emptied more)
  emptied_after [] h more = refl
  emptied_after (m ∷ ms) h more =
      let e : members_emptied (member_of m more) ≡ member_of m (members_emptied more) = rw (h.0) refl in
      emptied_after ms h.1 (member_of m more) ∙ ap (back_members ms) e

  emptied_there : (es : Elements) → members_emptied (members_with es) ≡ members_with end_of_array
  emptied_there es =
      let ms = member a.name_place a.name a.name_end (array a.place es close) others in
      let e : members_emptied ms ≡ member a.name_place a.name a.name_end (array a.place end_of_array close) others = rw (a.named) refl in
      emptied_after a.members a.fresh ms ∙ ap (back_members a.members) e

  abbrev Kinds : Elements → Elements → Type 0
  Kinds es us = names_collection (first_type (members_with es))
      ⊎ ((faults Role.Root (tree_of a es close others end) ≡ faults Role.Root (tree_of a us close others end))
      × (faults Role.Root (tree_of a es close others end) ≡ [] → ⊥))

  pub kinds : (es us : Elements) → Kinds es us
  unfolding first_is
  kinds es us =
      other_root a.root end (members_with es) (members_with us) (first_is es) (first_is us) (first_there es) (first_there us) refl
      (emptied_there es ∙ sym (emptied_there us))

  collection : (es us : Elements) → names_collection (first_type (members_with es)) → names_collection (first_type (members_with us))
  collection es us c =
      let e : first_type (members_with es) ≡ first_type (members_with us) =
      sym (own_type (members_with es)) ∙ ap first_type (emptied_there es ∙ sym (emptied_there us)) ∙ own_type (members_with us) in
      subst names_collection e c

  abbrev text_with : Bool → Elements → Text
  text_with marked es = record { marked = marked; value = tree_of a es close others end }

  own_there : (marked : Bool) (es us : Elements) → own_text (text_with marked es) ≡ own_text (text_with marked us)
  own_there marked es us = ap (λ ms. record { marked = marked; value = object a.root ms end }) (emptied_there es ∙ sym (emptied_there us))

  -- ---- elements that break no rule

  module _ (marked : Bool) (es us : Elements) (xs vs ys : List Tree) (es_are : items es ≡ xs ++ (vs ++ ys)) (us_are : items us ≡ xs ++ ys) (sound : Sound vs)
    where
      T_features : features_of (tree_of a es close others end) ≡ xs ++ (vs ++ ys)
      T_features = closed_features a es close others end ∙ es_are

      U_features : features_of (tree_of a us close others end) ≡ xs ++ ys
      U_features = closed_features a us close others end ∙ us_are

      pub same_least : least (text_faults (text_with marked es)) ≡ least (text_faults (text_with marked us))
      same_least = elim (kinds es us) [
        | inl c ↦ least_of_all (text_with marked es) c
            ∙ ap (λ (x : Text). lesser (least (text_faults x)) (least_found (feature_findings (text_with marked es)))) (own_there marked es us)
            ∙ ap (λ o. lesser (least (own_faults (text_with marked us))) o)
            (ap (λ zs. least_found (findings_from 0 zs)) T_features ∙ least_without 0 0 xs vs ys sound
            ∙ sym (ap (λ zs. least_found (findings_from 0 zs)) U_features))
            ∙ sym (least_of_all (text_with marked us) (collection es us c))
        | inr k ↦ ap least k.0
      ]

      -- of texts that are valid
      pub warnings_more : text_faults (text_with marked us) ≡ [] → text_faults (text_with marked es) ≡ []
          → warnings_of (text_warnings (text_with marked es)) ≡ joined (warnings_of (text_warnings (text_with marked us))) (warnings_of (warned vs))
      warnings_more f g = elim (kinds us es) [
        | inl c ↦ (let own = own_warnings (text_with marked us) in
            let t : text_warnings (text_with marked es) ≡ own ++ warned (xs ++ (vs ++ ys)) =
            warned_all_in (text_with marked es) (collection us es c) g
            ∙ ap (λ (x : Text). text_warnings x ++ warnings_found (feature_findings (text_with marked es))) (own_there marked es us)
            ∙ ap (λ zs. own ++ zs) (ap (λ zs. warnings_found (findings_from 0 zs)) T_features ∙ warned_trees 0 (xs ++ (vs ++ ys))) in
            let u : text_warnings (text_with marked us) ≡ own ++ warned (xs ++ ys) =
            warned_all_in (text_with marked us) c f
            ∙ ap (λ zs. own ++ zs) (ap (λ zs. warnings_found (findings_from 0 zs)) U_features ∙ warned_trees 0 (xs ++ ys)) in
            ap warnings_of t ∙ warned_between own xs vs ys ∙ ap (λ zs. joined (warnings_of zs) (warnings_of (warned vs))) (sym u))
        | inr k ↦ absurd (k.1 f)
      ]
