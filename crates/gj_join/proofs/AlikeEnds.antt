-- After prefixes of the same length where a feature has ended, features end at the same places.
use Rattle.std.proofs.Common.{◌≡◌, ◌↔◌, ℕ, ◌+◌, ◌≤◌, Bool, List, ◌∷◌, ◌++◌, length, sym, ap, subst, ◌∙◌, arith, append_assoc}
use Rattle.std.proofs.lemmas.List.{length-append}
use Rattle.gj_json.specs.Broken.{back_elements}
use Rattle.gj_json.specs.Text.{IsText, IsViableWithin}
use Rattle.gj_json.specs.Tree.{element, end_of_array, Text}
use Rattle.gj_coords.specs.Items.{items}
use Rattle.gj_rules.specs.FeatureFindings.{feature_findings, features_of}
use Rattle.gj_join.specs.Runs.{OneEnds, StandsAfterFeature, IsRun, spaces}
use Rattle.gj_join.proofs.ClosedTexts.{alike, back_items, closed_features, text_of}
use Rattle.gj_join.proofs.ElementRuns.{ItEnds, OneOf}
use Rattle.gj_join.proofs.EndedFeatures.{ended_feature}
use Rattle.gj_join.proofs.FeatureOrder.{Rising, one_after, one_later, rising_features}
use Rattle.gj_join.proofs.FeatureStates.{Stands, one_of}
use Rattle.gj_join.proofs.ReachedFeatures.{Around}
use Rattle.gj_join.proofs.RunsRead.{both, one_ends, run_of, some_read, white_of}

module _ (d : ℕ) (marked : Bool) (a : Around) (xs ys after : List ℕ) (s : Stands marked a xs) (t : Stands marked a ys) (same : length xs ≡ length ys)
    (viable : IsViableWithin d ys) (some : 1 ≤ length after) where
  ends_alike : (last : ℕ) → ItEnds last s.value → last ≤ length xs → StandsAfterFeature d (xs ++ after) → StandsAfterFeature d (ys ++ after)
  ends_alike last i room h =
      let rest = h.viable.0 in
      let text = h.viable.1 in
      let n = length (xs ++ after) in
      let m : n ≡ length (ys ++ after) = omega (arith, same, length-append xs after, length-append ys after) in
      let j : IsText text (xs ++ (after ++ rest)) = rw (append_assoc xs after rest) at h.viable.2.0 in
      let g = alike marked a xs ys (after ++ rest) s t same text j in
      let c = g.0 in
      let done = items (back_elements s.done end_of_array) in
      let are : features_of text.value ≡ done ++ s.value ∷ items c.more =
      ap (λ (x : Text). features_of x.value) g.1 ∙ closed_features a (back_elements s.done (element s.value c.more)) c.close c.others c.end
      ∙ back_items s.done (element s.value c.more) in
      let later : OneOf n (items c.more) =
      one_later 0 last n done s.value (items c.more) (subst (Rising 0) are (rising_features text (xs ++ (after ++ rest)) j)) i
      (omega (arith, room, some, length-append xs after))
      (subst (OneOf n) are (one_of n 0 (features_of text.value) (h.ends rest text h.viable.2.0))) in
      let other = text_of marked c a t.done t.value in
      let others : features_of other.value ≡ items (back_elements t.done end_of_array) ++ t.value ∷ items c.more =
      closed_features a (back_elements t.done (element t.value c.more)) c.close c.others c.end ∙ back_items t.done (element t.value c.more) in
      let one : OneOf n (features_of other.value) =
      subst (OneOf n) (sym others) (one_after n (items (back_elements t.done end_of_array)) t.value (items c.more) later) in
      ended_feature d (ys ++ after) rest other (rw (append_assoc ys after rest) g.2, g.3 d h.viable.2.1 viable)
      (subst (λ k. OneEnds k (feature_findings other)) m (one_ends n 0 (features_of other.value) one))

pub as_ends : (d : ℕ) (before more : List ℕ) (byte : ℕ) (after : List ℕ) → StandsAfterFeature d before → IsRun d (length before) more
    → StandsAfterFeature d (before ++ (spaces (length more) ++ byte ∷ after)) ↔ StandsAfterFeature d (before ++ (more ++ byte ∷ after))
as_ends d before more byte after b r =
    let white = before ++ spaces (length more) in
    let rest = byte ∷ after in
    let g = some_read d (length before) more r in
    let k = both d before more g.found b r g.reads in
    let e = append_assoc before (spaces (length more)) rest in
    let f = append_assoc before more rest in (
      λ h. subst (StandsAfterFeature d) f
          (ends_alike d k.marked k.around white (before ++ more) rest (white_of k) (run_of k) k.same k.run_viable (omega arith) (length before) k.last
          (omega (arith, length-append before (spaces (length more)))) (subst (StandsAfterFeature d) (sym e) h)),
      λ h. subst (StandsAfterFeature d) e
          (ends_alike d k.marked k.around (before ++ more) white rest (run_of k) (white_of k) (sym k.same) k.white_viable (omega arith)
          (length before + length more) (g.ended k.stands.value k.last) (omega (arith, length-append before more)) (subst (StandsAfterFeature d) (sym f) h)),
    )
