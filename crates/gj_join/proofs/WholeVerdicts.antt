-- The verdict of a text with a run of features, from that of the text with spaces in its place.
use Rattle.std.proofs.Common.{◌≡◌, ℕ, ◌+◌, ◌-◌, ◌≤◌, inl, inr, List, [], ◌∷◌, ◌++◌, length, None, refl, sym, ap, subst, ◌∙◌, arith, append_assoc}
use Rattle.std.proofs.lemmas.List.{append-nil, length-append}
use Rattle.std.specs.List.{AllByRecursion}
use Rattle.gj_json.specs.Broken.{back_elements}
use Rattle.gj_json.specs.Bytes.{close_bracket, comma, IsWhite}
use Rattle.gj_json.specs.Grammar.{Then, White, SpellsMoreElements}
use Rattle.gj_json.specs.Limits.{Allowed}
use Rattle.gj_json.specs.Refusal.{IsAdmitted}
use Rattle.gj_json.specs.Text.{IsText}
use Rattle.gj_json.specs.Tree.{Elements, end_of_array, element, Text, Tree}
use Rattle.gj_json.proofs.Grammar.SpelledForms
use Rattle.gj_coords.specs.Fault.{least}
use Rattle.gj_coords.specs.Internal.KeptWarnings.{joined, warnings_of}
use Rattle.gj_coords.specs.Items.{items}
use Rattle.gj_coords.specs.declared.warnings.Warnings.{Warnings}
use Rattle.gj_coords.proofs.Readers.LeastOfSome.{least_none}
use Rattle.gj_rules.specs.Faults.{text_faults}
use Rattle.gj_rules.specs.FeatureFindings.{FeatureFinding, features_of, findings_from, warnings_found}
use Rattle.gj_rules.specs.TextWarnings.{text_warnings}
use Rattle.gj_rules.specs.Verdict.{IsVerdict}
use Rattle.gj_rules.specs.declared.verdict.Verdict.{Verdict}
use Rattle.gj_rules.specs.declared.verdict.Verdict.TheVariants.{Valid, Broken, NotJson}
use Rattle.gj_join.specs.Runs.{StandsAfterFeature, AreFindingsOf, IsRun, IsSumOf, spaces, stand_at, stand_end}
use Rattle.gj_join.specs.Internal.PassedRuns.{whole}
use Rattle.gj_join.specs.declared.sum.FeatureSum.{FeatureSum}
use Rattle.gj_join.proofs.ClosedTexts.{alike, text_of}
use Rattle.gj_join.proofs.ElementRuns.{done_after, last_of}
use Rattle.gj_join.proofs.RunsRead.{Both, Reads, as_refused, both, run_of, run_read, stood, white_of}
use Rattle.gj_join.proofs.SoundElements.{Sound, sound_trees, warned, warned_trees}
use Rattle.gj_join.proofs.WholeTexts.{elements_after, items_before, same_least, warnings_more}

-- ---- what is found in a run

not_white : IsWhite close_bracket → ⊥
not_white (inl e) = absurd (omega arith)
not_white (inr (inl e)) = absurd (omega arith)
not_white (inr (inr (inl e))) = absurd (omega arith)
not_white (inr (inr (inr e))) = absurd (omega arith)

-- no element stands before a bracket
none_later : (later : Elements) (close n : ℕ) (back last : List ℕ) → Then White (SpellsMoreElements later close) n back → stand_end ≡ back ++ last
    → later ≡ end_of_array
none_later end_of_array close n back last h e = refl
none_later (element v more) close n [] last h e = absurd (SpelledForms.exactly_end (SpelledForms.white_end h))
none_later (element v more) close n (b ∷ back) last h e =
    let i : close_bracket ≡ b = cc in
    elim (SpelledForms.white_on h) [
      | inl w ↦ absurd (not_white (subst IsWhite (sym i) w.0))
      | inr k ↦ absurd (let j : close_bracket ≡ comma = i ∙ (SpelledForms.exactly_on k).0 in omega (arith, j))
    ]

pub record Found (d begin : ℕ) (more : List ℕ) (found : List FeatureFinding) : Type 0 where
  pub trees : List Tree
  pub reads : Reads begin more trees
  pub are : found ≡ findings_from 1 trees

pub found_in : (d begin : ℕ) (more : List ℕ) (found : List FeatureFinding) → IsRun d begin more → AreFindingsOf begin more found → Found d begin more found
found_in d begin more found r f =
    let t : IsText f.text ((stand_at begin ++ more) ++ stand_end) = rw (append_assoc (stand_at begin) more stand_end) f.text_of in
    let g = run_read begin more stand_end f.text r.room f.text_of (r.ends.ends stand_end f.text t) in
    let none : items g.later ≡ [] = ap items (none_later g.later g.close g.end g.back g.last g.after g.joined) in
    let all : features_of f.text.value ≡ stood (13 + length (spaces (begin - 15))) ∷ g.found =
    g.split ∙ ap (λ xs. stood (13 + length (spaces (begin - 15))) ∷ (g.found ++ xs)) none ∙ ap (λ xs. stood (13 + length (spaces (begin - 15))) ∷ xs) (append-nil g.found) in
    let e : f.first ∷ found ≡ findings_from 0 (stood (13 + length (spaces (begin - 15))) ∷ g.found) = sym f.findings ∙ ap (λ vs. findings_from 0 vs) all in
    record { trees = g.found; reads = g.reads; are = cc }

-- ---- the verdict

pub whole_other : (rest : Verdict) (others : Warnings) → ((told : Warnings) → rest ≡ Valid told → ⊥) → whole rest others ≡ rest
whole_other (Valid told) others h = absurd (h told refl)
whole_other (Broken fault) others h = refl
whole_other (NotJson fault) others h = refl

module _ (limits : Allowed) (before more after : List ℕ) (vs : List Tree) (k : Both limits.depth before more vs) (sound : Sound vs)
    (room : length (before ++ more) ≤ limits.bytes) where
  white : List ℕ
  white = spaces (length more)

  record Whole (text : Text) : Type 0 where
    pub other : Text
    pub admitted : IsAdmitted limits other (before ++ (more ++ after))
    pub least_is : least (text_faults other) ≡ least (text_faults text)
    pub warned_is : text_faults text ≡ [] → text_faults other ≡ []
        → warnings_of (text_warnings other) ≡ joined (warnings_of (text_warnings text)) (warnings_of (warned vs))

  whole_text : (text : Text) → IsAdmitted limits text (before ++ (spaces (length more) ++ after)) → Whole text
  whole_text text h =
      let s = k.stands in
      let l = length-append (before ++ spaces (length more)) after in
      let m = length-append (before ++ more) after in
      let e : before ++ (spaces (length more) ++ after) ≡ (before ++ spaces (length more)) ++ after = sym (append_assoc before (spaces (length more)) after) in
      let f : (before ++ more) ++ after ≡ before ++ (more ++ after) = append_assoc before more after in
      let i : IsText text ((before ++ spaces (length more)) ++ after) = subst (IsText text) e h.0.0 in
      let g = alike k.marked k.around (before ++ spaces (length more)) (before ++ more) after (white_of k) (run_of k) k.same text i in
      let c = g.0 in
      let a = k.around in
      let xs = items_before s.done s.value in
      let es = back_elements (done_after s.done s.value vs) (element (last_of s.value vs) c.more) in
      let us = back_elements s.done (element s.value c.more) in
      let es_are : items es ≡ xs ++ (vs ++ items c.more) = elements_after s.done s.value vs c.more in
      let us_are : items us ≡ xs ++ items c.more = elements_after s.done s.value [] c.more in
      let other = text_of k.marked c a (done_after s.done s.value vs) (last_of s.value vs) in
      let n : length (before ++ (more ++ after)) ≤ limits.bytes = omega (arith, ap length e, ap length f, l, m, k.same, h.1) in
      record {
        other = other;
        admitted = ((subst (IsText other) f g.2, g.3 limits.depth h.0.1 k.run_viable), n);
        least_is = same_least a c.close c.others c.end k.marked es us xs vs (items c.more) es_are us_are sound ∙ ap (λ (x : Text). least (text_faults x)) (sym g.1);
        warned_is = λ p q.
            (let p : text_faults (text_of k.marked c a s.done s.value) ≡ [] = ap (λ (x : Text). text_faults x) (sym g.1) ∙ p in
            warnings_more a c.close c.others c.end k.marked es us xs vs (items c.more) es_are us_are sound p q
            ∙ ap (λ (x : Text). joined (warnings_of (text_warnings x)) (warnings_of (warned vs))) (sym g.1));
      }

pub whole_is : (limits : Allowed) (before more after : List ℕ) (sum : FeatureSum) (rest : Verdict) → length before ≡ sum.begin
    → StandsAfterFeature limits.depth before → IsSumOf limits.depth more sum → length (before ++ more) ≤ limits.bytes
    → IsVerdict limits (before ++ (spaces (length more) ++ after)) rest → IsVerdict limits (before ++ (more ++ after)) (whole rest sum.warnings)
whole_is limits before more after sum rest e b h room v = go rest v
  where
    run : IsRun limits.depth (length before) more
    run = rw e h.is_run

    trees : Found limits.depth sum.begin more h.found
    trees = found_in limits.depth sum.begin more h.found h.is_run h.findings

    reads : Reads (length before) more trees.trees
    reads = rw e trees.reads

    sound : Sound trees.trees
    sound = sound_trees 1 trees.trees (subst (λ found. AllByRecursion (λ finding. finding.fault ≡ None) found) trees.are h.sound)

    warned_are : sum.warnings ≡ warnings_of (warned trees.trees)
    warned_are = h.warnings ∙ ap (λ found. warnings_of (warnings_found found)) trees.are ∙ ap warnings_of (warned_trees 1 trees.trees)

    k : Both limits.depth before more trees.trees
    k = both limits.depth before more trees.trees b run reads

    text : (text : Text) → IsAdmitted limits text (before ++ (spaces (length more) ++ after)) → Whole limits before more after trees.trees k sound room text
    text = whole_text limits before more after trees.trees k sound room

    go : (rest : Verdict) → IsVerdict limits (before ++ (spaces (length more) ++ after)) rest → IsVerdict limits (before ++ (more ++ after)) (whole rest sum.warnings)
    go (Valid told) w =
        let t = text w.0 w.1 in
        let none : text_faults t.other ≡ [] = (least_none (text_faults t.other)).0 (t.least_is ∙ (least_none (text_faults w.0)).1 w.2) in
        (t.other, t.admitted, none, ap (λ x. joined x sum.warnings) w.3 ∙ ap (joined (warnings_of (text_warnings w.0))) warned_are ∙ sym (t.warned_is w.2 none))
    go (Broken fault) w = let t = text w.0 w.1 in (t.other, t.admitted, t.least_is ∙ w.2)
    go (NotJson fault) w = as_refused limits before more after fault b run room w

-- of the verdict that it makes
pub by_sum : (limits : Allowed) (before more after : List ℕ) (sum : FeatureSum) (rest result : Verdict) (warnings : Warnings) → length before ≡ sum.begin
    → StandsAfterFeature limits.depth before → IsSumOf limits.depth more sum → sum.warnings ≡ warnings → length (before ++ more) ≤ limits.bytes
    → IsVerdict limits (before ++ (spaces (length more) ++ after)) rest → result ≡ whole rest warnings → IsVerdict limits (before ++ (more ++ after)) result
by_sum limits before more after sum rest result warnings e b h same room v exact =
    subst (IsVerdict limits (before ++ (more ++ after))) (ap (whole rest) same ∙ sym exact) (whole_is limits before more after sum rest e b h room v)
