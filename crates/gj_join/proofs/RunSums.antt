-- The elements of a run, from a text that begins with the stand, and the run from its elements.
use Rattle.std.proofs.Common.{◌≡◌, ℕ, ◌+◌, ◌-◌, ◌≤◌, inl, inr, false, List, [], ◌∷◌, ◌++◌, length, IsSome, refl, sym, ap, subst, ◌∙◌, arith, append_assoc, append-nil}
use Rattle.std.proofs.lemmas.List.{length-append, length-replicate}
use Rattle.std.proofs.Math.Path.{path_j, subst_refl}
use Rattle.gj_json.specs.Broken.{Partial, back_elements, in_array, value_done}
use Rattle.gj_json.specs.Bytes.{space}
use Rattle.gj_json.specs.Text.{IsText, IsTextWithin, IsViableWithin}
use Rattle.gj_json.specs.Tree.{Tree, depth, element, end_of_array, end_of_object, Text}
use Rattle.gj_json.proofs.Grammar.SpelledForms
use Rattle.gj_json.proofs.Machine.ValuePaths.{at, leads_none}
use Rattle.gj_coords.specs.Items.{items}
use Rattle.gj_rules.specs.FeatureFindings.{closing_of, end_of, feature_findings, features_of, finding_of, findings_from}
use Rattle.gj_join.specs.Runs.{AreFindingsOf, IsRun, OneEnds, spaces, stand_at, stand_end}
use Rattle.gj_join.proofs.ClosedTexts.{Closing, closed_features, closing_text, fits, other_depth, text_closing, text_of}
use Rattle.gj_join.proofs.ElementRuns.{OneOf, chain, done_after, last_of, up_to}
use Rattle.gj_join.proofs.EndedFeatures.{ended_feature}
use Rattle.gj_join.proofs.FeatureStates.{Stands}
use Rattle.gj_join.proofs.RunsRead.{Reads, read_on, stand_around, stand_length, stand_stands, stood}
use Rattle.gj_join.proofs.WholeTexts.{elements_after}

abbrev pub stand_element : ℕ → Tree
stand_element begin = stood (13 + length (spaces (begin - 15)))

pub stand_ends : (begin : ℕ) → 15 ≤ begin → end_of (stand_element begin) ≡ begin
stand_ends begin room = omega (arith, length-replicate (begin - 15) space)

-- ---- from a text

-- the last of some elements
pub at_last : (t : Tree) (us more : List Tree) → IsSome (closing_of (last_of t us)) → OneOf (end_of (last_of t us)) (t ∷ (us ++ more))
at_last t [] more s = inl (s, refl)
at_last t (u ∷ us) more s = inr (at_last u us more s)

up_to_last : (t : Tree) (us more : List Tree) (s : IsSome (closing_of (last_of t us)))
    → up_to (end_of (last_of t us)) (t ∷ (us ++ more)) (at_last t us more s) ≡ t ∷ us
unfolding at_last
up_to_last t [] more s = refl
up_to_last t (u ∷ us) more s = ap (λ vs. t ∷ vs) (up_to_last u us more s)

up_to_moved : (end : ℕ) {xs ys : List Tree} (e : xs ≡ ys) (h : OneOf end xs) → up_to end ys (subst (OneOf end) e h) ≡ up_to end xs h
up_to_moved end {xs} e h = path_j (λ ys f. up_to end ys (subst (OneOf end) f h) ≡ up_to end xs h) (ap (up_to end xs) (subst_refl (OneOf end) h)) e

last_ends : (i : ℕ) (t : Tree) (us more : List Tree) → IsSome (closing_of (last_of t us)) → OneEnds (end_of (last_of t us)) (findings_from i (t ∷ (us ++ more)))
last_ends i t [] more s = inl (s, refl)
last_ends i t (u ∷ us) more s = inr (last_ends (i + 1) u us more s)

-- the bytes that have these elements
pub record RunTo (begin : ℕ) (tail : List ℕ) (us : List Tree) : Type 0 where
  pub run : List ℕ
  pub back : List ℕ
  pub joined : tail ≡ run ++ back
  pub ends : begin + length run ≡ end_of (last_of (stand_element begin) us)
  pub reads : Reads begin run us

none_read : (n : ℕ) → Reads n [] []
none_read n = record { leads = λ stack place done t. leads_none (at (in_array place done ∷ stack) (value_done t)) n }

pub run_to : (begin : ℕ) (tail : List ℕ) (text : Text) (us more : List Tree) → 15 ≤ begin → IsText text (stand_at begin ++ tail)
    → features_of text.value ≡ stand_element begin ∷ (us ++ more) → IsSome (closing_of (last_of (stand_element begin) us)) → RunTo begin tail us
run_to begin tail text [] more room h e s = record {
  run = [];
  back = tail;
  joined = refl;
  ends = omega (arith, stand_ends begin room);
  reads = none_read begin;
}
run_to begin tail text (u ∷ us) more room h e s =
    let t = stand_element begin in
    let end = end_of (last_of u us) in
    let g = text_closing false stand_around (stand_at begin) tail begin (stand_length begin room) (stand_stands begin) text h in
    let c = g.0 in
    let f : features_of text.value ≡ t ∷ items c.more =
    ap (λ (x : Text). features_of x.value) g.1 ∙ closed_features stand_around (element t c.more) c.close c.others c.end in
    let k : t ∷ (u ∷ (us ++ more)) ≡ t ∷ items c.more = sym e ∙ f in
    let same : u ∷ (us ++ more) ≡ items c.more = cc in
    let one : OneOf end (items c.more) = subst (OneOf end) same (at_last u us more s) in
    let w = SpelledForms.then_right c.spelled in
    let r = chain end c.more c.close begin w.first w.before one in
    let found : r.found ≡ u ∷ us = r.found_is ∙ up_to_moved end same (at_last u us more s) ∙ up_to_last u us more s in
    record {
      run = r.front;
      back = r.back ++ w.rest;
      joined = w.joined ∙ ap (λ xs. xs ++ w.rest) r.joined ∙ append_assoc r.front r.back w.rest;
      ends = r.ends;
      reads = subst (Reads begin r.front) found (record { leads = λ stack place done v. r.leads stack place done v (value_done v) (inl refl) });
    }

pub is_run : (d begin : ℕ) (tail : List ℕ) (text : Text) (us more : List Tree) → 15 ≤ begin → IsTextWithin d text (stand_at begin ++ tail)
    → features_of text.value ≡ stand_element begin ∷ (us ++ more) → IsSome (closing_of (last_of (stand_element begin) us)) → (r : RunTo begin tail us)
    → IsRun d begin r.run
is_run d begin tail text us more room h e s r =
    let t = stand_element begin in
    let bytes = stand_at begin ++ r.run in
    let joined : stand_at begin ++ tail ≡ bytes ++ r.back = ap (λ xs. stand_at begin ++ xs) r.joined ∙ sym (append_assoc (stand_at begin) r.run r.back) in
    let end : end_of (last_of t us) ≡ length bytes = omega (arith, r.ends, stand_length begin room, length-append (stand_at begin) r.run) in
    let one : OneEnds (end_of (last_of t us)) (feature_findings text) = subst (λ vs. OneEnds (end_of (last_of t us)) (findings_from 0 vs)) (sym e) (last_ends 0 t us more s) in
    record {
      room = room;
      ends = ended_feature d bytes r.back text (subst (IsText text) joined h.0, h.1) (subst (λ n. OneEnds n (feature_findings text)) end one);
    }

-- ---- the text of a run

closed_there : (n : ℕ) → Closing n stand_end
closed_there n = record {
  more = end_of_array;
  close = n;
  others = end_of_object;
  end = n + 1;
  spelled = SpelledForms.white_none (SpelledForms.closes_more refl (SpelledForms.white_none (SpelledForms.closes_more refl tt)));
}

pub record ClosedRun (begin : ℕ) (run : List ℕ) (us : List Tree) : Type 0 where
  pub text : Text
  pub text_of : IsText text (stand_at begin ++ (run ++ stand_end))
  pub features : features_of text.value ≡ stand_element begin ∷ us
  pub deep : (d : ℕ) → IsViableWithin d (stand_at begin ++ run) → depth text.value ≤ d

pub closed_run : (begin : ℕ) (run : List ℕ) (us : List Tree) → 15 ≤ begin → Reads begin run us → ClosedRun begin run us
unfolding closed_there
closed_run begin run us room reads =
    let t = stand_element begin in
    let bytes = stand_at begin ++ run in
    let s : Stands false stand_around bytes = read_on (stand_stands begin) (subst (λ n. Reads n run us) (sym (stand_length begin room)) reads) in
    let c = closed_there (length bytes) in
    record {
      text = text_of false c stand_around s.done s.value;
      text_of = rw (append_assoc (stand_at begin) run stand_end) at (closing_text false stand_around bytes stand_end s c);
      features =
          closed_features stand_around (back_elements s.done (element s.value end_of_array)) c.close c.others c.end
          ∙ elements_after [] t us end_of_array ∙ ap (λ vs. t ∷ vs) (append-nil us);
      deep = λ d v.
          (let before : IsViableWithin d (stand_at begin) = (run ++ v.0, v.1, (subst (IsText v.1) (append_assoc (stand_at begin) run v.0) v.2.0, v.2.1)) in
          let three = (fits false stand_around d (stand_at begin) (stand_stands begin) before).0 in
          other_depth false stand_around d (length bytes) stand_end c [] s.done t s.value (omega (arith, three))
          (fits false stand_around d bytes s v));
    }

pub found_there : (begin : ℕ) (run : List ℕ) (us : List Tree) → 15 ≤ begin → Reads begin run us → AreFindingsOf begin run (findings_from 1 us)
found_there begin run us room reads =
    let k = closed_run begin run us room reads in
    record { text = k.text; text_of = k.text_of; first = finding_of 0 (stand_element begin); findings = ap (findings_from 0) k.features }

-- ---- bytes have one row of elements

pub reads_one : (n : ℕ) (bytes : List ℕ) (xs ys : List Tree) → Reads n bytes xs → Reads n bytes ys → xs ≡ ys
reads_one n bytes xs ys h k =
    let t = stood n in
    let f = sym ((h.leads [] 0 [] t).goes false) ∙ (k.leads [] 0 [] t).goes false in
    let p : at (in_array 0 (done_after [] t xs) ∷ []) (value_done (last_of t xs)) ≡ at (in_array 0 (done_after [] t ys) ∷ []) (value_done (last_of t ys)) = cc in
    let q : value_done (last_of t xs) ≡ value_done (last_of t ys) = ap (λ (s : Partial). s.leaf) p in
    let last : last_of t xs ≡ last_of t ys = cc in
    let r : in_array 0 (done_after [] t xs) ∷ [] ≡ in_array 0 (done_after [] t ys) ∷ [] = ap (λ (s : Partial). s.stack) p in
    let done : done_after [] t xs ≡ done_after [] t ys = cc in
    let all : t ∷ (xs ++ []) ≡ t ∷ (ys ++ []) =
    sym (elements_after [] t xs end_of_array) ∙ ap (λ v. items (back_elements (done_after [] t xs) (element v end_of_array))) last
    ∙ ap (λ vs. items (back_elements vs (element (last_of t ys) end_of_array))) done ∙ elements_after [] t ys end_of_array in
    let same : xs ++ [] ≡ ys ++ [] = cc in
    sym (append-nil xs) ∙ same ∙ append-nil ys
