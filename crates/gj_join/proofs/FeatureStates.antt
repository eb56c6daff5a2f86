-- Where a feature has ended, the machine stands after an element of the array `features`.
use Rattle.std.proofs.Common.{◌≡◌, ◌≢◌, ℕ, ◌+◌, inl, inr, Bool, true, false, List, [], ◌∷◌, ◌++◌, length, take, Some, None, refl, sym, ap, subst, ◌∙◌, arith}
use Rattle.std.proofs.lemmas.Bool.Decides.{eqb_tells}
use Rattle.std.proofs.Math.Seq.{take-append_seam}
use Rattle.gj_json.specs.Broken.{Partial, begun, value_due}
use Rattle.gj_json.specs.Grammar.{Then, White, Spells}
use Rattle.gj_json.specs.Internal.NamedBytes.{mark_first, mark_second, mark_third}
use Rattle.gj_json.specs.Internal.TextMachine.{run, run_from}
use Rattle.gj_json.specs.Text.{SpellsMark, IsText}
use Rattle.gj_json.specs.Tree.{Tree, Text}
use Rattle.gj_json.proofs.Grammar.ClassOfBytes.{class_mark}
use Rattle.gj_json.proofs.Grammar.SpelledForms
use Rattle.gj_json.proofs.Machine.BytesUnderWay.{run_none}
use Rattle.gj_json.proofs.Machine.ValuePaths.{at, awaiting_white}
use Rattle.gj_rules.specs.FeatureFindings.{feature_findings, findings_from, features_of}
use Rattle.gj_join.specs.Runs.{OneEnds, StandsAfterFeature}
use Rattle.gj_join.proofs.ElementRuns.{ItEnds, OneOf}
use Rattle.gj_join.proofs.ReachedFeatures.{Around, open_in, after_feature, Reach, root_reach, then_reach, within}

pub one_of : (place i : ℕ) (vs : List Tree) → OneEnds place (findings_from i vs) → OneOf place vs
one_of place i [] h = absurd h
one_of place i (v ∷ vs) (inl h) = inl h
one_of place i (v ∷ vs) (inr h) = inr (one_of place (i + 1) vs h)

-- these bytes lead there
pub record Stands (marked : Bool) (around : Around) (bytes : List ℕ) : Type 0 where
  pub done : List Tree
  pub value : Tree
  pub is : run bytes ≡ Some (begun marked (after_feature around done value))

-- ---- the first bytes of a text

abbrev due : Partial
due = at [] value_due

never_due : (around : Around) (done : List Tree) (value : Tree) → after_feature around done value ≡ due → ⊥
never_due around done value e = let g : open_in around done ≡ [] = ap (λ (p : Partial). p.stack) e in cc

some_front : (n end : ℕ) (bytes : List ℕ) (r : Reach end due n bytes) → r.front ≢ []
some_front n end bytes r = λ e.
    let to = after_feature r.around r.done r.value in
    let g : run_from (Some (begun false due)) n [] ≡ Some (begun false to) =
    subst (λ xs. run_from (Some (begun false due)) n xs ≡ Some (begun false to)) e (r.leads.goes false) in
    let k : Some (begun false due) ≡ Some (begun false to) = g in
    never_due r.around r.done r.value (cc)

unmarked_goes : (bytes : List ℕ) (s : Partial) → bytes ≢ [] → run_from (Some (begun false due)) 0 bytes ≡ Some (begun false s)
    → run bytes ≡ Some (begun false s)
unmarked_goes [] s n e = absurd (n refl)
unmarked_goes (b ∷ bytes) s n e = elim (eqb_tells b mark_first) [
  | inl k ↦ (let f : run_from None 1 bytes ≡ Some (begun false s) = rw (class_mark b k.1) at e in let g : None ≡ Some (begun false s) =
      sym (run_none bytes 1) ∙ f in cc)
  | inr k ↦ rw (k.0) e
]

record TextReach (end : ℕ) (bytes : List ℕ) : Type 0 where
  pub front : List ℕ
  pub back : List ℕ
  pub joined : bytes ≡ front ++ back
  pub ends : length front ≡ end
  pub marked : Bool
  pub around : Around
  pub stands : Stands marked around front
  pub last : ItEnds end stands.value

value_of_text : (end : ℕ) (v : Tree) (n : ℕ) (bytes : List ℕ) → Then White (Then (Spells v) White) n bytes → OneOf end (features_of v) → Reach end due n bytes
value_of_text end v n bytes h one =
    then_reach h (awaiting_white [] h.first n h.before) (within h.after.first h.after.rest h.after.joined (root_reach end v _ h.after.first h.after.before one))

text_reach : (end : ℕ) (text : Text) (bytes : List ℕ) → IsText text bytes → OneOf end (features_of text.value) → TextReach end bytes
text_reach end text bytes h one = go text.marked h
  where
    go : (marked : Bool) → Then (SpellsMark marked) (Then White (Then (Spells text.value) White)) 0 bytes → TextReach end bytes
    go false k =
        let j : Then White (Then (Spells text.value) White) 0 bytes = SpelledForms.exactly_done k in
        let r = value_of_text end text.value 0 bytes j one in
        record {
          front = r.front;
          back = r.back;
          joined = r.joined;
          ends = (let n = length r.front in omega (arith, r.ends));
          marked = false;
          around = r.around;
          stands = record {
            done = r.done;
            value = r.value;
            is = unmarked_goes r.front (after_feature r.around r.done r.value) (some_front 0 end bytes r) (r.leads.goes false);
          };
          last = r.last;
        }
    go true k =
        let f : k.first ≡ mark_first ∷ mark_second ∷ mark_third ∷ [] = k.before in
        let l : length k.first ≡ 3 = ap length f in
        let j : Then White (Then (Spells text.value) White) 3 k.rest = SpelledForms.moved (Then White (Then (Spells text.value) White)) (omega (arith, l)) refl k.after in
        let r = value_of_text end text.value 3 k.rest j one in
        record {
          front = mark_first ∷ mark_second ∷ mark_third ∷ r.front;
          back = r.back;
          joined = k.joined ∙ ap (λ xs. xs ++ k.rest) f ∙ ap (λ xs. mark_first ∷ mark_second ∷ mark_third ∷ xs) r.joined;
          ends = omega (arith, r.ends);
          marked = true;
          around = r.around;
          stands = record { done = r.done; value = r.value; is = r.leads.goes true };
          last = r.last;
        }

-- ---- where a feature has ended

pub same_front : (xs us ys vs : List ℕ) → xs ++ us ≡ ys ++ vs → length xs ≡ length ys → xs ≡ ys
same_front xs us ys vs e l = sym (take-append_seam xs us) ∙ ap (λ zs. take (length xs) zs) e ∙ ap (λ n. take n (ys ++ vs)) l ∙ take-append_seam ys vs

pub record AfterFeature (bytes : List ℕ) : Type 0 where
  pub marked : Bool
  pub around : Around
  pub stands : Stands marked around bytes
  pub last : ItEnds (length bytes) stands.value

-- in one text that begins with these bytes a feature ends with them
pub reached : (bytes rest : List ℕ) (text : Text) → IsText text (bytes ++ rest) → OneEnds (length bytes) (feature_findings text) → AfterFeature bytes
reached bytes rest text h ends =
    let r = text_reach (length bytes) text (bytes ++ rest) h (one_of (length bytes) 0 (features_of text.value) ends) in
    let e : bytes ≡ r.front = same_front bytes rest r.front r.back r.joined (sym r.ends) in
    record {
      marked = r.marked;
      around = r.around;
      stands = record { done = r.stands.done; value = r.stands.value; is = ap run e ∙ r.stands.is };
      last = r.last;
    }

pub feature_stands : (levels : ℕ) (bytes : List ℕ) → StandsAfterFeature levels bytes → AfterFeature bytes
feature_stands levels bytes k = let v = k.viable in reached bytes v.0 v.1 v.2.0 (k.ends v.0 v.1 v.2.0)
