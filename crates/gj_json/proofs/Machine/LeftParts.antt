-- What the machine completes to a text is the left part of that text.
use Rattle.gj_json.proofs.Common.{IsText, List, Some, Text, Tree, array, constant, element, member, object, run, string, ℕ, [], ◌++◌, ◌∷◌, ◌≡◌}
use Rattle.gj_json.specs.Tree.{number}
use Rattle.gj_json.specs.Broken.{Member, Frame, in_array, in_object, Leaf, value_due, value_done, array_opened, object_opened, constant_on, number_on}
use Rattle.gj_json.specs.Broken.{string_on, name_due, name_on, colon_due, Broken, text_due, mark_one, mark_two, begun, back_elements, back_members, Has}
use Rattle.gj_json.specs.Broken.{ExtendsLeaf, Extends}
use Rattle.gj_json.proofs.Machine.Completions.{TextFrom, After, AfterName, Completes, Goes}
use Rattle.gj_json.proofs.Machine.MachineTexts.{text_goes_on}

after_has : (stack : List Frame) (t T : Tree) (n : ℕ) (bytes : List ℕ) → After stack t T n bytes → Has stack t T
after_has [] t T n bytes h = h.1
after_has (in_array place done ∷ stack) t T n bytes h = (h.0, h.1, after_has stack (array place (back_elements done (element t h.0)) h.1) T _ _ h.2.after.after)
after_has (in_object place done np name ne ∷ stack) t T n bytes h =
    (h.0, h.1, after_has stack (object place (back_members done (member np name ne t h.0)) h.1) T _ _ h.2.after.after)

name_has : (stack : List Frame) (place : ℕ) (done : List Member) (np : ℕ) (name : List ℕ) (ne : ℕ) (T : Tree) (n : ℕ) (bytes : List ℕ)
    → AfterName stack place done np name ne T n bytes
    → (t : Tree) × Has (in_object place done np name ne ∷ stack) t T
name_has stack place done np name ne T n bytes h = (h.0, after_has (in_object place done np name ne ∷ stack) h.0 T _ _ h.1.after.after.after.after)

leaf_extends : (stack : List Frame) (leaf : Leaf) (T : Tree) (n : ℕ) (bytes : List ℕ) → Completes stack leaf T n bytes → ExtendsLeaf stack leaf T
leaf_extends stack value_due T n bytes h = (h.0, after_has stack h.0 T _ _ h.1.after.after)
leaf_extends stack (value_done t) T n bytes h = after_has stack t T n bytes h
leaf_extends stack (array_opened place) T n bytes h = (h.0, h.1, after_has stack (array place h.0 h.1) T _ _ h.2.after.after)
leaf_extends stack (object_opened place) T n bytes h = (h.0, h.1, after_has stack (object place h.0 h.1) T _ _ h.2.after.after)
leaf_extends stack (constant_on which place left) T n bytes h = after_has stack (constant which place) T _ _ h.after
leaf_extends stack (number_on place so_far) T n bytes h = (h.0, h.1, after_has stack (number place (so_far ++ h.0) h.1) T _ _ h.3.after.after)
leaf_extends stack (string_on place so_far state) T n bytes h = (h.0, h.1, after_has stack (string place (so_far ++ h.0) h.1) T _ _ h.2.after)
leaf_extends stack (name_due place done) T n bytes h = let g = name_has stack place done h.0 h.1 h.2 T _ _ h.3.after.after in (h.0, h.1, h.2, g.0, g.1)
leaf_extends stack (name_on place done np so_far state) T n bytes h = let g =
    name_has stack place done np (so_far ++ h.0) h.1 T _ _ h.2.after in (h.0, h.1, g.0, g.1)
leaf_extends stack (colon_due place done np name ne) T n bytes h = name_has stack place done np name ne T n bytes h

text_extends : (s : Broken) (T : Text) (n : ℕ) (bytes : List ℕ) → TextFrom T n bytes s → Extends s T
text_extends text_due T n bytes h = tt
text_extends mark_one T n bytes h = h.0
text_extends mark_two T n bytes h = h.0
text_extends (begun marked s) T n bytes h = (h.0, leaf_extends s.stack s.leaf T.value n bytes h.1)

-- a text is the state that its prefix leads to, with what is under way ended and what is open closed
pub run_extends : (bytes rest : List ℕ) (T : Text) (s : Broken) → run bytes ≡ Some s → IsText T (bytes ++ rest) → Extends s T
run_extends bytes rest T s e h =
    let g = text_goes_on T bytes rest h in
    let k : Goes (TextFrom T _ rest) (Some s) = rw e at g in
    text_extends s T _ rest k
