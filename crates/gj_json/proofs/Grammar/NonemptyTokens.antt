-- Strings and numbers have bytes.
use Rattle.gj_json.proofs.Common.{Elements, IsNumber, IsText, List, Members, Quoted, Spells, SpellsElements, SpellsMembers, SpellsMoreElements}
use Rattle.gj_json.proofs.Common.{SpellsMoreMembers, Text, Tree, ap, arith, array, constant, element, end_of_array, end_of_object, inl, inr, length}
use Rattle.gj_json.proofs.Common.{member, object, string, subst, ℕ, [], ◌++◌, ◌+◌, ◌<◌, ◌∷◌, ◌≡◌}
use Rattle.gj_number.specs.Grammar.{IsNatural}
use Rattle.gj_json.specs.Tree.{number}
use Rattle.gj_json.specs.Internal.TextMachine.{Frame, in_array, in_object, Member, back_elements, back_members}
use Rattle.gj_json.proofs.Machine.Completions.{After}

-- a number has a byte, and a string has its quotes
abbrev mutual
  pub Whole : Tree → Type 0
  Whole (constant which place) = Unit {0}
  Whole (number place literal end) = place < end
  Whole (string place content end) = place + 1 < end
  Whole (array place elements close) = WholeElements elements
  Whole (object place members close) = WholeMembers members

  pub WholeElements : Elements → Type 0
  WholeElements end_of_array = Unit {0}
  WholeElements (element value more) = Whole value × WholeElements more

  pub WholeMembers : Members → Type 0
  WholeMembers end_of_object = Unit {0}
  WholeMembers (member place name end value more) = Whole value × WholeMembers more

no_natural : (natural rest : List ℕ) → [] ≡ natural ++ rest → IsNatural natural → ⊥
no_natural [] rest e h = h
no_natural (b ∷ natural) rest e h = cc

some_digits : (literal : List ℕ) → IsNumber literal → 0 < length literal
some_digits [] (inl u) = absurd (no_natural u.0 (u.1 ++ u.2) u.3 u.4)
some_digits [] (inr k) = let e = k.1 in cc
some_digits (b ∷ literal) h = omega arith

quoted_long : (place : ℕ) (content : List ℕ) (end : ℕ) {n : ℕ} {bytes : List ℕ} → Quoted place content end n bytes → place + 1 < end
quoted_long place content end {n = n} h =
    let first : length h.1.first ≡ 1 = ap length h.1.before in
    let last : length h.1.after.after.first ≡ 1 = ap length h.1.after.after.before in
    omega (arith, h.0, first, last, h.1.after.after.after.1)

mutual
  whole : (t : Tree) (n : ℕ) (bytes : List ℕ) → Spells t n bytes → Whole t
  whole (constant which place) n bytes h = tt
  whole (number place literal end) n bytes h = let l : length h.2.first ≡ length literal =
      ap length h.2.before in omega (arith, h.0, l, some_digits literal h.1, h.2.after.1)
  whole (string place content end) n bytes h = quoted_long place content end h
  whole (array place elements close) n bytes h = whole_elements elements close _ _ h.1.after.after
  whole (object place members close) n bytes h = whole_members members close _ _ h.1.after.after

  whole_elements : (elements : Elements) (close n : ℕ) (bytes : List ℕ) → SpellsElements elements close n bytes → WholeElements elements
  whole_elements end_of_array close n bytes h = tt
  whole_elements (element v more) close n bytes h = (whole v _ _ h.before, whole_more_elements more close _ _ h.after.after)

  whole_more_elements : (elements : Elements) (close n : ℕ) (bytes : List ℕ) → SpellsMoreElements elements close n bytes → WholeElements elements
  whole_more_elements end_of_array close n bytes h = tt
  whole_more_elements (element v more) close n bytes h = (whole v _ _ h.after.after.before, whole_more_elements more close _ _ h.after.after.after.after)

  whole_members : (members : Members) (close n : ℕ) (bytes : List ℕ) → SpellsMembers members close n bytes → WholeMembers members
  whole_members end_of_object close n bytes h = tt
  whole_members (member place name end v more) close n bytes h =
      (whole v _ _ h.after.after.after.after.before, whole_more_members more close _ _ h.after.after.after.after.after.after)

  whole_more_members : (members : Members) (close n : ℕ) (bytes : List ℕ) → SpellsMoreMembers members close n bytes → WholeMembers members
  whole_more_members end_of_object close n bytes h = tt
  whole_more_members (member place name end v more) close n bytes h =
      (whole v _ _ h.after.after.after.after.after.after.before, whole_more_members more close _ _ h.after.after.after.after.after.after.after.after)

pub whole_text : (text : Text) (bytes : List ℕ) → IsText text bytes → Whole text.value
whole_text text bytes h = whole text.value _ _ h.after.after.before

-- ---- what has ended in what is open

abbrev pub WholeDone : List Tree → Type 0
WholeDone [] = Unit {0}
WholeDone (t ∷ done) = Whole t × WholeDone done

abbrev pub WholeDoneMembers : List Member → Type 0
WholeDoneMembers [] = Unit {0}
WholeDoneMembers (m ∷ done) = Whole m.value × WholeDoneMembers done

abbrev pub WholeStack : List Frame → Type 0
WholeStack [] = Unit {0}
WholeStack (in_array place done ∷ stack) = WholeDone done × WholeStack stack
WholeStack (in_object place done np name ne ∷ stack) = WholeDoneMembers done × WholeStack stack

whole_back : (done : List Tree) (more : Elements) → WholeElements (back_elements done more) → WholeDone done × WholeElements more
whole_back [] more h = (tt, h)
whole_back (t ∷ done) more h = let g = whole_back done (element t more) h in ((g.1.0, g.0), g.1.1)

whole_back_members : (done : List Member) (more : Members) → WholeMembers (back_members done more) → WholeDoneMembers done × WholeMembers more
whole_back_members [] more h = (tt, h)
whole_back_members (m ∷ done) more h = let g = whole_back_members done (member m.place m.name m.end m.value more) h in ((g.1.0, g.0), g.1.1)

pub whole_in : (stack : List Frame) (t T : Tree) (n : ℕ) (bytes : List ℕ) → After stack t T n bytes → Whole T → WholeStack stack × Whole t
whole_in [] t T n bytes h w = (tt, subst Whole h.1 w)
whole_in (in_array place done ∷ stack) t T n bytes h w =
    let g = whole_in stack (array place (back_elements done (element t h.0)) h.1) T _ _ h.2.after.after w in
    let k = whole_back done (element t h.0) g.1 in
    ((k.0, g.0), k.1.0)
whole_in (in_object place done np name ne ∷ stack) t T n bytes h w =
    let g = whole_in stack (object place (back_members done (member np name ne t h.0)) h.1) T _ _ h.2.after.after w in
    let k = whole_back_members done (member np name ne t h.0) g.1 in
    ((k.0, g.0), k.1.0)
