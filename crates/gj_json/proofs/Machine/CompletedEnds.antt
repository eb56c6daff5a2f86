-- Where nothing more comes, a state completes to the tree that it finishes with.
use Rattle.gj_json.proofs.Common.{Bool, Constant, Elements, Exactly, IsNumber, List, Members, None, Null, Option, Quoted, Some, Spells}
use Rattle.gj_json.proofs.Common.{SpellsContent, SpellsElements, SpellsMark, SpellsMembers, SpellsMoreElements, SpellsMoreMembers, StringState, Text}
use Rattle.gj_json.proofs.Common.{Tree, ap, arith, array, constant, element, end_of_array, end_of_object, false, finish, finish_leaf}
use Rattle.gj_json.proofs.Common.{if◌then◌else◌, length, letters_of, member, object, open_brace, open_bracket, refl, string, sym, text_with, true, ℕ}
use Rattle.gj_json.proofs.Common.{[], ◌++◌, ◌+◌, ◌∷◌, ◌≡◌}
use Rattle.std.proofs.lemmas.List.{append-nil}
use Rattle.gj_json.specs.Bytes.{quote as quote_byte}
use Rattle.gj_json.specs.Tree.{number}
use Rattle.gj_json.specs.Grammar.{Then, White, Ends}
use Rattle.gj_number.proofs.Grammar.DecidedNumbers.{number as decided_number, no_number}
use Rattle.gj_json.proofs.Grammar.SpelledForms
use Rattle.gj_json.proofs.Machine.StepsOfCompletions.{placed}
use Rattle.gj_json.specs.Internal.TextMachine.{Broken, text_due, mark_one, mark_two, begun, Frame, in_array, in_object, Member, Leaf}
use Rattle.gj_json.specs.Internal.TextMachine.{value_due, value_done, array_opened, object_opened, constant_on, number_on, string_on, name_due, name_on}
use Rattle.gj_json.specs.Internal.TextMachine.{colon_due, is_number}
use Rattle.gj_json.proofs.Machine.Completions.{TextFrom, After, AfterName, Completes, StringRest, StringOn, Due}

quoted_end : (place : ℕ) (content : List ℕ) (end : ℕ) {K : ℕ → List ℕ → Type 0} {n : ℕ} → Then (Quoted place content end) K n [] → ⊥
quoted_end place content end h =
    let g = placed {p = place}
    {F = Then (Exactly (quote_byte ∷ [])) (Then (λ here inner. SpellsContent content inner) (Then (Exactly (quote_byte ∷ [])) (Ends end)))} h in
    SpelledForms.exactly_end (SpelledForms.then_left g.1)

number_end : {K : ℕ → List ℕ → Type 0} {n : ℕ} (literal : List ℕ) → IsNumber literal → Then (Exactly literal) K n [] → ⊥
number_end [] i h = no_number i
number_end (d ∷ more) i h = SpelledForms.exactly_end h

constant_end : {K : ℕ → List ℕ → Type 0} {n : ℕ} (which : Constant) → Then (Exactly (letters_of which)) K n [] → ⊥
constant_end Null h = SpelledForms.exactly_end h
constant_end other h = SpelledForms.exactly_end h

-- a value is spelled by one byte at least
value_end : {K : ℕ → List ℕ → Type 0} {n : ℕ} (t : Tree) → Then (Spells t) K n [] → ⊥
value_end (constant which place) h = let g = placed {p = place} {F = Exactly (letters_of which)} h in constant_end which g.1
value_end {K} (number place literal end) h =
    number_end literal h.before.1 (SpelledForms.then_left {C = K} (SpelledForms.joins h.first h.rest h.joined h.before.2 h.after))
value_end (string place content end) h = quoted_end place content end h
value_end (array place elements close) h = let g = placed {p = place} {F = Then (Exactly (open_bracket ∷ [])) (Then White (SpellsElements elements close))} h in
    SpelledForms.exactly_end (SpelledForms.then_left g.1)
value_end (object place members close) h = let g = placed {p = place} {F = Then (Exactly (open_brace ∷ [])) (Then White (SpellsMembers members close))} h in
    SpelledForms.exactly_end (SpelledForms.then_left g.1)

more_elements_end : {K : ℕ → List ℕ → Type 0} {n : ℕ} (more : Elements) (close : ℕ) → Then (SpellsMoreElements more close) K n [] → ⊥
more_elements_end end_of_array close h = SpelledForms.closes_end {close = close} h
more_elements_end (element v more) close h = SpelledForms.exactly_end (SpelledForms.then_left h)

more_members_end : {K : ℕ → List ℕ → Type 0} {n : ℕ} (more : Members) (close : ℕ) → Then (SpellsMoreMembers more close) K n [] → ⊥
more_members_end end_of_object close h = SpelledForms.closes_end {close = close} h
more_members_end (member np name ne v more) close h = SpelledForms.exactly_end (SpelledForms.then_left h)

elements_end : {K : ℕ → List ℕ → Type 0} {n : ℕ} (elements : Elements) (close : ℕ) → Then (SpellsElements elements close) K n [] → ⊥
elements_end end_of_array close h = SpelledForms.closes_end {close = close} h
elements_end (element v more) close h = value_end v (SpelledForms.then_left h)

members_end : {K : ℕ → List ℕ → Type 0} {n : ℕ} (members : Members) (close : ℕ) → Then (SpellsMembers members close) K n [] → ⊥
members_end end_of_object close h = SpelledForms.closes_end {close = close} h
members_end (member np name ne v more) close h = quoted_end np name ne (SpelledForms.then_left h)

string_end : {K : ℕ → List ℕ → Type 0} {n : ℕ} (state : StringState) (content : List ℕ) (end : ℕ) → Then (StringOn state content end) K n [] → ⊥
string_end {K} {n} state content end h = go g.first g.joined g.after
  where
    g : Then (λ here inner. StringRest state content inner) (Then (Then (Exactly (quote_byte ∷ [])) (Ends end)) K) n []
    g = SpelledForms.then_left h

    go : (inner : List ℕ) → [] ≡ inner ++ g.rest → Then (Then (Exactly (quote_byte ∷ [])) (Ends end)) K (n + length inner) g.rest → ⊥
    go [] e k = SpelledForms.exactly_end {n = n}
        (SpelledForms.then_left (SpelledForms.moved (Then (Then (Exactly (quote_byte ∷ [])) (Ends end)) K) (omega arith) (sym e) k))
    go (c ∷ inner) e k = cc

after_end : (stack : List Frame) (t T : Tree) (n : ℕ) → After stack t T n [] → (stack ≡ []) × (T ≡ t)
after_end [] t T n h = (refl, h.1)
after_end (in_array place done ∷ stack) t T n h = absurd (more_elements_end h.0 h.1 (SpelledForms.white_end h.2))
after_end (in_object place done np name ne ∷ stack) t T n h = absurd (more_members_end h.0 h.1 (SpelledForms.white_end h.2))

name_end : (stack : List Frame) (place : ℕ) (done : List Member) (np : ℕ) (name : List ℕ) (ne : ℕ) (T : Tree) (n : ℕ)
    → AfterName stack place done np name ne T n [] → ⊥
name_end stack place done np name ne T n h = SpelledForms.exactly_end (SpelledForms.white_end h.1)

finished : (stack : List Frame) (leaf : Leaf) (T : Tree) (n : ℕ) → Completes stack leaf T n [] → finish_leaf stack leaf n ≡ Some T
finished stack value_due T n h = absurd (value_end h.0 (SpelledForms.white_end h.1))
finished stack (value_done t) T n h = let g = after_end stack t T n h in rw (g.0, g.1) refl
finished stack (array_opened place) T n h = absurd (elements_end h.0 h.1 (SpelledForms.white_end h.2))
finished stack (object_opened place) T n h = absurd (members_end h.0 h.1 (SpelledForms.white_end h.2))
finished stack (constant_on which place []) T n h = let g = after_end stack (constant which place) T n (SpelledForms.exactly_done h) in rw (g.0, g.1) refl
finished stack (constant_on which place (a ∷ left)) T n h = absurd (SpelledForms.exactly_end h)
finished stack (number_on place so_far) T n h = go h.0 h.2 h.3
  where
    go : (more : List ℕ) → IsNumber (so_far ++ more) → Then (Exactly more) (Then (Ends h.1) (After stack (number place (so_far ++ more) h.1) T)) n []
        → finish_leaf stack (number_on place so_far) n ≡ Some T
    go [] r k =
        let j = SpelledForms.ends_on {end = h.1} (SpelledForms.exactly_done k) in
        let g = after_end stack (number place (so_far ++ []) h.1) T n j.1 in
        rw (g.0, (decided_number so_far).1 (rw (append-nil so_far) at r), g.1, j.0, append-nil so_far) refl
    go (c ∷ more) r k = absurd (SpelledForms.exactly_end k)
finished stack (string_on place so_far state) T n h = absurd (string_end state h.0 h.1 h.2)
finished stack (name_due place done) T n h = absurd (quoted_end h.0 h.1 h.2 (SpelledForms.white_end h.3))
finished stack (name_on place done np so_far state) T n h = absurd (string_end state h.0 h.1 h.2)
finished stack (colon_due place done np name ne) T n h = absurd (name_end stack place done np name ne T n h)

completed : (stack : List Frame) (leaf : Leaf) (T : Tree) (n : ℕ) → finish_leaf stack leaf n ≡ Some T → Completes stack leaf T n []
completed [] (value_done t) T n e = (tt, (cc))
completed [] (constant_on which place []) T n e = SpelledForms.exactly_none (tt, (cc))
completed [] (number_on place so_far) T n e = go (is_number so_far) refl e
  where
    go : (b : Bool) → is_number so_far ≡ b → (if b then Some (number place so_far n) else None) ≡ Some T → Completes [] (number_on place so_far) T n []
    go true f e = ([], n, rw (append-nil so_far) ((decided_number so_far).0 f), SpelledForms.exactly_none (SpelledForms.ends_here (tt, rw append-nil (cc))))
    go false f e = cc
completed _ _ T n e = cc

-- ---- a whole text

mark_end : (T : Text) (n : ℕ) (marked : Bool) → Then (SpellsMark marked) (Due [] T.value) n [] → ⊥
mark_end T n true h = SpelledForms.exactly_end h
mark_end T n false h = let k = SpelledForms.exactly_done {K = Due [] T.value} h in value_end k.0 (SpelledForms.white_end k.1)

with_finished : (T : Text) (marked : Bool) (o : Option Tree) → T.marked ≡ marked → o ≡ Some T.value → text_with marked o ≡ Some T
with_finished T marked o m e = rw (e, ← m) refl

with_completed : (T : Text) (marked : Bool) (o : Option Tree) → text_with marked o ≡ Some T → (T.marked ≡ marked) × (o ≡ Some T.value)
with_completed T marked None e = cc
with_completed T marked (Some t) e = let f : T ≡ record { marked = marked; value = t } =
    cc in (ap (λ (x : Text). x.marked) f, ap (λ (x : Text). Some x.value) (sym f))

text_finished : (s : Broken) (T : Text) (n : ℕ) → TextFrom T n [] s → finish s n ≡ Some T
text_finished text_due T n h = absurd (mark_end T n T.marked h)
text_finished mark_one T n h = absurd (SpelledForms.exactly_end h.1)
text_finished mark_two T n h = absurd (SpelledForms.exactly_end h.1)
text_finished (begun marked s) T n h = with_finished T marked (finish_leaf s.stack s.leaf n) h.0 (finished s.stack s.leaf T.value n h.1)

text_completed : (s : Broken) (T : Text) (n : ℕ) → finish s n ≡ Some T → TextFrom T n [] s
text_completed text_due T n e = cc
text_completed mark_one T n e = cc
text_completed mark_two T n e = cc
text_completed (begun marked s) T n e = let g = with_completed T marked (finish_leaf s.stack s.leaf n) e in (g.0, completed s.stack s.leaf T.value n g.1)

pub finish_iff : (s : Broken) (T : Text) (n : ℕ) → (TextFrom T n [] s → finish s n ≡ Some T) × (finish s n ≡ Some T → TextFrom T n [] s)
finish_iff s T n = (text_finished s T n, text_completed s T n)
