-- The bytes of a text that is broken off lead the machine to it, and to nothing else.
use Rattle.gj_json.proofs.Common.{BeginsCharacter, BeginsQuoted, Constant, Exactly, List, Named, None, Null, Opened, Quoted, Some, Spells}
use Rattle.gj_json.proofs.Common.{SpellsBroken, SpellsContent, SpellsLeaf, StringState, Tree, ap, arith, array, constant, eqb_tells, false}
use Rattle.gj_json.proofs.Common.{first_letter, inl, inr, length, letters_after, letters_of, mark_first, mark_second, mark_third, object, refl, run}
use Rattle.gj_json.proofs.Common.{run_from, step_leaf, string, subst, sym, true, ℕ, [], ◌++◌, ◌+◌, ◌∙◌, ◌∷◌, ◌≡◌, ◌≢◌}
use Rattle.std.proofs.Common.{append-nil}
use Rattle.std.proofs.Common.{eq-eqb}
use Rattle.gj_json.specs.Bytes.{comma as comma_byte}
use Rattle.gj_json.specs.declared.class.Class.TheVariants.{Letter as letter}
use Rattle.gj_json.specs.declared.mode.StringState.TheVariants.{Plain as plain}
use Rattle.gj_json.specs.Tree.{number}
use Rattle.gj_json.specs.Grammar.{Then, White}
use Rattle.gj_json.specs.Broken.{Member, Frame, in_array, in_object, Leaf, value_due, value_done, array_opened, object_opened, constant_on, number_on}
use Rattle.gj_json.specs.Broken.{string_on, name_due, name_on, colon_due, Partial, Broken, text_due, mark_one, mark_two, begun}
use Rattle.gj_json.specs.Broken.{ElementsSoFar, MembersSoFar, ArrayOpened, ObjectOpened, IsDue, Behind}
use Rattle.gj_json.proofs.Grammar.ClassOfBytes.{class_is, class_mark}
use Rattle.gj_json.proofs.Grammar.SpelledForms
use Rattle.gj_json.proofs.Machine.BytesUnderWay.{run_none}
use Rattle.gj_json.proofs.Grammar.CharacterPrefixes.{content_to, character_to}
use Rattle.gj_json.proofs.Machine.ValuePaths.{Leads, at, leads_none, leads_byte, then_leads, byte_leads, awaiting, begins, awaiting_white, Over, over_done}
use Rattle.gj_json.proofs.Machine.ValuePaths.{over_white}
use Rattle.gj_json.proofs.Machine.ReadValues.{number_leads, InQuotes, a_string, a_name, text_leads, quote_begins, naming, name_begins, naming_white}
use Rattle.gj_json.proofs.Machine.ReadValues.{colon_stays, quoted_leads, named_leads, value_leads, opens_array, opens_object, comma_array, comma_object}

-- ---- what is open

elements_lead : (done : List Tree) (stack : List Frame) (place : ℕ) (u : Partial) {K : ℕ → List ℕ → Type 0}
    → ((m : ℕ) (bytes : List ℕ) → K m bytes → Leads (awaiting (in_array place done ∷ stack)) m bytes u)
    → (m : ℕ) (bytes : List ℕ) → ElementsSoFar done K m bytes → Leads (awaiting (in_array place [] ∷ stack)) m bytes u
elements_lead [] stack place u k m bytes h = k m bytes h
elements_lead (t ∷ done) stack place u {K} k m bytes h =
    elements_lead done stack place u {K = Then White (Then (Spells t) (Then White (Then (Exactly (comma_byte ∷ [])) K)))}
    (λ p xs j. then_leads j (awaiting_white (in_array place done ∷ stack) j.first p j.before)
    (let g = value_leads t (in_array place done ∷ stack) _ j.after.first j.after.before in
    let w = over_white (in_array place done ∷ stack) t g.0 j.after.after.first _ g.2 j.after.after.before in
    then_leads j.after g.1 (then_leads j.after.after w.1 (byte_leads j.after.after.after (comma_array stack place done t _ w.0 w.2) (λ rest i. k _ rest i)))))
    m bytes h

members_lead : (done : List Member) (stack : List Frame) (place : ℕ) (u : Partial) {K : ℕ → List ℕ → Type 0}
    → ((m : ℕ) (bytes : List ℕ) → K m bytes → Leads (at stack (naming place done)) m bytes u)
    → (m : ℕ) (bytes : List ℕ) → MembersSoFar done K m bytes → Leads (at stack (naming place [])) m bytes u
members_lead [] stack place u k m bytes h = k m bytes h
members_lead (d ∷ done) stack place u {K} k m bytes h =
    members_lead done stack place u {K = Named d.place d.name d.end (Then White (Then (Spells d.value) (Then White (Then (Exactly (comma_byte ∷ [])) K))))}
    (λ p xs j. then_leads j (naming_white stack place done j.first p j.before)
    (named_leads stack place done d.place d.name d.end _ j.rest j.after
    (λ r ys i. then_leads i (awaiting_white (in_object place done d.place d.name d.end ∷ stack) i.first r i.before)
    (let g = value_leads d.value (in_object place done d.place d.name d.end ∷ stack) _ i.after.first i.after.before in
    let w = over_white (in_object place done d.place d.name d.end ∷ stack) d.value g.0 i.after.after.first _ g.2 i.after.after.before in
    then_leads i.after g.1
    (then_leads i.after.after w.1
    (byte_leads i.after.after.after (comma_object stack place done d.place d.name d.end d.value _ w.0 w.2) (λ rest l. k _ rest l)))))))
    m bytes h

array_leads : (stack : List Frame) (place : ℕ) (done : List Tree) (u : Partial) {K : ℕ → List ℕ → Type 0}
    → ((m : ℕ) (bytes : List ℕ) → K m bytes → Leads (awaiting (in_array place done ∷ stack)) m bytes u)
    → (m : ℕ) (bytes : List ℕ) → ArrayOpened place done K m bytes → Leads (awaiting stack) m bytes u
array_leads stack place done u {K} k m bytes h =
    byte_leads h.1 (opens_array stack m)
    (λ rest j. let P : ℕ → Type 0 =
    λ p. Leads (awaiting (in_array p [] ∷ stack)) (m + 1) rest u in subst P h.0 (elements_lead done stack place u {K = K} k (m + 1) rest j))

object_leads : (stack : List Frame) (place : ℕ) (done : List Member) (u : Partial) {K : ℕ → List ℕ → Type 0}
    → ((m : ℕ) (bytes : List ℕ) → K m bytes → Leads (at stack (naming place done)) m bytes u)
    → (m : ℕ) (bytes : List ℕ) → ObjectOpened place done K m bytes → Leads (awaiting stack) m bytes u
object_leads stack place done u {K} k m bytes h =
    byte_leads h.1 (opens_object stack m)
    (λ rest j. let P : ℕ → Type 0 =
    λ p. Leads (at stack (naming p [])) (m + 1) rest u in subst P h.0 (members_lead done stack place u {K = K} k (m + 1) rest j))

opened_leads : (stack : List Frame) (u : Partial) {K : ℕ → List ℕ → Type 0} → ((m : ℕ) (bytes : List ℕ) → K m bytes → Leads (awaiting stack) m bytes u)
    → (m : ℕ) (bytes : List ℕ) → Opened stack K m bytes → Leads (awaiting []) m bytes u
opened_leads [] u k m bytes h = k m bytes h
opened_leads (in_array place done ∷ stack) u {K} k m bytes h =
    opened_leads stack u {K = Then White (ArrayOpened place done K)}
    (λ p xs j. then_leads j (awaiting_white stack j.first p j.before) (array_leads stack place done u {K = K} k _ j.rest j.after)) m bytes h
opened_leads (in_object place done np name ne ∷ stack) u {K} k m bytes h =
    opened_leads stack u {K = Then White (ObjectOpened place done (Named np name ne K))}
    (λ p xs j. then_leads j (awaiting_white stack j.first p j.before)
    (object_leads stack place done u {K = Named np name ne K}
    (λ r ys i. then_leads i (naming_white stack place done i.first r i.before) (named_leads stack place done np name ne _ i.rest i.after k)) _ j.rest
    j.after))
    m bytes h

-- ---- the right edge

due_awaits : (stack : List Frame) → IsDue stack → awaiting stack ≡ at stack value_due
due_awaits [] h = refl
due_awaits (in_array place [] ∷ stack) h = absurd h
due_awaits other h = refl

due_leads : (stack : List Frame) (m : ℕ) (bytes : List ℕ) → SpellsLeaf stack value_due m bytes → Leads (awaiting stack) m bytes (at stack value_due)
due_leads stack m bytes h =
    let P : List ℕ → Type 0 = λ xs. Leads (awaiting stack) m xs (at stack value_due) in
    let Q : Partial → Type 0 = λ s. Leads s m [] (at stack value_due) in
    subst P (sym h.1) (subst Q (sym (due_awaits stack h.0)) (leads_none (at stack value_due) m))

-- a value that is no number is done where it is over
over_ended : (stack : List Frame) (t : Tree) (leaf : Leaf) (n : ℕ) → Over t n leaf → ((place : ℕ) (literal : List ℕ) → t ≡ number place literal n → ⊥)
    → Leads (at stack leaf) n [] (at stack (value_done t))
over_ended stack t leaf n (inl e) never = let P : Leaf → Type 0 =
    λ x. Leads (at stack x) n [] (at stack (value_done t)) in subst P (sym e) (leads_none (at stack (value_done t)) n)
over_ended stack t leaf n (inr g) never = absurd (never g.0 g.1 g.3)

behind_leads : (stack : List Frame) (t : Tree) (leaf : Leaf) (n : ℕ) (bytes : List ℕ) → Over t n leaf → Behind t n bytes
    → Leads (at stack leaf) n bytes (at stack (value_done t))
behind_leads stack (number place literal end) leaf n [] o h = absurd (h.1 refl)
behind_leads stack (number place literal end) leaf n (b ∷ bytes) o h = over_done stack (number place literal end) leaf b bytes n o h.0
behind_leads stack (constant which place) leaf n [] o h = over_ended stack (constant which place) leaf n o (λ p l e. cc)
behind_leads stack (constant which place) leaf n (b ∷ bytes) o h = over_done stack (constant which place) leaf b bytes n o h
behind_leads stack (string place content end) leaf n [] o h = over_ended stack (string place content end) leaf n o (λ p l e. cc)
behind_leads stack (string place content end) leaf n (b ∷ bytes) o h = over_done stack (string place content end) leaf b bytes n o h
behind_leads stack (array place elements close) leaf n [] o h = over_ended stack (array place elements close) leaf n o (λ p l e. cc)
behind_leads stack (array place elements close) leaf n (b ∷ bytes) o h = over_done stack (array place elements close) leaf b bytes n o h
behind_leads stack (object place members close) leaf n [] o h = over_ended stack (object place members close) leaf n o (λ p l e. cc)
behind_leads stack (object place members close) leaf n (b ∷ bytes) o h = over_done stack (object place members close) leaf b bytes n o h

letter_steps : (stack : List Frame) (which : Constant) (place a : ℕ) (left : List ℕ) (n : ℕ) → left ≢ []
    → step_leaf stack (constant_on which place (a ∷ left)) n a ≡ Some (at stack (constant_on which place left))
letter_steps stack which place a [] n h = absurd (h refl)
letter_steps stack which place a (c ∷ left) n h = rw (eq-eqb a a refl) refl

some_left : (more left : List ℕ) → left ≢ [] → (more ++ left) ≢ []
some_left [] left h = h
some_left (a ∷ more) left h = λ e. cc

letters_lead : (stack : List Frame) (which : Constant) (place : ℕ) (more left : List ℕ) (n : ℕ) → left ≢ []
    → Leads (at stack (constant_on which place (more ++ left))) n more (at stack (constant_on which place left))
letters_lead stack which place [] left n h = leads_none (at stack (constant_on which place left)) n
letters_lead stack which place (a ∷ more) left n h =
    leads_byte (letter_steps stack which place a (more ++ left) n (some_left more left h)) (letters_lead stack which place more left (n + 1) h)

letters_begin : (which : Constant) (b : ℕ) (rest : List ℕ) → letters_of which ≡ b ∷ rest → (b ≡ first_letter which) × (letters_after which ≡ rest)
letters_begin Null b rest e = ((cc), (cc))
letters_begin other b rest e = ((cc), (cc))

constant_leads : (stack : List Frame) (which : Constant) (place : ℕ) (left : List ℕ) (m : ℕ) (bytes : List ℕ)
    → SpellsLeaf stack (constant_on which place left) m bytes → Leads (awaiting stack) m bytes (at stack (constant_on which place left))
constant_leads stack which place left m [] h = absurd (h.2 refl)
constant_leads stack which place left m (b ∷ more) h =
    let g = letters_begin which b (more ++ left) h.1 in
    let P : ℕ → Type 0 = λ p. Leads (awaiting stack) m (b ∷ more) (at stack (constant_on which p left)) in
    let Q : List ℕ → Type 0 = λ xs. Leads (at stack (constant_on which m xs)) (m + 1) more (at stack (constant_on which m left)) in
    subst P (sym h.0)
    (leads_byte (begins stack m b (letter which) (at stack (constant_on which m (letters_after which))) (class_is (letter which) b g.0 (λ e. cc)) refl)
    (subst Q (sym g.1) (letters_lead stack which m more left (m + 1) h.3)))

under_leads : {on : List ℕ → StringState → Leaf} {over : List ℕ → ℕ → Leaf} (stack : List Frame) (t : InQuotes stack on over) (so_far : List ℕ)
    (state : StringState) (n : ℕ) (bytes : List ℕ)
    → Then (λ here inner. SpellsContent so_far inner) (λ here inner. BeginsCharacter state inner) n bytes
    → Leads (at stack (on [] plain)) n bytes (at stack (on so_far state))
under_leads {on} stack t so_far state n bytes h =
    let m = n + length h.first in
    let P : List ℕ → Type 0 = λ c. Leads (at stack (on so_far plain)) m h.rest (at stack (on c state)) in
    then_leads h (text_leads stack t h.first [] so_far plain plain n (content_to so_far h.first h.before))
    (subst P (append-nil so_far) (text_leads stack t h.rest so_far [] plain state m (character_to state h.rest h.after)))

leaf_leads : (stack : List Frame) (leaf : Leaf) (m : ℕ) (bytes : List ℕ) → SpellsLeaf stack leaf m bytes → Leads (awaiting stack) m bytes (at stack leaf)
leaf_leads stack value_due m bytes h = due_leads stack m bytes h
leaf_leads stack (value_done t) m bytes h = let g = value_leads t stack m h.first h.before in then_leads h g.1 (behind_leads stack t g.0 _ h.rest g.2 h.after)
leaf_leads stack (array_opened place) m bytes h =
    array_leads stack place [] (at stack (array_opened place)) {K = White} (λ p xs w. awaiting_white (in_array place [] ∷ stack) xs p w) m bytes h
leaf_leads stack (object_opened place) m bytes h =
    object_leads stack place [] (at stack (object_opened place)) {K = White} (λ p xs w. naming_white stack place [] xs p w) m bytes h
leaf_leads stack (constant_on which place left) m bytes h = constant_leads stack which place left m bytes h
leaf_leads stack (number_on place so_far) m bytes h =
    let P : ℕ → List ℕ → Type 0 = λ p xs. Leads (awaiting stack) m xs (at stack (number_on p so_far)) in
    let Q : List ℕ → Type 0 = λ xs. P m xs in
    let R : ℕ → Type 0 = λ p. P p bytes in
    subst R (sym h.0) (subst Q (sym h.1) (number_leads stack so_far m h.2))
leaf_leads stack (string_on place so_far state) m bytes h =
    let P : ℕ → Type 0 = λ p. Leads (awaiting stack) m bytes (at stack (string_on p so_far state)) in
    subst P (sym h.0) (byte_leads h.1 (quote_begins stack m) (λ rest k. under_leads stack (a_string stack m) so_far state (m + 1) rest k))
leaf_leads stack (name_due place []) m bytes h = absurd (h.0 refl)
leaf_leads stack (name_due place (d ∷ done)) m bytes h =
    object_leads stack place (d ∷ done) (at stack (name_due place (d ∷ done))) {K = White} (λ p xs w. naming_white stack place (d ∷ done) xs p w) m bytes h.1
leaf_leads stack (name_on place done np so_far state) m bytes h =
    object_leads stack place done (at stack (name_on place done np so_far state)) {K = Then White (BeginsQuoted np so_far state)}
    (λ p xs j. then_leads j (naming_white stack place done j.first p j.before)
    (let here = p + length j.first in
    let k : BeginsQuoted np so_far state here j.rest = j.after in
    let P : ℕ → Type 0 = λ q. Leads (at stack (naming place done)) here j.rest (at stack (name_on place done q so_far state)) in
    subst P (sym k.0) (byte_leads k.1 (name_begins stack place done here)
    (λ rest i. under_leads stack (a_name stack place done here) so_far state (here + 1) rest i))))
    m bytes h
leaf_leads stack (colon_due place done np name ne) m bytes h =
    object_leads stack place done (at stack (colon_due place done np name ne)) {K = Then White (Then (Quoted np name ne) White)}
    (λ p xs j. then_leads j (naming_white stack place done j.first p j.before)
    (let here = p + length j.first in
    let k : Then (Quoted np name ne) White here j.rest = j.after in
    then_leads k (quoted_leads stack place done np name ne here k.first k.before) (colon_stays stack place done np name ne k.rest _ k.after)))
    m bytes h

-- ---- a whole text

marked_goes : (bytes : List ℕ) (s : Partial)
    → Then (Exactly (mark_first ∷ mark_second ∷ mark_third ∷ [])) (Opened s.stack (Then White (SpellsLeaf s.stack s.leaf))) 0 bytes
    → run bytes ≡ Some (begun true s)
marked_goes bytes s h =
    let l : length h.first ≡ 3 = ap length h.before in
    let e : bytes ≡ mark_first ∷ mark_second ∷ mark_third ∷ h.rest = h.joined ∙ ap (λ xs. xs ++ h.rest) h.before in
    let k : Opened s.stack (Then White (SpellsLeaf s.stack s.leaf)) 3 h.rest =
    SpelledForms.moved (Opened s.stack (Then White (SpellsLeaf s.stack s.leaf))) (omega arith) refl h.after in
    let g = opened_leads s.stack s {K = Then White (SpellsLeaf s.stack s.leaf)}
    (λ m xs j. then_leads j (awaiting_white s.stack j.first m j.before) (leaf_leads s.stack s.leaf _ j.rest j.after)) 3 h.rest k in
    ap run e ∙ g.goes true

unmarked_goes : (bytes : List ℕ) (s : Partial) → bytes ≢ [] → run_from (Some (begun false (at [] value_due))) 0 bytes ≡ Some (begun false s)
    → run bytes ≡ Some (begun false s)
unmarked_goes [] s n e = absurd (n refl)
unmarked_goes (b ∷ bytes) s n e = elim (eqb_tells b mark_first) [
  | inl k ↦ (let f : run_from None 1 bytes ≡ Some (begun false s) = rw (class_mark b k.1) at e in let g : None ≡ Some (begun false s) =
      sym (run_none bytes 1) ∙ f in cc)
  | inr k ↦ rw (k.0) e
]

-- the bytes of a broken-off text lead to it
pub broken_run : (s : Broken) (bytes : List ℕ) → SpellsBroken s bytes → run bytes ≡ Some s
broken_run text_due bytes h = ap run h
broken_run mark_one bytes h = ap run h
broken_run mark_two bytes h = ap run h
broken_run (begun true s) bytes h = marked_goes bytes s h.1
broken_run (begun false s) bytes h =
    let k : Opened s.stack (Then White (SpellsLeaf s.stack s.leaf)) 0 bytes = SpelledForms.exactly_done h.1 in
    let g = opened_leads s.stack s {K = Then White (SpellsLeaf s.stack s.leaf)}
    (λ m xs j. then_leads j (awaiting_white s.stack j.first m j.before) (leaf_leads s.stack s.leaf _ j.rest j.after)) 0 bytes k in
    unmarked_goes bytes s h.0 (g.goes false)
