-- The bytes of a value lead the machine to that value.
use Rattle.gj_json.proofs.Common.{BeginsNumber, Constant, Elements, Exactly, False, List, Members, Null, Quoted, Some, Spells, SpellsContent}
use Rattle.gj_json.proofs.Common.{SpellsElements, SpellsMembers, SpellsMoreElements, SpellsMoreMembers, StringState, Tree, True, ap, append_assoc}
use Rattle.gj_json.proofs.Common.{arith, array, close_brace, close_bracket, constant, element, end_of_array, end_of_object, first_letter, inl, inr}
use Rattle.gj_json.proofs.Common.{length, letters_after, letters_of, member, object, open_brace, open_bracket, refl, step_leaf, string, string_ends}
use Rattle.gj_json.proofs.Common.{string_goes, string_next, subst, sym, to, ℕ, [], ◌++◌, ◌+◌, ◌∙◌, ◌∷◌, ◌≡◌}
use Rattle.std.proofs.Common.{append-nil, eq-eqb}
use Rattle.gj_json.specs.Bytes.{comma as comma_byte, colon as colon_byte, quote as quote_byte}
use Rattle.gj_json.specs.declared.class.Class.TheVariants.{OpenArray as open_array, CloseArray as close_array, OpenObject as open_object}
use Rattle.gj_json.specs.declared.class.Class.TheVariants.{CloseObject as close_object, Comma as comma, Colon as colon, Quote as quote}
use Rattle.gj_json.specs.declared.class.Class.TheVariants.{NumberStart as number_start, Letter as letter}
use Rattle.gj_json.specs.declared.mode.StringState.TheVariants.{Plain as plain}
use Rattle.gj_json.specs.Tree.{number}
use Rattle.gj_json.specs.Grammar.{Then, White, Ends}
use Rattle.gj_json.specs.Broken.{Member, Frame, in_array, in_object, Leaf, value_due, value_done, array_opened, object_opened, constant_on, number_on}
use Rattle.gj_json.specs.Broken.{string_on, name_due, name_on, colon_due, Partial, back_elements, back_members, BeginsNumber as NumberBegun}
use Rattle.gj_json.proofs.Grammar.ClassOfBytes.{class_is, starts_number}
use Rattle.gj_json.proofs.Grammar.SpelledTexts.{quote_on}
use Rattle.gj_json.proofs.Grammar.CharacterPrefixes.{StringTo, content_to}
use Rattle.gj_json.proofs.Grammar.NumberPrefixes.{number_front, number_begun, goes_on}
use Rattle.gj_json.proofs.Machine.ValuePaths.{Leads, at, leads_none, leads_byte, then_leads, byte_leads, white_leads, object_white, name_white, colon_white}
use Rattle.gj_json.proofs.Machine.ValuePaths.{awaiting, begins, awaiting_white, Over, over_steps, over_white}

-- ---- literal names

pub letters_lead : (stack : List Frame) (which : Constant) (place a : ℕ) (left : List ℕ) (n : ℕ)
    → Leads (at stack (constant_on which place (a ∷ left))) n (a ∷ left) (at stack (value_done (constant which place)))
letters_lead stack which place a [] n = leads_byte (rw (eq-eqb a a refl) refl) (leads_none (at stack (value_done (constant which place))) (n + 1))
letters_lead stack which place a (c ∷ left) n = leads_byte (rw (eq-eqb a a refl) refl) (letters_lead stack which place c left (n + 1))

constant_leads : (stack : List Frame) (which : Constant) (n : ℕ) → Leads (awaiting stack) n (letters_of which) (at stack (value_done (constant which n)))
constant_leads stack Null n =
    leads_byte (begins stack n (first_letter Null) (letter Null) (at stack (constant_on Null n (letters_after Null)))
    (class_is (letter Null) _ refl (λ e. cc)) refl) (letters_lead stack Null n _ _ (n + 1))
constant_leads stack True n =
    leads_byte (begins stack n (first_letter True) (letter True) (at stack (constant_on True n (letters_after True)))
    (class_is (letter True) _ refl (λ e. cc)) refl) (letters_lead stack True n _ _ (n + 1))
constant_leads stack False n =
    leads_byte (begins stack n (first_letter False) (letter False) (at stack (constant_on False n (letters_after False)))
    (class_is (letter False) _ refl (λ e. cc)) refl) (letters_lead stack False n _ _ (n + 1))

-- ---- numbers

pub digits_lead : (stack : List Frame) (place : ℕ) (more so_far : List ℕ) (n : ℕ) → BeginsNumber (so_far ++ more)
    → Leads (at stack (number_on place so_far)) n more (at stack (number_on place (so_far ++ more)))
digits_lead stack place [] so_far n h =
    let P : List ℕ → Type 0 = λ xs. Leads (at stack (number_on place so_far)) n [] (at stack (number_on place xs)) in
    subst P (sym (append-nil so_far)) (leads_none (at stack (number_on place so_far)) n)
digits_lead stack place (b ∷ more) so_far n h =
    let P : List ℕ → Type 0 = λ xs. Leads (at stack (number_on place (so_far ++ b ∷ []))) (n + 1) more (at stack (number_on place xs)) in
    leads_byte (rw (goes_on so_far more b h) refl)
    (subst P (append_assoc so_far (b ∷ []) more) (digits_lead stack place more (so_far ++ b ∷ []) (n + 1) (rw (append_assoc so_far (b ∷ []) more) h)))

pub number_leads : (stack : List Frame) (literal : List ℕ) (n : ℕ) → NumberBegun literal → Leads (awaiting stack) n literal (at stack (number_on n literal))
number_leads stack [] n h = absurd (h.0 refl)
number_leads stack (b ∷ more) n h =
    leads_byte (begins stack n b number_start (at stack (number_on n (b ∷ []))) (starts_number b (number_front (b ∷ []) more h.1)) refl)
    (digits_lead stack n more (b ∷ []) (n + 1) h.1)

-- ---- strings and names

-- a string or a name under way, and the same where it has ended
pub record InQuotes (stack : List Frame) (on : List ℕ → StringState → Leaf) (over : List ℕ → ℕ → Leaf) : Type 0 where
  pub goes : (so_far : List ℕ) (state : StringState) (n b : ℕ) (more : List ℕ) (next : StringState) → string_next state b ≡ string_goes more next
      → step_leaf stack (on so_far state) n b ≡ to stack (on (so_far ++ more) next)
  pub ends : (so_far : List ℕ) (state : StringState) (n b : ℕ) → string_next state b ≡ string_ends
      → step_leaf stack (on so_far state) n b ≡ to stack (over so_far (n + 1))

pub a_string : (stack : List Frame) (place : ℕ)
    → InQuotes stack (λ so_far state. string_on place so_far state) (λ content end. value_done (string place content end))
a_string stack place = record { goes = λ so_far state n b more next e. rw e refl; ends = λ so_far state n b e. rw e refl }

pub a_name : (stack : List Frame) (place : ℕ) (done : List Member) (np : ℕ)
    → InQuotes stack (λ so_far state. name_on place done np so_far state) (λ name end. colon_due place done np name end)
a_name stack place done np = record { goes = λ so_far state n b more next e. rw e refl; ends = λ so_far state n b e. rw e refl }

pub text_leads : {on : List ℕ → StringState → Leaf} {over : List ℕ → ℕ → Leaf} (stack : List Frame) → InQuotes stack on over
    → (bytes so_far content : List ℕ) (state last : StringState) (n : ℕ) → StringTo state content bytes last
    → Leads (at stack (on so_far state)) n bytes (at stack (on (so_far ++ content) last))
text_leads {on} stack t [] so_far content state last n h =
    let P : List ℕ → StringState → Type 0 = λ c s. Leads (at stack (on so_far state)) n [] (at stack (on c s)) in
    let Q : List ℕ → Type 0 = λ c. P c last in
    let R : StringState → Type 0 = λ s. P so_far s in
    subst Q (sym (ap (λ c. so_far ++ c) h.0 ∙ append-nil so_far)) (subst R h.1 (leads_none (at stack (on so_far state)) n))
text_leads {on} stack t (b ∷ bytes) so_far content state last n h =
    let P : List ℕ → Type 0 = λ c. Leads (at stack (on (so_far ++ h.0) h.1)) (n + 1) bytes (at stack (on c last)) in
    leads_byte (t.goes so_far state n b h.0 h.1 h.3)
    (subst P (append_assoc so_far h.0 h.2 ∙ sym (ap (λ c. so_far ++ c) h.4)) (text_leads stack t bytes (so_far ++ h.0) h.2 h.1 last (n + 1) h.5))

-- after the opening quote
pub inner_leads : {on : List ℕ → StringState → Leaf} {over : List ℕ → ℕ → Leaf} (stack : List Frame) (t : InQuotes stack on over) (content : List ℕ) (end n : ℕ)
    (bytes : List ℕ) → Then (λ here inner. SpellsContent content inner) (Then (Exactly (quote_byte ∷ [])) (Ends end)) n bytes
    → Leads (at stack (on [] plain)) n bytes (at stack (over content end))
inner_leads {on} {over} stack t content end n bytes h =
    then_leads h (text_leads stack t h.first [] content plain plain n (content_to content h.first h.before))
    (byte_leads h.after (t.ends content plain (n + length h.first) quote_byte (quote_on quote_byte refl))
    (λ rest k.
    let here = n + length h.first + 1 in
    let P : List ℕ → Type 0 = λ xs. Leads (at stack (over content here)) here xs (at stack (over content end)) in
    let Q : ℕ → Type 0 = λ m. Leads (at stack (over content here)) here [] (at stack (over content m)) in
    subst P (sym k.0) (subst Q (sym k.1) (leads_none (at stack (over content here)) here))))

pub quote_begins : (stack : List Frame) (n : ℕ) → step_leaf (awaiting stack).stack (awaiting stack).leaf n quote_byte ≡ to stack (string_on n [] plain)
quote_begins stack n = begins stack n quote_byte quote (at stack (string_on n [] plain)) (class_is quote quote_byte refl (λ e. cc)) refl

-- where a name may begin in an object
abbrev pub naming : ℕ → List Member → Leaf
naming place [] = object_opened place
naming place (m ∷ done) = name_due place (m ∷ done)

pub name_begins : (stack : List Frame) (place : ℕ) (done : List Member) (n : ℕ)
    → step_leaf stack (naming place done) n quote_byte ≡ to stack (name_on place done n [] plain)
name_begins stack place [] n = rw (class_is quote quote_byte refl (λ e. cc)) refl
name_begins stack place (m ∷ done) n = rw (class_is quote quote_byte refl (λ e. cc)) refl

pub naming_white : (stack : List Frame) (place : ℕ) (done : List Member) (bytes : List ℕ) (n : ℕ) → White n bytes
    → Leads (at stack (naming place done)) n bytes (at stack (naming place done))
naming_white stack place [] = white_leads (at stack (object_opened place)) (object_white stack place)
naming_white stack place (m ∷ done) = white_leads (at stack (name_due place (m ∷ done))) (name_white stack place (m ∷ done))

pub colon_stays : (stack : List Frame) (place : ℕ) (done : List Member) (np : ℕ) (name : List ℕ) (ne : ℕ) (bytes : List ℕ) (n : ℕ) → White n bytes
    → Leads (at stack (colon_due place done np name ne)) n bytes (at stack (colon_due place done np name ne))
colon_stays stack place done np name ne = white_leads (at stack (colon_due place done np name ne)) (colon_white stack place done np name ne)

-- a name in its quotes
pub quoted_leads : (stack : List Frame) (place : ℕ) (done : List Member) (np : ℕ) (name : List ℕ) (ne n : ℕ) (bytes : List ℕ) → Quoted np name ne n bytes
    → Leads (at stack (naming place done)) n bytes (at stack (colon_due place done np name ne))
quoted_leads stack place done np name ne n bytes h =
    let P : ℕ → Type 0 = λ p. Leads (at stack (naming place done)) n bytes (at stack (colon_due place done p name ne)) in
    subst P (sym h.0) (byte_leads h.1 (name_begins stack place done n) (λ rest k. inner_leads stack (a_name stack place done n) name ne (n + 1) rest k))

-- a name, its colon, and then K
pub named_leads : {K : ℕ → List ℕ → Type 0} {u : Partial} (stack : List Frame) (place : ℕ) (done : List Member) (np : ℕ) (name : List ℕ) (ne n : ℕ)
    (bytes : List ℕ) → Then (Quoted np name ne) (Then White (Then (Exactly (colon_byte ∷ [])) K)) n bytes
    → ((m : ℕ) (rest : List ℕ) → K m rest → Leads (awaiting (in_object place done np name ne ∷ stack)) m rest u)
    → Leads (at stack (naming place done)) n bytes u
named_leads stack place done np name ne n bytes h k =
    then_leads h (quoted_leads stack place done np name ne n h.first h.before)
    (then_leads h.after (colon_stays stack place done np name ne h.after.first (n + length h.first) h.after.before)
    (byte_leads {t = at (in_object place done np name ne ∷ stack) value_due} h.after.after (rw (class_is colon colon_byte refl (λ e. cc)) refl)
    (λ rest j. k _ rest j)))

-- ---- values

abbrev pub ValueLeads : List Frame → Tree → ℕ → List ℕ → Type 0
ValueLeads stack t n bytes = (leaf : Leaf) × Leads (awaiting stack) n bytes (at stack leaf) × Over t (n + length bytes) leaf

constant_value : (which : Constant) (place : ℕ) (stack : List Frame) (n : ℕ) (bytes : List ℕ) → Spells (constant which place) n bytes
    → ValueLeads stack (constant which place) n bytes
constant_value which place stack n bytes h =
    let P : ℕ → List ℕ → Type 0 = λ p xs. Leads (awaiting stack) n xs (at stack (value_done (constant which p))) in
    let Q : List ℕ → Type 0 = λ xs. P n xs in
    let R : ℕ → Type 0 = λ p. P p bytes in
    (value_done (constant which place), subst R (sym h.0) (subst Q (sym h.1) (constant_leads stack which n)), inl refl)

number_value : (place : ℕ) (literal : List ℕ) (end : ℕ) (stack : List Frame) (n : ℕ) (bytes : List ℕ) → Spells (number place literal end) n bytes
    → ValueLeads stack (number place literal end) n bytes
number_value place literal end stack n bytes h =
    let w : Then (Exactly literal) (Ends end) n bytes = h.2 in
    let e : bytes ≡ literal = w.joined ∙ ap (λ xs. w.first ++ xs) w.after.0 ∙ append-nil w.first ∙ w.before in
    let l : length bytes ≡ length w.first = ap length (w.joined ∙ ap (λ xs. w.first ++ xs) w.after.0 ∙ append-nil w.first) in
    let f : end ≡ n + length bytes = omega (arith, w.after.1) in
    let P : List ℕ → Type 0 = λ xs. Leads (awaiting stack) n xs (at stack (number_on n literal)) in (
      number_on n literal,
      subst P (sym e) (number_leads stack literal n (number_begun literal h.1)),
      inr
          (n, literal, refl, ap (λ p. number p literal end) h.0 ∙ ap (λ m. number n literal m) f, h.1),
    )

string_value : (place : ℕ) (content : List ℕ) (end : ℕ) (stack : List Frame) (n : ℕ) (bytes : List ℕ) → Spells (string place content end) n bytes
    → ValueLeads stack (string place content end) n bytes
string_value place content end stack n bytes h =
    let P : ℕ → Type 0 = λ p. Leads (awaiting stack) n bytes (at stack (value_done (string p content end))) in (
      value_done (string place content end),
      subst P (sym h.0)
          (byte_leads h.1 (quote_begins stack n) (λ rest k. inner_leads stack (a_string stack n) content end (n + 1) rest k)),
      inl refl,
    )

pub opens_array : (stack : List Frame) (n : ℕ) → step_leaf (awaiting stack).stack (awaiting stack).leaf n open_bracket ≡ to stack (array_opened n)
opens_array stack n = begins stack n open_bracket open_array (at stack (array_opened n)) (class_is open_array open_bracket refl (λ e. cc)) refl

pub opens_object : (stack : List Frame) (n : ℕ) → step_leaf (awaiting stack).stack (awaiting stack).leaf n open_brace ≡ to stack (object_opened n)
opens_object stack n = begins stack n open_brace open_object (at stack (object_opened n)) (class_is open_object open_brace refl (λ e. cc)) refl

-- a closing bracket, at its place
closing : {a n close : ℕ} {bytes : List ℕ} (s : Partial) (t : ℕ → Partial) → (bytes ≡ a ∷ []) × (close ≡ n) → step_leaf s.stack s.leaf n a ≡ Some (t n)
    → Leads s n bytes (t close)
closing {a} {n} {close} {bytes} s t h e =
    let P : List ℕ → Type 0 = λ xs. Leads s n xs (t close) in
    let Q : ℕ → Type 0 = λ m. Leads s n (a ∷ []) (t m) in
    subst P (sym h.0) (subst Q (sym h.1) (leads_byte e (leads_none (t n) (n + 1))))

pub comma_array : (stack : List Frame) (place : ℕ) (done : List Tree) (t : Tree) (n : ℕ) (leaf : Leaf) → Over t n leaf
    → step_leaf (in_array place done ∷ stack) leaf n comma_byte ≡ to (in_array place (t ∷ done) ∷ stack) value_due
comma_array stack place done t n leaf o =
    over_steps (in_array place done ∷ stack) t n leaf comma_byte comma (at (in_array place (t ∷ done) ∷ stack) value_due) o
    (class_is comma comma_byte refl (λ e. cc)) refl

abbrev pub behind_comma : List Member → ℕ → List ℕ → ℕ → Tree → List Member
behind_comma done np name ne t = record { place = np; name = name; end = ne; value = t } ∷ done

pub comma_object : (stack : List Frame) (place : ℕ) (done : List Member) (np : ℕ) (name : List ℕ) (ne : ℕ) (t : Tree) (n : ℕ) (leaf : Leaf) → Over t n leaf
    → step_leaf (in_object place done np name ne ∷ stack) leaf n comma_byte ≡ to stack (name_due place (behind_comma done np name ne t))
comma_object stack place done np name ne t n leaf o =
    over_steps (in_object place done np name ne ∷ stack) t n leaf comma_byte comma (at stack (name_due place (behind_comma done np name ne t))) o
    (class_is comma comma_byte refl (λ e. cc)) refl

mutual
  pub value_leads : (t : Tree) (stack : List Frame) (n : ℕ) (bytes : List ℕ) → Spells t n bytes → ValueLeads stack t n bytes
  value_leads (constant which place) stack n bytes h = constant_value which place stack n bytes h
  value_leads (number place literal end) stack n bytes h = number_value place literal end stack n bytes h
  value_leads (string place content end) stack n bytes h = string_value place content end stack n bytes h
  value_leads (array place elements close) stack n bytes h =
      let P : ℕ → Type 0 = λ p. Leads (awaiting stack) n bytes (at stack (value_done (array p elements close))) in (
        value_done (array place elements close),
        subst P (sym h.0) (byte_leads h.1 (opens_array stack n)
            (λ rest k. then_leads k (awaiting_white (in_array n [] ∷ stack) k.first (n + 1) k.before) (elements_lead elements stack n close _ k.rest k.after))),
        inl refl,
      )
  value_leads (object place members close) stack n bytes h =
      let P : ℕ → Type 0 = λ p. Leads (awaiting stack) n bytes (at stack (value_done (object p members close))) in (
        value_done (object place members close),
        subst P (sym h.0) (byte_leads h.1 (opens_object stack n)
            (λ rest k. then_leads k (naming_white stack n [] k.first (n + 1) k.before) (members_lead members stack n close _ k.rest k.after))),
        inl refl,
      )

  pub elements_lead : (elements : Elements) (stack : List Frame) (place close n : ℕ) (bytes : List ℕ) → SpellsElements elements close n bytes
      → Leads (at stack (array_opened place)) n bytes (at stack (value_done (array place elements close)))
  elements_lead end_of_array stack place close n bytes h =
      closing (at stack (array_opened place)) (λ m. at stack (value_done (array place end_of_array m))) h
      (rw (class_is close_array close_bracket refl (λ e. cc)) refl)
  elements_lead (element v more) stack place close n bytes h =
      let g = value_leads v (in_array place [] ∷ stack) n h.first h.before in
      then_leads h g.1 (more_elements_lead more stack place [] v close _ h.rest g.0 g.2 h.after)

  more_elements_lead : (more : Elements) (stack : List Frame) (place : ℕ) (done : List Tree) (t : Tree) (close n : ℕ) (bytes : List ℕ) (leaf : Leaf)
      → Over t n leaf → Then White (SpellsMoreElements more close) n bytes
      → Leads (at (in_array place done ∷ stack) leaf) n bytes (at stack (value_done (array place (back_elements done (element t more)) close)))
  more_elements_lead end_of_array stack place done t close n bytes leaf o h =
      let w = over_white (in_array place done ∷ stack) t leaf h.first n o h.before in
      then_leads h w.1
      (closing (at (in_array place done ∷ stack) w.0) (λ m. at stack (value_done (array place (back_elements done (element t end_of_array)) m))) h.after
      (over_steps (in_array place done ∷ stack) t _ w.0 close_bracket close_array _ w.2 (class_is close_array close_bracket refl (λ e. cc)) refl))
  more_elements_lead (element v more) stack place done t close n bytes leaf o h =
      let w = over_white (in_array place done ∷ stack) t leaf h.first n o h.before in
      then_leads h w.1
      (byte_leads h.after (comma_array stack place done t _ w.0 w.2)
      (λ rest k. then_leads k (awaiting_white (in_array place (t ∷ done) ∷ stack) k.first _ k.before)
      (let g = value_leads v (in_array place (t ∷ done) ∷ stack) _ k.after.first k.after.before in
      then_leads k.after g.1 (more_elements_lead more stack place (t ∷ done) v close _ k.after.rest g.0 g.2 k.after.after))))

  members_lead : (members : Members) (stack : List Frame) (place close n : ℕ) (bytes : List ℕ) → SpellsMembers members close n bytes
      → Leads (at stack (object_opened place)) n bytes (at stack (value_done (object place members close)))
  members_lead end_of_object stack place close n bytes h =
      closing (at stack (object_opened place)) (λ m. at stack (value_done (object place end_of_object m))) h
      (rw (class_is close_object close_brace refl (λ e. cc)) refl)
  members_lead (member np name ne v more) stack place close n bytes h =
      named_leads stack place [] np name ne n bytes h
      (λ m rest k. then_leads k (awaiting_white (in_object place [] np name ne ∷ stack) k.first m k.before)
      (let g = value_leads v (in_object place [] np name ne ∷ stack) _ k.after.first k.after.before in
      then_leads k.after g.1 (more_members_lead more stack place [] np name ne v close _ k.after.rest g.0 g.2 k.after.after)))

  more_members_lead : (more : Members) (stack : List Frame) (place : ℕ) (done : List Member) (np : ℕ) (name : List ℕ) (ne : ℕ) (t : Tree) (close n : ℕ)
      (bytes : List ℕ) (leaf : Leaf) → Over t n leaf → Then White (SpellsMoreMembers more close) n bytes
      → Leads (at (in_object place done np name ne ∷ stack) leaf) n bytes
      (at stack (value_done (object place (back_members done (member np name ne t more)) close)))
  more_members_lead end_of_object stack place done np name ne t close n bytes leaf o h =
      let w = over_white (in_object place done np name ne ∷ stack) t leaf h.first n o h.before in
      then_leads h w.1
      (closing (at (in_object place done np name ne ∷ stack) w.0)
      (λ m. at stack (value_done (object place (back_members done (member np name ne t end_of_object)) m))) h.after
      (over_steps (in_object place done np name ne ∷ stack) t _ w.0 close_brace close_object _ w.2 (class_is close_object close_brace refl (λ e. cc)) refl))
  more_members_lead (member mp mname me v more) stack place done np name ne t close n bytes leaf o h =
      let w = over_white (in_object place done np name ne ∷ stack) t leaf h.first n o h.before in
      let before = behind_comma done np name ne t in
      then_leads h w.1
      (byte_leads h.after (comma_object stack place done np name ne t _ w.0 w.2)
      (λ rest k. then_leads k (naming_white stack place before k.first _ k.before)
      (named_leads stack place before mp mname me _ k.rest k.after
      (λ m xs j. then_leads j (awaiting_white (in_object place before mp mname me ∷ stack) j.first m j.before)
      (let g = value_leads v (in_object place before mp mname me ∷ stack) _ j.after.first j.after.before in
      then_leads j.after g.1 (more_members_lead more stack place before mp mname me v close _ j.after.rest g.0 g.2 j.after.after))))))
