-- Where a state completes by a byte and more, the step by that byte is made, and its state completes by the rest.
use Rattle.gj_json.proofs.Common.{Bool, Class, Constant, Elements, Exactly, IsNumber, List, Members, None, Option, Quoted, Some, Spells}
use Rattle.gj_json.proofs.Common.{SpellsContent, SpellsElements, SpellsMark, SpellsMembers, SpellsMoreElements, SpellsMoreMembers, StringState, Text}
use Rattle.gj_json.proofs.Common.{Tree, after_value, ap, append_assoc, array, begin_value, constant, element, end_of_array, end_of_object, eqb_tells}
use Rattle.gj_json.proofs.Common.{false, first_letter, if◌then◌else◌, inl, inr, letters_after, letters_of, mark_first, mark_second, mark_third}
use Rattle.gj_json.proofs.Common.{member, object, open_brace, open_bracket, refl, step, step_array_opened, step_colon_due, step_constant, step_leaf}
use Rattle.gj_json.proofs.Common.{step_name, step_name_due, step_number, step_object_opened, step_string, step_value_due, string, string_next, subst}
use Rattle.gj_json.proofs.Common.{sym, true, with_mark, ℕ, [], ◌++◌, ◌+◌, ◌∙◌, ◌∷◌, ◌≡◌}
use Rattle.std.proofs.Common.{append-nil, eq-eqb}
use Rattle.gj_json.specs.Bytes.{colon as colon_byte, quote as quote_byte}
use Rattle.gj_json.specs.Tree.{number}
use Rattle.gj_json.specs.Grammar.{Then, White, Ends}
use Rattle.gj_json.specs.declared.class.Class.TheVariants.{White as white, OpenArray as open_array, CloseArray as close_array, OpenObject as open_object}
use Rattle.gj_json.specs.declared.class.Class.TheVariants.{CloseObject as close_object, Comma as comma, Colon as colon, Quote as quote, Letter as letter}
use Rattle.gj_json.specs.Internal.ByteClasses.{class_of}
use Rattle.gj_json.proofs.Grammar.ClassOfBytes.{class_is, starts_number, number_classes, class_mark}
use Rattle.gj_json.proofs.Grammar.SpelledForms
use Rattle.gj_number.proofs.Grammar.DecidedNumbers.{number as decided_number, begins, no_number}
use Rattle.gj_json.proofs.Grammar.NumberPrefixes.{stops}
use Rattle.gj_json.specs.declared.mode.StringState.TheVariants.{Plain as plain}
use Rattle.gj_json.specs.Internal.TextMachine.{Broken, text_due, mark_one, mark_two, begun, Frame, in_array, in_object, Member, Leaf, Partial}
use Rattle.gj_json.specs.Internal.TextMachine.{value_due, value_done, array_opened, object_opened, constant_on}
use Rattle.gj_json.specs.Internal.TextMachine.{number_on as number_on_leaf, string_on, name_due, name_on as name_on_leaf, colon_due}
use Rattle.gj_json.specs.Internal.TextMachine.{back_elements, back_members, begins_number, is_number}
use Rattle.gj_json.proofs.Machine.Completions.{TextFrom, After, AfterName, Completes, CompletesFrom, Goes, StringOn, Due, spelled}
use Rattle.gj_json.proofs.Grammar.SpelledTexts

-- the place that a form begins by is where it stands
pub placed : {p : ℕ} {F K : ℕ → List ℕ → Type 0} {n : ℕ} {bytes : List ℕ} → Then (λ s bs. (p ≡ s) × F s bs) K n bytes → (p ≡ n) × Then F K n bytes
placed h = (h.before.0, SpelledForms.joins h.first h.rest h.joined h.before.1 h.after)

constant_begun : (stack : List Frame) (T : Tree) (n b : ℕ) (rest : List ℕ) (which : Constant) (place : ℕ)
    → Then (Spells (constant which place)) (After stack (constant which place) T) n (b ∷ rest)
    → Goes (CompletesFrom T (n + 1) rest) (begin_value stack n b (class_of b))
constant_begun stack T n b rest which place h =
    let g = placed {p = place} {F = Exactly (letters_of which)} h in
    let k : Then (Exactly (first_letter which ∷ letters_after which)) (After stack (constant which place) T) n (b ∷ rest) = rw (spelled which) at g.1 in
    let j = SpelledForms.exactly_on k in
    rw (class_is (letter which) b j.0 (λ e. cc))
    (let P : ℕ → Type 0 = λ p. Then (Exactly (letters_after which)) (After stack (constant which p) T) (n + 1) rest in subst P g.0 j.1)

array_begun : (stack : List Frame) (T : Tree) (n b : ℕ) (rest : List ℕ) (place : ℕ) (elements : Elements) (close : ℕ)
    → Then (Spells (array place elements close)) (After stack (array place elements close) T) n (b ∷ rest)
    → Goes (CompletesFrom T (n + 1) rest) (begin_value stack n b (class_of b))
array_begun stack T n b rest place elements close h =
    let g = placed {p = place} {F = Then (Exactly (open_bracket ∷ [])) (Then White (SpellsElements elements close))} h in
    let j = SpelledForms.byte_on (SpelledForms.then_left g.1) in
    rw (class_is open_array b j.0 (λ e. cc))
    (let P : ℕ → Type 0 = λ p. Then White (Then (SpellsElements elements close) (After stack (array p elements close) T)) (n + 1) rest in
    (elements, close, subst P g.0 (SpelledForms.then_left j.1)))

object_begun : (stack : List Frame) (T : Tree) (n b : ℕ) (rest : List ℕ) (place : ℕ) (members : Members) (close : ℕ)
    → Then (Spells (object place members close)) (After stack (object place members close) T) n (b ∷ rest)
    → Goes (CompletesFrom T (n + 1) rest) (begin_value stack n b (class_of b))
object_begun stack T n b rest place members close h =
    let g = placed {p = place} {F = Then (Exactly (open_brace ∷ [])) (Then White (SpellsMembers members close))} h in
    let j = SpelledForms.byte_on (SpelledForms.then_left g.1) in
    rw (class_is open_object b j.0 (λ e. cc))
    (let P : ℕ → Type 0 = λ p. Then White (Then (SpellsMembers members close) (After stack (object p members close) T)) (n + 1) rest in
    (members, close, subst P g.0 (SpelledForms.then_left j.1)))

-- what stands after an opening quote
quoted_on : {place : ℕ} {content : List ℕ} {end : ℕ} {K : ℕ → List ℕ → Type 0} {n b : ℕ} {rest : List ℕ} → Then (Quoted place content end) K n (b ∷ rest)
    → (place ≡ n) × (b ≡ quote_byte) × Then (StringOn plain content end) K (n + 1) rest
quoted_on {place} {content} {end} {K} {n} {b} {rest} h =
    let g = placed {p = place}
    {F = Then (Exactly (quote_byte ∷ [])) (Then (λ here inner. SpellsContent content inner) (Then (Exactly (quote_byte ∷ [])) (Ends end)))} h in
    let j = SpelledForms.byte_on (SpelledForms.then_left g.1) in
    let k : Then (λ here inner. SpellsContent content inner) (Then (Then (Exactly (quote_byte ∷ [])) (Ends end)) K) (n + 1) rest = SpelledForms.then_left j.1 in
    (g.0, j.0, SpelledForms.then_right (SpelledForms.joins k.first k.rest k.joined (SpelledTexts.content_on k.first content k.before) k.after))

string_begun : (stack : List Frame) (T : Tree) (n b : ℕ) (rest : List ℕ) (place : ℕ) (content : List ℕ) (end : ℕ)
    → Then (Spells (string place content end)) (After stack (string place content end) T) n (b ∷ rest)
    → Goes (CompletesFrom T (n + 1) rest) (begin_value stack n b (class_of b))
string_begun stack T n b rest place content end h =
    let g = quoted_on {place = place} {content = content} {end = end} h in
    rw (class_is quote b g.1 (λ e. cc))
    (let P : ℕ → Type 0 = λ p. Then (StringOn plain content end) (After stack (string p content end) T) (n + 1) rest in (content, end, subst P g.0 g.2))

number_begun : (stack : List Frame) (T : Tree) (n b : ℕ) (rest : List ℕ) (place : ℕ) (literal : List ℕ) (end : ℕ)
    → Then (Spells (number place literal end)) (After stack (number place literal end) T) n (b ∷ rest)
    → Goes (CompletesFrom T (n + 1) rest) (begin_value stack n b (class_of b))
number_begun stack T n b rest place literal end h =
    go literal h.before.0 h.before.1 (SpelledForms.then_left (SpelledForms.joins h.first h.rest h.joined h.before.2 h.after))
  where
    go : (digits : List ℕ) → place ≡ n → IsNumber digits → Then (Exactly digits) (Then (Ends end) (After stack (number place digits end) T)) n (b ∷ rest)
        → Goes (CompletesFrom T (n + 1) rest) (begin_value stack n b (class_of b))
    go [] p i k = absurd (no_number i)
    go (d ∷ more) p i k =
        let g = SpelledForms.exactly_on k in
        let j : IsNumber (b ∷ more) = rw (g.0) i in
        rw (starts_number b (more, j)) (
          more,
          end,
          j,
          let P : ℕ → ℕ → Type 0 = λ p c. Then (Exactly more) (Then (Ends end) (After stack (number p (c ∷ more) end) T)) (n + 1) rest in
              let Q : ℕ → Type 0 = λ c. P n c in let R : ℕ → Type 0 = λ q. P q d in subst Q (sym g.0) (subst R p g.1),
        )

on_begin : (stack : List Frame) (T : Tree) (n b : ℕ) (rest : List ℕ) (t : Tree) → Then (Spells t) (After stack t T) n (b ∷ rest)
    → Goes (CompletesFrom T (n + 1) rest) (begin_value stack n b (class_of b))
on_begin stack T n b rest (constant which place) h = constant_begun stack T n b rest which place h
on_begin stack T n b rest (number place literal end) h = number_begun stack T n b rest place literal end h
on_begin stack T n b rest (string place content end) h = string_begun stack T n b rest place content end h
on_begin stack T n b rest (array place elements close) h = array_begun stack T n b rest place elements close h
on_begin stack T n b rest (object place members close) h = object_begun stack T n b rest place members close h

-- ---- after a value

on_more_elements : (stack : List Frame) (place : ℕ) (done : List Tree) (t T : Tree) (n b : ℕ) (rest : List ℕ) (more : Elements) (close : ℕ)
    → Then (SpellsMoreElements more close) (After stack (array place (back_elements done (element t more)) close) T) n (b ∷ rest)
    → Goes (CompletesFrom T (n + 1) rest) (after_value (in_array place done ∷ stack) t n (class_of b))
on_more_elements stack place done t T n b rest end_of_array close h =
    let g = SpelledForms.closes_on {close = close} h in
    rw (class_is close_array b g.0 (λ e. cc))
    (let P : ℕ → Type 0 = λ c. After stack (array place (back_elements done (element t end_of_array)) c) T (n + 1) rest in subst P g.1 g.2)
on_more_elements stack place done t T n b rest (element v more) close h =
    let g = SpelledForms.byte_on (SpelledForms.then_left h) in
    rw (class_is comma b g.0 (λ e. cc))
    (let k : Then White (Then (Spells v)
    (Then White (Then (SpellsMoreElements more close) (After stack (array place (back_elements done (element t (element v more))) close) T))))
    (n + 1) rest = SpelledForms.left4 g.1 in
    (v, SpelledForms.behind (λ m r j. (more, close, j)) k))

-- after the name of a member
name_on : (stack : List Frame) (place : ℕ) (done : List Member) (np : ℕ) (name : List ℕ) (ne : ℕ) (T : Tree) (n : ℕ) (rest : List ℕ) (v : Tree) (more : Members)
    (close : ℕ)
    → Then (Then White (Then (Exactly (colon_byte ∷ [])) (Then White (Then (Spells v) (Then White (SpellsMoreMembers more close))))))
    (After stack (object place (back_members done (member np name ne v more)) close) T) n rest
    → AfterName stack place done np name ne T n rest
name_on stack place done np name ne T n rest v more close h = (
  v,
  SpelledForms.behind {D = Then White (Then (Spells v) (After (in_object place done np name ne ∷ stack) v T))}
      (λ m r k. SpelledForms.behind {D = After (in_object place done np name ne ∷ stack) v T} (λ p q j. (more, close, j)) (SpelledForms.left4 k))
      (SpelledForms.left3 h),
)

on_more_members : (stack : List Frame) (place : ℕ) (done : List Member) (np : ℕ) (name : List ℕ) (ne : ℕ) (t T : Tree) (n b : ℕ) (rest : List ℕ)
    (more : Members) (close : ℕ)
    → Then (SpellsMoreMembers more close) (After stack (object place (back_members done (member np name ne t more)) close) T) n (b ∷ rest)
    → Goes (CompletesFrom T (n + 1) rest) (after_value (in_object place done np name ne ∷ stack) t n (class_of b))
on_more_members stack place done np name ne t T n b rest end_of_object close h =
    let g = SpelledForms.closes_on {close = close} h in
    rw (class_is close_object b g.0 (λ e. cc))
    (let P : ℕ → Type 0 = λ c. After stack (object place (back_members done (member np name ne t end_of_object)) c) T (n + 1) rest in subst P g.1 g.2)
on_more_members stack place done np name ne t T n b rest (member mp mname me v more) close h =
    let g = SpelledForms.byte_on (SpelledForms.then_left h) in
    let k : Then White (Then (Quoted mp mname me)
    (Then (Then White (Then (Exactly (colon_byte ∷ [])) (Then White (Then (Spells v) (Then White (SpellsMoreMembers more close))))))
    (After stack (object place (back_members done (member np name ne t (member mp mname me v more))) close) T))) (n + 1) rest = SpelledForms.left3 g.1 in
    rw (class_is comma b g.0 (λ e. cc)) (
      mp,
      mname,
      me,
      SpelledForms.behind
          (λ m r j. name_on stack place (record { place = np; name = name; end = ne; value = t } ∷ done) mp mname me T m r v more close j) k,
    )

on_after : (stack : List Frame) (t T : Tree) (n b : ℕ) (rest : List ℕ) → After stack t T n (b ∷ rest)
    → Goes (CompletesFrom T (n + 1) rest) (after_value stack t n (class_of b))
on_after [] t T n b rest h = rw (class_is white b h.0.0 (λ e. cc)) (h.0.1, h.1)
on_after (in_array place done ∷ stack) t T n b rest h = elim (SpelledForms.white_on h.2) [
  | inl g ↦ rw (class_is white b g.0 (λ e. cc)) (h.0, h.1, g.1)
  | inr g ↦ on_more_elements stack place done t T n b rest h.0 h.1 g
]
on_after (in_object place done np name ne ∷ stack) t T n b rest h = elim (SpelledForms.white_on h.2) [
  | inl g ↦ rw (class_is white b g.0 (λ e. cc)) (h.0, h.1, g.1)
  | inr g ↦ on_more_members stack place done np name ne t T n b rest h.0 h.1 g
]

-- ---- where a value or a name is due

due_begins : (P : Partial → Type 0) (stack : List Frame) (n b : ℕ) (c : Class) → Goes P (begin_value stack n b c) → Goes P (step_value_due stack n b c)
due_begins P stack n b white h = absurd h
due_begins P stack n b _ h = h

opened_begins : (P : Partial → Type 0) (stack : List Frame) (place n b : ℕ) (c : Class) → Goes P (begin_value (in_array place [] ∷ stack) n b c)
    → Goes P (step_array_opened stack place n b c)
opened_begins P stack place n b white h = absurd h
opened_begins P stack place n b close_array h = absurd h
opened_begins P stack place n b _ h = h

on_value_due : (stack : List Frame) (T : Tree) (n b : ℕ) (rest : List ℕ) → Completes stack value_due T n (b ∷ rest)
    → Goes (CompletesFrom T (n + 1) rest) (step_value_due stack n b (class_of b))
on_value_due stack T n b rest h = elim (SpelledForms.white_on h.1) [
  | inl g ↦ rw (class_is white b g.0 (λ e. cc)) (h.0, g.1)
  | inr g ↦ due_begins (CompletesFrom T (n + 1) rest) stack n b (class_of b) (on_begin stack T n b rest h.0 g)
]

on_first_element : (stack : List Frame) (place : ℕ) (T : Tree) (n b : ℕ) (rest : List ℕ) (elements : Elements) (close : ℕ)
    → Then (SpellsElements elements close) (After stack (array place elements close) T) n (b ∷ rest)
    → Goes (CompletesFrom T (n + 1) rest) (step_array_opened stack place n b (class_of b))
on_first_element stack place T n b rest end_of_array close h =
    let g = SpelledForms.closes_on {close = close} h in
    rw (class_is close_array b g.0 (λ e. cc)) (let P : ℕ → Type 0 = λ c. After stack (array place end_of_array c) T (n + 1) rest in subst P g.1 g.2)
on_first_element stack place T n b rest (element v more) close h =
    opened_begins (CompletesFrom T (n + 1) rest) stack place n b (class_of b)
    (on_begin (in_array place [] ∷ stack) T n b rest v
    (SpelledForms.then_map {C = After (in_array place [] ∷ stack) v T} (λ m r k. (more, close, k)) (SpelledForms.left3 h)))

on_array_opened : (stack : List Frame) (place : ℕ) (T : Tree) (n b : ℕ) (rest : List ℕ) → Completes stack (array_opened place) T n (b ∷ rest)
    → Goes (CompletesFrom T (n + 1) rest) (step_array_opened stack place n b (class_of b))
on_array_opened stack place T n b rest h = elim (SpelledForms.white_on h.2) [
  | inl g ↦ rw (class_is white b g.0 (λ e. cc)) (h.0, h.1, g.1)
  | inr g ↦ on_first_element stack place T n b rest h.0 h.1 g
]

on_name : (stack : List Frame) (place : ℕ) (done : List Member) (T : Tree) (n b : ℕ) (rest : List ℕ) (np : ℕ) (name : List ℕ) (ne : ℕ)
    → Then (Quoted np name ne) (AfterName stack place done np name ne T) n (b ∷ rest) → (b ≡ quote_byte)
    × Completes stack (name_on_leaf place done n [] plain) T (n + 1) rest
on_name stack place done T n b rest np name ne h =
    let g = quoted_on {place = np} {content = name} {end = ne} h in
    (g.1, (name, ne, let P : ℕ → Type 0 = λ p. Then (StringOn plain name ne) (AfterName stack place done p name ne T) (n + 1) rest in subst P g.0 g.2))

on_first_member : (stack : List Frame) (place : ℕ) (T : Tree) (n b : ℕ) (rest : List ℕ) (members : Members) (close : ℕ)
    → Then (SpellsMembers members close) (After stack (object place members close) T) n (b ∷ rest)
    → Goes (CompletesFrom T (n + 1) rest) (step_object_opened stack place n (class_of b))
on_first_member stack place T n b rest end_of_object close h =
    let g = SpelledForms.closes_on {close = close} h in
    rw (class_is close_object b g.0 (λ e. cc)) (let P : ℕ → Type 0 = λ c. After stack (object place end_of_object c) T (n + 1) rest in subst P g.1 g.2)
on_first_member stack place T n b rest (member mp mname me v more) close h =
    let k : Then (Quoted mp mname me)
    (Then (Then White (Then (Exactly (colon_byte ∷ [])) (Then White (Then (Spells v) (Then White (SpellsMoreMembers more close))))))
    (After stack (object place (member mp mname me v more) close) T)) n (b ∷ rest) = SpelledForms.then_left h in
    let g = on_name stack place [] T n b rest mp mname me
    (SpelledForms.then_map {C = AfterName stack place [] mp mname me T} (λ m r j. name_on stack place [] mp mname me T m r v more close j) k) in
    rw (class_is quote b g.0 (λ e. cc)) g.1

on_object_opened : (stack : List Frame) (place : ℕ) (T : Tree) (n b : ℕ) (rest : List ℕ) → Completes stack (object_opened place) T n (b ∷ rest)
    → Goes (CompletesFrom T (n + 1) rest) (step_object_opened stack place n (class_of b))
on_object_opened stack place T n b rest h = elim (SpelledForms.white_on h.2) [
  | inl g ↦ rw (class_is white b g.0 (λ e. cc)) (h.0, h.1, g.1)
  | inr g ↦ on_first_member stack place T n b rest h.0 h.1 g
]

on_name_due : (stack : List Frame) (place : ℕ) (done : List Member) (T : Tree) (n b : ℕ) (rest : List ℕ) → Completes stack (name_due place done) T n (b ∷ rest)
    → Goes (CompletesFrom T (n + 1) rest) (step_name_due stack place done n (class_of b))
on_name_due stack place done T n b rest h = elim (SpelledForms.white_on h.3) [
  | inl g ↦ rw (class_is white b g.0 (λ e. cc)) (h.0, h.1, h.2, g.1)
  | inr g ↦ (let k = on_name stack place done T n b rest h.0 h.1 h.2 g in rw (class_is quote b k.0 (λ e. cc)) k.1)
]

on_colon_due : (stack : List Frame) (place : ℕ) (done : List Member) (np : ℕ) (name : List ℕ) (ne : ℕ) (T : Tree) (n b : ℕ) (rest : List ℕ)
    → AfterName stack place done np name ne T n (b ∷ rest)
    → Goes (CompletesFrom T (n + 1) rest) (step_colon_due stack place done np name ne (class_of b))
on_colon_due stack place done np name ne T n b rest h = elim (SpelledForms.white_on h.1) [
  | inl g ↦ rw (class_is white b g.0 (λ e. cc)) (h.0, g.1)
  | inr g ↦ (let k = SpelledForms.byte_on g in rw (class_is colon b k.0 (λ e. cc)) (h.0, k.1))
]

-- ---- within a word, a number, a text

on_constant : (stack : List Frame) (which : Constant) (place : ℕ) (left : List ℕ) (T : Tree) (n b : ℕ) (rest : List ℕ)
    → Then (Exactly left) (After stack (constant which place) T) n (b ∷ rest)
    → Goes (CompletesFrom T (n + 1) rest) (step_constant stack which place left n b)
on_constant stack which place [] T n b rest h = on_after stack (constant which place) T n b rest (SpelledForms.exactly_done h)
on_constant stack which place (a ∷ []) T n b rest h = let g = SpelledForms.byte_on h in rw (eq-eqb b a g.0) g.1
on_constant stack which place (a ∷ c ∷ left) T n b rest h = let g = SpelledForms.exactly_on h in rw (eq-eqb b a g.0) g.1

on_string : (stack : List Frame) (place : ℕ) (so_far : List ℕ) (state : StringState) (T : Tree) (n b : ℕ) (rest : List ℕ)
    → Completes stack (string_on place so_far state) T n (b ∷ rest)
    → Goes (CompletesFrom T (n + 1) rest) (step_string stack place so_far n (string_next state b))
on_string stack place so_far state T n b rest h = elim (SpelledTexts.string_on_step h.2) [
  | inl g ↦ rw (g.0) (let P : List ℕ → ℕ → Type 0 = λ c e. After stack (string place c e) T (n + 1) rest in
      let Q : List ℕ → Type 0 = λ c. P c (n + 1) in let R : ℕ → Type 0 =
      λ e. P (so_far ++ h.0) e in subst Q (ap (λ c. so_far ++ c) g.1 ∙ append-nil so_far) (subst R g.2 g.3))
  | inr g ↦ rw (g.3) (
    g.2,
    h.1,
    let P : List ℕ
        → Type 0 = λ c. Then (StringOn g.1 g.2 h.1) (After stack (string place c h.1) T) (n + 1) rest in
        subst P (ap (λ c. so_far ++ c) g.4 ∙ sym (append_assoc so_far g.0 g.2)) g.5,
  )
]

on_name_string : (stack : List Frame) (place : ℕ) (done : List Member) (np : ℕ) (so_far : List ℕ) (state : StringState) (T : Tree) (n b : ℕ) (rest : List ℕ)
    → Completes stack (name_on_leaf place done np so_far state) T n (b ∷ rest)
    → Goes (CompletesFrom T (n + 1) rest) (step_name stack place done np so_far n (string_next state b))
on_name_string stack place done np so_far state T n b rest h = elim (SpelledTexts.string_on_step h.2) [
  | inl g ↦ rw (g.0) (let P : List ℕ → ℕ → Type 0 = λ c e. AfterName stack place done np c e T (n + 1) rest in
      let Q : List ℕ → Type 0 = λ c. P c (n + 1) in let R : ℕ → Type 0 =
      λ e. P (so_far ++ h.0) e in subst Q (ap (λ c. so_far ++ c) g.1 ∙ append-nil so_far) (subst R g.2 g.3))
  | inr g ↦ rw (g.3) (
    g.2,
    h.1,
    let P : List ℕ
        → Type 0 = λ c. Then (StringOn g.1 g.2 h.1) (AfterName stack place done np c h.1 T) (n + 1) rest in
        subst P (ap (λ c. so_far ++ c) g.4 ∙ sym (append_assoc so_far g.0 g.2)) g.5,
  )
]

-- a byte that may follow a value
abbrev Follows : Class → Type 0
Follows white = Unit {0}
Follows comma = Unit {0}
Follows close_array = Unit {0}
Follows close_object = Unit {0}
Follows _ = ⊥

follows : (P : Partial → Type 0) (stack : List Frame) (t : Tree) (n : ℕ) (c : Class) → Goes P (after_value stack t n c) → Follows c
follows P stack t n white h = tt
follows P stack t n comma h = tt
follows P stack t n close_array h = tt
follows P stack t n close_object h = tt
follows P [] t n _ h = h
follows P other t n _ h = h

-- a byte that goes on after a value goes on in no number
pub no_more : (P : Partial → Type 0) (stack : List Frame) (t : Tree) (n : ℕ) (so_far : List ℕ) (b : ℕ) → Goes P (after_value stack t n (class_of b))
    → begins_number (so_far ++ b ∷ []) ≡ false
no_more P stack t n so_far b h =
    let f = follows P stack t n (class_of b) h in
    stops so_far b (λ x. elim (number_classes b x) [ inl e ↦ rw e at f | inr e ↦ rw e at f ])

on_number : (stack : List Frame) (place : ℕ) (so_far : List ℕ) (T : Tree) (n b : ℕ) (rest : List ℕ)
    → Completes stack (number_on_leaf place so_far) T n (b ∷ rest)
    → Goes (CompletesFrom T (n + 1) rest)
    (step_number stack place so_far b (begins_number (so_far ++ b ∷ []))
    (if is_number so_far then after_value stack (number place so_far n) n (class_of b) else None))
on_number stack place so_far T n b rest h = go h.0 h.2 h.3
  where
    go : (more : List ℕ) → IsNumber (so_far ++ more) → Then (Exactly more) (Then (Ends h.1) (After stack (number place (so_far ++ more) h.1) T)) n (b ∷ rest)
        → Goes (CompletesFrom T (n + 1) rest)
        (step_number stack place so_far b (begins_number (so_far ++ b ∷ []))
        (if is_number so_far then after_value stack (number place so_far n) n (class_of b) else None))
    go [] i k =
        let g = SpelledForms.ends_on {end = h.1} (SpelledForms.exactly_done k) in
        let P : List ℕ → ℕ → Type 0 = λ c e. After stack (number place c e) T n (b ∷ rest) in
        let Q : List ℕ → Type 0 = λ c. P c n in
        let R : ℕ → Type 0 = λ e. P (so_far ++ []) e in
        let j = on_after stack (number place so_far n) T n b rest (subst Q (append-nil so_far) (subst R g.0 g.1)) in
        rw (no_more (CompletesFrom T (n + 1) rest) stack (number place so_far n) n so_far b j, (decided_number so_far).1 (rw (append-nil so_far) at i)) j
    go (c ∷ later) i k =
        let g = SpelledForms.exactly_on k in
        let e : so_far ++ c ∷ later ≡ (so_far ++ b ∷ []) ++ later = ap (λ x. so_far ++ x ∷ later) (sym g.0) ∙ sym (append_assoc so_far (b ∷ []) later) in
        let P : List ℕ → Type 0 = λ xs. Then (Exactly later) (Then (Ends h.1) (After stack (number place xs h.1) T)) (n + 1) rest in
        let j : IsNumber ((so_far ++ b ∷ []) ++ later) = rw e at i in
        rw ((begins (so_far ++ b ∷ [])).1 (later, j)) (later, h.1, j, subst P e g.1)

forward_leaf : (stack : List Frame) (leaf : Leaf) (T : Tree) (n b : ℕ) (rest : List ℕ) → Completes stack leaf T n (b ∷ rest)
    → Goes (CompletesFrom T (n + 1) rest) (step_leaf stack leaf n b)
forward_leaf stack value_due T n b rest h = on_value_due stack T n b rest h
forward_leaf stack (value_done t) T n b rest h = on_after stack t T n b rest h
forward_leaf stack (array_opened place) T n b rest h = on_array_opened stack place T n b rest h
forward_leaf stack (object_opened place) T n b rest h = on_object_opened stack place T n b rest h
forward_leaf stack (constant_on which place left) T n b rest h = on_constant stack which place left T n b rest h
forward_leaf stack (number_on_leaf place so_far) T n b rest h = on_number stack place so_far T n b rest h
forward_leaf stack (string_on place so_far state) T n b rest h = on_string stack place so_far state T n b rest h
forward_leaf stack (name_due place done) T n b rest h = on_name_due stack place done T n b rest h
forward_leaf stack (name_on_leaf place done np so_far state) T n b rest h = on_name_string stack place done np so_far state T n b rest h
forward_leaf stack (colon_due place done np name ne) T n b rest h = on_colon_due stack place done np name ne T n b rest h

-- ---- a whole text

pub with_mark-goes : (T : Text) (n : ℕ) (rest : List ℕ) (marked : Bool) (o : Option Partial) → T.marked ≡ marked → Goes (CompletesFrom T.value n rest) o
    → Goes (TextFrom T n rest) (with_mark marked o)
with_mark-goes T n rest marked None e h = h
with_mark-goes T n rest marked (Some s) e h = (e, h)

forward_due : (T : Text) (n b : ℕ) (rest : List ℕ) (marked : Bool) → T.marked ≡ marked → Then (SpellsMark marked) (Due [] T.value) n (b ∷ rest)
    → Goes (TextFrom T (n + 1) rest) (step text_due n b)
forward_due T n b rest true m h =
    let g = SpelledForms.exactly_on {letters = mark_second ∷ mark_third ∷ []} {K = Due [] T.value} h in
    rw (eq-eqb b mark_first g.0) (m, g.1)
forward_due T n b rest false m h = unmarked (on_value_due [] T.value n b rest (SpelledForms.exactly_done {K = Due [] T.value} h))
  where
    unmarked : Goes (CompletesFrom T.value (n + 1) rest) (step_value_due [] n b (class_of b)) → Goes (TextFrom T (n + 1) rest) (step text_due n b)
    unmarked g = elim (eqb_tells b mark_first) [
      | inl e ↦ absurd (let k = rw (class_mark b e.1) at g in k)
      | inr e ↦ rw (e.0) (with_mark-goes T (n + 1) rest false (step_value_due [] n b (class_of b)) m g)
    ]

pub forward : (s : Broken) (T : Text) (n b : ℕ) (rest : List ℕ) → TextFrom T n (b ∷ rest) s → Goes (TextFrom T (n + 1) rest) (step s n b)
forward text_due T n b rest h = forward_due T n b rest T.marked refl h
forward mark_one T n b rest h = let g = SpelledForms.exactly_on h.1 in rw (eq-eqb b mark_second g.0) (h.0, g.1)
forward mark_two T n b rest h = let g = SpelledForms.byte_on h.1 in rw (eq-eqb b mark_third g.0) (h.0, g.1)
forward (begun marked s) T n b rest h =
    with_mark-goes T (n + 1) rest marked (step_leaf s.stack s.leaf n b) h.0 (forward_leaf s.stack s.leaf T.value n b rest h.1)
