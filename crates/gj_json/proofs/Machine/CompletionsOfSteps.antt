-- Where a step by a byte is made and the state after it completes by a rest, the state before it completes by the byte and the rest.
use Rattle.gj_json.proofs.Common.{Bool, Class, Constant, Exactly, List, Means, Members, None, Option, Quoted, Some, Spells, SpellsContent}
use Rattle.gj_json.proofs.Common.{SpellsElements, SpellsMark, SpellsMembers, SpellsMoreMembers, StringState, StringStep, Text, Tree, after_value}
use Rattle.gj_json.proofs.Common.{append_assoc, array, begin_value, constant, element, end_of_array, end_of_object, false, if◌then◌else◌, length}
use Rattle.gj_json.proofs.Common.{letters_of, mark_first, mark_second, mark_third, member, object, open_brace, open_bracket, refl, step}
use Rattle.gj_json.proofs.Common.{step_array_opened, step_colon_due, step_constant, step_leaf, step_name, step_name_due, step_number}
use Rattle.gj_json.proofs.Common.{step_object_opened, step_string, step_value_due, string, string_ends, string_goes, string_next, string_refuses}
use Rattle.gj_json.proofs.Common.{subst, sym, to, true, with_mark, ℕ, [], ◌++◌, ◌+◌, ◌==◌, ◌∷◌, ◌≡◌}
use Rattle.std.proofs.Common.{append-nil, eqb-true}
use Rattle.gj_json.specs.Bytes.{colon as colon_byte, quote as quote_byte}
use Rattle.gj_json.specs.Tree.{number}
use Rattle.gj_json.specs.Grammar.{Then, White, Ends}
use Rattle.gj_json.specs.declared.class.Class.TheVariants.{White as white, OpenArray as open_array, CloseArray as close_array, OpenObject as open_object}
use Rattle.gj_json.specs.declared.class.Class.TheVariants.{CloseObject as close_object, Comma as comma, Colon as colon, Quote as quote}
use Rattle.gj_json.specs.declared.class.Class.TheVariants.{NumberStart as number_start, Letter as letter}
use Rattle.gj_json.specs.Internal.ByteClasses.{class_of}
use Rattle.gj_json.proofs.Grammar.ClassOfBytes.{means}
use Rattle.gj_json.proofs.Grammar.SpelledForms
use Rattle.gj_number.proofs.Grammar.DecidedNumbers.{number as decided_number}
use Rattle.gj_json.specs.declared.mode.StringState.TheVariants.{Plain as plain}
use Rattle.gj_json.specs.Internal.TextMachine.{Broken, text_due, mark_one, mark_two, begun, Frame, in_array, in_object, Member, Leaf, Partial}
use Rattle.gj_json.specs.Internal.TextMachine.{value_due, value_done, array_opened, object_opened, constant_on}
use Rattle.gj_json.specs.Internal.TextMachine.{number_on as number_on_leaf, string_on, name_due, name_on as name_on_leaf, colon_due}
use Rattle.gj_json.specs.Internal.TextMachine.{back_members, begins_number, is_number}
use Rattle.gj_json.specs.Internal.TextMachine.{begin_name}
use Rattle.gj_json.proofs.Machine.Completions.{TextFrom, After, AfterName, Completes, CompletesFrom, Goes, StringRest, StringOn, Due, spelled}
use Rattle.gj_json.proofs.Grammar.SpelledTexts

-- what stands at a place begins there
here : {F K : ℕ → List ℕ → Type 0} {n : ℕ} {bytes : List ℕ} → Then F K n bytes → Then (λ s bs. (n ≡ s) × F s bs) K n bytes
here h = SpelledForms.joins h.first h.rest h.joined (refl, h.before) h.after

quoted_back : {content : List ℕ} {end : ℕ} {K : ℕ → List ℕ → Type 0} {n b : ℕ} {rest : List ℕ} → b ≡ quote_byte
    → Then (StringOn plain content end) K (n + 1) rest → Then (Quoted n content end) K n (b ∷ rest)
quoted_back {content} {end} {K} {n} {b} {rest} e h =
    let g : Then (λ here inner. StringRest plain content inner) (Then (Then (Exactly (quote_byte ∷ [])) (Ends end)) K) (n + 1) rest =
    SpelledForms.then_left h in
    let k : Then (λ here inner. SpellsContent content inner) (Then (Then (Exactly (quote_byte ∷ [])) (Ends end)) K) (n + 1) rest =
    SpelledForms.joins g.first g.rest g.joined (SpelledTexts.content_back g.first content g.before) g.after in
    here (SpelledForms.then_right (SpelledForms.byte_more e (SpelledForms.then_right k)))

Begun : List Frame → Tree → ℕ → ℕ → List ℕ → Type 0
Begun stack T n b rest = (t : Tree) × Then (Spells t) (After stack t T) n (b ∷ rest)

number_begun : (stack : List Frame) (T : Tree) (n b : ℕ) (rest : List ℕ) → Completes stack (number_on_leaf n (b ∷ [])) T (n + 1) rest
    → (t : Tree) × Then (Spells t) (After stack t T) n (b ∷ rest)
number_begun stack T n b rest h =
    let k : Then (Exactly (b ∷ h.0)) (Then (Ends h.1) (After stack (number n (b ∷ h.0) h.1) T)) n (b ∷ rest) = SpelledForms.exactly_more refl h.3 in
    let j : Then (Then (Exactly (b ∷ h.0)) (Ends h.1)) (After stack (number n (b ∷ h.0) h.1) T) n (b ∷ rest) = SpelledForms.then_right k in
    (number n (b ∷ h.0) h.1, SpelledForms.joins j.first j.rest j.joined (refl, h.2, j.before) j.after)

back_begin : (stack : List Frame) (T : Tree) (n b : ℕ) (rest : List ℕ) (c : Class) → Means c b → Goes (CompletesFrom T (n + 1) rest) (begin_value stack n b c)
    → (t : Tree) × Then (Spells t) (After stack t T) n (b ∷ rest)
back_begin stack T n b rest open_array m h = (
  array n h.0 h.1,
  here {F = Then (Exactly (open_bracket ∷ [])) (Then White (SpellsElements h.0 h.1))}
      (SpelledForms.then_right (SpelledForms.byte_more m (SpelledForms.then_right h.2))),
)
back_begin stack T n b rest open_object m h = (
  object n h.0 h.1,
  here {F = Then (Exactly (open_brace ∷ [])) (Then White (SpellsMembers h.0 h.1))}
      (SpelledForms.then_right (SpelledForms.byte_more m (SpelledForms.then_right h.2))),
)
back_begin stack T n b rest quote m h = (string n h.0 h.1, quoted_back m h.2)
back_begin stack T n b rest number_start m h = number_begun stack T n b rest h
back_begin stack T n b rest (letter which) m h =
    let k : Then (Exactly (letters_of which)) (After stack (constant which n) T) n (b ∷ rest) = rw (spelled which) (SpelledForms.exactly_more m h) in
    (constant which n, here {F = Exactly (letters_of which)} k)
back_begin stack T n b rest another m h = absurd h

-- ---- after a value

name_back : (stack : List Frame) (place : ℕ) (done : List Member) (np : ℕ) (name : List ℕ) (ne : ℕ) (T : Tree) (n : ℕ) (rest : List ℕ)
    → AfterName stack place done np name ne T n rest
    → (v : Tree) × (more : Members) × (close : ℕ)
    × Then (Then White (Then (Exactly (colon_byte ∷ [])) (Then White (Then (Spells v) (Then White (SpellsMoreMembers more close))))))
    (After stack (object place (back_members done (member np name ne v more)) close) T) n rest
name_back stack place done np name ne T n rest h =
    let w : Then White (Then (Exactly (colon_byte ∷ [])) (Then White (Then (Spells h.0) (After (in_object place done np name ne ∷ stack) h.0 T)))) n rest =
    h.1 in
    let v : Then White (Then (Spells h.0) (After (in_object place done np name ne ∷ stack) h.0 T)) (n + length w.first + length w.after.first) w.after.rest =
    w.after.after in
    let x : After (in_object place done np name ne ∷ stack) h.0 T
    (n + length w.first + length w.after.first + length v.first + length v.after.first) v.after.rest = v.after.after in
    (h.0, x.0, x.1, SpelledForms.right3 (SpelledForms.rebuilt w (SpelledForms.right4 (SpelledForms.rebuilt v x.2))))

back_after : (stack : List Frame) (t T : Tree) (n b : ℕ) (rest : List ℕ) (c : Class) → Means c b → Goes (CompletesFrom T (n + 1) rest) (after_value stack t n c)
    → After stack t T n (b ∷ rest)
back_after [] t T n b rest white m h = ((m, h.0), h.1)
back_after (in_array place done ∷ stack) t T n b rest white m h = (h.0, h.1, SpelledForms.white_more m h.2)
back_after (in_array place done ∷ stack) t T n b rest comma m h =
    let w : Then White (Then (Spells h.0) (After (in_array place (t ∷ done) ∷ stack) h.0 T)) (n + 1) rest = h.1 in
    let x : After (in_array place (t ∷ done) ∷ stack) h.0 T (n + 1 + length w.first + length w.after.first) w.after.rest = w.after.after in
    (element h.0 x.0, x.1, SpelledForms.white_none (SpelledForms.then_right (SpelledForms.byte_more m (SpelledForms.right4 (SpelledForms.rebuilt w x.2)))))
back_after (in_array place done ∷ stack) t T n b rest close_array m h = (end_of_array, n, SpelledForms.white_none (SpelledForms.closes_more m h))
back_after (in_object place done np name ne ∷ stack) t T n b rest white m h = (h.0, h.1, SpelledForms.white_more m h.2)
back_after (in_object place done np name ne ∷ stack) t T n b rest comma m h =
    let w : Then White (Then (Quoted h.0 h.1 h.2) (AfterName stack place (record { place = np; name = name; end = ne; value = t } ∷ done) h.0 h.1 h.2 T))
    (n + 1) rest = h.3 in
    let x = name_back stack place (record { place = np; name = name; end = ne; value = t } ∷ done) h.0 h.1 h.2 T _ _ w.after.after in (
      member h.0 h.1 h.2 x.0 x.1,
      x.2,
      SpelledForms.white_none
          (SpelledForms.then_right (SpelledForms.byte_more m (SpelledForms.right3 (SpelledForms.rebuilt w x.3)))),
    )
back_after (in_object place done np name ne ∷ stack) t T n b rest close_object m h = (end_of_object, n, SpelledForms.white_none (SpelledForms.closes_more m h))
back_after _ t T n b rest _ m h = absurd h

-- ---- where a value or a name is due

pub back_value_due : (stack : List Frame) (T : Tree) (n b : ℕ) (rest : List ℕ) (c : Class) → Means c b
    → Goes (CompletesFrom T (n + 1) rest) (step_value_due stack n b c) → Completes stack value_due T n (b ∷ rest)
back_value_due stack T n b rest white m h = (h.0, SpelledForms.white_more m h.1)
back_value_due stack T n b rest c m h = let g = back_begin stack T n b rest c m h in (g.0, SpelledForms.white_none g.1)

first_element : (stack : List Frame) (place : ℕ) (T : Tree) (n : ℕ) (bytes : List ℕ)
    → ((t : Tree) × Then (Spells t) (After (in_array place [] ∷ stack) t T) n bytes) → Completes stack (array_opened place) T n bytes
first_element stack place T n bytes g =
    let w : Then (Spells g.0) (After (in_array place [] ∷ stack) g.0 T) n bytes = g.1 in
    let x : After (in_array place [] ∷ stack) g.0 T (n + length w.first) w.rest = w.after in
    (element g.0 x.0, x.1, SpelledForms.white_none (SpelledForms.right3 (SpelledForms.joins w.first w.rest w.joined w.before x.2)))

back_array_opened : (stack : List Frame) (place : ℕ) (T : Tree) (n b : ℕ) (rest : List ℕ) (c : Class) → Means c b
    → Goes (CompletesFrom T (n + 1) rest) (step_array_opened stack place n b c) → Completes stack (array_opened place) T n (b ∷ rest)
back_array_opened stack place T n b rest white m h = (h.0, h.1, SpelledForms.white_more m h.2)
back_array_opened stack place T n b rest close_array m h = (end_of_array, n, SpelledForms.white_none (SpelledForms.closes_more m h))
back_array_opened stack place T n b rest c m h = first_element stack place T n (b ∷ rest) (back_begin (in_array place [] ∷ stack) T n b rest c m h)

back_name : (stack : List Frame) (place : ℕ) (done : List Member) (T : Tree) (n b : ℕ) (rest : List ℕ) (c : Class) → Means c b
    → Goes (CompletesFrom T (n + 1) rest) (begin_name stack place done n c)
    → (name : List ℕ) × (ne : ℕ) × Then (Quoted n name ne) (AfterName stack place done n name ne T) n (b ∷ rest)
back_name stack place done T n b rest quote m h = (h.0, h.1, quoted_back m h.2)
back_name stack place done T n b rest _ m h = absurd h

first_member : (stack : List Frame) (place : ℕ) (T : Tree) (n : ℕ) (bytes : List ℕ)
    → ((name : List ℕ) × (ne : ℕ) × Then (Quoted n name ne) (AfterName stack place [] n name ne T) n bytes) → Completes stack (object_opened place) T n bytes
first_member stack place T n bytes g =
    let w : Then (Quoted n g.0 g.1) (AfterName stack place [] n g.0 g.1 T) n bytes = g.2 in
    let x = name_back stack place [] n g.0 g.1 T _ _ w.after in
    (member n g.0 g.1 x.0 x.1, x.2, SpelledForms.white_none (SpelledForms.then_right (SpelledForms.joins w.first w.rest w.joined w.before x.3)))

back_object_opened : (stack : List Frame) (place : ℕ) (T : Tree) (n b : ℕ) (rest : List ℕ) (c : Class) → Means c b
    → Goes (CompletesFrom T (n + 1) rest) (step_object_opened stack place n c) → Completes stack (object_opened place) T n (b ∷ rest)
back_object_opened stack place T n b rest white m h = (h.0, h.1, SpelledForms.white_more m h.2)
back_object_opened stack place T n b rest close_object m h = (end_of_object, n, SpelledForms.white_none (SpelledForms.closes_more m h))
back_object_opened stack place T n b rest c m h = first_member stack place T n (b ∷ rest) (back_name stack place [] T n b rest c m h)

pub back_name_due : (stack : List Frame) (place : ℕ) (done : List Member) (T : Tree) (n b : ℕ) (rest : List ℕ) (c : Class) → Means c b
    → Goes (CompletesFrom T (n + 1) rest) (step_name_due stack place done n c) → Completes stack (name_due place done) T n (b ∷ rest)
back_name_due stack place done T n b rest white m h = (h.0, h.1, h.2, SpelledForms.white_more m h.3)
back_name_due stack place done T n b rest c m h = let g = back_name stack place done T n b rest c m h in (n, g.0, g.1, SpelledForms.white_none g.2)

pub back_colon_due : (stack : List Frame) (place : ℕ) (done : List Member) (np : ℕ) (name : List ℕ) (ne : ℕ) (T : Tree) (n b : ℕ) (rest : List ℕ) (c : Class)
    → Means c b
    → Goes (CompletesFrom T (n + 1) rest) (step_colon_due stack place done np name ne c) → AfterName stack place done np name ne T n (b ∷ rest)
back_colon_due stack place done np name ne T n b rest white m h = (h.0, SpelledForms.white_more m h.1)
back_colon_due stack place done np name ne T n b rest colon m h = (h.0, SpelledForms.white_none (SpelledForms.byte_more m h.1))
back_colon_due stack place done np name ne T n b rest _ m h = absurd h

-- ---- within a word, a number, a text

back_constant : (stack : List Frame) (which : Constant) (place : ℕ) (left : List ℕ) (T : Tree) (n b : ℕ) (rest : List ℕ)
    → Goes (CompletesFrom T (n + 1) rest) (step_constant stack which place left n b)
    → Then (Exactly left) (After stack (constant which place) T) n (b ∷ rest)
back_constant stack which place [] T n b rest h = SpelledForms.exactly_none (back_after stack (constant which place) T n b rest (class_of b) (means b) h)
back_constant stack which place (a ∷ []) T n b rest h = go (b == a) refl h
  where
    go : (t : Bool) → (b == a) ≡ t → Goes (CompletesFrom T (n + 1) rest) (if t then to stack (value_done (constant which place)) else None)
        → Then (Exactly (a ∷ [])) (After stack (constant which place) T) n (b ∷ rest)
    go true e h = SpelledForms.byte_more (eqb-true b a e) h
    go false e h = absurd h
back_constant stack which place (a ∷ c ∷ left) T n b rest h = go (b == a) refl h
  where
    go : (t : Bool) → (b == a) ≡ t → Goes (CompletesFrom T (n + 1) rest) (if t then to stack (constant_on which place (c ∷ left)) else None)
        → Then (Exactly (a ∷ c ∷ left)) (After stack (constant which place) T) n (b ∷ rest)
    go true e h = SpelledForms.exactly_more (eqb-true b a e) h
    go false e h = absurd h

back_string : (stack : List Frame) (place : ℕ) (so_far : List ℕ) (state : StringState) (T : Tree) (n b : ℕ) (rest : List ℕ)
    → Goes (CompletesFrom T (n + 1) rest) (step_string stack place so_far n (string_next state b))
    → Completes stack (string_on place so_far state) T n (b ∷ rest)
back_string stack place so_far state T n b rest h = go (string_next state b) refl h
  where
    go : (s : StringStep) → string_next state b ≡ s → Goes (CompletesFrom T (n + 1) rest) (step_string stack place so_far n s)
        → Completes stack (string_on place so_far state) T n (b ∷ rest)
    go string_ends e h = (
      [],
      n + 1,
      SpelledTexts.string_back_end e
          (let P : List ℕ → Type 0 = λ c. After stack (string place c (n + 1)) T (n + 1) rest in subst P (sym (append-nil so_far)) h),
    )
    go (string_goes more next) e h = (
      more ++ h.0,
      h.1,
      SpelledTexts.string_back_more e
          (let P : List ℕ → Type 0 =
          λ c. Then (StringOn next h.0 h.1) (After stack (string place c h.1) T) (n + 1) rest in subst P (append_assoc so_far more h.0) h.2),
    )
    go string_refuses e h = absurd h

back_name_string : (stack : List Frame) (place : ℕ) (done : List Member) (np : ℕ) (so_far : List ℕ) (state : StringState) (T : Tree) (n b : ℕ) (rest : List ℕ)
    → Goes (CompletesFrom T (n + 1) rest) (step_name stack place done np so_far n (string_next state b))
    → Completes stack (name_on_leaf place done np so_far state) T n (b ∷ rest)
back_name_string stack place done np so_far state T n b rest h = go (string_next state b) refl h
  where
    go : (s : StringStep) → string_next state b ≡ s → Goes (CompletesFrom T (n + 1) rest) (step_name stack place done np so_far n s)
        → Completes stack (name_on_leaf place done np so_far state) T n (b ∷ rest)
    go string_ends e h = (
      [],
      n + 1,
      SpelledTexts.string_back_end e
          (let P : List ℕ → Type 0 = λ c. AfterName stack place done np c (n + 1) T (n + 1) rest in subst P (sym (append-nil so_far)) h),
    )
    go (string_goes more next) e h = (
      more ++ h.0,
      h.1,
      SpelledTexts.string_back_more e
          (let P : List ℕ → Type 0 =
          λ c. Then (StringOn next h.0 h.1) (AfterName stack place done np c h.1 T) (n + 1) rest in subst P (append_assoc so_far more h.0) h.2),
    )
    go string_refuses e h = absurd h

back_number : (stack : List Frame) (place : ℕ) (so_far : List ℕ) (T : Tree) (n b : ℕ) (rest : List ℕ)
    → Goes (CompletesFrom T (n + 1) rest)
    (step_number stack place so_far b (begins_number (so_far ++ b ∷ []))
    (if is_number so_far then after_value stack (number place so_far n) n (class_of b) else None))
    → Completes stack (number_on_leaf place so_far) T n (b ∷ rest)
back_number stack place so_far T n b rest h = go (begins_number (so_far ++ b ∷ [])) h
  where
    done : (t : Bool) → is_number so_far ≡ t
        → Goes (CompletesFrom T (n + 1) rest) (if t then after_value stack (number place so_far n) n (class_of b) else None)
        → Completes stack (number_on_leaf place so_far) T n (b ∷ rest)
    done true e h = (
      [],
      n,
      rw (append-nil so_far) ((decided_number so_far).0 e),
      SpelledForms.exactly_none (SpelledForms.ends_here (let P : List ℕ → Type 0 = λ c. After stack (number place c n) T n (b ∷ rest) in
          subst P (sym (append-nil so_far)) (back_after stack (number place so_far n) T n b rest (class_of b) (means b) h))),
    )
    done false e h = absurd h

    go : (goes : Bool) → Goes (CompletesFrom T (n + 1) rest)
        (step_number stack place so_far b goes (if is_number so_far then after_value stack (number place so_far n) n (class_of b) else None))
        → Completes stack (number_on_leaf place so_far) T n (b ∷ rest)
    go true h = (
      b ∷ h.0,
      h.1,
      rw (append_assoc so_far (b ∷ []) h.0) at h.2,
      SpelledForms.exactly_more refl
          (let P : List ℕ → Type 0 =
          λ c. Then (Exactly h.0) (Then (Ends h.1) (After stack (number place c h.1) T)) (n + 1) rest in subst P (append_assoc so_far (b ∷ []) h.0) h.3),
    )
    go false h = done (is_number so_far) refl h

backward_leaf : (stack : List Frame) (leaf : Leaf) (T : Tree) (n b : ℕ) (rest : List ℕ) → Goes (CompletesFrom T (n + 1) rest) (step_leaf stack leaf n b)
    → Completes stack leaf T n (b ∷ rest)
backward_leaf stack value_due T n b rest h = back_value_due stack T n b rest (class_of b) (means b) h
backward_leaf stack (value_done t) T n b rest h = back_after stack t T n b rest (class_of b) (means b) h
backward_leaf stack (array_opened place) T n b rest h = back_array_opened stack place T n b rest (class_of b) (means b) h
backward_leaf stack (object_opened place) T n b rest h = back_object_opened stack place T n b rest (class_of b) (means b) h
backward_leaf stack (constant_on which place left) T n b rest h = back_constant stack which place left T n b rest h
backward_leaf stack (number_on_leaf place so_far) T n b rest h = back_number stack place so_far T n b rest h
backward_leaf stack (string_on place so_far state) T n b rest h = back_string stack place so_far state T n b rest h
backward_leaf stack (name_due place done) T n b rest h = back_name_due stack place done T n b rest (class_of b) (means b) h
backward_leaf stack (name_on_leaf place done np so_far state) T n b rest h = back_name_string stack place done np so_far state T n b rest h
backward_leaf stack (colon_due place done np name ne) T n b rest h = back_colon_due stack place done np name ne T n b rest (class_of b) (means b) h

-- ---- a whole text

back_marked : (T : Text) (n : ℕ) (rest : List ℕ) (marked : Bool) (o : Option Partial) → Goes (TextFrom T n rest) (with_mark marked o) → (T.marked ≡ marked)
    × Goes (CompletesFrom T.value n rest) o
back_marked T n rest marked None h = absurd h
back_marked T n rest marked (Some s) h = h

back_due : (T : Text) (n b : ℕ) (rest : List ℕ) (t : Bool) → (b == mark_first) ≡ t
    → Goes (TextFrom T (n + 1) rest) (if t then Some mark_one else with_mark false (step_value_due [] n b (class_of b)))
    → Then (SpellsMark T.marked) (Due [] T.value) n (b ∷ rest)
back_due T n b rest true e h = rw (h.0) (SpelledForms.exactly_more (eqb-true b mark_first e) h.1)
back_due T n b rest false e h =
    let g = back_marked T (n + 1) rest false (step_value_due [] n b (class_of b)) h in
    rw (g.0) (SpelledForms.exactly_none (back_value_due [] T.value n b rest (class_of b) (means b) g.1))

back_byte : (s : Broken) (T : Text) (letters : List ℕ) (n a b : ℕ) (rest : List ℕ)
    → (TextFrom T (n + 1) rest s → (T.marked ≡ true) × Then (Exactly letters) (Due [] T.value) (n + 1) rest)
    → Goes (TextFrom T (n + 1) rest) (if b == a then Some s else None) → (T.marked ≡ true) × Then (Exactly (a ∷ letters)) (Due [] T.value) n (b ∷ rest)
back_byte s T letters n a b rest f h = go (b == a) refl h
  where
    go : (t : Bool) → (b == a) ≡ t → Goes (TextFrom T (n + 1) rest) (if t then Some s else None) → (T.marked ≡ true)
        × Then (Exactly (a ∷ letters)) (Due [] T.value) n (b ∷ rest)
    go true e h = let g = f h in (g.0, SpelledForms.exactly_more (eqb-true b a e) g.1)
    go false e h = absurd h

pub backward : (s : Broken) (T : Text) (n b : ℕ) (rest : List ℕ) → Goes (TextFrom T (n + 1) rest) (step s n b) → TextFrom T n (b ∷ rest) s
backward text_due T n b rest h = back_due T n b rest (b == mark_first) refl h
backward mark_one T n b rest h = back_byte mark_two T (mark_third ∷ []) n mark_second b rest (λ k. k) h
backward mark_two T n b rest h =
    back_byte (begun true (record { stack = []; leaf = value_due })) T [] n mark_third b rest (λ k. (k.0, SpelledForms.exactly_none k.1)) h
backward (begun marked s) T n b rest h = let g =
    back_marked T (n + 1) rest marked (step_leaf s.stack s.leaf n b) h in (g.0, backward_leaf s.stack s.leaf T.value n b rest g.1)
