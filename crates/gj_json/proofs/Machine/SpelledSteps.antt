-- Each step of the machine: what the bytes spell before it, they spell after it with one byte more.
use Rattle.gj_json.proofs.Common.{BeginsQuoted, Bool, Class, Constant, Exactly, List, Means, Named, None, Opened, Option, Some, Spells, SpellsBroken}
use Rattle.gj_json.proofs.Common.{SpellsLeaf, SpellsMark, StringState, StringStep, Tree, after_value, ap, append_assoc, arith, begin_value, constant}
use Rattle.gj_json.proofs.Common.{false, if◌then◌else◌, length, letters_after, mark_first, mark_second, mark_third, refl, run, run_from, step}
use Rattle.gj_json.proofs.Common.{step_array_opened, step_colon_due, step_constant, step_leaf, step_name, step_name_due, step_number}
use Rattle.gj_json.proofs.Common.{step_object_opened, step_string, step_value_due, string_ends, string_goes, string_next, string_refuses, subst, sym}
use Rattle.gj_json.proofs.Common.{to, true, with_mark, ℕ, [], ◌++◌, ◌+◌, ◌==◌, ◌∙◌, ◌∷◌, ◌≡◌}
use Rattle.std.proofs.Common.{append-nil, eqb-true}
use Rattle.std.proofs.lemmas.List.{length-append}
use Rattle.gj_json.specs.Bytes.{comma as comma_byte, mark_bytes}
use Rattle.gj_json.specs.declared.class.Class.TheVariants.{White as white, OpenArray as open_array, CloseArray as close_array, OpenObject as open_object}
use Rattle.gj_json.specs.declared.class.Class.TheVariants.{CloseObject as close_object, Comma as comma, Colon as colon, Quote as quote}
use Rattle.gj_json.specs.declared.class.Class.TheVariants.{NumberStart as number_start, Letter as letter}
use Rattle.gj_number.proofs.Grammar.DecidedNumbers.{number as decided_number, begins as decided_begins}
use Rattle.gj_json.specs.declared.mode.StringState.TheVariants.{Plain as plain}
use Rattle.gj_json.specs.Tree.{number}
use Rattle.gj_json.specs.Grammar.{Then, White}
use Rattle.gj_json.specs.Internal.ByteClasses.{class_of}
use Rattle.gj_json.specs.Broken.{Member, Frame, in_array, in_object, Leaf, value_due, value_done, array_opened, object_opened, constant_on, number_on}
use Rattle.gj_json.specs.Broken.{string_on, name_due, name_on, colon_due, Partial, Broken, text_due, mark_one, mark_two, begun}
use Rattle.gj_json.specs.Broken.{ObjectOpened, IsDue}
use Rattle.gj_json.specs.Internal.TextMachine.{begins_number, is_number}
use Rattle.gj_json.proofs.Grammar.ClassOfBytes.{means, number_starts}
use Rattle.gj_json.proofs.Grammar.SpelledForms
use Rattle.gj_json.proofs.Machine.TakenBytes.{Adds, then_adds, named_adds, array_adds, object_adds, opened_adds, white_adds, follows, alone, ended_white}
use Rattle.gj_json.proofs.Machine.TakenBytes.{some_push, behind_adds, array_closes, object_closes, empty_array, empty_object}
use Rattle.gj_json.proofs.Machine.BytesUnderWay.{run_none}
use Rattle.gj_json.proofs.Machine.RightEdges.{letters_spelled, quote_begins, nothing, nothing_white, nothing_more, quoted_adds, quoted_ends, number_ended}

-- the bytes from the place m on are spelled as this state
abbrev pub Keeps : ℕ → List ℕ → Option Partial → Type 0
Keeps m bytes None = Unit {0}
Keeps m bytes (Some s) = Opened s.stack (Then White (SpellsLeaf s.stack s.leaf)) m bytes

-- ---- a byte b at the place n, after the bytes q from the place m on

module _ (m n b : ℕ) (q : List ℕ) (e : m + length q ≡ n) where
  put : {K L : ℕ → List ℕ → Type 0} (stack : List Frame) → Adds n (b ∷ []) K L → Opened stack K m q → Opened stack L m (q ++ b ∷ [])
  put stack a h = let g = opened_adds stack a in g.on m q e h

  change : {K L : ℕ → List ℕ → Type 0} (stack : List Frame) → Adds n [] K L → Opened stack K m q → Opened stack L m q
  change stack a h = let g = opened_adds stack a in let k = g.on m q e h in rw (append-nil q) at k

  begins : (stack : List Frame) (c : Class) → class_of b ≡ c → Means c b → Opened stack White m q → Keeps m (q ++ b ∷ []) (begin_value stack n b c)
  begins stack open_array k w h = put {L = Then White (SpellsLeaf stack (array_opened n))} stack (follows (refl, SpelledForms.byte_more w tt)) h
  begins stack open_object k w h = put {L = Then White (SpellsLeaf stack (object_opened n))} stack (follows (refl, SpelledForms.byte_more w tt)) h
  begins stack quote k w h = put {L = Then White (SpellsLeaf stack (string_on n [] plain))} stack (follows (quote_begins w)) h
  begins stack number_start k w h =
      put {L = Then White (SpellsLeaf stack (number_on n (b ∷ [])))} stack (follows (refl, refl, ((λ f. cc), number_starts b k))) h
  begins stack (letter which) k w h =
      let g = letters_spelled which b w in
      put {L = Then White (SpellsLeaf stack (constant_on which n (letters_after which)))} stack (follows (refl, g.0, (λ f. cc), g.1)) h
  begins stack another k w h = tt

  keeps_due : (stack : List Frame) (c : Class) → class_of b ≡ c → Means c b → Opened stack (Then White (SpellsLeaf stack value_due)) m q
      → Keeps m (q ++ b ∷ []) (step_value_due stack n b c)
  keeps_due stack white k w h = put stack (nothing_more {P = IsDue stack} w) h
  keeps_due stack c k w h = begins stack c k w (change stack (nothing_white {P = IsDue stack}) h)

  keeps_array : (stack : List Frame) (place : ℕ) (c : Class) → class_of b ≡ c → Means c b
      → Opened stack (Then White (SpellsLeaf stack (array_opened place))) m q → Keeps m (q ++ b ∷ []) (step_array_opened stack place n b c)
  keeps_array stack place white k w h = put stack (then_adds (array_adds place [] (white_adds w))) h
  keeps_array stack place close_array k w h = put stack (then_adds (alone (empty_array place w))) h
  keeps_array stack place c k w h = begins (in_array place [] ∷ stack) c k w h

  keeps_object : (stack : List Frame) (place : ℕ) (c : Class) → class_of b ≡ c → Means c b
      → Opened stack (Then White (SpellsLeaf stack (object_opened place))) m q → Keeps m (q ++ b ∷ []) (step_object_opened stack place n c)
  keeps_object stack place white k w h = put stack (then_adds (object_adds place [] (white_adds w))) h
  keeps_object stack place close_object k w h = put stack (then_adds (alone (empty_object place w))) h
  keeps_object stack place quote k w h = put stack (then_adds (object_adds place [] (follows (quote_begins w)))) h
  keeps_object stack place _ k w h = tt

  keeps_name_due : (stack : List Frame) (place : ℕ) (done : List Member) (c : Class) → class_of b ≡ c → Means c b
      → Opened stack (Then White (SpellsLeaf stack (name_due place done))) m q → Keeps m (q ++ b ∷ []) (step_name_due stack place done n c)
  keeps_name_due stack place done white k w h =
      let a : Adds n (b ∷ []) (ObjectOpened place done White) (ObjectOpened place done White) = object_adds place done (white_adds w) in
      put stack (then_adds (record { on = λ p xs l j. (j.0, a.on p xs l j.1) })) h
  keeps_name_due stack place done quote k w h =
      let a : Adds n (b ∷ []) (ObjectOpened place done White) (ObjectOpened place done (Then White (BeginsQuoted n [] plain))) =
      object_adds place done (follows (quote_begins w)) in
      put stack (then_adds (record { on = λ p xs l j. a.on p xs l j.1 })) h
  keeps_name_due stack place done _ k w h = tt

  keeps_colon : (stack : List Frame) (place : ℕ) (done : List Member) (np : ℕ) (name : List ℕ) (ne : ℕ) (c : Class) → class_of b ≡ c → Means c b
      → Opened stack (Then White (SpellsLeaf stack (colon_due place done np name ne))) m q
      → Keeps m (q ++ b ∷ []) (step_colon_due stack place done np name ne c)
  keeps_colon stack place done np name ne white k w h = put stack (then_adds (object_adds place done (then_adds (then_adds (white_adds w))))) h
  keeps_colon stack place done np name ne colon k w h =
      put stack (then_adds (object_adds place done (then_adds (then_adds (follows (SpelledForms.byte_more w (nothing tt))))))) h
  keeps_colon stack place done np name ne _ k w h = tt

  -- after a value, with or without white space after it
  keeps_after : (stack : List Frame) (t : Tree) (c : Class) → Means c b → Opened stack (Then White (Then (Spells t) White)) m q
      → Keeps m (q ++ b ∷ []) (after_value stack t n c)
  keeps_after [] t white w h = put [] (then_adds (then_adds (behind_adds t w))) h
  keeps_after (in_array place done ∷ stack) t white w h = put (in_array place done ∷ stack) (then_adds (then_adds (behind_adds t w))) h
  keeps_after (in_array place done ∷ stack) t comma w h =
      put (in_array place done ∷ stack) (then_adds (then_adds (follows (SpelledForms.byte_more w (nothing tt))))) h
  keeps_after (in_array place done ∷ stack) t close_array w h = put stack (then_adds (alone (array_closes place done t w))) h
  keeps_after (in_object place done np name ne ∷ stack) t white w h = put (in_object place done np name ne ∷ stack) (then_adds (then_adds (behind_adds t w))) h
  keeps_after (in_object place done np name ne ∷ stack) t comma w h =
      let a : Adds n (b ∷ []) (ObjectOpened place done (Named np name ne (Then White (Then (Spells t) White))))
      (ObjectOpened place (record { place = np; name = name; end = ne; value = t } ∷ done) White) =
      object_adds place done
      (named_adds np name ne (then_adds (then_adds (follows {L = Then (Exactly (comma_byte ∷ [])) White} (SpelledForms.byte_more w tt))))) in
      put stack (then_adds (record { on = λ p xs l j. ((λ f. cc), a.on p xs l j) })) h
  keeps_after (in_object place done np name ne ∷ stack) t close_object w h = put stack (then_adds (alone (object_closes place done np name ne t w))) h
  keeps_after _ t _ w h = tt

  -- ---- within a literal name, a number, a string

  keeps_constant : (stack : List Frame) (which : Constant) (place : ℕ) (left : List ℕ)
      → Opened stack (Then White (SpellsLeaf stack (constant_on which place left))) m q → Keeps m (q ++ b ∷ []) (step_constant stack which place left n b)
  keeps_constant stack which place [] h =
      keeps_after stack (constant which place) (class_of b) (means b)
      (change {L = Then White (Then (Spells (constant which place)) White)} stack (then_adds (record { on = λ p xs l j. absurd (j.3 refl) })) h)
  keeps_constant stack which place (a ∷ []) h = go (b == a) refl
    where
      go : (t : Bool) → (b == a) ≡ t → Keeps m (q ++ b ∷ []) (if t then to stack (value_done (constant which place)) else None)
      go true f =
          let spelled : Adds n (b ∷ []) (SpellsLeaf stack (constant_on which place (a ∷ []))) (Spells (constant which place)) =
          record { on = λ p xs l j. (j.0, ap (λ x. xs ++ x ∷ []) (eqb-true b a f) ∙ sym j.1) } in
          put stack (then_adds (alone spelled)) h
      go false f = tt
  keeps_constant stack which place (a ∷ c ∷ left) h = go (b == a) refl
    where
      go : (t : Bool) → (b == a) ≡ t → Keeps m (q ++ b ∷ []) (if t then to stack (constant_on which place (c ∷ left)) else None)
      go true f =
          let spelled : Adds n (b ∷ []) (SpellsLeaf stack (constant_on which place (a ∷ c ∷ left))) (SpellsLeaf stack (constant_on which place (c ∷ left))) =
          record {
            on = λ p xs l j.
                (j.0, j.1 ∙ ap (λ x. xs ++ x ∷ c ∷ left) (sym (eqb-true b a f)) ∙ sym (append_assoc xs (b ∷ []) (c ∷ left)), some_push xs b, λ g. cc);
          } in
          put stack (then_adds spelled) h
      go false f = tt

  keeps_string : (stack : List Frame) (place : ℕ) (so_far : List ℕ) (state : StringState)
      → Opened stack (Then White (SpellsLeaf stack (string_on place so_far state))) m q
      → Keeps m (q ++ b ∷ []) (step_string stack place so_far n (string_next state b))
  keeps_string stack place so_far state h = go (string_next state b) refl
    where
      go : (s : StringStep) → string_next state b ≡ s → Keeps m (q ++ b ∷ []) (step_string stack place so_far n s)
      go string_ends f = put stack (then_adds (alone (quoted_ends place so_far state f))) h
      go (string_goes more next) f = put stack (then_adds (quoted_adds place so_far more state next f)) h
      go string_refuses f = tt

  keeps_name : (stack : List Frame) (place : ℕ) (done : List Member) (np : ℕ) (so_far : List ℕ) (state : StringState)
      → Opened stack (Then White (SpellsLeaf stack (name_on place done np so_far state))) m q
      → Keeps m (q ++ b ∷ []) (step_name stack place done np so_far n (string_next state b))
  keeps_name stack place done np so_far state h = go (string_next state b) refl
    where
      go : (s : StringStep) → string_next state b ≡ s → Keeps m (q ++ b ∷ []) (step_name stack place done np so_far n s)
      go string_ends f = put stack (then_adds (object_adds place done (then_adds (alone (quoted_ends np so_far state f))))) h
      go (string_goes more next) f = put stack (then_adds (object_adds place done (then_adds (quoted_adds np so_far more state next f)))) h
      go string_refuses f = tt

  keeps_number : (stack : List Frame) (place : ℕ) (so_far : List ℕ) → Opened stack (Then White (SpellsLeaf stack (number_on place so_far))) m q
      → Keeps m (q ++ b ∷ [])
      (step_number stack place so_far b (begins_number (so_far ++ b ∷ []))
      (if is_number so_far then after_value stack (number place so_far n) n (class_of b) else None))
  keeps_number stack place so_far h = go (begins_number (so_far ++ b ∷ [])) refl
    where
      done : (t : Bool) → is_number so_far ≡ t → Keeps m (q ++ b ∷ []) (if t then after_value stack (number place so_far n) n (class_of b) else None)
      done true f = keeps_after stack (number place so_far n) (class_of b) (means b)
          (change stack (number_ended stack place so_far ((decided_number so_far).0 f)) h)
      done false f = tt

      go : (goes : Bool) → begins_number (so_far ++ b ∷ []) ≡ goes
          → Keeps m (q ++ b ∷ [])
          (step_number stack place so_far b goes (if is_number so_far then after_value stack (number place so_far n) n (class_of b) else None))
      go true f =
          let spelled : Adds n (b ∷ []) (SpellsLeaf stack (number_on place so_far)) (SpellsLeaf stack (number_on place (so_far ++ b ∷ []))) =
          record { on = λ p xs l j. (j.0, ap (λ ys. ys ++ b ∷ []) j.1, (some_push so_far b, (decided_begins (so_far ++ b ∷ [])).0 f)) } in
          put stack (then_adds spelled) h
      go false f = done (is_number so_far) refl

  keeps_leaf : (stack : List Frame) (leaf : Leaf) → Opened stack (Then White (SpellsLeaf stack leaf)) m q → Keeps m (q ++ b ∷ []) (step_leaf stack leaf n b)
  keeps_leaf stack value_due h = keeps_due stack (class_of b) refl (means b) h
  keeps_leaf stack (value_done t) h = keeps_after stack t (class_of b) (means b) (change stack (ended_white t) h)
  keeps_leaf stack (array_opened place) h = keeps_array stack place (class_of b) refl (means b) h
  keeps_leaf stack (object_opened place) h = keeps_object stack place (class_of b) refl (means b) h
  keeps_leaf stack (constant_on which place left) h = keeps_constant stack which place left h
  keeps_leaf stack (number_on place so_far) h = keeps_number stack place so_far h
  keeps_leaf stack (string_on place so_far state) h = keeps_string stack place so_far state h
  keeps_leaf stack (name_due place done) h = keeps_name_due stack place done (class_of b) refl (means b) h
  keeps_leaf stack (name_on place done np so_far state) h = keeps_name stack place done np so_far state h
  keeps_leaf stack (colon_due place done np name ne) h = keeps_colon stack place done np name ne (class_of b) refl (means b) h

-- ---- a whole text

abbrev SpellsSome : List ℕ → Option Broken → Type 0
SpellsSome bytes None = Unit {0}
SpellsSome bytes (Some s) = SpellsBroken s bytes

marked_spells : (marked : Bool) (mark rest : List ℕ) (b m : ℕ) (o : Option Partial) → m ≡ 0 + length mark → SpellsMark marked 0 mark
    → Keeps m (rest ++ b ∷ []) o → SpellsSome ((mark ++ rest) ++ b ∷ []) (with_mark marked o)
marked_spells marked mark rest b m None e k h = tt
marked_spells marked mark rest b m (Some s) e k h = (
  some_push (mark ++ rest) b,
  SpelledForms.joins mark (rest ++ b ∷ []) (append_assoc mark rest (b ∷ [])) k
      (SpelledForms.moved (Opened s.stack (Then White (SpellsLeaf s.stack s.leaf))) e refl h),
)

due_spells : (n b : ℕ) (t : Bool) → n ≡ 0 → (b == mark_first) ≡ t
    → SpellsSome (b ∷ []) (if t then Some mark_one else with_mark false (step_value_due [] n b (class_of b)))
due_spells n b true e f = ap (λ x. x ∷ []) (eqb-true b mark_first f)
due_spells n b false e f =
    marked_spells false [] [] b 0 (step_value_due [] n b (class_of b)) refl refl (keeps_due 0 n b [] (sym e) [] (class_of b) refl (means b) (nothing tt))

byte_spells : (s : Broken) (bytes letters : List ℕ) (a b : ℕ) (t : Bool) → (b == a) ≡ t → bytes ≡ letters → SpellsBroken s (letters ++ a ∷ [])
    → SpellsSome (bytes ++ b ∷ []) (if t then Some s else None)
byte_spells s bytes letters a b true f e h =
    let g : letters ++ a ∷ [] ≡ bytes ++ b ∷ [] = ap (λ xs. xs ++ a ∷ []) (sym e) ∙ ap (λ x. bytes ++ x ∷ []) (sym (eqb-true b a f)) in
    let P : List ℕ → Type 0 = λ xs. SpellsBroken s xs in
    subst P g h
byte_spells s bytes letters a b false f e h = tt

step_spells : (s : Broken) (bytes : List ℕ) (b : ℕ) → SpellsBroken s bytes → SpellsSome (bytes ++ b ∷ []) (step s (length bytes) b)
step_spells text_due bytes b h = let k : length bytes ≡ 0 = ap length h in let g =
    due_spells (length bytes) b (b == mark_first) k refl in let e : bytes ++ b ∷ [] ≡ b ∷ [] = ap (λ xs. xs ++ b ∷ []) h in rw e g
step_spells mark_one bytes b h = byte_spells mark_two bytes (mark_first ∷ []) mark_second b (b == mark_second) refl h refl
step_spells mark_two bytes b h =
    byte_spells (begun true (record { stack = []; leaf = value_due })) bytes (mark_first ∷ mark_second ∷ []) mark_third b (b == mark_third) refl h
    ((λ f. cc), SpelledForms.joins mark_bytes [] refl refl (nothing tt))
step_spells (begun marked s) bytes b h =
    let w : Then (SpellsMark marked) (Opened s.stack (Then White (SpellsLeaf s.stack s.leaf))) 0 bytes = h.1 in
    let l : length bytes ≡ length (w.first ++ w.rest) = ap length w.joined in
    let k = keeps_leaf (0 + length w.first) (length bytes) b w.rest (omega (arith, length-append w.first w.rest)) s.stack s.leaf w.after in
    let g = marked_spells marked w.first w.rest b (0 + length w.first) (step_leaf s.stack s.leaf (length bytes) b) refl w.before k in
    let P : List ℕ → Type 0 = λ xs. SpellsSome (xs ++ b ∷ []) (with_mark marked (step_leaf s.stack s.leaf (length bytes) b)) in
    subst P (sym w.joined) g

run_spells : (bytes front : List ℕ) (s last : Broken) → SpellsBroken s front → run_from (Some s) (length front) bytes ≡ Some last
    → SpellsBroken last (front ++ bytes)
run_spells [] front s last h e =
    let f : s ≡ last = cc in
    let P : Broken → Type 0 = λ x. SpellsBroken x front in
    rw (append-nil front) (subst P f h)
run_spells (b ∷ bytes) front s last h e =
    go (λ next k f. run_spells bytes (front ++ b ∷ []) next last k f) (step s (length front) b) (step_spells s front b h) e
  where
    go : ((next : Broken) → SpellsBroken next (front ++ b ∷ []) → run_from (Some next) (length (front ++ b ∷ [])) bytes ≡ Some last
        → SpellsBroken last ((front ++ b ∷ []) ++ bytes)) → (o : Option Broken) → SpellsSome (front ++ b ∷ []) o
        → run_from o (length front + 1) bytes ≡ Some last → SpellsBroken last (front ++ b ∷ bytes)
    go ih None k f = let g : None ≡ Some last = sym (run_none bytes (length front + 1)) ∙ f in cc
    go ih (Some next) k f =
        let l : length front + 1 ≡ length (front ++ b ∷ []) = omega (arith, length-append front (b ∷ [])) in
        let P : ℕ → Type 0 = λ n. run_from (Some next) n bytes ≡ Some last in
        rw append_assoc at (ih next k (subst P l f))

-- what bytes lead to is what they spell
pub spelled : (bytes : List ℕ) (s : Broken) → run bytes ≡ Some s → SpellsBroken s bytes
spelled bytes s e = run_spells bytes [] text_due s refl e
