-- Where the bytes of a value lead the machine.
use Rattle.gj_json.proofs.Common.{Bool, Class, Exactly, IsNumber, IsWhite, List, None, Option, Some, Tree, after_value, ap, arith, begin_value, false}
use Rattle.gj_json.proofs.Common.{inl, inr, length, refl, run_from, step, step_array_opened, step_leaf, step_value_due, subst, sym, to, with_mark, ℕ}
use Rattle.gj_json.proofs.Common.{[], ◌++◌, ◌+◌, ◌∙◌, ◌∷◌, ◌≡◌, ◌⊎◌}
use Rattle.gj_json.specs.declared.class.Class.TheVariants.{White as white, CloseArray as close_array}
use Rattle.gj_json.specs.Tree.{number}
use Rattle.gj_json.specs.Grammar.{Then, White}
use Rattle.gj_json.specs.Internal.ByteClasses.{class_of}
use Rattle.gj_number.specs.DecidedNumbers.{begins_number}
use Rattle.gj_number.proofs.Grammar.DecidedNumbers.{number as decided_number}
use Rattle.gj_json.specs.Broken.{Member, Frame, in_array, in_object, Leaf, value_due, value_done, array_opened, object_opened, number_on, name_due, colon_due}
use Rattle.gj_json.specs.Broken.{Partial, Broken, begun}
use Rattle.gj_json.proofs.Grammar.ClassOfBytes.{class_is}
use Rattle.gj_json.proofs.Grammar.SpelledForms
use Rattle.gj_json.proofs.Machine.Completions.{Goes}
use Rattle.gj_json.proofs.Machine.StepsOfCompletions.{no_more}
use Rattle.gj_json.proofs.Machine.BytesUnderWay.{run_none}

-- from one state to another, whether or not the text has a mark
pub record Leads (s : Partial) (n : ℕ) (bytes : List ℕ) (t : Partial) : Type 0 where
  pub goes : (marked : Bool) → run_from (Some (begun marked s)) n bytes ≡ Some (begun marked t)

abbrev pub at : List Frame → Leaf → Partial
at stack leaf = record { stack = stack; leaf = leaf }

pub leads_none : (s : Partial) (n : ℕ) → Leads s n [] s
leads_none s n = record { goes = λ marked. refl }

pub leads_byte : {s t u : Partial} {n b : ℕ} {bytes : List ℕ} → step_leaf s.stack s.leaf n b ≡ Some t → Leads t (n + 1) bytes u → Leads s n (b ∷ bytes) u
leads_byte {s} {t} {u} {n} {b} {bytes} e l = record {
  goes = λ marked. (let P : Option Partial → Type 0 =
      λ o. run_from (with_mark marked o) (n + 1) bytes ≡ Some (begun marked u) in subst P (sym e) (l.goes marked));
}

pub run_from-append : (xs ys : List ℕ) (o : Option Broken) (n : ℕ) → run_from o n (xs ++ ys) ≡ run_from (run_from o n xs) (n + length xs) ys
run_from-append [] ys o n = ap (λ m. run_from o m ys) (let e : n ≡ n + 0 = omega arith in e)
run_from-append (x ∷ xs) ys None n = sym (run_none ys (n + length (x ∷ xs)))
run_from-append (x ∷ xs) ys (Some s) n =
    let e : n + 1 + length xs ≡ n + length (x ∷ xs) = omega arith in
    let o = step s n x in
    run_from-append xs ys o (n + 1) ∙ ap (λ m. run_from (run_from o (n + 1) xs) m ys) e

pub leads_on : {s t u : Partial} {n : ℕ} {bytes : List ℕ} (first rest : List ℕ) → bytes ≡ first ++ rest → Leads s n first t → Leads t (n + length first) rest u
    → Leads s n bytes u
leads_on {s} {t} {u} {n} {bytes} first rest e k l = record {
  goes = λ marked.
      ap (λ xs. run_from (Some (begun marked s)) n xs) e ∙ run_from-append first rest (Some (begun marked s)) n
      ∙ ap (λ o. run_from o (n + length first) rest) (k.goes marked) ∙ l.goes marked;
}

-- one form, and after it another
pub then_leads : {A K : ℕ → List ℕ → Type 0} {s t u : Partial} {n : ℕ} {bytes : List ℕ} → (h : Then A K n bytes) → Leads s n h.first t
    → Leads t (n + length h.first) h.rest u → Leads s n bytes u
then_leads h k l = leads_on h.first h.rest h.joined k l

-- one byte, and after it another form
pub byte_leads : {K : ℕ → List ℕ → Type 0} {s t u : Partial} {n a : ℕ} {bytes : List ℕ} → (h : Then (Exactly (a ∷ [])) K n bytes)
    → step_leaf s.stack s.leaf n a ≡ Some t → ((rest : List ℕ) → K (n + 1) rest → Leads t (n + 1) rest u) → Leads s n bytes u
byte_leads {K} {s} {t} {u} {n} {a} {bytes} h e k =
    let f : h.first ≡ a ∷ [] = h.before in
    let l : length h.first ≡ 1 = ap length f in
    leads_on (a ∷ []) h.rest (h.joined ∙ ap (λ xs. xs ++ h.rest) f) (leads_byte e (leads_none t (n + 1)))
    (k h.rest (SpelledForms.moved K (omega (arith, l)) refl h.after))

-- ---- white space

pub white_leads : (s : Partial) (stays : (n b : ℕ) → IsWhite b → step_leaf s.stack s.leaf n b ≡ Some s) (bytes : List ℕ) (n : ℕ) → White n bytes
    → Leads s n bytes s
white_leads s stays [] n w = leads_none s n
white_leads s stays (b ∷ bytes) n w = leads_byte (stays n b w.0) (white_leads s stays bytes (n + 1) w.1)

is_white : (b : ℕ) → IsWhite b → class_of b ≡ white
is_white b w = class_is white b w (λ e. cc)

pub due_white : (stack : List Frame) (n b : ℕ) → IsWhite b → step_leaf stack value_due n b ≡ to stack value_due
due_white stack n b w = rw (is_white b w) refl

pub array_white : (stack : List Frame) (place n b : ℕ) → IsWhite b → step_leaf stack (array_opened place) n b ≡ to stack (array_opened place)
array_white stack place n b w = rw (is_white b w) refl

pub object_white : (stack : List Frame) (place n b : ℕ) → IsWhite b → step_leaf stack (object_opened place) n b ≡ to stack (object_opened place)
object_white stack place n b w = rw (is_white b w) refl

pub name_white : (stack : List Frame) (place : ℕ) (done : List Member) (n b : ℕ) → IsWhite b
    → step_leaf stack (name_due place done) n b ≡ to stack (name_due place done)
name_white stack place done n b w = rw (is_white b w) refl

pub colon_white : (stack : List Frame) (place : ℕ) (done : List Member) (np : ℕ) (name : List ℕ) (ne n b : ℕ) → IsWhite b
    → step_leaf stack (colon_due place done np name ne) n b ≡ to stack (colon_due place done np name ne)
colon_white stack place done np name ne n b w = rw (is_white b w) refl

-- ---- where a value may begin

abbrev pub awaiting : List Frame → Partial
awaiting [] = at [] value_due
awaiting (in_array place [] ∷ stack) = at stack (array_opened place)
awaiting (in_array place (t ∷ done) ∷ stack) = at (in_array place (t ∷ done) ∷ stack) value_due
awaiting (in_object place done np name ne ∷ stack) = at (in_object place done np name ne ∷ stack) value_due

pub due_begins : (stack : List Frame) (n b : ℕ) (c : Class) (s : Partial) → begin_value stack n b c ≡ Some s → step_value_due stack n b c ≡ Some s
due_begins stack n b white s e = cc
due_begins stack n b _ s e = e

pub array_begins : (stack : List Frame) (place n b : ℕ) (c : Class) (s : Partial) → begin_value (in_array place [] ∷ stack) n b c ≡ Some s
    → step_array_opened stack place n b c ≡ Some s
array_begins stack place n b white s e = cc
array_begins stack place n b close_array s e = cc
array_begins stack place n b _ s e = e

pub begins : (stack : List Frame) (n b : ℕ) (c : Class) (s : Partial) → class_of b ≡ c → begin_value stack n b c ≡ Some s
    → step_leaf (awaiting stack).stack (awaiting stack).leaf n b ≡ Some s
begins [] n b c s k e = rw k (due_begins [] n b c s e)
begins (in_array place [] ∷ stack) n b c s k e = rw k (array_begins stack place n b c s e)
begins (in_array place (t ∷ done) ∷ stack) n b c s k e = rw k (due_begins (in_array place (t ∷ done) ∷ stack) n b c s e)
begins (in_object place done np name ne ∷ stack) n b c s k e = rw k (due_begins (in_object place done np name ne ∷ stack) n b c s e)

pub awaiting_white : (stack : List Frame) (bytes : List ℕ) (n : ℕ) → White n bytes → Leads (awaiting stack) n bytes (awaiting stack)
awaiting_white [] = white_leads (at [] value_due) (due_white [])
awaiting_white (in_array place [] ∷ stack) = white_leads (at stack (array_opened place)) (array_white stack place)
awaiting_white (in_array place (t ∷ done) ∷ stack) =
    white_leads (at (in_array place (t ∷ done) ∷ stack) value_due) (due_white (in_array place (t ∷ done) ∷ stack))
awaiting_white (in_object place done np name ne ∷ stack) =
    white_leads (at (in_object place done np name ne ∷ stack) value_due) (due_white (in_object place done np name ne ∷ stack))

-- ---- where a value is over

abbrev pub NumberOver : Tree → ℕ → Leaf → Type 0
NumberOver t n leaf = (place : ℕ) × (literal : List ℕ) × (leaf ≡ number_on place literal) × (t ≡ number place literal n) × IsNumber literal

-- the value t ends at the place n, or ended before it
abbrev pub Over : Tree → ℕ → Leaf → Type 0
Over t n leaf = (leaf ≡ value_done t) ⊎ NumberOver t n leaf

pub over_steps : (stack : List Frame) (t : Tree) (n : ℕ) (leaf : Leaf) (b : ℕ) (c : Class) (s : Partial) → Over t n leaf → class_of b ≡ c
    → after_value stack t n c ≡ Some s → step_leaf stack leaf n b ≡ Some s
over_steps stack t n leaf b c s (inl e) k h = rw (e, k) h
over_steps stack t n leaf b c s (inr (place, literal, e, f, i)) k h =
    let j : after_value stack (number place literal n) n c ≡ Some s = rw f at h in
    let P : Option Partial → Type 0 = λ o. Goes (λ x. Unit {0}) o in
    let never : begins_number (literal ++ b ∷ []) ≡ false = no_more (λ x. Unit {0}) stack (number place literal n) n literal b (rw k (subst P (sym j) tt)) in
    rw (e, k, never, (decided_number literal).1 i) j

pub over_done : (stack : List Frame) (t : Tree) (leaf : Leaf) (b : ℕ) (bytes : List ℕ) (n : ℕ) → Over t n leaf → White n (b ∷ bytes)
    → Leads (at stack leaf) n (b ∷ bytes) (at stack (value_done t))
over_done stack t leaf b bytes n o w =
    leads_byte (over_steps stack t n leaf b white (at stack (value_done t)) o (is_white b w.0) refl)
    (white_leads (at stack (value_done t))
    (λ m c v. over_steps stack t m (value_done t) c white (at stack (value_done t)) (inl refl) (is_white c v) refl) bytes (n + 1) w.1)

pub over_white : (stack : List Frame) (t : Tree) (leaf : Leaf) (bytes : List ℕ) (n : ℕ) → Over t n leaf → White n bytes → (last : Leaf)
    × Leads (at stack leaf) n bytes (at stack last) × Over t (n + length bytes) last
over_white stack t leaf [] n o w = (leaf, leads_none (at stack leaf) n, let P : ℕ → Type 0 = λ m. Over t m leaf in subst P (omega arith) o)
over_white stack t leaf (b ∷ bytes) n o w = (value_done t, over_done stack t leaf b bytes n o w, inl refl)
