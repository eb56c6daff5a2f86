-- What stands directly in the text's object, of the events of its members.
use Rattle.gj_rules.proofs.Common.{Bool, Event, False, List, Members, Null, Told, Tree, True, TypeName, What, Word, ap, append_assoc, array, constant}
use Rattle.gj_rules.proofs.Common.{element, elements_told, end_of_array, end_of_object, event_of, false, levels_behind, map, map-append, member}
use Rattle.gj_rules.proofs.Common.{members_told, number, object, plain, refl, same, string, suc, sym, told, true, type_of, zero, [], ◌++◌, ◌+◌, ◌∙◌}
use Rattle.gj_rules.proofs.Common.{◌∷◌}
use Rattle.std.proofs.Common.{◌≡◌, ℕ, Option, Some, None}
use Rattle.std.proofs.Common.{append-nil}
use Rattle.gj_json.specs.declared.names.Known.{Known}
use Rattle.gj_json.specs.declared.event.What.TheVariants as W
use Rattle.gj_json.specs.Events.{what_of}
use Rattle.gj_json.specs.Names.{word_of}
use Rattle.gj_json.specs.Tree as Tree
use Rattle.gj_number.specs.Value.{value_of}
use Rattle.gj_rules.specs.Doomed.{outermost, at_level, names, first_type, type_named}
use Rattle.gj_rules.proofs.Texts.ValuesByEvents.{up, down}

abbrev pub whats : List Told → List What
whats xs = map (λ (event : Event). event.what) (map event_of xs)

abbrev pub own : ℕ → List Told → List What
own n xs = outermost n (whats xs)

mutual
  deep_value : (v : Tree) (k : ℕ) (rest : List Told) → own (suc (suc k)) (told v ++ rest) ≡ own (suc (suc k)) rest
  deep_value (constant Null place) k rest = refl
  deep_value (constant True place) k rest = refl
  deep_value (constant False place) k rest = refl
  deep_value (number place literal end) k rest = refl
  deep_value (string place content end) k rest = refl
  deep_value (array place es close) k rest =
      let last : Told = plain (close + 1) close W.CloseArray in
      ap (λ n. own n ((elements_told es ++ last ∷ []) ++ rest)) (up (suc k))
      ∙ (ap (λ (ts : List Told). own (suc (suc (suc k))) ts) (append_assoc (elements_told es) (last ∷ []) rest)
      ∙ (deep_elements es (suc k) (last ∷ rest) ∙ ap (λ n. own n rest) (down (suc k))))
  deep_value (object place ms close) k rest =
      let last : Told = plain (close + 1) close W.CloseObject in
      ap (λ n. own n ((members_told ms ++ last ∷ []) ++ rest)) (up (suc k))
      ∙ (ap (λ (ts : List Told). own (suc (suc (suc k))) ts) (append_assoc (members_told ms) (last ∷ []) rest)
      ∙ (deep_members ms (suc k) (last ∷ rest) ∙ ap (λ n. own n rest) (down (suc k))))

  deep_elements : (es : Tree.Elements) (k : ℕ) (rest : List Told) → own (suc (suc k)) (elements_told es ++ rest) ≡ own (suc (suc k)) rest
  deep_elements end_of_array k rest = refl
  deep_elements (element v more) k rest =
      ap (λ (ts : List Told). own (suc (suc k)) ts) (append_assoc (told v) (elements_told more) rest)
      ∙ (deep_value v k (elements_told more ++ rest) ∙ deep_elements more k rest)

  deep_members : (ms : Members) (k : ℕ) (rest : List Told) → own (suc (suc k)) (members_told ms ++ rest) ≡ own (suc (suc k)) rest
  deep_members end_of_object k rest = refl
  deep_members (member place name end v more) k rest =
      ap (λ (ts : List Told). own (suc (suc k)) ts) (append_assoc (told v) (members_told more) rest)
      ∙ (deep_value v k (members_told more ++ rest) ∙ deep_members more k rest)

-- of the events of a value
abbrev pub first_what : Tree → What
first_what (constant which place) = what_of which
first_what (number place literal end) = W.Number (value_of literal)
first_what (string place content end) = W.Text (word_of content)
first_what (array place es close) = W.OpenArray
first_what (object place ms close) = W.OpenObject

-- the first stands directly in the object
pub own_value : (v : Tree) (rest : List Told) → own 1 (told v ++ rest) ≡ first_what v ∷ own 1 rest
own_value (constant Null place) rest = refl
own_value (constant True place) rest = refl
own_value (constant False place) rest = refl
own_value (number place literal end) rest = refl
own_value (string place content end) rest = refl
own_value (array place es close) rest =
    let last : Told = plain (close + 1) close W.CloseArray in
    ap (λ (ts : List Told). W.OpenArray ∷ own 2 ts) (append_assoc (elements_told es) (last ∷ []) rest)
    ∙ ap (λ (ws : List What). W.OpenArray ∷ ws) (deep_elements es 0 (last ∷ rest))
own_value (object place ms close) rest =
    let last : Told = plain (close + 1) close W.CloseObject in
    ap (λ (ts : List Told). W.OpenObject ∷ own 2 ts) (append_assoc (members_told ms) (last ∷ []) rest)
    ∙ ap (λ (ws : List What). W.OpenObject ∷ ws) (deep_members ms 0 (last ∷ rest))

-- ---- a part of a value

level_append : (n : ℕ) (w : What) (xs ys : List What) → at_level n w (xs ++ ys) ≡ at_level n w xs ++ ys
level_append zero w xs ys = refl
level_append (suc zero) w xs ys = refl
level_append (suc (suc k)) w xs ys = refl

own_append : (n : ℕ) (xs ys : List What) → (m : ℕ) × (outermost n (xs ++ ys) ≡ outermost n xs ++ outermost m ys)
own_append n [] ys = (n, refl)
own_append n (x ∷ xs) ys =
    let k = own_append (levels_behind x n) xs ys in
    (k.0, ap (λ (ws : List What). at_level n x ws) k.1 ∙ level_append n x (outermost (levels_behind x n) xs) (outermost k.0 ys))

whats_append : (xs ys : List Told) → whats (xs ++ ys) ≡ whats xs ++ whats ys
whats_append xs ys =
    ap (λ (events : List Event). map (λ (event : Event). event.what) events) (map-append event_of xs ys)
    ∙ map-append (λ (event : Event). event.what) (map event_of xs) (map event_of ys)

no_front : (xs ys : List What) → xs ++ ys ≡ [] → xs ≡ []
no_front [] ys e = refl
no_front (x ∷ xs) ys e = cc

-- of a part of a value that is not empty, the first event alone stands directly in the object
pub own_part : (v : Tree) (x : Told) (done : List Told) (rest : List Told) → told v ≡ (x ∷ done) ++ rest → own 1 (x ∷ done) ≡ first_what v ∷ []
own_part v x done rest e =
    let k = own_append 1 (whats (x ∷ done)) (whats rest) in
    let whole : first_what v ∷ [] ≡ own 1 (x ∷ done) ++ outermost k.0 (whats rest) =
    sym (own_value v []) ∙ (ap (λ (ts : List Told). own 1 ts) (append-nil (told v) ∙ e)
    ∙ (ap (λ (ws : List What). outermost 1 ws) (whats_append (x ∷ done) rest) ∙ k.1)) in
    let later : List What = outermost (levels_behind (event_of x).what 1) (whats done) in
    let none : later ≡ [] =
    no_front later (outermost k.0 (whats rest))
    (let f : first_what v ∷ [] ≡ (event_of x).what ∷ (later ++ outermost k.0 (whats rest)) = whole in cc) in
    let first : (event_of x).what ≡ first_what v =
    (let f : first_what v ∷ [] ≡ (event_of x).what ∷ (later ++ outermost k.0 (whats rest)) = whole in cc) in
    ap (λ (w : What). w ∷ later) first ∙ ap (λ (ws : List What). first_what v ∷ ws) none

-- ---- the names and the first type

pub names_value : (v : Tree) (xs : List What) → names (first_what v ∷ xs) ≡ names xs
names_value (constant Null place) xs = refl
names_value other xs = refl

type_value_is : (v : Tree) → type_named (first_what v) ≡ type_of v
type_value_is (constant Null place) = refl
type_value_is other = refl

type_after_value : (v : Tree) (xs : List What) → first_type (first_what v ∷ xs) ≡ first_type xs
type_after_value (constant Null place) xs = refl
type_after_value other xs = refl

-- the word of the first, where there is one
abbrev pub or_word : Option Word → Option Word → Option Word
or_word None other = other
or_word (Some word) other = Some word

-- of a member `name` with this value
abbrev pub typed_by : Bool → Tree → Option Word
typed_by true v = Some (type_of v)
typed_by false v = None

pub first_type_member : (name : Known) (v : Tree) (xs : List What)
    → first_type (W.Name name ∷ (first_what v ∷ xs)) ≡ or_word (typed_by (same TypeName name) v) (first_type xs)
first_type_member TypeName v xs = ap (λ (w : Word). Some w) (type_value_is v)
first_type_member _ v xs = type_after_value v xs

pub first_type_name : (name : Known) → first_type (W.Name name ∷ []) ≡ None
first_type_name TypeName = refl
first_type_name _ = refl
