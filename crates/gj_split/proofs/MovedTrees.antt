-- A value by its bytes alone: its tree, with each place from the start of the value.
use Rattle.gj_split.proofs.Common.{Elements, Exactly, List, Members, Spells, SpellsElements, SpellsMembers, SpellsMoreElements, SpellsMoreMembers}
use Rattle.gj_split.proofs.Common.{Then, Tree, White, ap, arith, array, close_bracket, constant, depth, element, end_of_array, end_of_object, length}
use Rattle.gj_split.proofs.Common.{member, number, object, refl, string, subst, ℕ, [], ◌+◌, ◌-◌, ◌∷◌, ◌≡◌}
use Rattle.std.proofs.Common.{add_assoc}
use Rattle.gj_json.specs.Tree.{elements_depth, members_depth}
use Rattle.gj_json.specs.Bytes.{close_brace}
use Rattle.gj_json.specs.Grammar.{Closes, Quoted}

-- ---- trees

abbrev mutual
  pub moved : (ℕ → ℕ) → Tree → Tree
  moved f (constant which place) = constant which (f place)
  moved f (number place literal end) = number (f place) literal (f end)
  moved f (string place content end) = string (f place) content (f end)
  moved f (array place elements close) = array (f place) (moved_elements f elements) (f close)
  moved f (object place members close) = object (f place) (moved_members f members) (f close)

  pub moved_elements : (ℕ → ℕ) → Elements → Elements
  moved_elements f end_of_array = end_of_array
  moved_elements f (element value more) = element (moved f value) (moved_elements f more)

  pub moved_members : (ℕ → ℕ) → Members → Members
  moved_members f end_of_object = end_of_object
  moved_members f (member place name end value more) = member (f place) name (f end) (moved f value) (moved_members f more)

mutual
  pub same_depth : (f : ℕ → ℕ) (v : Tree) → depth (moved f v) ≡ depth v
  same_depth f (constant which place) = refl
  same_depth f (number place literal end) = refl
  same_depth f (string place content end) = refl
  same_depth f (array place elements close) = ap (λ n. n + 1) (same_elements_depth f elements)
  same_depth f (object place members close) = ap (λ n. n + 1) (same_members_depth f members)

  same_elements_depth : (f : ℕ → ℕ) (es : Elements) → elements_depth (moved_elements f es) ≡ elements_depth es
  same_elements_depth f end_of_array = refl
  same_elements_depth f (element value more) = rw (same_depth f value, same_elements_depth f more) refl

  same_members_depth : (f : ℕ → ℕ) (ms : Members) → members_depth (moved_members f ms) ≡ members_depth ms
  same_members_depth f end_of_object = refl
  same_members_depth f (member place name end value more) = rw (same_depth f value, same_members_depth f more) refl

-- ---- so many bytes back

abbrev pub back : ℕ → ℕ → ℕ
back k place = place - k

back_to : (k n place : ℕ) → place ≡ k + n → back k place ≡ n
back_to k n place e = omega (arith, e)

-- two forms, one after the other, each with its place so many bytes back
then_back : {A B C D : ℕ → List ℕ → Type 0} (k n : ℕ) (bytes : List ℕ) → ((b : List ℕ) → A (k + n) b → C n b) → ((m : ℕ) (b : List ℕ) → B (k + m) b → D m b)
    → Then A B (k + n) bytes → Then C D n bytes
then_back {B = B} k n bytes f g h = record {
  first = h.first;
  rest = h.rest;
  joined = h.joined;
  before = f h.first h.before;
  after = g (n + length h.first) h.rest (subst (λ m. B m h.rest) (add_assoc k n (length h.first)) h.after);
}

white_back : {B D : ℕ → List ℕ → Type 0} (k n : ℕ) (bytes : List ℕ) → ((m : ℕ) (b : List ℕ) → B (k + m) b → D m b) → Then White B (k + n) bytes
    → Then White D n bytes
white_back {B} {D} k n bytes g h = then_back {A = White} {B = B} {C = White} {D = D} k n bytes (λ b x. x) g h

byte_back : {letters : List ℕ} {B D : ℕ → List ℕ → Type 0} (k n : ℕ) (bytes : List ℕ) → ((m : ℕ) (b : List ℕ) → B (k + m) b → D m b)
    → Then (Exactly letters) B (k + n) bytes → Then (Exactly letters) D n bytes
byte_back {letters} {B} {D} k n bytes g h = then_back {A = Exactly letters} {B = B} {C = Exactly letters} {D = D} k n bytes (λ b x. x) g h

closes_back : (b k close n : ℕ) (bytes : List ℕ) → Closes (b ∷ []) close (k + n) bytes → Closes (b ∷ []) (back k close) n bytes
closes_back b k close n bytes h = (h.0, back_to k n close h.1)

quoted_back : (k place : ℕ) (content : List ℕ) (end n : ℕ) (bytes : List ℕ) → Quoted place content end (k + n) bytes
    → Quoted (back k place) content (back k end) n bytes
quoted_back k place content end n bytes h =
    (back_to k n place h.0, byte_back k n bytes (λ m b. then_back k m b (λ c x. x) (λ p c. byte_back k p c (λ q d x. (x.0, back_to k q end x.1)))) h.1)

mutual
  pub spelled_back : (k : ℕ) (v : Tree) (n : ℕ) (bytes : List ℕ) → Spells v (k + n) bytes → Spells (moved (back k) v) n bytes
  spelled_back k (constant which place) n bytes h = (back_to k n place h.0, h.1)
  spelled_back k (number place literal end) n bytes h = (back_to k n place h.0, h.1, byte_back k n bytes (λ m b x. (x.0, back_to k m end x.1)) h.2)
  spelled_back k (string place content end) n bytes h = quoted_back k place content end n bytes h
  spelled_back k (array place elements close) n bytes h =
      (back_to k n place h.0, byte_back k n bytes (λ m b. white_back k m b (λ p c. elements_back k elements close p c)) h.1)
  spelled_back k (object place members close) n bytes h =
      (back_to k n place h.0, byte_back k n bytes (λ m b. white_back k m b (λ p c. members_back k members close p c)) h.1)

  elements_back : (k : ℕ) (es : Elements) (close n : ℕ) (bytes : List ℕ) → SpellsElements es close (k + n) bytes
      → SpellsElements (moved_elements (back k) es) (back k close) n bytes
  elements_back k end_of_array close n bytes h = closes_back close_bracket k close n bytes h
  elements_back k (element value more) close n bytes h =
      then_back k n bytes (λ y. spelled_back k value n y) (λ m b. white_back k m b (λ p c. more_elements_back k more close p c)) h

  more_elements_back : (k : ℕ) (es : Elements) (close n : ℕ) (bytes : List ℕ) → SpellsMoreElements es close (k + n) bytes
      → SpellsMoreElements (moved_elements (back k) es) (back k close) n bytes
  more_elements_back k end_of_array close n bytes h = closes_back close_bracket k close n bytes h
  more_elements_back k (element value more) close n bytes h =
      byte_back k n bytes (λ m b. white_back k m b
      (λ p c. then_back k p c (λ y. spelled_back k value p y) (λ q d. white_back k q d (λ r e. more_elements_back k more close r e)))) h

  members_back : (k : ℕ) (ms : Members) (close n : ℕ) (bytes : List ℕ) → SpellsMembers ms close (k + n) bytes
      → SpellsMembers (moved_members (back k) ms) (back k close) n bytes
  members_back k end_of_object close n bytes h = closes_back close_brace k close n bytes h
  members_back k (member place name end value more) close n bytes h =
      then_back k n bytes (λ b. quoted_back k place name end n b)
      (λ m b. white_back k m b (λ p c. byte_back k p c (λ q d. white_back k q d (λ r e. then_back k r e (λ y. spelled_back k value r y)
      (λ s f. white_back k s f (λ t g. more_members_back k more close t g)))))) h

  more_members_back : (k : ℕ) (ms : Members) (close n : ℕ) (bytes : List ℕ) → SpellsMoreMembers ms close (k + n) bytes
      → SpellsMoreMembers (moved_members (back k) ms) (back k close) n bytes
  more_members_back k end_of_object close n bytes h = closes_back close_brace k close n bytes h
  more_members_back k (member place name end value more) close n bytes h =
      byte_back k n bytes (λ m b. white_back k m b
      (λ p c. then_back k p c (λ d. quoted_back k place name end p d) (λ q d. white_back k q d (λ r e. byte_back k r e (λ s f. white_back k s f
      (λ t g. then_back k t g (λ y. spelled_back k value t y) (λ u i. white_back k u i (λ w j. more_members_back k more close w j)))))))) h
