-- A text that is broken off: its tree so far, its bytes, its depth, and the texts that go on from it.
use Rattle.std.specs.Prelude.{◌≡◌, ◌≢◌, ℕ, zero, suc, ◌+◌, ◌*◌, ◌%◌, ◌≤◌, max, Bool, true, List, [], ◌∷◌, ◌++◌, length, take, Some}
use Rattle.gj_json.specs.declared.constant.Constant.{Constant}
use Rattle.gj_json.specs.declared.mode.Bounds.{Bounds}
use Rattle.gj_json.specs.declared.mode.Bounds.TheVariants.{Any}
use Rattle.gj_json.specs.declared.mode.StringState.{StringState}
use Rattle.gj_json.specs.declared.mode.StringState.TheVariants.{Plain, Escape, HexDue, HexOne, HexTwo, HexThree, InCharacter}
use Rattle.gj_json.specs.Bytes.{open_bracket, open_brace, comma, colon, quote, backslash, letter_u, mark_bytes}
use Rattle.gj_json.specs.Tree.{Text, Tree, constant, number, string, array, object, Elements, element, Members, member, depth}
use Rattle.gj_number.specs.Grammar.{BeginsNumber as NumberFront}
use Rattle.gj_json.specs.Characters.{hex_of, SpellsContent}
use Rattle.gj_json.specs.Utf8Bytes.{Lead, lead_of, low_of, high_of}
use Rattle.gj_json.specs.Grammar.{Then, White, Exactly, Quoted, letters_of, Spells}
use Rattle.gj_json.specs.Text.{SpellsMark}

-- a member that has ended
pub record Member : Type 0 where
  pub place : ℕ
  pub name : List ℕ
  pub end : ℕ
  pub value : Tree

-- A container that is open, with what has ended in it, the last first. In an object, a member's value is due.
pub data Frame : Type 0 where
  in_array : (place : ℕ) → (done : List Tree) → Frame
  in_object : (place : ℕ) → (done : List Member) → (name_place : ℕ) → (name : List ℕ) → (name_end : ℕ) → Frame

-- What stands at the right edge: what is due there, or what is under way. An object's frame is open in some of the leaves.
pub data Leaf : Type 0 where
  value_due : Leaf
  value_done : (value : Tree) → Leaf
  array_opened : (place : ℕ) → Leaf
  object_opened : (place : ℕ) → Leaf
  constant_on : (which : Constant) → (place : ℕ) → (left : List ℕ) → Leaf
  number_on : (place : ℕ) → (so_far : List ℕ) → Leaf
  string_on : (place : ℕ) → (so_far : List ℕ) → (state : StringState) → Leaf
  name_due : (place : ℕ) → (done : List Member) → Leaf
  name_on : (place : ℕ) → (done : List Member) → (name_place : ℕ) → (so_far : List ℕ) → (state : StringState) → Leaf
  colon_due : (place : ℕ) → (done : List Member) → (name_place : ℕ) → (name : List ℕ) → (name_end : ℕ) → Leaf

-- a value under way: what is open around it, the innermost first, and what stands at the right edge
pub record Partial : Type 0 where
  pub stack : List Frame
  pub leaf : Leaf

-- A text that is broken off: nothing has come, or so many bytes of a mark, or the value has come into sight.
pub data Broken : Type 0 where
  text_due : Broken
  mark_one : Broken
  mark_two : Broken
  begun : (marked : Bool) → (partial : Partial) → Broken

-- ---- a character, a number and a string under way

-- the bytes of a character after its first, of which so many follow the next, as far as they came
abbrev pub BeginsTail : ℕ → Bounds → ℕ → StringState → List ℕ → Type 0
BeginsTail more bounds value state [] = state ≡ InCharacter more bounds value
BeginsTail zero bounds value state (b ∷ bytes) = ⊥
BeginsTail (suc more) bounds value state (b ∷ bytes) = (low_of bounds ≤ b) × (b ≤ high_of bounds) × BeginsTail more Any (value * 64 + b % 64) state bytes

-- the first bytes of a character, as far as they came: none between two characters
abbrev pub BeginsCharacter : StringState → List ℕ → Type 0
BeginsCharacter Plain bytes = bytes ≡ []
BeginsCharacter Escape bytes = bytes ≡ backslash ∷ []
BeginsCharacter HexDue bytes = bytes ≡ backslash ∷ letter_u ∷ []
BeginsCharacter (HexOne value) bytes = (b0 : ℕ) × (bytes ≡ backslash ∷ letter_u ∷ b0 ∷ []) × (hex_of b0 ≡ Some value)
BeginsCharacter (HexTwo value) bytes =
    (b0 : ℕ) × (b1 : ℕ) × (d0 : ℕ) × (d1 : ℕ) × (bytes ≡ backslash ∷ letter_u ∷ b0 ∷ b1 ∷ []) × (hex_of b0 ≡ Some d0) × (hex_of b1 ≡ Some d1)
    × (value ≡ d0 * 16 + d1)
BeginsCharacter (HexThree value) bytes =
    (b0 : ℕ) × (b1 : ℕ) × (b2 : ℕ) × (d0 : ℕ) × (d1 : ℕ) × (d2 : ℕ) × (bytes ≡ backslash ∷ letter_u ∷ b0 ∷ b1 ∷ b2 ∷ [])
    × (hex_of b0 ≡ Some d0) × (hex_of b1 ≡ Some d1) × (hex_of b2 ≡ Some d2) × (value ≡ (d0 * 16 + d1) * 16 + d2)
BeginsCharacter (InCharacter more bounds value) bytes =
    (b : ℕ) × (rest : List ℕ) × (first : Lead) × (bytes ≡ b ∷ rest) × (lead_of b ≡ Some first)
    × BeginsTail first.more first.bounds first.value (InCharacter more bounds value) rest

-- some bytes, which some bytes more make a number
abbrev pub BeginsNumber : List ℕ → Type 0
BeginsNumber so_far = (so_far ≢ []) × NumberFront so_far

-- an opening quote, the content so far, and the first bytes of a character
abbrev pub BeginsQuoted : ℕ → List ℕ → StringState → ℕ → List ℕ → Type 0
BeginsQuoted place so_far state start bytes =
    (place ≡ start) × Then (Exactly (quote ∷ [])) (Then (λ here inner. SpellsContent so_far inner) (λ here inner. BeginsCharacter state inner)) start bytes

-- ---- what is open

-- After each of these forms stands what K says. First the elements that have ended, each with its comma:
abbrev pub ElementsSoFar : List Tree → (ℕ → List ℕ → Type 0) → ℕ → List ℕ → Type 0
ElementsSoFar [] K start bytes = K start bytes
ElementsSoFar (t ∷ done) K start bytes = ElementsSoFar done (Then White (Then (Spells t) (Then White (Then (Exactly (comma ∷ [])) K)))) start bytes

-- the name of a member, and its colon
abbrev pub Named : ℕ → List ℕ → ℕ → (ℕ → List ℕ → Type 0) → ℕ → List ℕ → Type 0
Named place name end K start bytes = Then White (Then (Quoted place name end) (Then White (Then (Exactly (colon ∷ [])) K))) start bytes

abbrev pub MembersSoFar : List Member → (ℕ → List ℕ → Type 0) → ℕ → List ℕ → Type 0
MembersSoFar [] K start bytes = K start bytes
MembersSoFar (m ∷ done) K start bytes =
    MembersSoFar done (Named m.place m.name m.end (Then White (Then (Spells m.value) (Then White (Then (Exactly (comma ∷ [])) K))))) start bytes

abbrev pub ArrayOpened : ℕ → List Tree → (ℕ → List ℕ → Type 0) → ℕ → List ℕ → Type 0
ArrayOpened place done K start bytes = (place ≡ start) × Then (Exactly (open_bracket ∷ [])) (ElementsSoFar done K) start bytes

abbrev pub ObjectOpened : ℕ → List Member → (ℕ → List ℕ → Type 0) → ℕ → List ℕ → Type 0
ObjectOpened place done K start bytes = (place ≡ start) × Then (Exactly (open_brace ∷ [])) (MembersSoFar done K) start bytes

-- all that is open, the outermost first
abbrev pub Opened : List Frame → (ℕ → List ℕ → Type 0) → ℕ → List ℕ → Type 0
Opened [] K start bytes = K start bytes
Opened (in_array place done ∷ stack) K start bytes = Opened stack (Then White (ArrayOpened place done K)) start bytes
Opened (in_object place done np name ne ∷ stack) K start bytes = Opened stack (Then White (ObjectOpened place done (Named np name ne K))) start bytes

-- ---- the right edge

-- where a value may be due: an array in which nothing has ended or begun is a leaf of its own
abbrev pub IsDue : List Frame → Type 0
IsDue (in_array place [] ∷ stack) = ⊥
IsDue _ = Unit {0}

-- white space after a value that has ended: only the byte after it shows that a number has
abbrev pub Behind : Tree → ℕ → List ℕ → Type 0
Behind (number place literal end) start bytes = White start bytes × (bytes ≢ [])
Behind _ start bytes = White start bytes

-- what stands after the white space at the right edge
abbrev pub SpellsLeaf : List Frame → Leaf → ℕ → List ℕ → Type 0
SpellsLeaf stack value_due start bytes = IsDue stack × (bytes ≡ [])
SpellsLeaf stack (value_done t) start bytes = Then (Spells t) (Behind t) start bytes
SpellsLeaf stack (array_opened place) start bytes = ArrayOpened place [] White start bytes
SpellsLeaf stack (object_opened place) start bytes = ObjectOpened place [] White start bytes
SpellsLeaf stack (constant_on which place left) start bytes = (place ≡ start) × (letters_of which ≡ bytes ++ left) × (bytes ≢ []) × (left ≢ [])
SpellsLeaf stack (number_on place so_far) start bytes = (place ≡ start) × (bytes ≡ so_far) × BeginsNumber so_far
SpellsLeaf stack (string_on place so_far state) start bytes = BeginsQuoted place so_far state start bytes
SpellsLeaf stack (name_due place done) start bytes = (done ≢ []) × ObjectOpened place done White start bytes
SpellsLeaf stack (name_on place done np so_far state) start bytes = ObjectOpened place done (Then White (BeginsQuoted np so_far state)) start bytes
SpellsLeaf stack (colon_due place done np name ne) start bytes = ObjectOpened place done (Then White (Then (Quoted np name ne) White)) start bytes

-- These bytes are this text, broken off. White space alone has a value due; no bytes at all do not.
abbrev pub SpellsBroken : Broken → List ℕ → Type 0
SpellsBroken text_due bytes = bytes ≡ []
SpellsBroken mark_one bytes = bytes ≡ take 1 mark_bytes
SpellsBroken mark_two bytes = bytes ≡ take 2 mark_bytes
SpellsBroken (begun marked s) bytes = (bytes ≢ []) × Then (SpellsMark marked) (Opened s.stack (Then White (SpellsLeaf s.stack s.leaf))) 0 bytes

-- ---- how deep it nests

abbrev pub trees_depth : List Tree → ℕ
trees_depth [] = 0
trees_depth (t ∷ done) = max (depth t) (trees_depth done)

abbrev pub values_depth : List Member → ℕ
values_depth [] = 0
values_depth (m ∷ done) = max (depth m.value) (values_depth done)

-- each open container stands in those around it, and what has ended in it, in the container
abbrev pub stack_depth : List Frame → ℕ
stack_depth [] = 0
stack_depth (in_array place done ∷ stack) = max (length stack + 1 + trees_depth done) (stack_depth stack)
stack_depth (in_object place done np name ne ∷ stack) = max (length stack + 1 + values_depth done) (stack_depth stack)

abbrev pub leaf_depth : Leaf → ℕ
leaf_depth (value_done t) = depth t
leaf_depth (array_opened place) = 1
leaf_depth (object_opened place) = 1
leaf_depth (name_due place done) = 1 + values_depth done
leaf_depth (name_on place done np so_far state) = 1 + values_depth done
leaf_depth (colon_due place done np name ne) = 1 + values_depth done
leaf_depth _ = 0

-- the most arrays and objects that are open at once, up to the right edge
abbrev pub broken_depth : Broken → ℕ
broken_depth (begun marked s) = max (stack_depth s.stack) (length s.stack + leaf_depth s.leaf)
broken_depth _ = 0

-- ---- the texts that go on from it

abbrev pub back_elements : List Tree → Elements → Elements
back_elements [] more = more
back_elements (t ∷ done) more = back_elements done (element t more)

abbrev pub member_of : Member → Members → Members
member_of m more = member m.place m.name m.end m.value more

abbrev pub back_members : List Member → Members → Members
back_members [] more = more
back_members (m ∷ done) more = back_members done (member_of m more)

-- The tree T has the value t there: each container around it is closed, with more elements or members or none.
abbrev pub Has : List Frame → Tree → Tree → Type 0
Has [] t T = T ≡ t
Has (in_array place done ∷ stack) t T = (more : Elements) × (close : ℕ) × Has stack (array place (back_elements done (element t more)) close) T
Has (in_object place done np name ne ∷ stack) t T =
    (more : Members) × (close : ℕ) × Has stack (object place (back_members done (member np name ne t more)) close) T

abbrev pub ExtendsLeaf : List Frame → Leaf → Tree → Type 0
ExtendsLeaf stack value_due T = (t : Tree) × Has stack t T
ExtendsLeaf stack (value_done t) T = Has stack t T
ExtendsLeaf stack (array_opened place) T = (elements : Elements) × (close : ℕ) × Has stack (array place elements close) T
ExtendsLeaf stack (object_opened place) T = (members : Members) × (close : ℕ) × Has stack (object place members close) T
ExtendsLeaf stack (constant_on which place left) T = Has stack (constant which place) T
ExtendsLeaf stack (number_on place so_far) T = (more : List ℕ) × (end : ℕ) × Has stack (number place (so_far ++ more) end) T
ExtendsLeaf stack (string_on place so_far state) T = (content : List ℕ) × (end : ℕ) × Has stack (string place (so_far ++ content) end) T
ExtendsLeaf stack (name_due place done) T = (np : ℕ) × (name : List ℕ) × (ne : ℕ) × (t : Tree) × Has (in_object place done np name ne ∷ stack) t T
ExtendsLeaf stack (name_on place done np so_far state) T =
    (content : List ℕ) × (ne : ℕ) × (t : Tree) × Has (in_object place done np (so_far ++ content) ne ∷ stack) t T
ExtendsLeaf stack (colon_due place done np name ne) T = (t : Tree) × Has (in_object place done np name ne ∷ stack) t T

-- The text is the broken-off one, with what is under way ended and what is open closed.
abbrev pub Extends : Broken → Text → Type 0
Extends text_due text = Unit {0}
Extends mark_one text = text.marked ≡ true
Extends mark_two text = text.marked ≡ true
Extends (begun marked s) text = (text.marked ≡ marked) × ExtendsLeaf s.stack s.leaf text.value
