-- What a text says: a JSON value, with the place of each of its parts (RFC 8259, sections 3 to 7).
use Rattle.std.specs.Prelude.{ℕ, ◌+◌, max, List, Bool}
use Rattle.gj_json.specs.declared.constant.Constant.{Constant}

-- A place is a byte offset from the start of the text. `place` is that of a part's first byte, `end` that after its
-- last, and `close` that of a closing bracket. A string and a name have their content as a list of characters.
mutual
  pub data Tree : Type 0 where
    constant : (which : Constant) → (place : ℕ) → Tree
    number : (place : ℕ) → (literal : List ℕ) → (end : ℕ) → Tree
    string : (place : ℕ) → (content : List ℕ) → (end : ℕ) → Tree
    array : (place : ℕ) → (elements : Elements) → (close : ℕ) → Tree
    object : (place : ℕ) → (members : Members) → (close : ℕ) → Tree

  pub data Elements : Type 0 where
    end_of_array : Elements
    element : (value : Tree) → (more : Elements) → Elements

  pub data Members : Type 0 where
    end_of_object : Members
    member : (place : ℕ) → (name : List ℕ) → (end : ℕ) → (value : Tree) → (more : Members) → Members

-- a whole text: its value, and whether a byte order mark stands before it
pub record Text : Type 0 where
  pub marked : Bool
  pub value : Tree

-- where the first byte of a value stands
abbrev pub place_of : Tree → ℕ
place_of (constant which place) = place
place_of (number place literal end) = place
place_of (string place content end) = place
place_of (array place elements close) = place
place_of (object place members close) = place

-- the most arrays and objects that are open at once
abbrev mutual
  pub depth : Tree → ℕ
  depth (array place elements close) = elements_depth elements + 1
  depth (object place members close) = members_depth members + 1
  depth _ = 0

  pub elements_depth : Elements → ℕ
  elements_depth end_of_array = 0
  elements_depth (element value more) = max (depth value) (elements_depth more)

  pub members_depth : Members → ℕ
  members_depth end_of_object = 0
  members_depth (member place name end value more) = max (depth value) (members_depth more)
