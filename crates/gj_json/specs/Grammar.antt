-- How a value is spelled: the grammar of RFC 8259, sections 2 to 7, by cases on its tree, in UTF-8 (RFC 3629, section 4).
use Rattle.std.specs.Prelude.{◌≡◌, ℕ, ◌+◌, List, [], ◌++◌, length, codes}
use Rattle.std.specs.List.{AllByRecursion}
use Rattle.gj_json.specs.Bytes.{IsWhite}
use Rattle.gj_number.specs.Grammar.{IsNumber}
use Rattle.gj_json.specs.Characters.{SpellsContent}
use Rattle.gj_json.specs.declared.constant.Constant.{Constant}
use Rattle.gj_json.specs.declared.constant.Constant.TheVariants.{Null, True, False}
use Rattle.gj_json.specs.Tree.{Tree, constant, number, string, array, object, Elements, end_of_array, element, Members, end_of_object, member}

-- A form says which bytes may stand at a place. One form, and after it another:
pub record Then (First Rest : ℕ → List ℕ → Type 0) (start : ℕ) (bytes : List ℕ) : Type 0 where
  pub first : List ℕ
  pub rest : List ℕ
  pub joined : bytes ≡ first ++ rest
  pub before : First start first
  pub after : Rest (start + length first) rest

abbrev pub White : ℕ → List ℕ → Type 0
White start bytes = AllByRecursion IsWhite bytes

-- these bytes, whatever the place
abbrev pub Exactly : List ℕ → ℕ → List ℕ → Type 0
Exactly letters start bytes = bytes ≡ letters

-- nothing, at this place
abbrev pub Ends : ℕ → ℕ → List ℕ → Type 0
Ends end start bytes = (bytes ≡ []) × (end ≡ start)

-- these bytes, at this place
abbrev pub Closes : List ℕ → ℕ → ℕ → List ℕ → Type 0
Closes letters close start bytes = (bytes ≡ letters) × (close ≡ start)

abbrev pub letters_of : Constant → List ℕ
letters_of Null = codes "null"
letters_of True = codes "true"
letters_of False = codes "false"

-- a string in its quotes, which ends at `end`
abbrev pub Quoted : ℕ → List ℕ → ℕ → ℕ → List ℕ → Type 0
Quoted place content end start bytes =
    (place ≡ start) × Then (Exactly (codes "\"")) (Then (λ here inner. SpellsContent content inner) (Then (Exactly (codes "\"")) (Ends end))) start bytes

abbrev mutual
  -- the tree is spelled by these bytes, of which the first stands at this place
  pub Spells : Tree → ℕ → List ℕ → Type 0
  Spells (constant which place) start bytes = (place ≡ start) × Exactly (letters_of which) start bytes
  Spells (number place literal end) start bytes = (place ≡ start) × IsNumber literal × Then (Exactly literal) (Ends end) start bytes
  Spells (string place content end) start bytes = Quoted place content end start bytes
  Spells (array place elements close) start bytes =
      (place ≡ start) × Then (Exactly (codes "[")) (Then White (SpellsElements elements close)) start bytes
  Spells (object place members close) start bytes = (place ≡ start) × Then (Exactly (codes "{")) (Then White (SpellsMembers members close)) start bytes

  -- from the first element on, and with the bracket
  pub SpellsElements : Elements → ℕ → ℕ → List ℕ → Type 0
  SpellsElements end_of_array close start bytes = Closes (codes "]") close start bytes
  SpellsElements (element value more) close start bytes = Then (Spells value) (Then White (SpellsMoreElements more close)) start bytes

  -- after an element
  pub SpellsMoreElements : Elements → ℕ → ℕ → List ℕ → Type 0
  SpellsMoreElements end_of_array close start bytes = Closes (codes "]") close start bytes
  SpellsMoreElements (element value more) close start bytes =
      Then (Exactly (codes ",")) (Then White (Then (Spells value) (Then White (SpellsMoreElements more close)))) start bytes

  pub SpellsMembers : Members → ℕ → ℕ → List ℕ → Type 0
  SpellsMembers end_of_object close start bytes = Closes (codes "}") close start bytes
  SpellsMembers (member place name end value more) close start bytes =
      Then (Quoted place name end)
      (Then White (Then (Exactly (codes ":")) (Then White (Then (Spells value) (Then White (SpellsMoreMembers more close)))))) start bytes

  pub SpellsMoreMembers : Members → ℕ → ℕ → List ℕ → Type 0
  SpellsMoreMembers end_of_object close start bytes = Closes (codes "}") close start bytes
  SpellsMoreMembers (member place name end value more) close start bytes =
      Then (Exactly (codes ","))
      (Then White (Then (Quoted place name end)
      (Then White (Then (Exactly (codes ":")) (Then White (Then (Spells value) (Then White (SpellsMoreMembers more close)))))))) start bytes
