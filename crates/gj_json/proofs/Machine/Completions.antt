-- Which bytes make a state of the machine the tree T, and the text T.
use Rattle.gj_json.proofs.Common.{Constant, Elements, Exactly, IsNumber, List, Members, None, Null, Option, Quoted, Some, Spells}
use Rattle.gj_json.proofs.Common.{SpellsElements, SpellsMark, SpellsMembers, SpellsMoreElements, SpellsMoreMembers, StringState, Text, Tree}
use Rattle.gj_json.proofs.Common.{array, constant, element, first_letter, letters_after, letters_of, mark_second, mark_third, member, object, refl}
use Rattle.gj_json.proofs.Common.{string, string_goes, string_next, true, ℕ, [], ◌++◌, ◌∷◌, ◌≡◌}
use Rattle.gj_json.specs.Bytes.{colon as colon_byte, quote as quote_byte}
use Rattle.gj_json.specs.Tree.{number}
use Rattle.gj_json.specs.Grammar.{Then, White, Ends}
use Rattle.gj_json.specs.declared.mode.StringState.TheVariants.{Plain as plain}
use Rattle.gj_json.specs.Internal.TextMachine.{Member, Frame, in_array, in_object, Leaf, value_due, value_done, array_opened}
use Rattle.gj_json.specs.Internal.TextMachine.{object_opened, constant_on, number_on, string_on, name_due, name_on, colon_due, Partial, Broken, text_due}
use Rattle.gj_json.specs.Internal.TextMachine.{mark_one, mark_two, begun, back_elements, back_members}

-- a text under way may go on by these bytes, up to its quote
abbrev pub StringRest : StringState → List ℕ → List ℕ → Type 0
StringRest state content [] = (content ≡ []) × (state ≡ plain)
StringRest state content (b ∷ bytes) =
    (more : List ℕ) × (next : StringState) × (later : List ℕ) × (string_next state b ≡ string_goes more next) × (content ≡ more ++ later)
    × StringRest next later bytes

-- after the value t, to the tree T
abbrev pub After : List Frame → Tree → Tree → ℕ → List ℕ → Type 0
After [] t T n bytes = White n bytes × (T ≡ t)
After (in_array place done ∷ stack) t T n bytes =
    (more : Elements) × (close : ℕ)
    × Then White (Then (SpellsMoreElements more close) (After stack (array place (back_elements done (element t more)) close) T)) n bytes
After (in_object place done np name ne ∷ stack) t T n bytes =
    (more : Members) × (close : ℕ)
    × Then White (Then (SpellsMoreMembers more close) (After stack (object place (back_members done (member np name ne t more)) close) T)) n bytes

-- the colon, the value of the member and the members after it
abbrev pub AfterName : List Frame → ℕ → List Member → ℕ → List ℕ → ℕ → Tree → ℕ → List ℕ → Type 0
AfterName stack place done np name ne T n bytes =
    (t : Tree) × Then White (Then (Exactly (colon_byte ∷ [])) (Then White (Then (Spells t) (After (in_object place done np name ne ∷ stack) t T)))) n bytes

-- the rest of a text under way, and its quote
abbrev pub StringOn : StringState → List ℕ → ℕ → ℕ → List ℕ → Type 0
StringOn state content end n bytes = Then (λ here inner. StringRest state content inner) (Then (Exactly (quote_byte ∷ [])) (Ends end)) n bytes

-- a value, and what follows it
abbrev pub Due : List Frame → Tree → ℕ → List ℕ → Type 0
Due stack T n bytes = (t : Tree) × Then White (Then (Spells t) (After stack t T)) n bytes

abbrev pub Completes : List Frame → Leaf → Tree → ℕ → List ℕ → Type 0
Completes stack value_due T n bytes = (t : Tree) × Then White (Then (Spells t) (After stack t T)) n bytes
Completes stack (value_done t) T n bytes = After stack t T n bytes
Completes stack (array_opened place) T n bytes =
    (elements : Elements) × (close : ℕ) × Then White (Then (SpellsElements elements close) (After stack (array place elements close) T)) n bytes
Completes stack (object_opened place) T n bytes =
    (members : Members) × (close : ℕ) × Then White (Then (SpellsMembers members close) (After stack (object place members close) T)) n bytes
Completes stack (constant_on which place left) T n bytes = Then (Exactly left) (After stack (constant which place) T) n bytes
Completes stack (number_on place so_far) T n bytes =
    (more : List ℕ) × (end : ℕ) × IsNumber (so_far ++ more) × Then (Exactly more) (Then (Ends end) (After stack (number place (so_far ++ more) end) T)) n bytes
Completes stack (string_on place so_far state) T n bytes =
    (content : List ℕ) × (end : ℕ) × Then (StringOn state content end) (After stack (string place (so_far ++ content) end) T) n bytes
Completes stack (name_due place done) T n bytes =
    (np : ℕ) × (name : List ℕ) × (ne : ℕ) × Then White (Then (Quoted np name ne) (AfterName stack place done np name ne T)) n bytes
Completes stack (name_on place done np so_far state) T n bytes =
    (content : List ℕ) × (ne : ℕ) × Then (StringOn state content ne) (AfterName stack place done np (so_far ++ content) ne T) n bytes
Completes stack (colon_due place done np name ne) T n bytes = AfterName stack place done np name ne T n bytes

abbrev pub CompletesFrom : Tree → ℕ → List ℕ → Partial → Type 0
CompletesFrom T n bytes s = Completes s.stack s.leaf T n bytes

-- these bytes make the text T, from the place n on
abbrev pub TextFrom : Text → ℕ → List ℕ → Broken → Type 0
TextFrom T n bytes text_due = Then (SpellsMark T.marked) (Due [] T.value) n bytes
TextFrom T n bytes mark_one = (T.marked ≡ true) × Then (Exactly (mark_second ∷ mark_third ∷ [])) (Due [] T.value) n bytes
TextFrom T n bytes mark_two = (T.marked ≡ true) × Then (Exactly (mark_third ∷ [])) (Due [] T.value) n bytes
TextFrom T n bytes (begun marked s) = (T.marked ≡ marked) × CompletesFrom T.value n bytes s

abbrev pub Goes : {S : Type 0} → (S → Type 0) → Option S → Type 0
Goes P None = ⊥
Goes P (Some s) = P s

-- a literal name: its first letter, and the letters after it
pub spelled : (which : Constant) → letters_of which ≡ first_letter which ∷ letters_after which
spelled Null = refl
spelled other = refl
