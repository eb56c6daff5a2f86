-- What of a number or a string is under way at the right edge, and what the reader keeps of it.
use Rattle.std.specs.Prelude.{◌≡◌, ℕ, true, false, List, [], ◌∷◌, ◌++◌, Option, Some, None}
use Rattle.gj_number.specs.Exact.{Exact}
use Rattle.gj_number.specs.Grammar.{IsNumber, BeginsNumber}
use Rattle.gj_number.specs.Value.{value_of}
use Rattle.gj_number.specs.declared.literal.Literal.{Literal}
use Rattle.gj_number.specs.Literal.{StandsFor as LiteralStandsFor}
use Rattle.gj_json.specs.declared.mode.StringState.{StringState}
use Rattle.gj_json.specs.declared.mode.StringState.TheVariants.{Plain}
use Rattle.gj_json.specs.declared.reader.Reader.{Reader}
use Rattle.gj_json.specs.Internal.ToldEvents.{in_number, text_state, NumberTurn, turn_of}
use Rattle.gj_json.specs.declared.content.Content.{Content}
use Rattle.gj_json.specs.Internal.KeptContent.{Holds}
use Rattle.gj_json.specs.Internal.ContentWords.{Words, words_of}
use Rattle.gj_number.specs.DecidedNumbers.{is_number, begins_number}
use Rattle.gj_json.specs.Internal.TextMachine.{Leaf, number_on, string_on, name_on, Broken, begun, string_next, string_goes}

-- what is under way: nothing but a literal name at the most, or so many bytes of a number, or so many characters of a
-- string or a name
pub data Under : Type 0 where
  nothing : Under
  number : (so_far : List ℕ) → Under
  text : (so_far : List ℕ) → (state : StringState) → Under

abbrev pub under_leaf : Leaf → Under
under_leaf (number_on place so_far) = number so_far
under_leaf (string_on place so_far state) = text so_far state
under_leaf (name_on place done np so_far state) = text so_far state
under_leaf _ = nothing

abbrev pub under_of : Broken → Under
under_of (begun marked s) = under_leaf s.leaf
under_of _ = nothing

-- the second is under way after the byte, where the first was before it
abbrev pub ComesFrom : Under → ℕ → Under → Type 0
ComesFrom before b nothing = Unit {0}
ComesFrom nothing b (number so_far) = (so_far ≡ b ∷ []) × BeginsNumber so_far
ComesFrom nothing b (text so_far state) = (so_far ≡ []) × (state ≡ Plain)
ComesFrom (number before) b (number so_far) = (so_far ≡ before ++ b ∷ []) × BeginsNumber so_far
ComesFrom (number before) b (text so_far state) = ⊥
ComesFrom (text before old) b (text so_far state) = (more : List ℕ) × (so_far ≡ before ++ more) × (string_next old b ≡ string_goes more state)
ComesFrom (text before old) b (number so_far) = ⊥

-- what the reader keeps of it
abbrev pub Keeps : Under → Literal → Content → Type 0
Keeps nothing literal content = Unit {0}
Keeps (number so_far) literal content = LiteralStandsFor literal so_far
Keeps (text so_far state) literal content = Holds content so_far

-- the byte does this to the number under way
abbrev pub Turns : Under → ℕ → NumberTurn → Type 0
Turns (number so_far) b turn = turn ≡ turn_of (begins_number (so_far ++ b ∷ [])) (is_number so_far)
Turns _ b turn = Unit {0}

-- the number under way has this value, where it has ended
abbrev pub HasValue : Under → NumberTurn → Option Exact → Type 0
HasValue (number so_far) turn value = turn ≡ NumberTurn.Ends → value ≡ value_of so_far
HasValue _ turn value = Unit {0}

-- these say which name or type the string under way is
abbrev pub HasWords : Under → Words → Type 0
HasWords (text so_far state) words = words ≡ words_of so_far
HasWords _ words = Unit {0}

-- ---- what a byte does, from the literal and the content alone

-- to a literal of these bytes
abbrev pub TurnSays : NumberTurn → List ℕ → ℕ → Type 0
TurnSays NumberTurn.Goes bytes b = BeginsNumber (bytes ++ b ∷ [])
TurnSays NumberTurn.Ends bytes b = (BeginsNumber (bytes ++ b ∷ []) → ⊥) × IsNumber bytes
TurnSays NumberTurn.Refuses bytes b = (BeginsNumber (bytes ++ b ∷ []) → ⊥) × (IsNumber bytes → ⊥)

-- what a byte does to the number under way, and which value that has
pub record LiteralSays (reader : Reader) (b : ℕ) (turn : NumberTurn) (value : Option Exact) : Type 0 where
  pub turns : (bytes : List ℕ) → in_number reader.mode ≡ true → LiteralStandsFor reader.literal bytes → TurnSays turn bytes b
  pub values : turn ≡ NumberTurn.Ends → (bytes : List ℕ) → in_number reader.mode ≡ true → LiteralStandsFor reader.literal bytes → IsNumber bytes
      → value ≡ value_of bytes

-- what a byte leaves of the literal
pub record LiteralGoes (old new : Reader) (b : ℕ) (turn : NumberTurn) : Type 0 where
  pub goes : turn ≡ NumberTurn.Goes → (bytes : List ℕ) → in_number old.mode ≡ true → in_number new.mode ≡ true → LiteralStandsFor old.literal bytes
      → LiteralStandsFor new.literal (bytes ++ b ∷ [])
  pub begins : in_number old.mode ≡ false → text_state old.mode ≡ None → in_number new.mode ≡ true → BeginsNumber (b ∷ [])
      → LiteralStandsFor new.literal (b ∷ [])

-- what a byte leaves of the content
pub record ContentGoes (old new : Reader) (b : ℕ) : Type 0 where
  pub goes : (state next : StringState) (more so_far : List ℕ) → text_state old.mode ≡ Some state → string_next state b ≡ string_goes more next
      → Holds old.content so_far → Holds new.content (so_far ++ more)
  pub begins : (state : StringState) → in_number old.mode ≡ false → text_state old.mode ≡ None → text_state new.mode ≡ Some state → Holds new.content []
