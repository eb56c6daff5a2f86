-- The bytes that complete nothing and open or close nothing.
use Rattle.std.specs.Prelude.{◌≡◌, ◌⊎◌, ℕ, ◌==◌, ◌&&◌, ◌||◌, Bool, true, false, not, nat_le, List, [], ◌∷◌, ◌++◌, Option}
use Rattle.gj_json.specs.Bytes.{space, tab, line_feed, carriage_return, quote, backslash}
use Rattle.gj_json.specs.declared.levels.Level.{Level}
use Rattle.gj_json.specs.declared.mode.Mode.{Mode}
use Rattle.gj_json.specs.declared.mode.Mode.TheVariants.{ValueDue, ValueDone, ArrayOpened, ObjectOpened, StringOn, NameDue, NameOn, ColonDue}
use Rattle.gj_json.specs.declared.mode.Ending.TheVariants.{Nothing}
use Rattle.gj_json.specs.declared.mode.Move.TheVariants.{Go}
use Rattle.gj_json.specs.declared.mode.StringState.{StringState}
use Rattle.gj_json.specs.declared.mode.StringState.TheVariants.{Plain}
use Rattle.gj_json.specs.Internal.TextMachine.{string_next, string_ends, string_goes, string_refuses}
use Rattle.gj_json.specs.Internal.Transitions.{move_of}
use Rattle.gj_json.specs.Internal.ContentWords.{Words}
use Rattle.gj_json.specs.Internal.ToldEvents.{is_on, NumberTurn}

-- the byte leads from one mode to another, completes nothing, and what is under way goes on
pub record LeadsBy (mode : Mode) (b : ℕ) (next : Mode) : Type 0 where
  pub moves : (turn : NumberTurn) (inner : Option Level) (words : Words) → move_of mode turn inner words b ≡ Go next Nothing
  pub on : is_on mode ≡ is_on next

abbrev pub IsQuiet : Mode → ℕ → Type 0
IsQuiet mode b = LeadsBy mode b mode

abbrev pub is_unescaped_ascii : ℕ → Bool
is_unescaped_ascii b = nat_le space b && nat_le b 0x7F && not (b == quote) && not (b == backslash)

abbrev pub is_white : ℕ → Bool
is_white b = b == space || b == tab || b == line_feed || b == carriage_return

-- a token may begin, and nothing is under way: white space stands there freely
abbrev pub awaits_token : Mode → Bool
awaits_token ValueDue = true
awaits_token ValueDone = true
awaits_token ArrayOpened = true
awaits_token ObjectOpened = true
awaits_token NameDue = true
awaits_token ColonDue = true
awaits_token _ = false

-- the byte ends a string in this state, or may not stand there
abbrev pub StopsString : StringState → ℕ → Type 0
StopsString state b = (string_next state b ≡ string_ends) ⊎ (string_next state b ≡ string_refuses)

-- a string or a name is open, and no character is under way in it
abbrev pub is_between : Mode → Bool
is_between (StringOn Plain) = true
is_between (NameOn Plain) = true
is_between _ = false

-- and so do these bytes
abbrev pub Leads : Mode → List ℕ → Mode → Type 0
Leads mode [] last = mode ≡ last
Leads mode (b ∷ bytes) last = (next : Mode) × LeadsBy mode b next × Leads next bytes last

-- the bytes lead from one state of a string to another, and these characters end in them
abbrev pub Reads : StringState → List ℕ → List ℕ → StringState → Type 0
Reads state [] characters last = (state ≡ last) × (characters ≡ [])
Reads state (b ∷ bytes) characters last =
    (next : StringState) × (more : List ℕ) × (later : List ℕ) × (string_next state b ≡ string_goes more next) × (characters ≡ more ++ later)
    × Reads next bytes later last
