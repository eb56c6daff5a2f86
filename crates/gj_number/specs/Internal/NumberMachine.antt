-- How a number is read byte by byte. `StandsFor` is stated by it, and no caller rests on it.
use Rattle.std.specs.Prelude.{◌≡◌, ℕ, ◌+◌, Bool, true, false, ◌&&◌, ◌==◌, nat_lt, nat_le, if◌then◌else◌, Option, Some, None, List, [], ◌∷◌}
use Rattle.gj_number.specs.Bytes.{minus_sign, plus_sign, decimal_point, lower_e, upper_e, zero_digit, nine_digit, IsFirstDigit, IsExponentLetter}
use Rattle.gj_number.specs.Value.{with_digit}
use Rattle.gj_number.specs.declared.state.State.{State}
use Rattle.gj_number.specs.declared.state.State.TheVariants.{Start, AfterMinus, AfterZero, InNatural, AfterPoint, InFraction, AfterLetter, AfterSign}
use Rattle.gj_number.specs.declared.state.State.TheVariants.{InExponent}
use Rattle.gj_number.specs.declared.state.Class.{Class}
use Rattle.gj_number.specs.declared.state.Class.TheVariants.{Minus, Plus, Point, Letter, Zero, NonZero, Other}

-- ---- classes of bytes

unfoldable pub class_of : ℕ → Class
class_of b =
    if nat_lt zero_digit b && nat_le b nine_digit then NonZero else
    if b == zero_digit then Zero else
    if b == minus_sign then Minus else
    if b == plus_sign then Plus else
    if b == decimal_point then Point else
    if b == lower_e then Letter else
    if b == upper_e then Letter else Other

-- what a class says of its bytes
abbrev pub Means : Class → ℕ → Type 0
Means Minus b = b ≡ minus_sign
Means Plus b = b ≡ plus_sign
Means Point b = b ≡ decimal_point
Means Letter b = IsExponentLetter b
Means Zero b = b ≡ zero_digit
Means NonZero b = IsFirstDigit b
Means Other b = Unit {0}

-- ---- states

-- the state after a byte of this class, if one may stand there
abbrev pub next_of : State → Class → Option State
next_of Start Minus = Some AfterMinus
next_of Start Zero = Some AfterZero
next_of Start NonZero = Some InNatural
next_of AfterMinus Zero = Some AfterZero
next_of AfterMinus NonZero = Some InNatural
next_of AfterZero Point = Some AfterPoint
next_of AfterZero Letter = Some AfterLetter
next_of InNatural Zero = Some InNatural
next_of InNatural NonZero = Some InNatural
next_of InNatural Point = Some AfterPoint
next_of InNatural Letter = Some AfterLetter
next_of AfterPoint Zero = Some InFraction
next_of AfterPoint NonZero = Some InFraction
next_of InFraction Zero = Some InFraction
next_of InFraction NonZero = Some InFraction
next_of InFraction Letter = Some AfterLetter
next_of AfterLetter Minus = Some AfterSign
next_of AfterLetter Plus = Some AfterSign
next_of AfterLetter Zero = Some InExponent
next_of AfterLetter NonZero = Some InExponent
next_of AfterSign Zero = Some InExponent
next_of AfterSign NonZero = Some InExponent
next_of InExponent Zero = Some InExponent
next_of InExponent NonZero = Some InExponent
next_of _ _ = None

-- a number may end here
abbrev pub may_end_in : State → Bool
may_end_in AfterZero = true
may_end_in InNatural = true
may_end_in InFraction = true
may_end_in InExponent = true
may_end_in _ = false

-- the state after some bytes, if each of them may stand where it does
abbrev pub state_after : Option State → List ℕ → Option State
state_after state [] = state
state_after None (b ∷ bytes) = None
state_after (Some state) (b ∷ bytes) = state_after (next_of state (class_of b)) bytes

-- no digit after the point has come here
abbrev pub is_before_fraction : State → Bool
is_before_fraction Start = true
is_before_fraction AfterMinus = true
is_before_fraction AfterZero = true
is_before_fraction InNatural = true
is_before_fraction AfterPoint = true
is_before_fraction _ = false

-- ---- what has been read

-- a literal so far: the number that its digits spell, how many of them stand after the point, and its exponent
pub record Scan : Type 0 where
  pub state : State
  pub negative : Bool
  pub whole : ℕ
  pub fraction : ℕ
  pub exponent_negative : Bool
  pub exponent : ℕ

abbrev pub start : Scan
start = record { state = Start; negative = false; whole = 0; fraction = 0; exponent_negative = false; exponent = 0 }

-- as above, with the byte that leads to this state
abbrev pub taken : State → ℕ → Scan → Scan
taken AfterMinus b t = record t { state = AfterMinus; negative = true }
taken InNatural b t = record t { state = InNatural; whole = with_digit t.whole b }
taken InFraction b t = record t { state = InFraction; whole = with_digit t.whole b; fraction = t.fraction + 1 }
taken AfterSign b t = record t { state = AfterSign; exponent_negative = b == minus_sign }
taken InExponent b t = record t { state = InExponent; exponent = with_digit t.exponent b }
taken state b t = record t { state = state }

-- the bytes lead from one scan to another
abbrev pub Reaches : Scan → List ℕ → Scan → Type 0
Reaches s [] t = s ≡ t
Reaches s (b ∷ bytes) t = (state : State) × (next_of s.state (class_of b) ≡ Some state) × Reaches (taken state b s) bytes t
