-- What the state that a byte leads to says of the byte and of the state before it.
use Rattle.gj_number.proofs.Common.{AfterLetter, AfterMinus, AfterPoint, AfterSign, AfterZero, Bool, Class, InExponent, InFraction, InNatural}
use Rattle.gj_number.proofs.Common.{IsDigit, Means, NonZero, None, Option, Other, Some, Start, State, Zero, arith, false, next_of, not, refl, true, ℕ}
use Rattle.gj_number.proofs.Common.{◌||◌, ◌≡◌}
use Rattle.gj_number.specs.Internal.NumberMachine.{class_of, is_before_fraction}
use Rattle.gj_number.proofs.Grammar.ByteClasses.{means}

-- a digit leads here, and nothing else does
abbrev pub takes_digit : State → Bool
takes_digit InNatural = true
takes_digit InFraction = true
takes_digit InExponent = true
takes_digit _ = false

abbrev is_digit_class : Class → Bool
is_digit_class Zero = true
is_digit_class NonZero = true
is_digit_class _ = false

-- a digit alone leads to a state that takes one
abbrev digits_alone : Class → Option State → Bool
digits_alone c None = true
digits_alone c (Some n) = not (takes_digit n) || is_digit_class c

digits_alone_next : (s : State) (c : Class) → digits_alone c (next_of s c) ≡ true
digits_alone_next Start Other = refl
digits_alone_next AfterMinus Other = refl
digits_alone_next AfterZero Other = refl
digits_alone_next InNatural Other = refl
digits_alone_next AfterPoint Other = refl
digits_alone_next InFraction Other = refl
digits_alone_next AfterLetter Other = refl
digits_alone_next AfterSign Other = refl
digits_alone_next InExponent Other = refl
digits_alone_next _ _ = refl

digit_means : (c : Class) (b : ℕ) → is_digit_class c ≡ true → Means c b → IsDigit b
digit_means Zero b e m = (omega arith, omega arith)
digit_means NonZero b e m = (omega arith, omega arith)
digit_means _ b e m = cc

pub digit_into : (s n : State) (b : ℕ) → takes_digit n ≡ true → next_of s (class_of b) ≡ Some n → IsDigit b
digit_into s n b t e =
    let d : (not (takes_digit n) || is_digit_class (class_of b)) ≡ true = rw e at (digits_alone_next s (class_of b)) in
    digit_means (class_of b) b (rw t at d) (means b)

-- a state before the fraction is reached from such a state alone
abbrev stays_before : State → Option State → Bool
stays_before s None = true
stays_before s (Some n) = not (is_before_fraction n) || is_before_fraction s

stays_before_next : (s : State) (c : Class) → stays_before s (next_of s c) ≡ true
stays_before_next Start Other = refl
stays_before_next AfterMinus Other = refl
stays_before_next AfterZero Other = refl
stays_before_next InNatural Other = refl
stays_before_next AfterPoint Other = refl
stays_before_next InFraction Other = refl
stays_before_next AfterLetter Other = refl
stays_before_next AfterSign Other = refl
stays_before_next InExponent Other = refl
stays_before_next _ _ = refl

pub before_fraction_from : (s n : State) (c : Class) → next_of s c ≡ Some n → is_before_fraction n ≡ true → is_before_fraction s ≡ true
before_fraction_from s n c e t =
    let d : (not (is_before_fraction n) || is_before_fraction s) ≡ true = rw e at (stays_before_next s c) in rw t at d

-- no state follows on a byte that no number has
pub other_ends : (s : State) → next_of s Other ≡ None
other_ends Start = refl
other_ends other = refl
