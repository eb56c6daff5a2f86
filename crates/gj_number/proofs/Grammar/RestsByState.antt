-- What bytes that lead to a number's end are, by the state from which they lead there.
use Rattle.gj_number.proofs.Common.{AfterLetter, AfterMinus, AfterPoint, AfterSign, AfterZero, AllByRecursion, Class, InExponent, InFraction}
use Rattle.gj_number.proofs.Common.{InNatural, IsDigit, IsDigits, IsExponentLetter, IsFirstDigit, IsFraction, IsNumber, Letter, List, Means, Minus}
use Rattle.gj_number.proofs.Common.{NonZero, Plus, Point, Reaches, Scan, Some, Start, State, Zero, ap, arith, inl, inr, may_end_in, next_of, refl}
use Rattle.gj_number.proofs.Common.{subst, taken, true, zero_digit, ℕ, [], ◌++◌, ◌∷◌, ◌≡◌}
use Rattle.gj_number.specs.Grammar.{IsSign, IsExponent, IsUnsigned}
use Rattle.gj_number.specs.Internal.NumberMachine.{class_of}
use Rattle.gj_number.proofs.Grammar.ByteClasses.{means}
use Rattle.gj_number.proofs.Grammar.ScanPaths.{state-taken}

abbrev pub Rest : State → List ℕ → Type 0
Rest Start bytes = IsNumber bytes
Rest AfterMinus bytes = IsUnsigned bytes
Rest AfterZero bytes = (fraction : List ℕ) × (exponent : List ℕ) × (bytes ≡ fraction ++ exponent) × IsFraction fraction × IsExponent exponent
Rest InNatural bytes = (digits : List ℕ) × (fraction : List ℕ) × (exponent : List ℕ) × (bytes ≡ digits ++ (fraction ++ exponent))
    × AllByRecursion IsDigit digits × IsFraction fraction × IsExponent exponent
Rest AfterPoint bytes = (digits : List ℕ) × (exponent : List ℕ) × (bytes ≡ digits ++ exponent) × IsDigits digits × IsExponent exponent
Rest InFraction bytes = (digits : List ℕ) × (exponent : List ℕ) × (bytes ≡ digits ++ exponent) × AllByRecursion IsDigit digits × IsExponent exponent
Rest AfterLetter bytes = (sign : List ℕ) × (digits : List ℕ) × (bytes ≡ sign ++ digits) × IsSign sign × IsDigits digits
Rest AfterSign bytes = IsDigits bytes
Rest InExponent bytes = AllByRecursion IsDigit bytes

none_more : (s : State) → may_end_in s ≡ true → Rest s []
none_more AfterZero e = ([], [], refl, inl refl, inl refl)
none_more InNatural e = ([], [], [], refl, tt, inl refl, inl refl)
none_more InFraction e = ([], [], refl, tt, inl refl)
none_more InExponent e = tt
none_more _ e = cc

as_state : (bytes : List ℕ) (s next : State) → Some s ≡ Some next → Rest next bytes → Rest s bytes
as_state bytes s next e h = let f : next ≡ s = cc in let P : State → Type 0 = λ x. Rest x bytes in subst P f h

zero_is : (b : ℕ) → b ≡ zero_digit → IsDigit b
zero_is b m = (omega arith, omega arith)

first_is : (b : ℕ) → IsFirstDigit b → IsDigit b
first_is b m = (omega arith, omega arith)

-- ---- one byte more at the start

unsigned_zero : (b : ℕ) (bytes : List ℕ) → b ≡ zero_digit → Rest AfterZero bytes → IsUnsigned (b ∷ bytes)
unsigned_zero b bytes m k = (b ∷ [], k.0, k.1, ap (λ xs. b ∷ xs) k.2, inl (m, refl), k.3, k.4)

unsigned_digit : (b : ℕ) (bytes : List ℕ) → IsFirstDigit b → Rest InNatural bytes → IsUnsigned (b ∷ bytes)
unsigned_digit b bytes m k = (b ∷ k.0, k.1, k.2, ap (λ xs. b ∷ xs) k.3, inr (m, k.4), k.5, k.6)

more_digits : (b : ℕ) (bytes : List ℕ) → IsDigit b → Rest InNatural bytes → Rest InNatural (b ∷ bytes)
more_digits b bytes d k = (b ∷ k.0, k.1, k.2, ap (λ xs. b ∷ xs) k.3, (d, k.4), k.5, k.6)

more_fraction : (b : ℕ) (bytes : List ℕ) → IsDigit b → Rest InFraction bytes → Rest InFraction (b ∷ bytes)
more_fraction b bytes d k = (b ∷ k.0, k.1, ap (λ xs. b ∷ xs) k.2, (d, k.3), k.4)

first_fraction : (b : ℕ) (bytes : List ℕ) → IsDigit b → Rest InFraction bytes → Rest AfterPoint (b ∷ bytes)
first_fraction b bytes d k = (b ∷ k.0, k.1, ap (λ xs. b ∷ xs) k.2, (d, k.3), k.4)

exponent_on : (b : ℕ) (bytes : List ℕ) → IsExponentLetter b → Rest AfterLetter bytes → IsExponent (b ∷ bytes)
exponent_on b bytes m k = inr (b, k.0, k.1, ap (λ xs. b ∷ xs) k.2, m, k.3, k.4)

one_more : (s : State) (c : Class) (b : ℕ) (bytes : List ℕ) (next : State) → Means c b → next_of s c ≡ Some next → Rest next bytes → Rest s (b ∷ bytes)
one_more Start Minus b bytes next m e h = inr (bytes, ap (λ x. x ∷ bytes) m, as_state bytes AfterMinus next e h)
one_more Start Zero b bytes next m e h = inl (unsigned_zero b bytes m (as_state bytes AfterZero next e h))
one_more Start NonZero b bytes next m e h = inl (unsigned_digit b bytes m (as_state bytes InNatural next e h))
one_more AfterMinus Zero b bytes next m e h = unsigned_zero b bytes m (as_state bytes AfterZero next e h)
one_more AfterMinus NonZero b bytes next m e h = unsigned_digit b bytes m (as_state bytes InNatural next e h)
one_more AfterZero Point b bytes next m e h =
    let k = as_state bytes AfterPoint next e h in (b ∷ k.0, k.1, ap (λ xs. b ∷ xs) k.2, inr (k.0, ap (λ x. x ∷ k.0) m, k.3), k.4)
one_more AfterZero Letter b bytes next m e h = ([], b ∷ bytes, refl, inl refl, exponent_on b bytes m (as_state bytes AfterLetter next e h))
one_more InNatural Zero b bytes next m e h = more_digits b bytes (zero_is b m) (as_state bytes InNatural next e h)
one_more InNatural NonZero b bytes next m e h = more_digits b bytes (first_is b m) (as_state bytes InNatural next e h)
one_more InNatural Point b bytes next m e h =
    let k = as_state bytes AfterPoint next e h in ([], b ∷ k.0, k.1, ap (λ xs. b ∷ xs) k.2, tt, inr (k.0, ap (λ x. x ∷ k.0) m, k.3), k.4)
one_more InNatural Letter b bytes next m e h = ([], [], b ∷ bytes, refl, tt, inl refl, exponent_on b bytes m (as_state bytes AfterLetter next e h))
one_more AfterPoint Zero b bytes next m e h = first_fraction b bytes (zero_is b m) (as_state bytes InFraction next e h)
one_more AfterPoint NonZero b bytes next m e h = first_fraction b bytes (first_is b m) (as_state bytes InFraction next e h)
one_more InFraction Zero b bytes next m e h = more_fraction b bytes (zero_is b m) (as_state bytes InFraction next e h)
one_more InFraction NonZero b bytes next m e h = more_fraction b bytes (first_is b m) (as_state bytes InFraction next e h)
one_more InFraction Letter b bytes next m e h = ([], b ∷ bytes, refl, tt, exponent_on b bytes m (as_state bytes AfterLetter next e h))
one_more AfterLetter Minus b bytes next m e h = (b ∷ [], bytes, refl, inr (inr (ap (λ x. x ∷ []) m)), as_state bytes AfterSign next e h)
one_more AfterLetter Plus b bytes next m e h = (b ∷ [], bytes, refl, inr (inl (ap (λ x. x ∷ []) m)), as_state bytes AfterSign next e h)
one_more AfterLetter Zero b bytes next m e h = ([], b ∷ bytes, refl, inl refl, (zero_is b m, as_state bytes InExponent next e h))
one_more AfterLetter NonZero b bytes next m e h = ([], b ∷ bytes, refl, inl refl, (first_is b m, as_state bytes InExponent next e h))
one_more AfterSign Zero b bytes next m e h = (zero_is b m, as_state bytes InExponent next e h)
one_more AfterSign NonZero b bytes next m e h = (first_is b m, as_state bytes InExponent next e h)
one_more InExponent Zero b bytes next m e h = (zero_is b m, as_state bytes InExponent next e h)
one_more InExponent NonZero b bytes next m e h = (first_is b m, as_state bytes InExponent next e h)
one_more _ _ b bytes next m e h = cc

pub rest_is : (bytes : List ℕ) (s t : Scan) → Reaches s bytes t → may_end_in t.state ≡ true → Rest s.state bytes
rest_is [] s t h m = none_more s.state (rw h m)
rest_is (b ∷ bytes) s t h m =
    let P : State → Type 0 = λ x. Rest x bytes in
    one_more s.state (class_of b) b bytes h.0 (means b) h.1 (subst P (state-taken h.0 b s) (rest_is bytes (taken h.0 b s) t h.2 m))
