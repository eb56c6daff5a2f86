-- The class of a byte.
use Rattle.gj_number.proofs.Common.{Bool, Class, IsDigit, IsFirstDigit, IsNumberByte, Letter, Means, Minus, NonZero, Other, Plus, Point, Some, State}
use Rattle.gj_number.proofs.Common.{Zero, arith, decimal_point, eqb_tells, false, if◌then◌else◌, inl, inr, minus_sign, nat_tests, next_of, plus_sign}
use Rattle.gj_number.proofs.Common.{refl, true, zero_digit, ℕ, ◌==◌, ◌≡◌, ◌⊎◌}
use Rattle.std.proofs.Common.{◌&&◌, nat_le, nat_lt}
use Rattle.gj_number.specs.Bytes.{lower_e, upper_e, nine_digit}
use Rattle.gj_number.specs.Internal.NumberMachine.{class_of}

pick : (b k : ℕ) (c d : Class) → (b ≡ k → Means c b) → Means d b → Means (if b == k then c else d) b
pick b k c d met unmet = elim (eqb_tells b k) [ inl h ↦ rw h.0 (met h.1) | inr h ↦ rw h.0 unmet ]

range : (b : ℕ) (d : Class) → Means d b → Means (if nat_lt zero_digit b && nat_le b nine_digit then NonZero else d) b
range b d unmet = go (nat_lt zero_digit b && nat_le b nine_digit) refl
  where
    go : (t : Bool) → (nat_lt zero_digit b && nat_le b nine_digit) ≡ t → Means (if t then NonZero else d) b
    go true e = (grind (arith, nat_tests), grind (arith, nat_tests))
    go false e = unmet

-- a byte is what its class says
pub means : (b : ℕ) → Means (class_of b) b
unfolding class_of
means b =
    range b _ (pick b zero_digit Zero _ (λ e. e) (pick b minus_sign Minus _ (λ e. e) (pick b plus_sign Plus _ (λ e. e)
    (pick b decimal_point Point _ (λ e. e) (pick b lower_e Letter _ (λ e. inl e) (pick b upper_e Letter Other (λ e. inr e) tt))))))

at : (b k : ℕ) (c : Class) → class_of k ≡ c → b ≡ k → class_of b ≡ c
at b k c e h = rw h e

first_class : (b : ℕ) → IsFirstDigit b → class_of b ≡ NonZero
unfolding class_of
first_class b h = let e : (nat_lt zero_digit b && nat_le b nine_digit) ≡ true = grind (arith, nat_tests) in rw e refl

-- a class that is named is the class of each byte that it means
pub class_is : (c : Class) (b : ℕ) → Means c b → (c ≡ Other → ⊥) → class_of b ≡ c
unfolding class_of
class_is Minus b h n = at b minus_sign Minus refl h
class_is Plus b h n = at b plus_sign Plus refl h
class_is Point b h n = at b decimal_point Point refl h
class_is Letter b h n = elim h [ inl e ↦ at b lower_e Letter refl e | inr e ↦ at b upper_e Letter refl e ]
class_is Zero b h n = at b zero_digit Zero refl h
class_is NonZero b h n = first_class b h
class_is Other b h n = absurd (n refl)

-- a digit, in either class
pub digit_class : (b : ℕ) → IsDigit b → (class_of b ≡ Zero) ⊎ (class_of b ≡ NonZero)
digit_class b h = elim (eqb_tells b zero_digit) [
  | inl e ↦ inl (class_is Zero b e.1 (λ n. cc))
  | inr e ↦ inr (class_is NonZero b (omega arith, omega arith) (λ n. cc))
]

-- a digit leads where both classes of digits lead
pub digit_goes : (s t : State) (b : ℕ) → next_of s Zero ≡ Some t → next_of s NonZero ≡ Some t → IsDigit b → next_of s (class_of b) ≡ Some t
digit_goes s t b z f h = elim (digit_class b h) [ inl e ↦ rw e z | inr e ↦ rw e f ]

named : (c : Class) (b : ℕ) → Means c b → (c ≡ Other → ⊥) → IsNumberByte b
named Minus b h n = inr (inl h)
named Plus b h n = inr (inr (inl h))
named Point b h n = inr (inr (inr (inl h)))
named Letter b h n = inr (inr (inr (inr h)))
named Zero b h n = inl (omega arith, omega arith)
named NonZero b h n = let low = h.0 in inl (omega arith, h.1)
named Other b h n = absurd (n refl)

-- a byte of a class that is named is one that some number has
pub number_byte : (b : ℕ) → (class_of b ≡ Other → ⊥) → IsNumberByte b
number_byte b n = named (class_of b) b (means b) n
