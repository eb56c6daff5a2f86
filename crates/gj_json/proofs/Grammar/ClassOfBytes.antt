-- Which class of bytes a byte is of.
use Rattle.gj_json.proofs.Common.{BeginsNumber, Bool, Class, False, Means, Null, True, arith, close_brace, close_bracket, eqb_tells, false}
use Rattle.gj_json.proofs.Common.{if◌then◌else◌, inl, inr, mark_first, nat_le, nat_tests, open_brace, open_bracket, refl, space, true, ℕ, [], ◌&&◌}
use Rattle.gj_json.proofs.Common.{◌==◌, ◌∷◌, ◌≡◌, ◌⊎◌}
use Rattle.gj_json.specs.Bytes.{carriage_return, colon as colon_byte, comma as comma_byte, line_feed, minus_sign, nine_digit}
use Rattle.gj_json.specs.Bytes.{quote as quote_byte, tab, zero_digit as zero_byte}
use Rattle.gj_json.specs.Internal.NamedBytes.{letter_f, letter_n, letter_t}
use Rattle.gj_json.specs.Bytes.{IsDigit}
use Rattle.gj_number.specs.Bytes.{IsNumberByte, plus_sign, decimal_point, lower_e, upper_e}
use Rattle.gj_number.proofs.Grammar.DecidedNumbers.{first}
use Rattle.gj_json.specs.declared.class.Class.TheVariants.{White as white, OpenArray as open_array, CloseArray as close_array, OpenObject as open_object}
use Rattle.gj_json.specs.declared.class.Class.TheVariants.{CloseObject as close_object, Comma as comma, Colon as colon, Quote as quote}
use Rattle.gj_json.specs.declared.class.Class.TheVariants.{NumberStart as number_start, Letter as letter, Other as other}
use Rattle.gj_json.specs.Internal.ByteClasses.{class_of}

pick : (b k : ℕ) (c d : Class) → (b ≡ k → Means c b) → Means d b → Means (if b == k then c else d) b
pick b k c d met unmet = elim (eqb_tells b k) [ inl h ↦ rw h.0 (met h.1) | inr h ↦ rw h.0 unmet ]

range : (b : ℕ) (d : Class) → Means d b → Means (if nat_le zero_byte b && nat_le b nine_digit then number_start else d) b
range b d unmet = go (nat_le zero_byte b && nat_le b nine_digit) refl
  where
    go : (t : Bool) → (nat_le zero_byte b && nat_le b nine_digit) ≡ t → Means (if t then number_start else d) b
    go true e = inr (grind (arith, nat_tests), grind (arith, nat_tests))
    go false e = unmet

pub means : (b : ℕ) → Means (class_of b) b
unfolding class_of
means b =
    range b _ (pick b space white _ (λ e. inl e)
    (pick b tab white _ (λ e. inr (inl e)) (pick b line_feed white _ (λ e. inr (inr (inl e))) (pick b carriage_return white _ (λ e. inr (inr (inr e)))
    (pick b open_bracket open_array _ (λ e. e)
    (pick b close_bracket close_array _ (λ e. e) (pick b open_brace open_object _ (λ e. e) (pick b close_brace close_object _ (λ e. e)
    (pick b comma_byte comma _ (λ e. e) (pick b colon_byte colon _ (λ e. e) (pick b quote_byte quote _ (λ e. e) (pick b minus_sign number_start _ (λ e. inl e)
    (pick b letter_n (letter Null) _ (λ e. e) (pick b letter_t (letter True) _ (λ e. e) (pick b letter_f (letter False) other (λ e. e) tt)))))))))))))))

at : (b k : ℕ) (c : Class) → class_of k ≡ c → b ≡ k → class_of b ≡ c
at b k c e h = rw h e

class-digit : (b : ℕ) → IsDigit b → class_of b ≡ number_start
unfolding class_of
class-digit b h = let e : (nat_le zero_byte b && nat_le b nine_digit) ≡ true = grind (arith, nat_tests) in rw e refl

-- a class that is named is the class of each byte that it means
pub class_is : (c : Class) (b : ℕ) → Means c b → (c ≡ other → ⊥) → class_of b ≡ c
unfolding class_of
class_is white b h n =
    elim h [
      | inl e ↦ at b space white refl e
      | inr g ↦ elim g
          [ inl e ↦ at b tab white refl e | inr f ↦ elim f [ inl e ↦ at b line_feed white refl e | inr e ↦ at b carriage_return white refl e ] ]
    ]
class_is open_array b h n = at b open_bracket open_array refl h
class_is close_array b h n = at b close_bracket close_array refl h
class_is open_object b h n = at b open_brace open_object refl h
class_is close_object b h n = at b close_brace close_object refl h
class_is comma b h n = at b comma_byte comma refl h
class_is colon b h n = at b colon_byte colon refl h
class_is quote b h n = at b quote_byte quote refl h
class_is number_start b h n = elim h [ inl e ↦ at b minus_sign number_start refl e | inr d ↦ class-digit b d ]
class_is (letter Null) b h n = at b letter_n (letter Null) refl h
class_is (letter True) b h n = at b letter_t (letter True) refl h
class_is (letter False) b h n = at b letter_f (letter False) refl h
class_is other b h n = absurd (n refl)

pub number_starts : (b : ℕ) → class_of b ≡ number_start → BeginsNumber (b ∷ [])
number_starts b e = (first b).1 (rw e at (means b))

pub starts_number : (b : ℕ) → BeginsNumber (b ∷ []) → class_of b ≡ number_start
starts_number b h = class_is number_start b ((first b).0 h) (λ n. cc)

-- a byte that some number has is of one of two classes
pub number_classes : (b : ℕ) → IsNumberByte b → (class_of b ≡ number_start) ⊎ (class_of b ≡ other)
unfolding class_of
number_classes b h = elim h [
  | inl d ↦ inl (class-digit b d)
  | inr (inl e) ↦ inl (at b minus_sign number_start refl e)
  | inr (inr (inl e)) ↦ inr (at b plus_sign other refl e)
  | inr (inr (inr (inl e))) ↦ inr (at b decimal_point other refl e)
  | inr (inr (inr (inr (inl e)))) ↦ inr (at b lower_e other refl e)
  | inr (inr (inr (inr (inr e)))) ↦ inr (at b upper_e other refl e)
]

-- the first byte of a mark is of none of the classes that are named
pub class_mark : (b : ℕ) → b ≡ mark_first → class_of b ≡ other
unfolding class_of
class_mark b e = rw e refl
