-- Which bytes a value is spelled with, and where it ends.
use Rattle.gj_split.proofs.Common.{AllByRecursion, Constant, Elements, Exactly, False, IsWhite, List, Members, Null, Some, Spells, SpellsElements}
use Rattle.gj_split.proofs.Common.{SpellsMembers, SpellsMoreElements, SpellsMoreMembers, Then, Tree, True, White, all-append, ap, arith, array}
use Rattle.gj_split.proofs.Common.{close_bracket, constant, element, end_of, end_of_array, end_of_object, false, inl, inr, length, member, number}
use Rattle.gj_split.proofs.Common.{object, place_of, refl, separator, string, subst, sym, ℕ, [], ◌++◌, ◌+◌, ◌∙◌, ◌∷◌, ◌≡◌, ◌≤◌}
use Rattle.std.proofs.Common.{eqb}
use Rattle.std.proofs.lemmas.Bool.{cases_lt, eqb-false, le-ltb, lt-ltb}
use Rattle.std.proofs.lemmas.List.{length-append}
use lib.Utf8.{encode}
use Rattle.gj_number.specs.Bytes.{IsDigit, IsNumberByte}
use Rattle.gj_number.specs.Grammar.{IsNatural, IsDigits, IsFraction, IsSign, IsExponent, IsUnsigned, IsNumber}
use Rattle.gj_json.specs.Bytes.{open_bracket, open_brace, comma, colon, quote, close_brace}
use Rattle.gj_json.specs.Characters.{escape_of, hex_of, IsUtf8, SpellsCharacter, SpellsContent}
use Rattle.gj_json.specs.Grammar.{Closes, Quoted}
use Rattle.gj_json.specs.Grammar.{letters_of}

-- ---- lists

pub all-map : (P Q : ℕ → Type 0) → ((b : ℕ) → P b → Q b) → (xs : List ℕ) → AllByRecursion P xs → AllByRecursion Q xs
all-map P Q f [] h = tt
all-map P Q f (x ∷ xs) h = (f x h.0, all-map P Q f xs h.1)

-- ---- numbers

digits_all : (xs : List ℕ) → AllByRecursion IsDigit xs → AllByRecursion IsNumberByte xs
digits_all xs h = all-map IsDigit IsNumberByte (λ b d. inl d) xs h

natural_all : (xs : List ℕ) → IsNatural xs → AllByRecursion IsNumberByte xs
natural_all [] h = absurd h
natural_all (b ∷ bytes) (inl h) = (inl (omega (arith, h.0), omega (arith, h.0)), subst (AllByRecursion IsNumberByte) (sym h.1) tt)
natural_all (b ∷ bytes) (inr h) = (inl (omega (arith, h.0.0), h.0.1), digits_all bytes h.1)

some_digits_all : (xs : List ℕ) → IsDigits xs → AllByRecursion IsNumberByte xs
some_digits_all [] h = absurd h
some_digits_all (b ∷ bytes) h = (inl h.0, digits_all bytes h.1)

fraction_all : (xs : List ℕ) → IsFraction xs → AllByRecursion IsNumberByte xs
fraction_all xs (inl e) = subst (AllByRecursion IsNumberByte) (sym e) tt
fraction_all xs (inr h) = subst (AllByRecursion IsNumberByte) (sym h.1) (inr (inr (inr (inl refl))), some_digits_all h.0 h.2)

sign_all : (xs : List ℕ) → IsSign xs → AllByRecursion IsNumberByte xs
sign_all xs (inl e) = subst (AllByRecursion IsNumberByte) (sym e) tt
sign_all xs (inr (inl e)) = subst (AllByRecursion IsNumberByte) (sym e) (inr (inr (inl refl)), tt)
sign_all xs (inr (inr e)) = subst (AllByRecursion IsNumberByte) (sym e) (inr (inl refl), tt)

exponent_all : (xs : List ℕ) → IsExponent xs → AllByRecursion IsNumberByte xs
exponent_all xs (inl e) = subst (AllByRecursion IsNumberByte) (sym e) tt
exponent_all xs (inr h) =
    subst (AllByRecursion IsNumberByte) (sym h.3) (inr (inr (inr (inr h.4))), all-append IsNumberByte h.1 h.2 (sign_all h.1 h.5) (some_digits_all h.2 h.6))

unsigned_all : (xs : List ℕ) → IsUnsigned xs → AllByRecursion IsNumberByte xs
unsigned_all xs h = subst (AllByRecursion IsNumberByte) (sym h.3)
    (all-append IsNumberByte h.0 (h.1 ++ h.2) (natural_all h.0 h.4) (all-append IsNumberByte h.1 h.2 (fraction_all h.1 h.5) (exponent_all h.2 h.6)))

pub number_all : (xs : List ℕ) → IsNumber xs → AllByRecursion IsNumberByte xs
number_all xs (inl h) = unsigned_all xs h
number_all xs (inr h) = subst (AllByRecursion IsNumberByte) (sym h.1) (inr (inl refl), unsigned_all h.0 h.2)

-- ---- characters

abbrev pub IsHigh : ℕ → Type 0
IsHigh b = 0x80 ≤ b

pub high_all : (c : ℕ) (bytes : List ℕ) → IsUtf8 c bytes → AllByRecursion IsHigh bytes
unfolding encode
high_all c bytes h = subst (AllByRecursion IsHigh) (sym h.2) (by_size c h.1)
  where
    by_size : (c : ℕ) → 0x80 ≤ c → AllByRecursion IsHigh (encode c)
    by_size c l = elim (cases_lt c 2048) [
      | inl u ↦ rw (le-ltb c 128 l, lt-ltb c 2048 u) (omega arith, (omega arith, tt))
      | inr m ↦ elim (cases_lt c 65536) [
        | inl u ↦ rw (le-ltb c 128 l, le-ltb c 2048 m, lt-ltb c 65536 u) (omega arith, (omega arith, (omega arith, tt)))
        | inr n ↦ rw (le-ltb c 128 l, le-ltb c 2048 m, le-ltb c 65536 n) (omega arith, (omega arith, (omega arith, (omega arith, tt))))
      ]
    ]

-- ---- no byte of a text is a separator of records

abbrev pub InText : ℕ → Type 0
InText b = b ≡ separator → ⊥

abbrev pub AreInText : List ℕ → Type 0
AreInText bytes = AllByRecursion InText bytes

pub no_separator_byte : (b : ℕ) → eqb b separator ≡ false → InText b
no_separator_byte b e = eqb-false b separator e

escape_in : (e c : ℕ) → escape_of e ≡ Some c → InText e
unfolding escape_of
escape_in e c h f = let g : escape_of 30 ≡ Some c = subst (λ x. escape_of x ≡ Some c) f h in cc

hex_in : (b d : ℕ) → hex_of b ≡ Some d → InText b
unfolding hex_of
hex_in b d h f = let g : hex_of 30 ≡ Some d = subst (λ x. hex_of x ≡ Some d) f h in cc

character_in : (c : ℕ) (bytes : List ℕ) → SpellsCharacter c bytes → AreInText bytes
character_in c bytes (inl h) = subst AreInText (sym h.1) ((λ f. omega (arith, h.0.0, f)), tt)
character_in c bytes (inr (inl h)) = subst AreInText (sym h.1) ((no_separator_byte _ refl), (escape_in h.0 c h.2, tt))
character_in c bytes (inr (inr (inl h))) =
    subst AreInText (sym h.8) (
      (no_separator_byte _ refl),
      ((no_separator_byte _ refl), (hex_in h.0 h.4 h.9, (hex_in h.1 h.5 h.10, (hex_in h.2 h.6 h.11, (hex_in h.3 h.7 h.12, tt))))),
    )
character_in c bytes (inr (inr (inr h))) = all-map IsHigh InText (λ b l f. omega (arith, l, f)) bytes (high_all c bytes h)

content_in : (content bytes : List ℕ) → SpellsContent content bytes → AreInText bytes
content_in [] bytes h = subst AreInText (sym h) tt
content_in (c ∷ content) bytes h = subst AreInText (sym h.2) (all-append InText h.0 h.1 (character_in c h.0 h.3) (content_in content h.1 h.4))

number_in : (b : ℕ) → IsNumberByte b → InText b
number_in b (inl h) = λ f. omega (arith, h.0, f)
number_in b (inr (inl e)) = λ f. omega (arith, e, f)
number_in b (inr (inr (inl e))) = λ f. omega (arith, e, f)
number_in b (inr (inr (inr (inl e)))) = λ f. omega (arith, e, f)
number_in b (inr (inr (inr (inr (inl e))))) = λ f. omega (arith, e, f)
number_in b (inr (inr (inr (inr (inr e))))) = λ f. omega (arith, e, f)

pub white_in : (b : ℕ) → IsWhite b → InText b
white_in b (inl e) = λ f. omega (arith, e, f)
white_in b (inr (inl e)) = λ f. omega (arith, e, f)
white_in b (inr (inr (inl e))) = λ f. omega (arith, e, f)
white_in b (inr (inr (inr e))) = λ f. omega (arith, e, f)

-- ---- a value's bytes, and its end

-- they end there, and none of them is a separator
abbrev pub EndsAt : ℕ → ℕ → List ℕ → Type 0
EndsAt end n bytes = (end ≡ n + length bytes) × AreInText bytes

then_ends : {A B : ℕ → List ℕ → Type 0} (end n : ℕ) (bytes : List ℕ) → ((b : List ℕ) → A n b → AreInText b) → ((m : ℕ) (b : List ℕ) → B m b → EndsAt end m b)
    → Then A B n bytes → EndsAt end n bytes
then_ends {B = B} end n bytes f g h =
    let k = g (n + length h.first) h.rest h.after in
    let l : length bytes ≡ length h.first + length h.rest = ap length h.joined ∙ length-append h.first h.rest in
    (omega (arith, k.0, l), subst AreInText (sym h.joined) (all-append InText h.first h.rest (f h.first h.before) k.1))

white_ends : {B : ℕ → List ℕ → Type 0} (end n : ℕ) (bytes : List ℕ) → ((m : ℕ) (b : List ℕ) → B m b → EndsAt end m b) → Then White B n bytes
    → EndsAt end n bytes
white_ends {B} end n bytes g h = then_ends {A = White} {B = B} end n bytes (λ b w. all-map IsWhite InText white_in b w) g h

byte_ends : {B : ℕ → List ℕ → Type 0} (letter end n : ℕ) (bytes : List ℕ) → (letter ≡ separator → ⊥) → ((m : ℕ) (b : List ℕ) → B m b → EndsAt end m b)
    → Then (Exactly (letter ∷ [])) B n bytes → EndsAt end n bytes
byte_ends {B} letter end n bytes no_separator g h =
    then_ends {A = Exactly (letter ∷ [])} {B = B} end n bytes (λ b e. subst AreInText (sym e) (no_separator, tt)) g h

closes_ends : (letter close n : ℕ) (bytes : List ℕ) → (letter ≡ separator → ⊥) → Closes (letter ∷ []) close n bytes → EndsAt (close + 1) n bytes
closes_ends letter close n bytes no_separator h =
    let l : length bytes ≡ 1 = ap length h.0 in
    (omega (arith, h.1, l), subst AreInText (sym h.0) (no_separator, tt))

quoted_ends : (place : ℕ) (content : List ℕ) (end n : ℕ) (bytes : List ℕ) → Quoted place content end n bytes → EndsAt end n bytes
quoted_ends place content end n bytes h =
    byte_ends quote end n bytes (no_separator_byte _ refl)
    (λ m b. then_ends end m b (λ c x. content_in content c x) (λ p c. byte_ends quote end p c (no_separator_byte _ refl)
    (λ q d x. let l : length d ≡ 0 = ap length x.0 in (omega (arith, x.1, l), subst AreInText (sym x.0) tt)))) h.1

letters_in : (which : Constant) → AreInText (letters_of which)
letters_in Null = ((no_separator_byte _ refl), ((no_separator_byte _ refl), ((no_separator_byte _ refl), ((no_separator_byte _ refl), tt))))
letters_in True = ((no_separator_byte _ refl), ((no_separator_byte _ refl), ((no_separator_byte _ refl), ((no_separator_byte _ refl), tt))))
letters_in False = (
  (no_separator_byte _ refl),
  ((no_separator_byte _ refl), ((no_separator_byte _ refl), ((no_separator_byte _ refl), ((no_separator_byte _ refl), tt)))),
)

mutual
  pub value_ends : (v : Tree) (n : ℕ) (bytes : List ℕ) → Spells v n bytes → EndsAt (end_of v) n bytes
  value_ends (constant which place) n bytes h = (rw (h.0, h.1) refl, subst AreInText (sym h.1) (letters_in which))
  value_ends (number place literal end) n bytes h =
      then_ends end n bytes (λ b e. subst AreInText (sym e) (all-map IsNumberByte InText number_in literal (number_all literal h.1)))
      (λ m b x. let l : length b ≡ 0 = ap length x.0 in (omega (arith, x.1, l), subst AreInText (sym x.0) tt)) h.2
  value_ends (string place content end) n bytes h = quoted_ends place content end n bytes h
  value_ends (array place elements close) n bytes h =
      byte_ends open_bracket (close + 1) n bytes (no_separator_byte _ refl) (λ m b. white_ends (close + 1) m b (λ p c. elements_end elements close p c)) h.1
  value_ends (object place members close) n bytes h =
      byte_ends open_brace (close + 1) n bytes (no_separator_byte _ refl) (λ m b. white_ends (close + 1) m b (λ p c. members_end members close p c)) h.1

  elements_end : (es : Elements) (close n : ℕ) (bytes : List ℕ) → SpellsElements es close n bytes → EndsAt (close + 1) n bytes
  elements_end end_of_array close n bytes h = closes_ends close_bracket close n bytes (no_separator_byte _ refl) h
  elements_end (element value more) close n bytes h =
      then_ends (close + 1) n bytes (λ b x. (value_ends value n b x).1) (λ m b. white_ends (close + 1) m b (λ p c. more_elements_end more close p c)) h

  more_elements_end : (es : Elements) (close n : ℕ) (bytes : List ℕ) → SpellsMoreElements es close n bytes → EndsAt (close + 1) n bytes
  more_elements_end end_of_array close n bytes h = closes_ends close_bracket close n bytes (no_separator_byte _ refl) h
  more_elements_end (element value more) close n bytes h =
      byte_ends comma (close + 1) n bytes (no_separator_byte _ refl)
      (λ m b. white_ends (close + 1) m b (λ p c. then_ends (close + 1) p c (λ d x. (value_ends value p d x).1)
      (λ q d. white_ends (close + 1) q d (λ r e. more_elements_end more close r e)))) h

  members_end : (ms : Members) (close n : ℕ) (bytes : List ℕ) → SpellsMembers ms close n bytes → EndsAt (close + 1) n bytes
  members_end end_of_object close n bytes h = closes_ends close_brace close n bytes (no_separator_byte _ refl) h
  members_end (member place name end value more) close n bytes h =
      then_ends (close + 1) n bytes (λ b x. (quoted_ends place name end n b x).1)
      (λ m b. white_ends (close + 1) m b (λ p c. byte_ends colon (close + 1) p c (no_separator_byte _ refl)
      (λ q d. white_ends (close + 1) q d
      (λ r e. then_ends (close + 1) r e (λ y x. (value_ends value r y x).1) (λ s f. white_ends (close + 1) s f (λ t g. more_members_end more close t g))))))
      h

  more_members_end : (ms : Members) (close n : ℕ) (bytes : List ℕ) → SpellsMoreMembers ms close n bytes → EndsAt (close + 1) n bytes
  more_members_end end_of_object close n bytes h = closes_ends close_brace close n bytes (no_separator_byte _ refl) h
  more_members_end (member place name end value more) close n bytes h =
      byte_ends comma (close + 1) n bytes (no_separator_byte _ refl)
      (λ m b. white_ends (close + 1) m b (λ p c. then_ends (close + 1) p c (λ y x. (quoted_ends place name end p y x).1)
      (λ q d. white_ends (close + 1) q d
      (λ r e. byte_ends colon (close + 1) r e (no_separator_byte _ refl)
      (λ s f. white_ends (close + 1) s f (λ t g. then_ends (close + 1) t g (λ y x. (value_ends value t y x).1)
      (λ u i. white_ends (close + 1) u i (λ w j. more_members_end more close w j)))))))) h

-- and it begins at the first of them
pub value_begins : (v : Tree) (n : ℕ) (bytes : List ℕ) → Spells v n bytes → place_of v ≡ n
value_begins (constant which place) n bytes h = h.0
value_begins other n bytes h = h.0
