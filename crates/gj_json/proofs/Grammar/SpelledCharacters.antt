-- Bytes that are one character of a string.
use Rattle.gj_json.proofs.Common.{AreCharacters, List, None, Option, Plain, Some, arith, backslash, cases_lt, get_or, inl, inr, is_unescaped_ascii}
use Rattle.gj_json.proofs.Common.{length, letter_u, prefix_len, refl, subst, suc, sym, true, zero, ℕ, [], ◌%◌, ◌*◌, ◌+◌, ◌-◌, ◌<◌, ◌∷◌, ◌≡◌, ◌≢◌, ◌≤◌}
use Rattle.std.proofs.Common.{take}
use Rattle.std.proofs.Common.{is_some, append-nil}
use Rattle.std.proofs.lemmas.Bool.{cases_eq}
use Rattle.gj_json.specs.Characters.{escape_of, hex_of}
use Rattle.gj_json.specs.Internal.WholeTokens.{IsCharacter}
use Rattle.gj_json.proofs.Pieces.QuietModes
use Rattle.gj_json.proofs.Grammar.SpelledTexts.{content_on}
use Rattle.gj_json.proofs.Grammar.Utf8Characters.{as_read}
use Rattle.gj_json.proofs.Grammar.Utf8Tables.{IsWide, of_bytes, lead_two, lead_e0, lead_low, lead_ed, lead_high, lead_f0, lead_four, lead_f4}

-- ---- the first bytes of a piece

take_two : (xs : List ℕ) → 2 ≤ length xs → take 2 xs ≡ get_or xs 0 0 ∷ get_or xs 1 0 ∷ []
take_two [] h = absurd (omega arith)
take_two (a ∷ []) h = absurd (omega arith)
take_two (a ∷ b ∷ xs) h = refl

take_three : (xs : List ℕ) → 3 ≤ length xs → take 3 xs ≡ get_or xs 0 0 ∷ get_or xs 1 0 ∷ get_or xs 2 0 ∷ []
take_three [] h = absurd (omega arith)
take_three (a ∷ []) h = absurd (omega arith)
take_three (a ∷ b ∷ []) h = absurd (omega arith)
take_three (a ∷ b ∷ c ∷ xs) h = refl

take_four : (xs : List ℕ) → 4 ≤ length xs → take 4 xs ≡ get_or xs 0 0 ∷ get_or xs 1 0 ∷ get_or xs 2 0 ∷ get_or xs 3 0 ∷ []
take_four [] h = absurd (omega arith)
take_four (a ∷ []) h = absurd (omega arith)
take_four (a ∷ b ∷ []) h = absurd (omega arith)
take_four (a ∷ b ∷ c ∷ []) h = absurd (omega arith)
take_four (a ∷ b ∷ c ∷ d ∷ xs) h = refl

take_six : (xs : List ℕ) → 6 ≤ length xs → take 6 xs ≡ get_or xs 0 0 ∷ get_or xs 1 0 ∷ get_or xs 2 0 ∷ get_or xs 3 0 ∷ get_or xs 4 0 ∷ get_or xs 5 0 ∷ []
take_six [] h = absurd (omega arith)
take_six (a ∷ []) h = absurd (omega arith)
take_six (a ∷ b ∷ []) h = absurd (omega arith)
take_six (a ∷ b ∷ c ∷ []) h = absurd (omega arith)
take_six (a ∷ b ∷ c ∷ d ∷ []) h = absurd (omega arith)
take_six (a ∷ b ∷ c ∷ d ∷ e ∷ []) h = absurd (omega arith)
take_six (a ∷ b ∷ c ∷ d ∷ e ∷ f ∷ xs) h = refl

-- ---- in UTF-8

wide : (c : ℕ) (bytes : List ℕ) → IsWide c bytes → IsCharacter bytes
wide c bytes h = (c, inr (inr (inr (of_bytes c bytes h))))

pub two : (a b : ℕ) → 0xC2 ≤ a → a ≤ 0xDF → 0x80 ≤ b → b ≤ 0xBF → IsCharacter (a ∷ b ∷ [])
two a b l u p q = wide ((a - 0xC0) * 64 + b % 64) (a ∷ b ∷ []) (a, b ∷ [], _, refl, lead_two a (omega arith) u, (b, refl, p, q, refl))

pub three : (a b c : ℕ) → 0xE0 ≤ a → a ≤ 0xEF → 0x80 ≤ b → b ≤ 0xBF → 0x80 ≤ c → c ≤ 0xBF → (a ≡ 0xE0 → 0xA0 ≤ b) → (a ≡ 0xED → b ≤ 0x9F)
    → IsCharacter (a ∷ b ∷ c ∷ [])
three a b c l u p q r s f g = elim (cases_eq a 0xE0) [
  | inl e ↦ wide ((0 * 64 + b % 64) * 64 + c % 64) (a ∷ b ∷ c ∷ []) (a, b ∷ c ∷ [], _, refl, lead_e0 a e, (b, c ∷ [], refl, f e, q, (c, refl, r, s, refl)))
  | inr m ↦ elim (cases_lt a 0xED) [
    | inl v ↦ wide (((a - 0xE0) * 64 + b % 64) * 64 + c % 64) (a ∷ b ∷ c ∷ [])
        (a, b ∷ c ∷ [], _, refl, lead_low a (omega arith) (omega arith), (b, c ∷ [], refl, p, q, (c, refl, r, s, refl)))
    | inr v ↦ elim (cases_eq a 0xED) [
      | inl e ↦ wide ((13 * 64 + b % 64) * 64 + c % 64) (a ∷ b ∷ c ∷ []) (a, b ∷ c ∷ [], _, refl, lead_ed a e, (b, c ∷ [], refl, p, g e, (c, refl, r, s, refl)))
      | inr n ↦ wide (((a - 0xE0) * 64 + b % 64) * 64 + c % 64) (a ∷ b ∷ c ∷ [])
          (a, b ∷ c ∷ [], _, refl, lead_high a (omega arith) u, (b, c ∷ [], refl, p, q, (c, refl, r, s, refl)))
    ]
  ]
]

four : (a b c d : ℕ) → 0xF0 ≤ a → a ≤ 0xF4 → 0x80 ≤ b → b ≤ 0xBF → 0x80 ≤ c → c ≤ 0xBF → 0x80 ≤ d → d ≤ 0xBF → (a ≡ 0xF0 → 0x90 ≤ b) → (a ≡ 0xF4 → b ≤ 0x8F)
    → IsCharacter (a ∷ b ∷ c ∷ d ∷ [])
four a b c d l u p q r s v w f g = elim (cases_eq a 0xF0) [
  | inl e ↦ wide (((0 * 64 + b % 64) * 64 + c % 64) * 64 + d % 64) (a ∷ b ∷ c ∷ d ∷ [])
      (a, b ∷ c ∷ d ∷ [], _, refl, lead_f0 a e, (b, c ∷ d ∷ [], refl, f e, q, (c, d ∷ [], refl, r, s, (d, refl, v, w, refl))))
  | inr m ↦ elim (cases_eq a 0xF4) [
    | inl e ↦ wide (((4 * 64 + b % 64) * 64 + c % 64) * 64 + d % 64) (a ∷ b ∷ c ∷ d ∷ [])
        (a, b ∷ c ∷ d ∷ [], _, refl, lead_f4 a e, (b, c ∷ d ∷ [], refl, p, g e, (c, d ∷ [], refl, r, s, (d, refl, v, w, refl))))
    | inr n ↦ wide ((((a - 0xF0) * 64 + b % 64) * 64 + c % 64) * 64 + d % 64) (a ∷ b ∷ c ∷ d ∷ [])
        (a, b ∷ c ∷ d ∷ [], _, refl, lead_four a (omega arith) (omega arith), (b, c ∷ d ∷ [], refl, p, q, (c, d ∷ [], refl, r, s, (d, refl, v, w, refl))))
  ]
]

pub two_taken : (xs : List ℕ) → 2 ≤ length xs → 0xC2 ≤ get_or xs 0 0 → get_or xs 0 0 ≤ 0xDF → 0x80 ≤ get_or xs 1 0 → get_or xs 1 0 ≤ 0xBF
    → IsCharacter (take 2 xs)
two_taken xs n l u p q = let P : List ℕ → Type 0 = λ ys. IsCharacter ys in subst P (sym (take_two xs n)) (two _ _ l u p q)

pub three_taken : (xs : List ℕ) → 3 ≤ length xs → 0xE0 ≤ get_or xs 0 0 → get_or xs 0 0 ≤ 0xEF → 0x80 ≤ get_or xs 1 0 → get_or xs 1 0 ≤ 0xBF
    → 0x80 ≤ get_or xs 2 0 → get_or xs 2 0 ≤ 0xBF
    → (get_or xs 0 0 ≡ 0xE0 → 0xA0 ≤ get_or xs 1 0) → (get_or xs 0 0 ≡ 0xED → get_or xs 1 0 ≤ 0x9F) → IsCharacter (take 3 xs)
three_taken xs n l u p q r s f g = let P : List ℕ → Type 0 = λ ys. IsCharacter ys in subst P (sym (take_three xs n)) (three _ _ _ l u p q r s f g)

pub four_taken : (xs : List ℕ) → 4 ≤ length xs → 0xF0 ≤ get_or xs 0 0 → get_or xs 0 0 ≤ 0xF4 → 0x80 ≤ get_or xs 1 0 → get_or xs 1 0 ≤ 0xBF
    → 0x80 ≤ get_or xs 2 0 → get_or xs 2 0 ≤ 0xBF → 0x80 ≤ get_or xs 3 0 → get_or xs 3 0 ≤ 0xBF
    → (get_or xs 0 0 ≡ 0xF0 → 0x90 ≤ get_or xs 1 0) → (get_or xs 0 0 ≡ 0xF4 → get_or xs 1 0 ≤ 0x8F) → IsCharacter (take 4 xs)
four_taken xs n l u p q r s v w f g = let P : List ℕ → Type 0 = λ ys. IsCharacter ys in subst P (sym (take_four xs n)) (four _ _ _ _ l u p q r s v w f g)

-- ---- and escaped

short_is : (e : ℕ) → (o : Option ℕ) → escape_of e ≡ o → is_some o ≡ true → IsCharacter (backslash ∷ e ∷ [])
short_is e None h s = cc
short_is e (Some c) h s = (c, inr (inl (e, refl, h)))

pub short_taken : (xs : List ℕ) → 2 ≤ length xs → get_or xs 0 0 ≡ backslash → get_or xs 1 0 ≢ letter_u → is_some (escape_of (get_or xs 1 0)) ≡ true
    → IsCharacter (take 2 xs)
short_taken xs n b u s =
    let P : List ℕ → Type 0 = λ ys. IsCharacter ys in
    let Q : ℕ → Type 0 = λ x. IsCharacter (x ∷ get_or xs 1 0 ∷ []) in
    subst P (sym (take_two xs n)) (subst Q (sym b) (short_is _ _ refl s))

hex_some : (b : ℕ) (o : Option ℕ) → hex_of b ≡ o → is_some o ≡ true → (d : ℕ) × (hex_of b ≡ Some d)
hex_some b None e h = cc
hex_some b (Some d) e h = (d, e)

pub unicode_taken : (xs : List ℕ) → 6 ≤ length xs → get_or xs 0 0 ≡ backslash → get_or xs 1 0 ≡ letter_u → is_some (hex_of (get_or xs 2 0)) ≡ true
    → is_some (hex_of (get_or xs 3 0)) ≡ true
    → is_some (hex_of (get_or xs 4 0)) ≡ true → is_some (hex_of (get_or xs 5 0)) ≡ true → IsCharacter (take 6 xs)
unicode_taken xs n b u h0 h1 h2 h3 =
    let P : List ℕ → Type 0 = λ ys. IsCharacter ys in
    let Q : ℕ → Type 0 = λ x. IsCharacter (x ∷ get_or xs 1 0 ∷ get_or xs 2 0 ∷ get_or xs 3 0 ∷ get_or xs 4 0 ∷ get_or xs 5 0 ∷ []) in
    let R : ℕ → Type 0 = λ x. IsCharacter (backslash ∷ x ∷ get_or xs 2 0 ∷ get_or xs 3 0 ∷ get_or xs 4 0 ∷ get_or xs 5 0 ∷ []) in
    let k0 = hex_some _ _ refl h0 in
    let k1 = hex_some _ _ refl h1 in
    let k2 = hex_some _ _ refl h2 in
    let k3 = hex_some _ _ refl h3 in
    subst P (sym (take_six xs n))
    (subst Q (sym b) (subst R (sym u) (_, inr (inr (inl (_, _, _, _, k0.0, k1.0, k2.0, k3.0, refl, k0.1, k1.1, k2.1, k3.1, refl))))))

-- ---- one character is read as such

pub character_read : (bytes : List ℕ) → IsCharacter bytes → AreCharacters bytes
character_read bytes h = (h.0 ∷ [], as_read bytes (h.0 ∷ []) Plain (content_on bytes (h.0 ∷ []) (bytes, [], sym (append-nil bytes), h.1, refl)))

-- as are those that a count says, where it may say none
pub characters_read_at : (piece : List ℕ) (n : ℕ) → (0 < n → IsCharacter (take n piece)) → AreCharacters (take n piece)
characters_read_at piece zero h = ([], (refl, refl))
characters_read_at piece (suc n) h = character_read (take (suc n) piece) (h (omega arith))

pub plain_characters : (piece : List ℕ) (n : ℕ) → n ≡ prefix_len is_unescaped_ascii piece → AreCharacters (take n piece)
plain_characters piece n e = let P : ℕ → Type 0 =
    λ k. AreCharacters (take k piece) in subst P (sym e) (take (prefix_len is_unescaped_ascii piece) piece, (QuietModes.plain_run piece).0)

pub few_plain_characters : (piece : List ℕ) (n : ℕ) → n ≤ prefix_len is_unescaped_ascii piece → AreCharacters (take n piece)
few_plain_characters piece n h = (take n piece, QuietModes.plain_part n piece h)
