-- Bytes at which no unescaped character of up to three bytes ends too early are such characters.
use Rattle.gj_json.proofs.Common.{AreCharacters, Bool, IsPlain, List, NoneEnds, Plain, ap, arith, cases_lt, ends_at, eqb, false, get_or, inl, inr}
use Rattle.gj_json.proofs.Common.{le-leb, leb, length, ltb, nat_tests, not, refl, subst, suc, sym, true, zero, ℕ, [], ◌&&◌, ◌++◌, ◌+◌, ◌-◌, ◌<◌, ◌∙◌}
use Rattle.gj_json.proofs.Common.{◌∷◌, ◌≡◌, ◌≢◌, ◌≤◌, ◌⊎◌}
use Rattle.std.proofs.Common.{◌||◌}
use Rattle.std.proofs.Common.{take}
use Rattle.std.proofs.lemmas.Bool.{or_parts, or_right, lt-leb}
use Rattle.gj_json.specs.Internal.WholeTokens.{IsCharacter}
use Rattle.gj_json.specs.Internal.WideCharacters.{is_tail, is_stop, goes_on, is_narrow}
use Rattle.gj_json.proofs.Grammar.SpelledCharacters.{character_read, two, three}
use Rattle.gj_json.proofs.Pieces.QuietModes.{joined}

-- ---- one byte

same : (g t : Bool) → (g && not t || not g && t) ≡ false → t ≡ g
same true true h = refl
same true false h = cc
same false true h = cc
same false false h = refl

no_or : (s t : Bool) → t ≡ false → (s || t) ≡ s
no_or true t h = refl
no_or false t h = h

-- the byte after such a one, and what is known of that one
record Seen (p a b : ℕ) : Type 0 where
  stop : is_stop a ≡ false
  next : is_tail b ≡ goes_on p a
  narrow : is_narrow a b ≡ false

seen : (p a b : ℕ) → ends_at p a b ≡ false → Seen p a b
seen p a b h =
    let u = or_parts (is_stop a || (goes_on p a && not (is_tail b) || not (goes_on p a) && is_tail b)) (is_narrow a b) h in
    let v = or_parts (is_stop a) (goes_on p a && not (is_tail b) || not (goes_on p a) && is_tail b) u.0 in
    record { stop = v.0; next = same (goes_on p a) (is_tail b) v.1; narrow = u.1 }

record Bounded (a : ℕ) : Type 0 where
  quote : a ≢ 34
  backslash : a ≢ 92
  least : 32 ≤ a
  most : a < 0xF0
  first : a ≢ 0xC0
  second : a ≢ 0xC1

bounded : (a : ℕ) → is_stop a ≡ false → Bounded a
bounded a h =
    let u = or_parts (eqb a 34 || eqb a 92 || ltb a 32 || leb 0xF0 a || eqb a 0xC0) (eqb a 0xC1) h in
    let v = or_parts (eqb a 34 || eqb a 92 || ltb a 32 || leb 0xF0 a) (eqb a 0xC0) u.0 in
    let w = or_parts (eqb a 34 || eqb a 92 || ltb a 32) (leb 0xF0 a) v.0 in
    let x = or_parts (eqb a 34 || eqb a 92) (ltb a 32) w.0 in
    let y = or_parts (eqb a 34) (eqb a 92) x.0 in
    record {
      quote = (let e = y.0 in grind (arith, nat_tests));
      backslash = (let e = y.1 in grind (arith, nat_tests));
      least = (let e = x.1 in grind (arith, nat_tests));
      most = (let e = w.1 in grind (arith, nat_tests));
      first = (let e = v.1 in grind (arith, nat_tests));
      second = (let e = u.1 in grind (arith, nat_tests));
    }

tail_is : (b : ℕ) → is_tail b ≡ true → (0x80 ≤ b) × (b ≤ 0xBF)
tail_is b h = (grind (arith, nat_tests), grind (arith, nat_tests))

no_tail : (b : ℕ) → is_tail b ≡ false → (b < 0x80) ⊎ (0xBF < b)
no_tail b h = elim (cases_lt b 0x80)
    [ inl l ↦ inl l | inr m ↦ elim (cases_lt 0xBF b) [ inl k ↦ inr k | inr k ↦ absurd (let e : is_tail b ≡ true = both b m k in cc) ] ]
  where
    both : (b : ℕ) → 0x80 ≤ b → b ≤ 0xBF → is_tail b ≡ true
    both b l u = grind (arith, nat_tests)

-- no byte of several goes on here, or one does
done : (p a : ℕ) → p < 0xE0 → a < 0xC2 → goes_on p a ≡ false
done p a h k = no_or (leb 0xC2 a) (leb 0xE0 p) (lt-leb 0xE0 p h) ∙ lt-leb 0xC2 a k

leads : (p a : ℕ) → p < 0xE0 → 0xC2 ≤ a → goes_on p a ≡ true
leads p a h k = no_or (leb 0xC2 a) (leb 0xE0 p) (lt-leb 0xE0 p h) ∙ le-leb 0xC2 a k

follows : (p a : ℕ) → 0xE0 ≤ p → goes_on p a ≡ true
follows p a h = or_right (leb 0xC2 a) (leb 0xE0 p) (le-leb 0xE0 p h)

-- ---- some bytes

-- how many of them are whole characters, by what stands after them and before that
record Whole (p : ℕ) (xs : List ℕ) (n : ℕ) : Type 0 where
  pub k : ℕ
  pub characters : AreCharacters (take k xs)
  pub all : is_tail (get_or xs n 0) ≡ false → k ≡ n
  pub but_one : is_tail (get_or xs n 0) ≡ true → is_tail (get_or (p ∷ xs) n 0) ≡ false → k + 1 ≡ n
  pub but_two : is_tail (get_or xs n 0) ≡ true → is_tail (get_or (p ∷ xs) n 0) ≡ true → k + 2 ≡ n

plain : (a : ℕ) → IsPlain a → IsCharacter (a ∷ [])
plain a h = (a, inl (h, refl))

then_more : (first xs : List ℕ) → IsCharacter first → AreCharacters xs → AreCharacters (first ++ xs)
then_more first xs h more = let c = character_read first h in (c.0 ++ more.0, joined Plain Plain Plain first xs c.0 more.0 c.1 more.1)

abbrev None : List ℕ → ℕ → Type 0
None xs n = (i : ℕ) → i < n → ends_at (get_or xs i 0) (get_or xs (suc i) 0) (get_or xs (suc (suc i)) 0) ≡ false

plain_more : (p a n : ℕ) (xs : List ℕ) → Bounded a → is_tail a ≡ false → a < 0xC2 → Whole a xs n → Whole p (a ∷ xs) (suc n)
plain_more p a n xs h f low more =
    let most : a ≤ 0x7F = elim (no_tail a f) [ inl l ↦ omega arith | inr l ↦ absurd (let u = h.first in let v = h.second in omega arith) ] in
    record {
      k = suc more.k;
      characters = then_more (a ∷ []) (take more.k xs) (plain a (h.least, most, h.quote, h.backslash)) more.characters;
      all = (λ e. let d = more.all e in omega arith);
      but_one = (λ e g. let d = more.but_one e g in omega arith);
      but_two = (λ e g. let d = more.but_two e g in omega arith);
    }

two_more : (p a b n : ℕ) (xs : List ℕ) → 0xC2 ≤ a → a < 0xE0 → is_tail b ≡ true → Whole b xs n → Whole p (a ∷ b ∷ xs) (suc (suc n))
two_more p a b n xs low high t more =
    let tail = tail_is b t in
    record {
      k = suc (suc more.k);
      characters = then_more (a ∷ b ∷ []) (take more.k xs) (two a b low (omega arith) tail.0 tail.1) more.characters;
      all = (λ e. let d = more.all e in omega arith);
      but_one = (λ e g. let d = more.but_one e g in omega arith);
      but_two = (λ e g. let d = more.but_two e g in omega arith);
    }

-- what is known of the byte after some first bytes
narrow_is : (a b : ℕ) → is_narrow a b ≡ false → (a ≡ 0xE0 → 0xA0 ≤ b) × (a ≡ 0xED → b ≤ 0x9F)
narrow_is a b h = let u = or_parts (eqb a 0xE0 && ltb b 0xA0) (eqb a 0xED && leb 0xA0 b) h in (λ e. least e (rw e at u.0), λ e. most e (rw e at u.1))
  where
    least : a ≡ 0xE0 → ltb b 0xA0 ≡ false → 0xA0 ≤ b
    least e h = grind (arith, nat_tests)

    most : a ≡ 0xED → leb 0xA0 b ≡ false → b ≤ 0x9F
    most e h = grind (arith, nat_tests)

three_more : (p a b c n : ℕ) (xs : List ℕ) → 0xE0 ≤ a → a < 0xF0 → is_tail b ≡ true → is_tail c ≡ true → is_narrow a b ≡ false → Whole c xs n
    → Whole p (a ∷ b ∷ c ∷ xs) (suc (suc (suc n)))
three_more p a b c n xs low high t u narrow more =
    let tail = tail_is b t in
    let last = tail_is c u in
    let bounds = narrow_is a b narrow in
    record {
      k = suc (suc (suc more.k));
      characters = then_more (a ∷ b ∷ c ∷ []) (take more.k xs) (three a b c low (omega arith) tail.0 tail.1 last.0 last.1 bounds.0 bounds.1) more.characters;
      all = (λ e. let d = more.all e in omega arith);
      but_one = (λ e g. let d = more.but_one e g in omega arith);
      but_two = (λ e g. let d = more.but_two e g in omega arith);
    }

true_false : {t : Bool} → t ≡ true → t ≡ false → ⊥
true_false h k = let e : true ≡ false = sym h ∙ k in cc

none_left : (p : ℕ) (xs : List ℕ) → is_tail (get_or xs 0 0) ≡ false → Whole p xs zero
none_left p xs f = record {
  k = 0;
  characters = ([], (refl, refl));
  all = (λ e. refl);
  but_one = (λ e g. absurd (true_false e f));
  but_two = (λ e g. absurd (true_false e f));
}

one_left : (p a b : ℕ) (xs : List ℕ) → is_tail a ≡ false → is_tail b ≡ true → Whole p (a ∷ b ∷ xs) (suc zero)
one_left p a b xs f t = record {
  k = 0;
  characters = ([], (refl, refl));
  all = (λ e. absurd (true_false t e));
  but_one = (λ e g. refl);
  but_two = (λ e g. absurd (true_false g f));
}

two_left : (p a b c : ℕ) (xs : List ℕ) → is_tail b ≡ true → is_tail c ≡ true → Whole p (a ∷ b ∷ c ∷ xs) (suc (suc zero))
two_left p a b c xs t u = record {
  k = 0;
  characters = ([], (refl, refl));
  all = (λ e. absurd (true_false u e));
  but_one = (λ e g. absurd (true_false t g));
  but_two = (λ e g. refl);
}

on : (xs : List ℕ) (x n : ℕ) → None (x ∷ xs) (suc n) → None xs n
on xs x n none i h = none (suc i) (omega arith)

whole : (p : ℕ) (xs : List ℕ) (n : ℕ) → p < 0xE0 → is_tail (get_or xs 0 0) ≡ false → n < length xs → None (p ∷ xs) n → Whole p xs n
whole p xs zero l f w none = none_left p xs f
whole p [] (suc n) l f w none = absurd (omega arith)
whole p (a ∷ []) (suc n) l f w none = absurd (omega arith)
whole p (a ∷ b ∷ xs) (suc zero) l f w none =
    let s = seen p a b (none zero (omega arith)) in
    let h = bounded a s.stop in
    elim (cases_lt a 0xC2) [
      | inl low ↦ plain_more p a zero (b ∷ xs) h f low (none_left a (b ∷ xs) (s.next ∙ done p a l low))
      | inr high ↦ one_left p a b xs f (s.next ∙ leads p a l high)
    ]
whole p (a ∷ b ∷ []) (suc (suc n)) l f w none = absurd (omega arith)
whole p (a ∷ b ∷ c ∷ xs) (suc (suc zero)) l f w none =
    let s = seen p a b (none zero (omega arith)) in
    let h = bounded a s.stop in
    let s' = seen a b c (none (suc zero) (omega arith)) in
    elim (cases_lt a 0xC2) [
      | inl low ↦ plain_more p a (suc zero) (b ∷ c ∷ xs) h f low
          (whole a (b ∷ c ∷ xs) (suc zero) (omega arith) (s.next ∙ done p a l low) (omega arith) (on (a ∷ b ∷ c ∷ xs) p (suc zero) none))
      | inr high ↦ (
          let t : is_tail b ≡ true = s.next ∙ leads p a l high in
          let tail = tail_is b t in
          elim (cases_lt a 0xE0) [
            | inl less ↦ two_more p a b zero (c ∷ xs) high less t (none_left b (c ∷ xs) (s'.next ∙ done a b less (omega arith)))
            | inr third ↦ two_left p a b c xs t (s'.next ∙ follows a b third)
          ]
          )
    ]
whole p (a ∷ b ∷ c ∷ []) (suc (suc (suc n))) l f w none = absurd (omega arith)
whole p (a ∷ b ∷ c ∷ d ∷ xs) (suc (suc (suc n))) l f w none =
    let s = seen p a b (none zero (omega arith)) in
    let h = bounded a s.stop in
    let s' = seen a b c (none (suc zero) (omega arith)) in
    let s'' = seen b c d (none (suc (suc zero)) (omega arith)) in
    let after_one = on (a ∷ b ∷ c ∷ d ∷ xs) p (suc (suc n)) none in
    let after_two = on (b ∷ c ∷ d ∷ xs) a (suc n) after_one in
    elim (cases_lt a 0xC2) [
      | inl low ↦ plain_more p a (suc (suc n)) (b ∷ c ∷ d ∷ xs) h f low
          (whole a (b ∷ c ∷ d ∷ xs) (suc (suc n)) (omega arith) (s.next ∙ done p a l low) (omega arith) after_one)
      | inr high ↦ (
          let t : is_tail b ≡ true = s.next ∙ leads p a l high in
          let tail = tail_is b t in
          elim (cases_lt a 0xE0) [
            | inl less ↦ two_more p a b (suc n) (c ∷ d ∷ xs) high less t
                (whole b (c ∷ d ∷ xs) (suc n) (omega arith) (s'.next ∙ done a b less (omega arith)) (omega arith) after_two)
            | inr third ↦ (
                let u : is_tail c ≡ true = s'.next ∙ follows a b third in
                let last = tail_is c u in
                let most = h.most in
                three_more p a b c n (d ∷ xs) third most t u s.narrow
                (whole c (d ∷ xs) n (omega arith) (s''.next ∙ done b c (omega arith) (omega arith)) (omega arith) (on (c ∷ d ∷ xs) b n after_two))
                )
          ]
          )
    ]

-- ---- from a first byte

module _ (piece : List ℕ) (n : ℕ) (positive : 0 < n) (room : n < length piece) (begins : is_tail (get_or piece 0 0) ≡ false)
    (goes : ends_at 0 (get_or piece 0 0) (get_or piece 1 0) ≡ false) (none : NoneEnds piece n) where
  none_here : None (0 ∷ piece) n
  none_here zero h = goes
  none_here (suc i) h =
      let k = none i (omega arith) in
      let one : i + 1 ≡ suc i = omega arith in
      let two : i + 2 ≡ suc (suc i) = omega arith in
      rw (one, two) at k

  found : Whole 0 piece n
  found = whole 0 piece n (omega arith) begins room none_here

  before_end : get_or (0 ∷ piece) n 0 ≡ get_or piece (n - 1) 0
  before_end = let one : suc (n - 1) ≡ n = omega arith in ap (λ k. get_or (0 ∷ piece) k 0) (sym one)

  read : (k : ℕ) → k ≡ found.k → AreCharacters (take k piece)
  read k e = let P : ℕ → Type 0 = λ m. AreCharacters (take m piece) in subst P (sym e) found.characters

  pub all_whole : is_tail (get_or piece n 0) ≡ false → AreCharacters (take n piece)
  all_whole t = let d = found.all t in read n (omega arith)

  pub but_one_whole : is_tail (get_or piece n 0) ≡ true → is_tail (get_or piece (n - 1) 0) ≡ false → AreCharacters (take (n - 1) piece)
  but_one_whole t u = let d = found.but_one t (ap is_tail before_end ∙ u) in read (n - 1) (omega arith)

  pub but_two_whole : is_tail (get_or piece n 0) ≡ true → is_tail (get_or piece (n - 1) 0) ≡ true → AreCharacters (take (n - 2) piece) × (2 ≤ n)
  but_two_whole t u = let d = found.but_two t (ap is_tail before_end ∙ u) in (read (n - 2) (omega arith), omega arith)
