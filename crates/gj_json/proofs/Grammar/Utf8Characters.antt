-- Whole characters in UTF-8 are read as such in a string.
use Rattle.gj_json.proofs.Common.{AllByRecursion, Bool, Content, Holds, IsAscii, IsLongestUtf8, IsPlain, List, Plain, SpellsCharacter, SpellsContent}
use Rattle.gj_json.proofs.Common.{StringState, ap, arith, cases_lt, cond, false, inl, inr, is_unescaped, length, min, nat_tests, plain_run_of}
use Rattle.gj_json.proofs.Common.{prefix_len-le-length, refl, subst, suc, sym, take-take, true, zero, ℕ, [], ◌++◌, ◌+◌, ◌<◌, ◌∙◌, ◌∷◌, ◌≡◌, ◌≤◌, ◌⊎◌}
use Rattle.std.proofs.Common.{slice_index, take}
use Rattle.std.proofs.lemmas.Bool.{and_parts}
use Rattle.gj_json.specs.Internal.KeptContent.{HoldsBy, IsOther}
use Rattle.gj_json.proofs.Readers.ContentLetters.{ascii_rest, other_on}
use Rattle.std.specs.Str.{IsUtf8, IsValidUpTo}
use Rattle.gj_json.proofs.Pieces.PieceRests.{take_all_of}
use Rattle.std.proofs.Math.Numerals.{one-add}
use Rattle.std.proofs.lemmas.List.{length-append}
use lib.Utf8.{scalar, scalars, encode, encodes}
use Rattle.gj_json.specs.Internal.QuietBytes.{Reads}
use Rattle.gj_json.proofs.Pieces.QuietModes.{all_run}
use Rattle.gj_json.proofs.Machine.Completions.{StringRest}
use Rattle.gj_json.proofs.Grammar.SpelledTexts.{content_on}
use Rattle.gj_json.proofs.Grammar.Utf8Tables.{encode_one, encode_two, encode_three, encode_four}

-- a byte of an unescaped character
abbrev pub IsUnescaped : ℕ → Type 0
IsUnescaped b = is_unescaped b ≡ true

-- ---- a character

text_plain : (c : ℕ) → c < 128 → IsUnescaped c → IsPlain c
text_plain c u h = (grind (arith, nat_tests), omega arith, grind (arith, nat_tests), grind (arith, nat_tests))

all_front : (xs ys : List ℕ) → AllByRecursion IsUnescaped (xs ++ ys) → AllByRecursion IsUnescaped xs × AllByRecursion IsUnescaped ys
all_front [] ys h = (tt, h)
all_front (x ∷ xs) ys h = let k = all_front xs ys h.1 in ((h.0, k.0), k.1)

character : (c : ℕ) → scalar c ≡ true → AllByRecursion IsUnescaped (encode c) → SpellsCharacter c (encode c)
character c s h = elim (cases_lt c 128) [
  | inl u ↦ let e = encode_one c u in let k : AllByRecursion IsUnescaped (c ∷ []) =
      subst (λ xs. AllByRecursion IsUnescaped xs) e h in inl (text_plain c u k.0, e)
  | inr l ↦ inr (inr (inr (s, l, refl)))
]

content : (cs : List ℕ) → scalars cs ≡ true → AllByRecursion IsUnescaped (encodes cs) → SpellsContent cs (encodes cs)
content [] s h = refl
content (c ∷ cs) s h =
    let p = and_parts _ _ s in
    let k = all_front (encode c) (encodes cs) h in
    (encode c, encodes cs, refl, character c p.0 k.0, content cs p.1 k.1)

pub as_read : (bytes content : List ℕ) (state : StringState) → StringRest state content bytes → Reads state bytes content Plain
as_read [] content state h = (h.1, h.0)
as_read (b ∷ bytes) content state h = (h.1, h.0, h.2, h.3, h.4, as_read bytes h.2 h.1 h.5)

pub characters_read : (xs : List ℕ) (u : IsUtf8 xs) → AllByRecursion IsUnescaped xs → Reads Plain xs u.0 Plain
characters_read xs u h =
    let P : List ℕ → Type 0 = λ ys. AllByRecursion IsUnescaped ys in
    let k : AllByRecursion IsUnescaped (encodes u.0) = subst P (sym u.1.1) h in
    let Q : List ℕ → Type 0 = λ ys. Reads Plain ys u.0 Plain in
    subst Q u.1.1 (as_read (encodes u.0) u.0 Plain (content_on (encodes u.0) u.0 (content u.0 u.1.0 k)))

-- ---- the longest prefix of a run that is UTF-8

pub short_take : (n : ℕ) (xs : List ℕ) → length (take n xs) ≤ n
short_take zero xs = omega arith
short_take (suc n) [] = omega arith
short_take (suc n) (x ∷ xs) = let h = short_take n xs in omega (arith, h)

upto : (n : ℕ) (xs : List ℕ) → AllByRecursion IsUnescaped xs → AllByRecursion IsUnescaped (take n xs)
upto zero xs h = tt
upto (suc n) [] h = tt
upto (suc n) (x ∷ xs) h = (h.0, upto n xs h.1)

module _ (piece : List ℕ) (m k : ℕ) (few : m ≤ plain_run_of piece) (longest : IsLongestUtf8 (take m piece) k) where
  short : k ≤ m
  short = omega (arith, longest.within, short_take m piece)

  pub front_utf8 : IsUtf8 (take k piece)
  front_utf8 = let P : List ℕ → Type 0 = λ xs. IsUtf8 xs in subst P (take-take k m piece short) longest.utf8

  pub front_unescaped : AllByRecursion IsUnescaped (take k piece)
  front_unescaped =
      let P : List ℕ → Type 0 = λ xs. AllByRecursion IsUnescaped xs in
      subst P (take-take k (plain_run_of piece) piece (omega (arith, short)))
      (upto k (take (plain_run_of piece) piece) (all_run is_unescaped IsUnescaped (λ b e. e) piece))

  pub front_within : k ≤ length piece
  front_within = omega (arith, short, prefix_len-le-length is_unescaped piece)

-- what is UTF-8 up to some byte, and no further
pub up_to_fault : (bytes : List ℕ) (k : ℕ) → IsValidUpTo bytes k → IsLongestUtf8 bytes k
up_to_fault bytes k v =
    record { within = omega (arith, v.short); utf8 = v.front; longest = λ n w u. elim (cases_lt k n) [ inl less ↦ absurd (v.longest n less u) | inr e ↦ e ] }

pub all_utf8 : (bytes : List ℕ) (k : ℕ) → k ≡ length bytes → IsUtf8 bytes → IsLongestUtf8 bytes k
all_utf8 bytes k e u =
    record {
      within = omega (arith, e);
      utf8 = (let P : List ℕ → Type 0 = λ xs. IsUtf8 xs in subst P (sym (take_all_of bytes k e)) u);
      longest =
          λ n w v. omega (arith, e, w);
    }

-- of the first n bytes of a piece
run_upto : (n : ℕ) (xs : List ℕ) → take (plain_run_of (take n xs)) (take n xs) ≡ take (min (plain_run_of xs) n) xs
run_upto zero xs = let e : min (plain_run_of xs) 0 ≡ 0 = omega arith in rw e refl
run_upto (suc n) [] = let m : min 0 (suc n) ≡ 0 = omega arith in rw m refl
run_upto (suc n) (x ∷ xs) = go (is_unescaped x) (run_upto n xs)
  where
    go : (t : Bool) → take (plain_run_of (take n xs)) (take n xs) ≡ take (min (plain_run_of xs) n) xs
        → take (cond t (1 + plain_run_of (take n xs)) 0) (x ∷ take n xs) ≡ take (min (cond t (1 + plain_run_of xs) 0) (suc n)) (x ∷ xs)
    go true e = let m : min (1 + plain_run_of xs) (suc n) ≡ suc (min (plain_run_of xs) n) = omega arith in rw (m, one-add) (ap (λ ys. x ∷ ys) e)
    go false e = let m : min 0 (suc n) ≡ 0 = omega arith in rw m refl

pub longest_upto : (n k : ℕ) (piece : List ℕ) → IsLongestUtf8 (take (plain_run_of (take n piece)) (take n piece)) k
    → IsLongestUtf8 (take (min (plain_run_of piece) n) piece) k
longest_upto n k piece h = let P : List ℕ → Type 0 = λ xs. IsLongestUtf8 xs k in subst P (run_upto n piece) h

pub longest_all : (n k : ℕ) (piece : List ℕ) → length piece ≤ n → IsLongestUtf8 (take (plain_run_of piece) piece) k
    → IsLongestUtf8 (take (min (plain_run_of piece) n) piece) k
longest_all n k piece w h =
    let m : min (plain_run_of piece) n ≡ plain_run_of piece = omega (arith, prefix_len-le-length is_unescaped piece) in
    let P : ℕ → Type 0 = λ j. IsLongestUtf8 (take j piece) k in subst P (sym m) h

-- what was read where nothing is kept any more
pub other_holds : (c : Content) (characters : List ℕ) → c.other ≡ true → (so_far : List ℕ) → Holds c so_far → Holds c (so_far ++ characters)
other_holds c characters e so_far h =
    let P : Bool → List ℕ → Type 0 = λ t xs. HoldsBy t c xs in
    let k : IsOther so_far = subst (λ t. P t so_far) e h in
    subst (λ t. P t (so_far ++ characters)) (sym e) (other_on so_far characters k)

-- no more than is allowed
pub allowed_within : (piece : List ℕ) (n k : ℕ) → IsLongestUtf8 (take (min (plain_run_of piece) n) piece) k → length (take k piece) ≤ n
allowed_within piece n k h = omega (arith, h.within, short_take (min (plain_run_of piece) n) piece, short_take k piece)

-- ---- what is kept of whole characters

ascii_of : (c : ℕ) → 128 ≤ c → (rest : List ℕ) → AllByRecursion IsAscii (encode c ++ rest) → ⊥
ascii_of c l rest h = elim (cases_lt c 2048) [
  | inl u ↦ let P : List ℕ → Type 0 = λ xs. AllByRecursion IsAscii (xs ++ rest) in let k = subst P (encode_two c l u) h in omega (arith, k.0)
  | inr m ↦ elim (cases_lt c 65536) [
    | inl u ↦ let P : List ℕ → Type 0 = λ xs. AllByRecursion IsAscii (xs ++ rest) in let k = subst P (encode_three c m u) h in omega (arith, k.0)
    | inr n ↦ let P : List ℕ → Type 0 = λ xs. AllByRecursion IsAscii (xs ++ rest) in let k = subst P (encode_four c n) h in omega (arith, k.0)
  ]
]

-- characters whose bytes are ASCII are these bytes
ascii_same : (cs : List ℕ) → AllByRecursion IsAscii (encodes cs) → encodes cs ≡ cs
ascii_same [] h = refl
ascii_same (c ∷ cs) h = elim (cases_lt c 128) [
  | inl u ↦ (
      let P : List ℕ → Type 0 = λ xs. AllByRecursion IsAscii (xs ++ encodes cs) in
      let k = subst P (encode_one c u) h in
      ap (λ xs. xs ++ encodes cs) (encode_one c u) ∙ ap (λ xs. c ∷ xs) (ascii_same cs k.1)
      )
  | inr l ↦ absurd (ascii_of c l (encodes cs) h)
]

-- and ASCII characters are their bytes
bytes_same : (cs : List ℕ) → AllByRecursion IsAscii cs → encodes cs ≡ cs
bytes_same [] h = refl
bytes_same (c ∷ cs) h = ap (λ xs. xs ++ encodes cs) (encode_one c h.0) ∙ ap (λ xs. c ∷ xs) (bytes_same cs h.1)

all_ascii : (xs : List ℕ) → ((i : ℕ) → slice_index xs i < 128) → AllByRecursion IsAscii xs
all_ascii [] h = tt
all_ascii (x ∷ xs) h = (h 0, all_ascii xs (λ i. h (suc i)))

each_ascii : (xs : List ℕ) (i : ℕ) → AllByRecursion IsAscii xs → slice_index xs i < 128
each_ascii [] i h = omega arith
each_ascii (x ∷ xs) zero h = h.0
each_ascii (x ∷ xs) (suc i) h = each_ascii xs i h.1

-- a few ASCII bytes are characters themselves
pub few_holds : (text : List ℕ) (new : Content) (so_far : List ℕ) (utf8 : IsUtf8 text) → ((i : ℕ) → slice_index text i < 128)
    → (AllByRecursion IsAscii text → Holds new (so_far ++ text)) → Holds new (so_far ++ utf8.0)
few_holds text new so_far utf8 ascii h =
    let a : AllByRecursion IsAscii text = all_ascii text ascii in
    let P : List ℕ → Type 0 = λ xs. AllByRecursion IsAscii xs in
    let same : text ≡ utf8.0 = sym utf8.1.1 ∙ ascii_same utf8.0 (subst P (sym utf8.1.1) a) in
    let Q : List ℕ → Type 0 = λ xs. Holds new (so_far ++ xs) in subst Q same (h a)

-- many bytes, or one that is not ASCII, are no known name and no type
pub other_text : (text so_far : List ℕ) (utf8 : IsUtf8 text) → ((18 < length text) ⊎ ((i : ℕ) × (128 ≤ slice_index text i))) → IsOther (so_far ++ utf8.0)
other_text text so_far utf8 why = λ a l.
    let b : AllByRecursion IsAscii utf8.0 = ascii_rest so_far utf8.0 a in
    let same : utf8.0 ≡ text = sym (bytes_same utf8.0 b) ∙ utf8.1.1 in
    elim why [
      | inl long ↦ omega (arith, length-append so_far utf8.0, ap length same)
      | inr w ↦ let Q : List ℕ → Type 0 = λ xs. AllByRecursion IsAscii xs in let k = each_ascii text w.0 (subst Q same b) in omega (arith, k, w.1)
    ]
