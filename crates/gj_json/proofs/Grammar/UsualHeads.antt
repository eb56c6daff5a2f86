-- The beginnings of objects and of members `geometry`, by the bytes between one index and the next.
use Rattle.gj_json.proofs.Common.{AllByRecursion, IsTyped, IsWhite, List, Word, ap, ap₂, arith, codes, cut, drop, get_or, inl, length}
use Rattle.gj_json.proofs.Common.{length-take-le, open_brace, refl, suc, zero, ℕ, ◌++◌, ◌+◌, ◌-◌, ◌<◌, ◌∙◌, ◌∷◌, ◌≡◌, ◌≤◌}
use Rattle.std.proofs.Common.{take}
use Rattle.std.proofs.lemmas.List.{length-drop}
use Rattle.gj_json.specs.Bytes.{comma}
use Rattle.gj_json.specs.Internal.WholeHeads.{spaces, BeginsTyped, IsLocated}
use Rattle.gj_json.specs.Internal.WholeTokens.{IsUsualText}
use Rattle.gj_json.proofs.Pieces.PieceCuts.{cut_joins, cut_byte}

pub white_spaces : (n : ℕ) → AllByRecursion IsWhite (spaces n)
white_spaces zero = tt
white_spaces (suc n) = (inl refl, white_spaces n)

pub length-spaces : (n : ℕ) → length (spaces n) ≡ n
length-spaces zero = refl
length-spaces (suc n) = ap suc (length-spaces n)

pub from_start : (piece : List ℕ) (n : ℕ) → take n piece ≡ cut piece 0 n
from_start piece n = let e : n ≡ n - 0 = omega arith in ap (λ k. take k piece) e

-- bytes, and those that stand after them
pub goes_on : (piece : List ℕ) (a b c : ℕ) (xs ys : List ℕ) → a ≤ b → b ≤ c → cut piece a b ≡ xs → cut piece b c ≡ ys → cut piece a c ≡ xs ++ ys
goes_on piece a b c xs ys v w e f = cut_joins piece a b c v w ∙ ap₂ (λ us vs. us ++ vs) e f

pub byte_on : (piece : List ℕ) (a c b : ℕ) (xs : List ℕ) → a < c → c ≤ length piece → get_or piece a 0 ≡ b → cut piece (a + 1) c ≡ xs → cut piece a c ≡ b ∷ xs
byte_on piece a c b xs v w e f = cut_byte piece a c (omega arith) v ∙ ap₂ (λ u vs. u ∷ vs) e f

-- an object up to the comma after its type, and the spaces after that
pub typed_by : (piece : List ℕ) (inside gap n : ℕ) (word : Word) → get_or piece 0 0 ≡ open_brace → cut piece 1 (1 + inside) ≡ spaces inside
    → cut piece (1 + inside) (1 + inside + 7) ≡ codes "\"type\":" → cut piece (1 + inside + 7) (1 + inside + 7 + gap) ≡ spaces gap
    → IsUsualText (drop (1 + inside + 7 + gap) piece) n word → get_or piece (1 + inside + 7 + gap + n) 0 ≡ comma
    → cut piece (1 + inside + 7 + gap + n + 1) (1 + inside + 7 + gap + n + 1 + gap) ≡ spaces gap → 1 + inside + 7 + gap + n + 1 + gap ≤ length piece
    → BeginsTyped 0 (1 + inside) (1 + inside + 7 + gap) word (spaces inside) (spaces gap) (take (1 + inside + 7 + gap + n + 1 + gap) piece)
typed_by piece inside gap n word first space_inside name space_after u ends space_behind within =
    let word_at = 1 + inside + 7 + gap in
    let end = word_at + n + 1 + gap in
    let few : word_at + n - word_at ≡ n = omega arith in
    let rest =
    goes_on piece (1 + inside + 7) word_at end _ _ (omega arith) (omega arith) space_after
    (goes_on piece word_at (word_at + n) end _ _ (omega arith) (omega arith) (ap (λ k. take k (drop word_at piece)) few)
    (byte_on piece (word_at + n) end comma _ (omega arith) within ends space_behind)) in
    let all =
    byte_on piece 0 end open_brace _ (omega arith) within first
    (goes_on piece 1 (1 + inside) end _ _ (omega arith) (omega arith) space_inside
    (goes_on piece (1 + inside) (1 + inside + 7) end _ _ (omega arith) (omega arith) name rest)) in
    record {
      content = cut (drop word_at piece) 1 (n - 1);
      type_bytes = take n (drop word_at piece);
      is_quoted = u.quoted;
      known_as = u.known_as;
      spelled = from_start piece end ∙ all;
      name_place = omega (arith, length-spaces inside);
      word_place = omega (arith, length-spaces gap);
    }

pub typed_is : (piece : List ℕ) (count name_at word_at inside gap : ℕ) (word : Word)
    → BeginsTyped 0 name_at word_at word (spaces inside) (spaces gap) (take count piece) → IsTyped piece count name_at word_at word
typed_is piece count name_at word_at inside gap word h =
    record { inside = spaces inside; gap = spaces gap; white_inside = white_spaces inside; white = white_spaces gap; begins = h }

-- a member up to its coordinates
pub located_by : (piece : List ℕ) (before inside gap count name_at word_at : ℕ) (word : Word) → cut piece 0 11 ≡ codes "\"geometry\":"
    → cut piece 11 (11 + before) ≡ spaces before
    → BeginsTyped 0 name_at word_at word (spaces inside) (spaces gap) (take count (drop (11 + before) piece))
    → cut piece (11 + before + count) (11 + before + count + 14) ≡ codes "\"coordinates\":"
    → cut piece (11 + before + count + 14) (11 + before + count + 14 + gap) ≡ spaces gap → 11 + before + count ≤ length piece
    → IsLocated piece (11 + before + count + 14 + gap) (11 + before) (11 + before + name_at) (11 + before + word_at) (11 + before + count) word
located_by piece before inside gap count name_at word_at word name space_before h last space_after within =
    let bracket = 11 + before in
    let coordinates = bracket + count in
    let total = coordinates + 14 + gap in
    let few : coordinates - bracket ≡ count = omega arith in
    let object = take count (drop bracket piece) in
    let size : length object ≡ count = length-take-le count (drop bracket piece) (omega (arith, length-drop bracket piece)) in
    record {
      before = spaces before;
      inside = spaces inside;
      gap = spaces gap;
      white_before = white_spaces before;
      white_inside = white_spaces inside;
      white = white_spaces gap;
      object_bytes = object;
      begins = record {
        content = h.content;
        type_bytes = h.type_bytes;
        is_quoted = h.is_quoted;
        known_as = h.known_as;
        spelled = h.spelled;
        name_place = omega (arith, h.name_place);
        word_place = omega (arith, h.word_place);
      };
      spelled = from_start piece total ∙ goes_on piece 0 11 total _ _ (omega arith) (omega arith) name
          (goes_on piece 11 bracket total _ _ (omega arith) (omega arith) space_before
          (goes_on piece bracket coordinates total _ _ (omega arith) (omega arith) (ap (λ k. take k (drop bracket piece)) few)
          (goes_on piece coordinates (coordinates + 14) total _ _ (omega arith) (omega arith) last space_after)));
      bracket_place = omega (arith, length-spaces before);
      coordinates_place = omega (arith, size);
    }
