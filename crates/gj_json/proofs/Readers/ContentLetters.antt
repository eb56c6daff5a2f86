-- What the characters that are kept say of a string's content.
use Rattle.gj_json.proofs.Common.{AllByRecursion, Bool, Content, Holds, IsAscii, List, Word, ap, arith, bytes_eq, codes, false, length, nat_le}
use Rattle.gj_json.proofs.Common.{nat_lt, nat_tests, refl, subst, sym, true, words_in, words_of, ℕ, [], ◌&&◌, ◌++◌, ◌∷◌, ◌≡◌, ◌≤◌}
use Rattle.std.proofs.lemmas.Slice.Eq.{bytes_eq-Decides}
use Rattle.std.proofs.lemmas.List.{length-append}
use Rattle.gj_json.specs.declared.names.Known.{Known}
use Rattle.gj_json.specs.Internal.KeptContent.{IsOther, HoldsBy}
use Rattle.gj_json.specs.Names.{known_of, word_of}

-- what is other stays so
ascii_front : (xs ys : List ℕ) → AllByRecursion IsAscii (xs ++ ys) → AllByRecursion IsAscii xs
ascii_front [] ys h = tt
ascii_front (x ∷ xs) ys h = (h.0, ascii_front xs ys h.1)

pub ascii_rest : (xs ys : List ℕ) → AllByRecursion IsAscii (xs ++ ys) → AllByRecursion IsAscii ys
ascii_rest [] ys h = h
ascii_rest (x ∷ xs) ys h = ascii_rest xs ys h.1

pub other_on : (xs ys : List ℕ) → IsOther xs → IsOther (xs ++ ys)
other_on xs ys h = λ a l. h (ascii_front xs ys a) (omega (arith, length-append xs ys))

-- a word of few ASCII letters is not other
abbrev is_ascii : List ℕ → Bool
is_ascii [] = true
is_ascii (x ∷ xs) = nat_lt x 128 && is_ascii xs

ascii_is : (w : List ℕ) → is_ascii w ≡ true → AllByRecursion IsAscii w
ascii_is [] e = tt
ascii_is (x ∷ xs) e = go (nat_lt x 128) refl (ascii_is xs) e
  where
    go : (t : Bool) → nat_lt x 128 ≡ t → (is_ascii xs ≡ true → AllByRecursion IsAscii xs) → (t && is_ascii xs) ≡ true → IsAscii x × AllByRecursion IsAscii xs
    go true f h g = (grind (arith, nat_tests), h g)
    go false f h g = cc

no_word : (xs w : List ℕ) → is_ascii w ≡ true → nat_le (length w) 18 ≡ true → IsOther xs → bytes_eq xs w ≡ false
no_word xs w a l h = go (bytes_eq xs w) refl
  where
    go : (t : Bool) → bytes_eq xs w ≡ t → bytes_eq xs w ≡ false
    go false e = e
    go true e =
        let same : xs ≡ w = (bytes_eq-Decides xs w).0 e in
        let few : length w ≤ 18 = grind (arith, nat_tests) in
        let P : List ℕ → Type 0 = λ ys. AllByRecursion IsAscii ys in
        absurd (h (subst P (sym same) (ascii_is w a)) (omega (arith, ap length same)))

-- the letters of each name and type are few, and ASCII
other_known : (xs : List ℕ) → IsOther xs → known_of xs ≡ Known.Other
unfolding known_of
other_known xs h = rw (
  no_word xs (codes "type") refl refl h,
  no_word xs (codes "coordinates") refl refl h,
  no_word xs (codes "geometries") refl refl h,
  no_word xs (codes "geometry") refl refl h,
  no_word xs (codes "properties") refl refl h,
  no_word xs (codes "features") refl refl h,
  no_word xs (codes "bbox") refl refl h,
  no_word xs (codes "id") refl refl h,
  no_word xs (codes "crs") refl refl h,
) refl

other_word : (xs : List ℕ) → IsOther xs → word_of xs ≡ Word.Other
unfolding word_of
other_word xs h = rw (
  no_word xs (codes "Point") refl refl h,
  no_word xs (codes "MultiPoint") refl refl h,
  no_word xs (codes "LineString") refl refl h,
  no_word xs (codes "MultiLineString") refl refl h,
  no_word xs (codes "Polygon") refl refl h,
  no_word xs (codes "MultiPolygon") refl refl h,
  no_word xs (codes "GeometryCollection") refl refl h,
  no_word xs (codes "Feature") refl refl h,
  no_word xs (codes "FeatureCollection") refl refl h,
) refl

pub holds_words : (c : Content) (xs : List ℕ) → Holds c xs → words_in c ≡ words_of xs
holds_words c xs h = go c.other refl h
  where
    go : (t : Bool) → c.other ≡ t → HoldsBy t c xs → words_in c ≡ words_of xs
    go true e k = rw (e, other_known xs k, other_word xs k) refl
    go false e k = rw (e, k) refl
