-- The beginnings of objects that are reported at once, as they are read.
use Rattle.std.specs.Prelude.{◌≡◌, ℕ, zero, suc, ◌+◌, ◌≤◌, ◌<◌, List, [], ◌∷◌, ◌++◌, codes, get_or, length, take, drop}
use Rattle.std.specs.List.{AllByRecursion}
use Rattle.gj_json.specs.Bytes.{IsWhite, space, open_brace, close_brace, comma as comma_byte, colon, quote}
use Rattle.gj_json.specs.declared.flat.Flat.{Flat}
use Rattle.gj_json.specs.declared.head.Located.{Located}
use Rattle.gj_json.specs.declared.heads.UsualLocated.{UsualLocated}
use Rattle.gj_json.specs.declared.heads.UsualNext.{UsualNext}
use Rattle.gj_json.specs.declared.names.Word.{Word}
use Rattle.gj_json.specs.Names.{word_of}
use Rattle.gj_json.specs.Internal.FlatParts.{cut}
use Rattle.gj_json.specs.Internal.SpelledNumbers.{IsFlat}
use Rattle.gj_json.specs.Internal.WholeTokens.{IsQuoted}

-- so many spaces
abbrev pub spaces : ℕ → List ℕ
spaces zero = []
spaces (suc n) = space ∷ spaces n

abbrev pub quoted : List ℕ → List ℕ
quoted content = quote ∷ (content ++ quote ∷ [])

-- a name, its colon, and what white space comes after it
abbrev pub named : List ℕ → List ℕ → List ℕ
named name gap = quoted name ++ (colon ∷ gap)

-- an object begins at a place by its type: the name and the type stand at two others, white space may stand after the bracket,
-- and that after the colon and that after the comma are alike
pub record BeginsTyped (place name_at word_at : ℕ) (word : Word) (inside gap bytes : List ℕ) : Type 0 where
  pub content : List ℕ
  pub type_bytes : List ℕ
  pub is_quoted : IsQuoted content type_bytes
  pub known_as : word_of content ≡ word
  pub spelled : bytes ≡ open_brace ∷ (inside ++ (named (codes "type") gap ++ (type_bytes ++ (comma_byte ∷ gap))))
  pub name_place : name_at ≡ place + 1 + length inside
  pub word_place : word_at ≡ name_at + length (named (codes "type") gap)

-- a piece starts with an object that begins so
pub record IsTyped (piece : List ℕ) (count name_at word_at : ℕ) (word : Word) : Type 0 where
  pub inside : List ℕ
  pub gap : List ℕ
  pub white_inside : AllByRecursion IsWhite inside
  pub white : AllByRecursion IsWhite gap
  pub begins : BeginsTyped 0 name_at word_at word inside gap (take count piece)

-- a piece starts with the end of an object, a comma and an object that begins so, with white space before that end and after the comma
pub record IsFollowing (piece : List ℕ) (next : UsualNext) : Type 0 where
  pub white_before : AllByRecursion IsWhite (cut piece 0 next.close)
  pub bracket : get_or piece next.close 0 ≡ close_brace
  pub comma : get_or piece (next.close + 1) 0 ≡ comma_byte
  pub after : next.close + 2 ≤ next.at
  pub white_after : AllByRecursion IsWhite (cut piece (next.close + 2) next.at)
  pub typed : IsTyped (drop next.at piece) next.typed.count next.typed.name_at next.typed.word_at next.typed.word

-- a piece starts with a member `geometry` that begins so and goes on by its coordinates
pub record IsLocated (piece : List ℕ) (count bracket name_at word_at coordinates : ℕ) (word : Word) : Type 0 where
  pub before : List ℕ
  pub inside : List ℕ
  pub gap : List ℕ
  pub white_before : AllByRecursion IsWhite before
  pub white_inside : AllByRecursion IsWhite inside
  pub white : AllByRecursion IsWhite gap
  pub object_bytes : List ℕ
  pub begins : BeginsTyped bracket name_at word_at word inside gap object_bytes
  pub spelled : take count piece ≡ named (codes "geometry") before ++ (object_bytes ++ named (codes "coordinates") gap)
  pub bracket_place : bracket ≡ length (named (codes "geometry") before)
  pub coordinates_place : coordinates ≡ bracket + length object_bytes

-- such a beginning was found at the start of a piece
pub record IsFound (piece : List ℕ) (usual : UsualLocated) : Type 0 where
  pub some : 0 < usual.count
  pub within : usual.count ≤ length piece
  pub bracket : usual.bracket < usual.name_at
  pub name : usual.name_at < usual.word_at
  pub word : usual.word_at ≤ usual.count
  pub coordinates : usual.coordinates ≤ usual.count
  pub located : IsLocated piece usual.count usual.bracket usual.name_at usual.word_at usual.coordinates usual.word

-- as it is reported where the piece begins at a place
pub record IsLocatedAt (start : ℕ) (usual : UsualLocated) (located : Located) : Type 0 where
  pub place : located.place ≡ start
  pub bracket : located.typed.place ≡ start + usual.bracket
  pub name_at : located.typed.name_at ≡ start + usual.name_at
  pub word_at : located.typed.word_at ≡ start + usual.word_at
  pub word : located.typed.word ≡ usual.word
  pub coordinates : located.coordinates ≡ start + usual.coordinates

-- the position of a Point stands in a piece from one index on, where the piece begins at the place `start`, and the bracket that closes
-- its object at another, with white space before it
pub record IsEnclosed (flat : Flat) (start from close : ℕ) (piece : List ℕ) : Type 0 where
  pub until : ℕ
  pub some : from < until
  pub before : until ≤ close
  pub flat_bytes : IsFlat flat (start + from) (cut piece from until)
  pub white : AllByRecursion IsWhite (cut piece until close)
  pub bracket : get_or piece close 0 ≡ close_brace

-- a member `properties` up to the bracket of its object
pub record OpensProperties (bytes : List ℕ) : Type 0 where
  pub gap : List ℕ
  pub white : AllByRecursion IsWhite gap
  pub spelled : bytes ≡ named (codes "properties") gap ++ open_brace ∷ []
