-- Members `geometry` that are a whole Point whose coordinates stand before its type, as they are read.
use Rattle.std.specs.Prelude.{◌≡◌, ℕ, ◌+◌, ◌<◌, List, [], ◌∷◌, ◌++◌, codes, length, take, drop}
use Rattle.std.specs.List.{AllByRecursion}
use Rattle.gj_json.specs.Bytes.{IsWhite, open_brace, close_brace, comma}
use Rattle.gj_json.specs.declared.flat.Flat.{Flat}
use Rattle.gj_json.specs.declared.head.LatePoint.{LatePoint}
use Rattle.gj_json.specs.declared.late_points.LateStart.{LateStart}
use Rattle.gj_json.specs.declared.late_points.LateEnd.{LateEnd}
use Rattle.gj_json.specs.Internal.FlatParts.{cut}
use Rattle.gj_json.specs.Internal.SpelledNumbers.{IsFlat}
use Rattle.gj_json.specs.Internal.WholeHeads.{quoted, named}

-- up to the coordinates, with such white space before the bracket and after the colon of each name
abbrev pub before_position : List ℕ → List ℕ
before_position gap = named (codes "geometry") gap ++ (open_brace ∷ named (codes "coordinates") gap)

-- from the comma after the coordinates on, with such white space after it and after the colon
abbrev pub after_position : List ℕ → List ℕ
after_position gap = comma ∷ (gap ++ (named (codes "type") gap ++ (quoted (codes "Point") ++ close_brace ∷ [])))

-- a piece starts with the first of these, and the bracket of the object stands at this index
pub record BeginsLate (piece : List ℕ) (first : LateStart) : Type 0 where
  pub gap : List ℕ
  pub white : AllByRecursion IsWhite gap
  pub spelled : take first.count piece ≡ before_position gap
  pub bracket_place : first.bracket ≡ length (named (codes "geometry") gap)

-- a piece starts with the second, and the name, the type and the bracket that closes the object stand at these indices
pub record EndsLate (piece : List ℕ) (last : LateEnd) : Type 0 where
  pub gap : List ℕ
  pub white : AllByRecursion IsWhite gap
  pub spelled : take (last.close + 1) piece ≡ after_position gap
  pub name_place : last.name_at ≡ 1 + length gap
  pub word_place : last.word_at ≡ last.name_at + length (named (codes "type") gap)

-- a piece that begins at the place `start` starts with such a member, whose position ends at an index
pub record IsLatePoint (point : LatePoint) (flat : Flat) (start : ℕ) (piece : List ℕ) : Type 0 where
  pub first : LateStart
  pub last : LateEnd
  pub until : ℕ
  pub begins : BeginsLate piece first
  pub some : first.count < until
  pub flat_bytes : IsFlat flat (start + first.count) (cut piece first.count until)
  pub ends : EndsLate (drop until piece) last
  pub within : until + last.close < length piece
  pub place : point.place ≡ start
  pub bracket : point.bracket ≡ start + first.bracket
  pub coordinates : point.coordinates ≡ start + first.bracket + 1
  pub name_at : point.name_at ≡ start + until + last.name_at
  pub word_at : point.word_at ≡ start + until + last.word_at
  pub close : point.close ≡ start + until + last.close
