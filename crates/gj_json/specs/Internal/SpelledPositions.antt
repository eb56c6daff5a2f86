-- Arrays of two or three numbers that stand at the start of a piece, each with a comma and another array after it.
use Rattle.std.specs.Prelude.{◌≡◌, ℕ, ◌+◌, ◌-◌, ◌<◌, ◌≤◌, ◌⊎◌, false, IsTrue, List, [], ◌∷◌, Option, IfSome, get_or, length, take, drop}
use Rattle.std.specs.List.{AllByRecursion}
use Rattle.std.specs.Option.{option_map_or, option_to_list}
use mir.Val.{bool_byte}
use Rattle.gj_json.specs.Bytes.{IsWhite, open_bracket, close_bracket, comma, minus_sign}
use Rattle.gj_json.specs.declared.flat.Flat.{Flat}
use Rattle.gj_json.specs.declared.flat.Numbered.{Numbered}
use Rattle.gj_json.specs.declared.cut_position.CutPosition.{CutPosition}
use Rattle.gj_json.specs.declared.separators.Inner.{Inner}
use Rattle.gj_json.specs.declared.separators.Outer.{Outer}
use Rattle.gj_json.specs.declared.separators.Separators.{Separators}
use Rattle.gj_json.specs.CutPosition.{IsCutPosition}
use Rattle.gj_json.specs.Internal.FlatParts.{cut, IsMore}
use Rattle.gj_json.specs.Internal.SpelledNumbers.{IsFlat}

-- a comma and white space, and a minus sign if it is so
pub record IsInner (inner : Inner) : Type 0 where
  pub room : 1 + bool_byte inner.negative ≤ length inner.separator.bytes.now
  pub comma : get_or inner.separator.bytes.now 0 0 ≡ comma
  pub white : AllByRecursion IsWhite (cut inner.separator.bytes.now 1 (length inner.separator.bytes.now - bool_byte inner.negative))
  pub sign : IsTrue inner.negative → get_or inner.separator.bytes.now (length inner.separator.bytes.now - 1) 0 ≡ minus_sign

-- a closing bracket, a comma and an opening bracket, with white space around them, and a minus sign if it is so
pub record IsOuter (outer : Outer) : Type 0 where
  pub before : AllByRecursion IsWhite (cut outer.separator.bytes.now 0 outer.close)
  pub bracket : get_or outer.separator.bytes.now outer.close 0 ≡ close_bracket
  pub comma : get_or outer.separator.bytes.now (outer.close + 1) 0 ≡ comma
  pub on : outer.close + 2 ≤ outer.open
  pub between : AllByRecursion IsWhite (cut outer.separator.bytes.now (outer.close + 2) outer.open)
  pub head : outer.head.now ≡ drop outer.open outer.separator.bytes.now
  pub room : outer.open + 1 + bool_byte outer.negative ≤ length outer.separator.bytes.now
  pub opens : get_or outer.head.now 0 0 ≡ open_bracket
  pub white : AllByRecursion IsWhite (cut outer.head.now 1 (length outer.head.now - bool_byte outer.negative))
  pub sign : IsTrue outer.negative → get_or outer.head.now (length outer.head.now - 1) 0 ≡ minus_sign

pub record AreSeparators (separators : Separators) : Type 0 where
  pub inner : IsInner separators.inner
  pub third : IfSome separators.third (λ third. IsInner third × (third.negative ≡ false))
  pub outer : IsOuter separators.outer

-- what stands between two numbers, and what stands after them, is sixteen bytes at most
pub record AreFew (separators : Separators) : Type 0 where
  pub inner : length separators.inner.separator.bytes.now ≤ 16
  pub outer : length separators.outer.separator.bytes.now ≤ 16

-- how many bytes of white space stand after a comma and before the next array
abbrev pub gap_of : Separators → ℕ
gap_of separators = separators.outer.open - separators.outer.close - 2

-- how long a piece must be at the least for its position to be read
abbrev pub room_of : Separators → ℕ
room_of separators =
    160 + length separators.outer.head.now + length separators.inner.separator.bytes.now
    + option_map_or (λ third. length third.separator.bytes.now) separators.third 0 + length separators.outer.separator.bytes.now

-- After the second number, which ends at an index, no number stands or one with at most seven places, and then the closing
-- bracket at another index. The piece begins at the place `start`.
pub record ClosesAt (piece : List ℕ) (start end close : ℕ) : Type 0 where
  pub third : Option Numbered
  pub last : ℕ
  pub on : end ≤ last
  pub before : last ≤ close
  pub white : AllByRecursion IsWhite (cut piece end last)
  pub more : IsMore (option_to_list third) (start + close) (start + last) (cut piece last (close + 1))
  pub few : IfSome third (λ number. number.value.places ≤ 7)
  pub place : start ≤ option_map_or (λ number. number.place) third start

-- After the second number, which ends at an index, no number stands or one as above, which ends at the other index.
pub record EndsAt (piece : List ℕ) (at last : ℕ) : Type 0 where
  pub on : at ≤ last
  pub after : (last ≡ at) ⊎ (get_or piece at 0 ≡ comma)
  pub closes : (start close : ℕ) → last ≤ close → close < length piece → AllByRecursion IsWhite (cut piece last close)
      → get_or piece close 0 ≡ close_bracket → ClosesAt piece start at close

-- the piece starts with what stands from a bracket up to the first digit
abbrev pub HasHead : Separators → List ℕ → Type 0
HasHead separators piece = cut piece 0 (length separators.outer.head.now) ≡ separators.outer.head.now

-- The piece, which begins at the place `start`, starts with the array, a comma, so many bytes of white space and a bracket.
pub record SpellsPosition (gap : ℕ) (position : CutPosition) (start : ℕ) (piece : List ℕ) : Type 0 where
  pub flat : Flat
  pub count : ℕ
  pub is : IsCutPosition position flat
  pub at : position.place ≡ start
  pub spelled : IsFlat flat start (take count piece)
  pub close : position.place + position.close_at + 1 ≡ start + count
  pub within : count + 1 + gap < length piece
  pub comma : get_or piece count 0 ≡ comma
  pub white : AllByRecursion IsWhite (cut piece (count + 1) (count + 1 + gap))
  pub bracket : get_or piece (count + 1 + gap) 0 ≡ open_bracket

-- the place of the array after the comma and so many bytes of white space
abbrev pub place_after : ℕ → CutPosition → ℕ
place_after gap position = position.place + position.close_at + 2 + gap

-- it starts with these arrays, one after another
abbrev pub SpellsPositions : ℕ → List CutPosition → ℕ → List ℕ → Type 0
SpellsPositions gap [] start piece = Unit {0}
SpellsPositions gap (position ∷ positions) start piece =
    SpellsPosition gap position start piece
    × SpellsPositions gap positions (place_after gap position) (drop (place_after gap position - start) piece)

-- the place after them
abbrev pub place_after_all : ℕ → List CutPosition → ℕ → ℕ
place_after_all gap [] start = start
place_after_all gap (position ∷ positions) start = place_after_all gap positions (place_after gap position)
