-- The winding of a linear ring: an exterior ring runs counterclockwise and a hole clockwise (RFC 7946, section 3.1.6).
use denote.Enum.Bare.{sameb}
use Rattle.std.specs.Prelude.{zero, suc, ◌*◌, ◌^◌, List, ◌∷◌, Option, Some, None, Bool, ◌&&◌, if◌then◌else◌, filter_map, is_some, option_and_then, ℤ, pos}
use Rattle.std.specs.Prelude.{negsuc, ◌+ℤ◌, ◌-ℤ◌, ◌*ℤ◌, neg_ℤ, int_le}
use Rattle.std.specs.List.{list_all}
use Rattle.gj_number.specs.Exact.{Exact, cut_places, cut_of}
use Rattle.gj_json.specs.Tree.{Tree}
use Rattle.gj_coords.specs.declared.winding.Corner.{Corner}
use Rattle.gj_coords.specs.declared.winding.Turn.{Turn}
use Rattle.gj_coords.specs.declared.winding.Turn.TheVariants.{Left, Right, Straight, Unjudged}
use Rattle.gj_coords.specs.contracts.winding.Turn.{the_type}
use Rattle.gj_coords.specs.Items.{elements_of}
use Rattle.gj_coords.specs.Ring.{exact_value}

-- ---- corners: the longitude and the latitude of a position, in degrees (RFC 7946, section 4), as cut numbers

-- 180 degrees
abbrev pub most_longitude : ℤ
most_longitude = pos (180 * 10 ^ cut_places)

-- 90 degrees
abbrev pub most_latitude : ℤ
most_latitude = pos (90 * 10 ^ cut_places)

-- a number, where it is at most so far from zero
abbrev pub bounded : ℤ → ℤ → Option ℤ
bounded most number = if int_le (neg_ℤ most) number && int_le number most then Some number else None

-- the cut number of a number that is held
abbrev pub cut_value : Option Exact → Option ℤ
cut_value value = option_and_then cut_of value

-- a cut number, where there is one and it is at most so far from zero
abbrev pub bounded_cut : ℤ → Option ℤ → Option ℤ
bounded_cut most cut = option_and_then (bounded most) cut

-- both, where there are both
abbrev pub both : Option ℤ → Option ℤ → Option Corner
both (Some x) (Some y) = Some (record { x = x; y = y })
both _ _ = None

-- the corner of a longitude and a latitude, where both are in range
abbrev pub corner_of : Option Exact → Option Exact → Option Corner
corner_of longitude latitude = both (bounded_cut most_longitude (cut_value longitude)) (bounded_cut most_latitude (cut_value latitude))

-- the corner of the first two of some values
abbrev pub first_corner : List Tree → Option Corner
first_corner (longitude ∷ latitude ∷ more) = corner_of (exact_value longitude) (exact_value latitude)
first_corner _ = None

-- the corner of a position that is in range
abbrev pub cut_position : Tree → Option Corner
cut_position position = first_corner (elements_of position)

abbrev pub in_range : Tree → Bool
in_range position = is_some (cut_position position)

-- ---- the area

-- twice the area of the triangle of the origin and two corners, above zero where it is counterclockwise
abbrev pub cross : Corner → Corner → ℤ
cross a b = a.x *ℤ b.y -ℤ b.x *ℤ a.y

-- Twice the area around which the corners run, above zero where they run counterclockwise: the sum over all neighbours.
-- The last position of a linear ring is the first again, so no term joins the last to the first.
abbrev pub area_of : List Corner → ℤ
area_of (a ∷ b ∷ more) = cross a b +ℤ area_of (b ∷ more)
area_of _ = pos 0

-- ---- the winding

abbrev pub sign_of : ℤ → Turn
sign_of (pos zero) = Straight
sign_of (pos (suc n)) = Left
sign_of (negsuc n) = Right

-- how the positions of a linear ring run; a ring with a position out of range is not checked
abbrev pub ring_turn : List Tree → Turn
ring_turn positions = if list_all in_range positions then sign_of (area_of (filter_map cut_position positions)) else Unjudged

abbrev pub same_turn : Turn → Turn → Bool
same_turn = sameb the_type
