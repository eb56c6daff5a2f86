-- What a `Winding` holds of the corners that it was given, and how they run by that.
use Rattle.std.specs.Prelude.{List, [], ◌∷◌, Option, Some, None, Bool, true, false, if◌then◌else◌, ℤ, pos, ◌+ℤ◌}
use Rattle.std.specs.Int.{int_wrap, w128}
use Rattle.gj_coords.specs.declared.winding.Corner.{Corner}
use Rattle.gj_coords.specs.declared.winding.RunningSum.{RunningSum}
use Rattle.gj_coords.specs.declared.winding.Turn.{Turn}
use Rattle.gj_coords.specs.declared.winding.Turn.TheVariants.{Left, Right, Unjudged}
use Rattle.gj_coords.specs.declared.winding.Winding.{Winding}
use Rattle.gj_coords.specs.Winding.{cross, sign_of, same_turn}

abbrev pub no_winding : Winding
no_winding = record { area = pos 0; last = None; unjudged = false }

-- the term of the area for the way from the last corner to this one
abbrev pub term_of : Option Corner → Corner → ℤ
term_of None corner = pos 0
term_of (Some last) corner = cross last corner

-- the sum is held in 128 bits
abbrev pub corner_added : Winding → Corner → Winding
corner_added winding corner = record winding { area = int_wrap w128 (winding.area +ℤ term_of winding.last corner); last = Some corner }

-- its sum and its last corner, where there is one
abbrev pub sum_from : ℤ → Option Corner → Option RunningSum
sum_from area None = None
sum_from area (Some last) = Some (record { area = area; last = last })

abbrev pub sum_in : Winding → Option RunningSum
sum_in winding = sum_from winding.area winding.last

abbrev pub with_sum : Winding → RunningSum → Winding
with_sum winding sum = record winding { area = sum.area; last = Some sum.last }

-- with a corner more
abbrev pub sum_added : RunningSum → Corner → RunningSum
sum_added sum corner = record { area = int_wrap w128 (sum.area +ℤ cross sum.last corner); last = corner }

abbrev pub winding_added : Winding → Option Corner → Winding
winding_added winding (Some corner) = corner_added winding corner
winding_added winding None = record winding { unjudged = true }

-- with these corners in turn
abbrev pub all_added : Winding → List (Option Corner) → Winding
all_added winding [] = winding
all_added winding (corner ∷ more) = all_added (winding_added winding corner) more

abbrev pub turn_in : Winding → Turn
turn_in winding = if winding.unjudged then Unjudged else sign_of winding.area

abbrev pub wrong_for_exterior : Turn → Bool
wrong_for_exterior turn = same_turn turn Right

abbrev pub wrong_for_hole : Turn → Bool
wrong_for_hole turn = same_turn turn Left
