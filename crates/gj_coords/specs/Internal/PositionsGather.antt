-- What an array of positions gathers, and a linear ring.
use Rattle.std.specs.Prelude.{ℕ, zero, suc, Option, Some, None, is_none, Bool, ◌&&◌, not, true, if◌then◌else◌}
use Rattle.gj_coords.specs.declared.fault.Fault.{Fault}
use Rattle.gj_coords.specs.declared.fault.Rule.TheVariants.{G14, G15}
use Rattle.gj_coords.specs.declared.kind.Kind.TheVariants.{W2}
use Rattle.gj_coords.specs.Internal.PositionGather.{Position}
use Rattle.gj_coords.specs.declared.position.Values.{Values}
use Rattle.gj_coords.specs.declared.ring.Positions.{Positions}
use Rattle.gj_coords.specs.declared.ring.RingRole.{RingRole}
use Rattle.gj_coords.specs.declared.ring.RingRole.TheVariants.{Exterior, Hole}
use Rattle.gj_coords.specs.declared.tally.Tally.{Tally}
use Rattle.gj_coords.specs.declared.warned.Warned.{Warned}
use Rattle.gj_coords.specs.declared.winding.Corner.{Corner}
use Rattle.gj_coords.specs.declared.winding.Turn.{Turn}
use Rattle.gj_coords.specs.Fault.{fault_at, lesser}
use Rattle.gj_coords.specs.Internal.ElementCount.{few_in}
use Rattle.gj_coords.specs.Internal.GatheredWarnings.{no_warned, noted_when, taken}
use Rattle.gj_coords.specs.Internal.WindingGather.{no_winding, winding_added, wrong_for_exterior, wrong_for_hole}
use Rattle.gj_coords.specs.Internal.PositionGather.{same_values, misshapen_at, corner_in, sound_noted}

abbrev pub no_positions : Positions
no_positions = record { first = None; winding = no_winding; warned = no_warned; fault = None; closes = true }

abbrev pub first_or : Option Values → Values → Values
first_or None values = values
first_or (Some first) values = first

-- a position without a fault after others without one
abbrev pub sound_joined : Positions → Values → Option Corner → Positions
sound_joined s values corner = record s {
  first = Some (first_or s.first values);
  winding = winding_added s.winding corner;
  closes = same_values (first_or s.first values) values;
}

-- with the least fault before it; whether they close and how they run is of no use where there is one
abbrev pub sound_added : Option Fault → Positions → Position → Positions
sound_added None s p = sound_joined (record s { warned = sound_noted s.warned p }) p.values (corner_in p.values)
sound_added (Some before) s p = record s { warned = sound_noted s.warned p }

-- with its own least fault
abbrev pub judged_added : Option Fault → Positions → Position → Positions
judged_added None s p = sound_added s.fault s p
judged_added (Some fault) s p = record s { fault = lesser s.fault (Some fault) }

abbrev pub position_added : Positions → Position → Positions
position_added s p = judged_added p.fault s p

abbrev pub misshapen_added : Positions → ℕ → Positions
misshapen_added s place = record s { fault = lesser s.fault (misshapen_at place) }

-- the least fault, where all that is wrong with the positions is that they do not close
abbrev pub unclosed_or : ℕ → Positions → Option Fault
unclosed_or place s = if is_none s.fault && not s.closes then Some (fault_at place G15) else s.fault

abbrev pub ring_closed : Tally → Positions → Option Fault
ring_closed t s = lesser (few_in 4 G14 t) (unclosed_or t.place s)

-- ---- what is worth a warning in a linear ring

-- the first ring of a polygon is the exterior one, and those after it are holes
abbrev pub role_behind : ℕ → RingRole
role_behind zero = Exterior
role_behind (suc n) = Hole

abbrev pub runs_wrong : RingRole → Turn → Bool
runs_wrong Exterior turn = wrong_for_exterior turn
runs_wrong Hole turn = wrong_for_hole turn

-- of a ring at this place, by its least fault, how it runs and what is worth a warning in its positions
abbrev pub ring_noted : RingRole → Warned → ℕ → Option Fault → Turn → Warned → Warned
ring_noted role w place fault turn positions = taken (noted_when (is_none fault && runs_wrong role turn) w W2 place) positions
