-- Where a position that is reported as one changes nothing but what is gathered of positions, and their count.
use Rattle.std.specs.Prelude.{◌≡◌, ℕ, min, ◌≤◌, Option, Some, None}
use Rattle.gj_json.specs.declared.flat.Flat.{Flat}
use Rattle.gj_coords.specs.declared.fault.Fault.{Fault}
use Rattle.gj_coords.specs.declared.position.Numbers.{Numbers}
use Rattle.gj_coords.specs.declared.walk.Depth.{Depth}
use Rattle.gj_coords.specs.declared.walk.Depth.TheVariants.{First, Second, Third, Fourth}
use Rattle.gj_coords.specs.declared.walk.Stage.TheVariants.{Open}
use Rattle.gj_coords.specs.declared.walk.Walk.{Walk}
use Rattle.gj_coords.specs.declared.walk.level.Level.{Level}
use Rattle.gj_coords.specs.declared.walk.outermost.Outermost.{Outermost}
use Rattle.gj_coords.specs.Internal.PositionGather.{array_counted, sound_noted}
use Rattle.gj_coords.specs.Internal.PositionsGather.{position_added}
use Rattle.gj_json.specs.Flat.{flat_events}
use Rattle.gj_coords.specs.Internal.ValueMachine.{run}
use Rattle.gj_coords.specs.Internal.LevelGather.{Line}
use Rattle.gj_coords.specs.Internal.Progress.{step}
use Rattle.gj_coords.specs.Internal.WalkProgress.{progress}
use Rattle.gj_coords.specs.Internal.FlatPosition.{flat_position}

-- there is a fault, which stands at this place or before it
abbrev pub IsFaultBy : ℕ → Option Fault → Type 0
IsFaultBy floor None = ⊥
IsFaultBy floor (Some fault) = fault.place ≤ floor

-- as many values are held as elements are counted, as far as they are
abbrev pub IsCounted : Numbers → Type 0
IsCounted numbers = numbers.values.count ≡ min 3 numbers.tally.count

-- an array more after the place is only counted
pub record IsSettled (floor : ℕ) (numbers : Numbers) : Type 0 where
  pub counted : IsCounted numbers
  pub fault : IsFaultBy floor numbers.fault

pub record IsSteadyFirst (floor : ℕ) (g : Outermost) : Type 0 where
  pub settled : IsSettled floor g.numbers
  pub by_lines : IsFaultBy floor g.lines
  pub by_rings : IsFaultBy floor g.rings
  pub by_polygons : IsFaultBy floor g.polygons

pub record IsSteadySecond (floor : ℕ) (h : Level) : Type 0 where
  pub settled : IsSettled floor h.numbers
  pub by_rings : IsFaultBy floor h.rings

abbrev pub IsSteadyAt : Depth → ℕ → Walk → Type 0
IsSteadyAt First floor s = IsSteadyFirst floor s.outer
IsSteadyAt Second floor s = IsSteadySecond floor s.middle
IsSteadyAt Third floor s = IsSettled floor s.inner.numbers
IsSteadyAt Fourth floor s = ⊥

-- a position is due, and none after the place changes a fault
pub record IsSteady (floor : ℕ) (s : Walk) : Type 0 where
  pub is_open : s.stage ≡ Open
  pub innermost : IsSteadyAt s.depth floor s

-- what a position more, which is reported as one, then changes
abbrev pub third_steady : Flat → Line → Line
third_steady f s = record s { numbers = array_counted s.numbers; positions = position_added s.positions (flat_position f) }

abbrev pub second_steady : Flat → Level → Level
second_steady f s = record s { numbers = array_counted s.numbers; positions = position_added s.positions (flat_position f) }

abbrev pub first_steady : Flat → Outermost → Outermost
first_steady f s = record s { numbers = array_counted s.numbers; positions_warned = sound_noted s.positions_warned (flat_position f) }

-- where its events lead, and that the walk is steady still
pub record StaysSteady (floor : ℕ) (f : Flat) (old new : Walk) : Type 0 where
  pub leads : run step (progress old) (flat_events f) ≡ progress new
  pub steady : IsSteady floor new
