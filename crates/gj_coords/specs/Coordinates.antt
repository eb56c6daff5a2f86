-- What `Coordinates` stands for: the events that it was given.
use Rattle.std.specs.Prelude.{◌≡◌, ◌<◌, ◌^◌, List, [], ◌∷◌, ◌++◌}
use Rattle.gj_json.specs.declared.event.Event.{Event}
use Rattle.gj_json.specs.declared.flat.Flat.{Flat}
use Rattle.gj_json.specs.Tree.{Tree, depth}
use Rattle.gj_json.specs.Events.{value_events}
use Rattle.gj_json.specs.Flat.{flat_events}
use Rattle.gj_coords.specs.declared.coordinates.Coordinates.{Coordinates}
use Rattle.gj_coords.specs.declared.coordinates.State.{State}
use Rattle.gj_coords.specs.declared.coordinates.State.TheVariants.{Walked, Steady, Whole}
use Rattle.gj_coords.specs.declared.walk.Stage.TheVariants.{Done}
use Rattle.gj_coords.specs.declared.walk.Walk.{Walk}
use Rattle.gj_coords.specs.Internal.ValueMachine.{ReadsOn}
use Rattle.gj_coords.specs.Internal.GatheredWarnings.{no_warned}
use Rattle.gj_coords.specs.Internal.PositionGather.{sound_noted}
use Rattle.gj_coords.specs.Internal.FlatPosition.{flat_misshapen, flat_position, flat_first}
use Rattle.gj_coords.specs.Internal.CoordinatesKept.{first_answer}
use Rattle.gj_coords.specs.Internal.Progress.{Progress, done, progress_machine}
use Rattle.gj_coords.specs.Internal.WalkProgress.{progress}
use Rattle.gj_coords.specs.Internal.SteadyWalk.{IsSteady}

-- so far are these events read
abbrev pub IsAt : List Event → Progress → Type 0
IsAt events s = ReadsOn progress_machine first_answer s events

-- the walk has ended in a position, of which little is held
pub record IsWhole (events : List Event) (walk : Walk) : Type 0 where
  pub position : Flat
  pub reads_on : IsAt events (done (flat_first position))
  pub ended : walk.stage ≡ Done
  pub fault : walk.outer.positions ≡ flat_misshapen position
  pub warned : walk.outer.positions_warned ≡ sound_noted no_warned (flat_position position)

abbrev pub Holds : State → List Event → Walk → Type 0
Holds Walked events walk = IsAt events (progress walk)
Holds (Steady floor) events walk = IsAt events (progress walk) × IsSteady floor walk
Holds Whole events walk = IsWhole events walk

-- What it says is internal: a caller needs that `new` stands for no events, and that each call keeps it.
pub record StandsFor (coordinates : Coordinates) (events : List Event) : Type 0 where
  pub holds : Holds coordinates.state events coordinates.walk

-- no value ends with these events
abbrev pub NotEnded : List Event → Type 0
NotEnded events = (value : Tree) → depth value < 2 ^ 64 → events ≡ value_events value → ⊥

-- and none with one of these arrays after them
abbrev pub NoneEnds : List Event → List Flat → Type 0
NoneEnds events [] = Unit {0}
NoneEnds events (flat ∷ flats) = NotEnded (events ++ flat_events flat) × NoneEnds (events ++ flat_events flat) flats
