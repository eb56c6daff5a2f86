-- What the rules keep, and what their calls do to it.
use Rattle.std.specs.Prelude.{ℕ, zero, ◌≡◌, ◌+◌, ◌<◌, List, [], ◌∷◌, length, reverse, take, slice_index_or, map, false, None, ◌≤◌, ◌++◌}
use Rattle.gj_json.specs.declared.event.Event.{Event}
use Rattle.gj_json.specs.declared.names.Known.TheVariants as Known
use Rattle.gj_json.specs.declared.event.What.{What}
use Rattle.gj_json.specs.Tree.{Tree, depth}
use Rattle.gj_json.specs.Events.{value_events}
use Rattle.gj_coords.specs.declared.coordinates.Coordinates.{Coordinates}
use Rattle.gj_coords.specs.declared.bbox.Bbox.{Bbox}
use Rattle.gj_coords.specs.Internal.GatheredWarnings.{no_warned}
use Rattle.gj_rules.specs.declared.frame.Frame as D
use Rattle.gj_rules.specs.Internal.FrameMeaning.{Frame}
use Rattle.gj_rules.specs.Internal.FrameReading.{frame_in, found_in}
use Rattle.gj_rules.specs.declared.mode.Mode.{Mode}
use Rattle.gj_rules.specs.declared.mode.Mode.TheVariants.{RootDue, Due, Done}
use Rattle.gj_rules.specs.declared.role.Role.{Role}
use Rattle.gj_rules.specs.declared.member_slots.Shaped.{Shaped}
use Rattle.gj_rules.specs.declared.rules.FramedRules.{FramedRules}
use Rattle.gj_coords.specs.SimpleFaults.{by_simple}
use Rattle.gj_rules.specs.Levels.{most_levels}
use Rattle.gj_rules.specs.Internal.EventSteps.{Core, State, ended}
use Rattle.gj_rules.specs.Internal.Summaries.{StandsForCoordinates, StandsForBbox}

-- at an index where no frame lies: there is always one at that of the innermost object
unfoldable pub no_frame : D.Frame
no_frame = record {
  slots = record {
    place = 0;
    role = Role.Root;
    repeated = None;
    type_value = None;
    shapes = record {
      faults = by_simple (λ simple. None);
      point_or_one = no_warned;
      multi_point = no_warned;
      multi_line_string = no_warned;
      polygon = no_warned;
      multi_polygon = no_warned;
    };
    shaped = Shaped.No;
    present = 0;
    faulty = 0;
    names_at = [];
    faults = [];
  };
  gathered = record {
    own = record { warned = no_warned; counts = false };
    geometries = record { warned = no_warned; counts = false };
    geometry = record { warned = no_warned; counts = false };
    features = record { warned = no_warned; counts = false };
  };
}

-- the frame of the innermost open object with a role
abbrev pub top_of : {frames : ℕ} → FramedRules frames → Frame
top_of rules = frame_in (slice_index_or rules.frames rules.around no_frame)

abbrev pub core_of : {frames : ℕ} → FramedRules frames → Core
core_of rules = record {
  skipped = rules.skipped;
  mode = rules.mode;
  top = top_of rules;
  outer = map frame_in (reverse (take rules.around rules.frames));
  answer = found_in rules.answer;
}

-- the summary of the value that is under way has taken these events of it
abbrev pub HoldsIn : ℕ → Mode → Coordinates → Bbox → List Event → Type 0
HoldsIn zero (Due Known.Coordinates) coordinates bbox taken = StandsForCoordinates coordinates taken
HoldsIn zero (Due Known.Bbox) coordinates bbox taken = StandsForBbox bbox taken
HoldsIn _ _ coordinates bbox taken = Unit {0}

abbrev pub Holds : {frames : ℕ} → FramedRules frames → List Event → Type 0
Holds rules taken = HoldsIn rules.skipped rules.mode rules.coordinates rules.bbox taken

abbrev pub Stands : {frames : ℕ} → FramedRules frames → State → Type 0
Stands rules s = (core_of rules ≡ s.core) × Holds rules s.feed.taken

-- ---- what the calls of the rules do

-- the number of frames in use
abbrev pub frames_by : Mode → List Frame → ℕ
frames_by RootDue outer = 0
frames_by Done outer = 0
frames_by _ outer = length outer + 1

-- an object that opens has room for its frame among so many
abbrev pub HasRoom : ℕ → What → List Frame → Type 0
HasRoom frames What.OpenObject outer = length outer + 1 < frames
HasRoom frames _ outer = Unit {0}

-- the summary took one event more of its value
abbrev pub Fed : {frames : ℕ} → FramedRules frames → Tree → List Event → List Event → FramedRules frames → Type 0
Fed old value taken [] new = core_of new ≡ ended value (core_of old)
Fed old value taken (next ∷ more) new = (core_of new ≡ core_of old) × Holds new taken

-- the event was one more of the value that a summary takes
abbrev pub Feeds : {frames : ℕ} → FramedRules frames → Event → FramedRules frames → Type 0
Feeds old event new =
    (value : Tree) (taken left : List Event) → depth value ≤ most_levels → Holds old taken → (taken ++ event ∷ []) ++ left ≡ value_events value
    → Fed old value (taken ++ event ∷ []) left new

-- the events were more of the value that a summary takes
abbrev pub FeedsMany : {frames : ℕ} → FramedRules frames → List Event → FramedRules frames → Type 0
FeedsMany old events new = (value : Tree) (taken left : List Event) → depth value ≤ most_levels → Holds old taken
    → (taken ++ events) ++ left ≡ value_events value → Fed old value (taken ++ events) left new
