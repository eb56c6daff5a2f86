-- What `Bbox` stands for: the events that it was given.
use Rattle.std.specs.Prelude.{List}
use Rattle.gj_json.specs.declared.event.Event.{Event}
use Rattle.gj_coords.specs.declared.bbox.Bbox.{Bbox}
use Rattle.gj_coords.specs.Internal.ValueMachine.{ReadsOn}
use Rattle.gj_coords.specs.Internal.BoxElements.{box_machine, box_answer}

-- What it says is internal: a caller needs that `new` stands for no events, and that `event` keeps it.
unfoldable pub StandsFor : Bbox → List Event → Type 0
StandsFor bbox events = ReadsOn box_machine box_answer bbox events
