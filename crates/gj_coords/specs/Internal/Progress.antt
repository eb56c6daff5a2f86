-- How far a value of `coordinates` is read, what its open arrays have gathered, and where an event leads.
use Rattle.std.specs.Prelude.{Bool, true, false, if◌then◌else◌}
use Rattle.gj_json.specs.declared.event.Event.{Event}
use Rattle.gj_json.specs.declared.event.What.{What}
use Rattle.gj_coords.specs.declared.element.Element.{Element}
use Rattle.gj_coords.specs.declared.position.Numbers.{Numbers}
use Rattle.gj_coords.specs.declared.walk.level.Level.{Level}
use Rattle.gj_coords.specs.declared.walk.outermost.Outermost.{Outermost}
use Rattle.gj_coords.specs.Internal.ValueMachine.{Machine}
use Rattle.gj_coords.specs.Internal.ElementReader.{inside, levels_after, element_after, element_ended}
use Rattle.gj_coords.specs.Internal.PositionGather.{numbers_start, number_added, position_closed, no_position}
use Rattle.gj_coords.specs.Internal.LevelGather.{Line, WholeSummary, other, level, third_gathering, second_gathering, first_gathering}

pub data Progress : Type 0 where
  -- nothing has come
  waiting : Progress
  -- so many arrays are open
  in_first : Outermost → Progress
  in_second : Outermost → Level → Progress
  in_third : Outermost → Level → Line → Progress
  in_fourth : Outermost → Level → Line → Numbers → Progress
  -- and an element is read past
  past : Progress → Element → Progress
  -- the value is no array, and is read past
  broken : Element → Progress
  done : Outermost → Progress

-- an element that is no array, by its first event
abbrev pub joined : Progress → Event → Progress
joined (in_first g) e = in_first (first_gathering.added g (second_gathering.otherwise e))
joined (in_second g h) e = in_second g (second_gathering.added h (third_gathering.otherwise e))
joined (in_third g h k) e = in_third g h (third_gathering.added k (no_position e))
joined (in_fourth g h k n) e = in_fourth g h k (number_added n e)
joined s e = s

-- an element that is read past, which has ended or not
abbrev pub passed : Progress → Element → Progress
passed s o = if element_ended o then joined s o.first else past s o

-- an event of what is read past, or the first of it
abbrev pub passing : Progress → Event → Progress
passing waiting e = broken (inside e (levels_after 0 e.what))
passing (past s o) e = passed s (element_after o e)
passing (broken o) e = broken (element_after o e)
passing (done g) e = done g
passing s e = past s (inside e (levels_after 0 e.what))

abbrev pub opened : Progress → Event → Progress
opened waiting e = in_first (first_gathering.opened e.place)
opened (in_first g) e = in_second g (second_gathering.opened e.place)
opened (in_second g h) e = in_third g h (third_gathering.opened e.place)
opened (in_third g h k) e = in_fourth g h k (numbers_start e.place)
opened s e = passing s e

abbrev pub closed : Progress → Event → Progress
closed (in_first g) e = done g
closed (in_second g h) e = in_first (first_gathering.added g (second_gathering.closed h))
closed (in_third g h k) e = in_second g (second_gathering.added h (third_gathering.closed k))
closed (in_fourth g h k n) e = in_third g h (third_gathering.added k (position_closed n))
closed s e = passing s e

-- an event that opens and closes nothing
abbrev pub added : Progress → Event → Progress
added (in_first g) e = joined (in_first g) e
added (in_second g h) e = joined (in_second g h) e
added (in_third g h k) e = joined (in_third g h k) e
added (in_fourth g h k n) e = joined (in_fourth g h k n) e
added s e = passing s e

abbrev pub step_by : What → Progress → Event → Progress
step_by What.OpenArray s e = opened s e
step_by What.CloseArray s e = closed s e
step_by What.OpenObject s e = passing s e
step_by _ s e = added s e

abbrev pub step : Progress → Event → Progress
step s e = step_by e.what s e

abbrev pub ended : Progress → Bool
ended (broken o) = element_ended o
ended (done g) = true
ended _ = false

abbrev pub answered : Progress → WholeSummary
answered (done g) = level g
answered (broken o) = other o.first.place
answered _ = other 0

abbrev pub progress_machine : Machine Progress WholeSummary
progress_machine = record { after = step; ended = ended; answered = answered }
