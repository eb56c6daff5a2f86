-- How far a `Walk` is: the levels that are not open do not matter.
use Rattle.gj_coords.specs.declared.walk.Depth.{Depth}
use Rattle.gj_coords.specs.declared.walk.Depth.TheVariants.{First, Second, Third, Fourth}
use Rattle.gj_coords.specs.declared.walk.Stage.{Stage}
use Rattle.gj_coords.specs.declared.walk.Stage.TheVariants.{Due, Open, Past, Broken, Done}
use Rattle.gj_coords.specs.declared.walk.Walk.{Walk}
use Rattle.gj_coords.specs.Internal.LevelGather.{WholeSummary, other, level, line_of}
use Rattle.gj_coords.specs.Internal.Progress.{Progress, waiting, in_first, in_second, in_third, in_fourth, past, broken, done}

abbrev pub open_at : Depth → Walk → Progress
open_at First s = in_first s.outer
open_at Second s = in_second s.outer s.middle
open_at Third s = in_third s.outer s.middle (line_of s.inner)
open_at Fourth s = in_fourth s.outer s.middle (line_of s.inner) s.numbers

abbrev pub open_progress : Walk → Progress
open_progress s = open_at s.depth s

abbrev pub progress_at : Stage → Walk → Progress
progress_at Due s = waiting
progress_at Open s = open_progress s
progress_at Past s = past (open_progress s) s.other
progress_at Broken s = broken s.other
progress_at Done s = done s.outer

abbrev pub progress : Walk → Progress
progress s = progress_at s.stage s

-- what it answers of a value that has ended
abbrev pub answer_at : Stage → Walk → WholeSummary
answer_at Broken s = other s.other.first.place
answer_at _ s = level s.outer

abbrev pub answer_of : Walk → WholeSummary
answer_of s = answer_at s.stage s
