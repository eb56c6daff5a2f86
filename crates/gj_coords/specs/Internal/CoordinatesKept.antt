-- What is kept of the warnings of the value of `coordinates`, whatever its length.
use Rattle.gj_json.specs.Tree.{Tree}
use Rattle.gj_coords.specs.declared.simple.Simple.{Simple}
use Rattle.gj_coords.specs.declared.warnings.Warnings.{Warnings}
use Rattle.gj_coords.specs.Internal.Gathering.{given}
use Rattle.gj_coords.specs.Internal.GatheredWarnings.{all_in}
use Rattle.gj_coords.specs.Internal.PositionGather.{position_answer}
use Rattle.gj_coords.specs.Internal.LevelGather.{LineSummary, LevelSummary, WholeSummary, third_gathering, second_gathering, first_gathering, warned_as}

-- ---- what the one walk answers of a value, of its elements, and so on

abbrev pub third_answer : Tree → LineSummary
third_answer = given third_gathering position_answer

abbrev pub second_answer : Tree → LevelSummary
second_answer = given second_gathering third_answer

abbrev pub first_answer : Tree → WholeSummary
first_answer = given first_gathering second_answer

unfoldable pub coordinates_kept : Simple → Tree → Warnings
coordinates_kept simple value = all_in (warned_as simple (first_answer value))
