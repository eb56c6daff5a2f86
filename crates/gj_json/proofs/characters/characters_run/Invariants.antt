use Rattle.gj_json.proofs.Common.{AreCharacters, length, ◌-◌, ◌≤◌}
use Rattle.std.proofs.Common.{take}
use Rattle.gj_json.proofs.characters.characters_run.Given as goal

abbrev pub invariant-loop-at : goal.invariant-loop-at
invariant-loop-at l = record {
  within : l.at ≤ length l.piece;
  characters : AreCharacters (take l.at l.piece);
}

abbrev pub decreases-loop-at : goal.decreases-loop-at
decreases-loop-at l = length l.piece - l.at
