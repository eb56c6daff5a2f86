use Rattle.gj_json.proofs.Common.{FeedsAny, OfPrefix, length, names, true, ◌-◌, ◌≡◌, ◌≤◌}
use Rattle.gj_json.specs.Internal.OpenLevels.{levels_in}
use Rattle.gj_json.proofs.reader.Reader.pass_members.Given as goal

abbrev pub invariant-loop-at : goal.invariant-loop-at
invariant-loop-at l = record {
  due : names l.self.mode ≡ true;
  few : length (levels_in l.fn.self.levels) ≤ length (levels_in l.self.levels);
  taken : OfPrefix (FeedsAny l.fn.self l.self) l.piece l.at;
}

abbrev pub decreases-loop-at : goal.decreases-loop-at
decreases-loop-at l = length l.piece - l.at
