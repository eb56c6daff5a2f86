-- No record has ended in the bytes up to the place.
use Rattle.gj_rules.proofs.Common.{HaveToldIf, List, Record, false, length, take, ◌++◌, ◌-◌, ◌≤◌}
use Rattle.std.proofs.Common.{ℕ}
use Rattle.gj_rules.specs.Internal.ToldRecords.{Keeps}
use Rattle.gj_rules.specs.RecordsStand.{StandsFor}
use Rattle.gj_rules.proofs.records.Records.feed_one.Given as goal

abbrev pub invariant-loop-at : goal.invariant-loop-at
invariant-loop-at g l = record {
  within : l.at ≤ length l.piece;
  told : (bytes : List ℕ) (before found : List Record) → StandsFor l.fn.self bytes found → g.S.RecordSink.told l.fn.sink (before ++ found)
      → HaveToldIf false (g.S.RecordSink.told l.sink) l.self (bytes ++ take l.at l.piece) before found;
  keeps : Keeps l.fn.self l.self;
}

abbrev pub decreases-loop-at : goal.decreases-loop-at
decreases-loop-at g l = length l.piece - l.at
