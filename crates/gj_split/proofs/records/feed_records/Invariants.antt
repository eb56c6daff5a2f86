use Rattle.gj_split.proofs.Common.{List, Some, length, take, ℕ, [], ◌≡◌, ◌≤◌}
use Rattle.gj_rules.specs.RecordsStand.{StandsFor, framing_of, limits_of}
use Rattle.gj_split.specs.Internal.HeldOfRecords.{AreRead}
use Rattle.gj_split.proofs.records.feed_records.Given as goal

abbrev pub invariant-loop-turn : goal.invariant-loop-turn
invariant-loop-turn g l = record {
  framing : framing_of l.records ≡ framing_of l.initial.records;
  limits : limits_of l.records ≡ limits_of l.initial.records;
  read : (bytes : List ℕ) → g.R.Ranges.text ≡ Some bytes → StandsFor l.initial.records [] [] → g.S.RecordSink.told l.initial.sink []
      → (l.at ≤ length bytes) × AreRead (g.S.RecordSink.told l.sink) l.records (take l.at bytes);
}
