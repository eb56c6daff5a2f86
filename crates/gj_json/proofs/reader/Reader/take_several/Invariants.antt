use Rattle.gj_json.proofs.Common.{FeedsAll, IsDueAt, drop, length, ◌-◌, ◌≡◌, ◌≤◌}
use Rattle.std.proofs.Common.{IsTrue, take}
use Rattle.gj_json.proofs.reader.Reader.take_several.Given as goal

abbrev pub invariant-loop-begins : goal.invariant-loop-begins
invariant-loop-begins g l = record {
  within : length l.rest ≤ length l.piece;
  rest_is : l.rest ≡ drop (length l.piece - length l.rest) l.piece;
  fed : FeedsAll (g.S.EventSink.heard l.fn.sink) (g.S.EventSink.heard l.sink) l.fn.self l.self (take (length l.piece - length l.rest) l.piece);
  next : IsTrue l.begins → IsDueAt l.self.mode l.rest;
  levels : l.self.levels ≡ l.fn.self.levels;
}

abbrev pub decreases-loop-begins : goal.decreases-loop-begins
decreases-loop-begins g l = length l.rest
