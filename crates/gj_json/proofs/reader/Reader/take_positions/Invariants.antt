use Rattle.gj_json.proofs.Common.{FeedsAll, IsDueAt, drop, length, ◌-◌, ◌≡◌, ◌≤◌}
use Rattle.std.proofs.Common.{take}
use Rattle.gj_json.specs.Internal.SpelledPositions.{HasHead}
use Rattle.gj_json.proofs.reader.Reader.take_positions.Given as goal

abbrev pub invariant-loop-taken : goal.invariant-loop-taken
invariant-loop-taken g l = record {
  within : length l.rest ≤ length l.piece;
  rest_is : l.rest ≡ drop (length l.piece - length l.rest) l.piece;
  fed : FeedsAll (g.S.EventSink.heard l.fn.sink) (g.S.EventSink.heard l.sink) l.fn.self l.self (take (length l.piece - length l.rest) l.piece);
  next : IsDueAt l.self.mode l.rest;
  head : l.taken ≡ 24 → HasHead l.fn.separators l.rest;
  levels : l.self.levels ≡ l.fn.self.levels;
}

abbrev pub decreases-loop-taken : goal.decreases-loop-taken
decreases-loop-taken g l = length l.rest
