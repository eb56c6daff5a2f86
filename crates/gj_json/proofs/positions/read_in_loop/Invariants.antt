-- What was read so far, and where it ends.
use Rattle.gj_json.proofs.Common.{length, ◌≡◌, ◌≤◌}
use Rattle.std.proofs.Common.{take}
use Rattle.gj_json.specs.Internal.SpelledPositions.{gap_of, HasHead}
use Rattle.gj_json.proofs.Pieces.ReadPositions.{ReadTo}
use Rattle.gj_json.proofs.positions.read_in_loop.Given as goal

abbrev pub invariant-loop-count : goal.invariant-loop-count
invariant-loop-count g l = record {
  few : l.count ≤ 24;
  size : length l.positions ≡ 24;
  within : length l.rest ≤ length l.piece;
  head : HasHead l.fn.separators l.rest;
  read : ReadTo (gap_of l.fn.separators) l.fn.start l.piece (take l.count l.positions) l.rest;
}

abbrev pub decreases-loop-count : goal.decreases-loop-count
decreases-loop-count g l = length l.rest
