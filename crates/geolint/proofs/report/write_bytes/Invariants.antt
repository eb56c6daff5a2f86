use Rattle.std.proofs.Common.{length, take, ◌-◌, ◌≡◌, ◌≤◌}
use Rattle.std.specs.Io.KnownBytes.{Appends}
use Rattle.geolint.proofs.report.write_bytes.Given as goal

-- the front of the bytes is out, and no write has failed
abbrev pub invariant-loop-at : goal.invariant-loop-at
invariant-loop-at g l = record {
  within : l.at ≤ length l.bytes;
  out : Appends (g.W.Sink.taken l.initial.writer) (g.W.Sink.taken l.writer) (take l.at l.bytes);
  unfailed : g.W.Sink.failed_writes l.writer ≡ g.W.Sink.failed_writes l.initial.writer;
}

abbrev pub decreases-loop-at : goal.decreases-loop-at
decreases-loop-at g l = length l.bytes - l.at
