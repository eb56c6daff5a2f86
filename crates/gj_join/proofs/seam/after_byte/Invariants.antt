use Rattle.std.proofs.Common.{◌≡◌, ◌≤◌, length, drop}
use Rattle.gj_join.specs.Seams.{after_byte}
use Rattle.gj_join.proofs.seam.after_byte.Given as goal

abbrev pub invariant-loop-index : goal.invariant-loop-index
invariant-loop-index l = (l.index ≤ length l.bytes) × (after_byte l.byte l.bytes ≡ after_byte l.byte (drop l.index l.bytes))
