use Rattle.std.proofs.Common.{◌≡◌, ◌≤◌, ◌+◌, length, drop, option_map}
use Rattle.gj_join.specs.Seams.{seam}
use Rattle.gj_join.proofs.seam.after_brace.Given as goal

abbrev pub invariant-loop-index : goal.invariant-loop-index
invariant-loop-index l = (l.index ≤ length l.bytes) × (seam l.bytes ≡ option_map (λ n. l.index + n) (seam (drop l.index l.bytes)))
