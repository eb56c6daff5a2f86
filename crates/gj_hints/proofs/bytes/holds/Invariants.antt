use Rattle.std.proofs.Common.{◌≡◌, length}
use Rattle.gj_hints.specs.Bytes.{holds}
use Rattle.gj_hints.proofs.bytes.holds.Given as goal

-- the part stands in what is left where it stands in the bytes
abbrev pub invariant-loop-more : goal.invariant-loop-more
invariant-loop-more l = holds l.bytes l.part ≡ holds l.rest l.part

abbrev pub decreases-loop-more : goal.decreases-loop-more
decreases-loop-more l = length l.rest
