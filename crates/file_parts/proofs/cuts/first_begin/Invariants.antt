use Rattle.std.proofs.Common.{◌≡◌}
use Rattle.file_parts.specs.Internal.Begins.{follows_at, NoneBegins}
use Rattle.file_parts.proofs.cuts.first_begin.Given as goal

abbrev pub invariant-loop-i : goal.invariant-loop-i
invariant-loop-i l = record {
  follows : l.follows ≡ follows_at l.framing l.follows_separator l.piece l.i;
  none : NoneBegins l.framing l.follows_separator l.piece l.i;
}
