use Rattle.std.proofs.Common.{take, ◌++◌, ◌≡◌}
use Rattle.geolint_report.specs.Line.{joined}
use Rattle.geolint_report.proofs.line.put_all.Given as goal

-- the pieces before this one are there
abbrev pub invariant-loop-piece : goal.invariant-loop-piece
invariant-loop-piece l = record {
  done : l.line.items ≡ l.initial.line.items ++ joined (take l.piece-index l.pieces);
}
