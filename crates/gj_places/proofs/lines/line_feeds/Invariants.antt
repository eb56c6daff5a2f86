use Rattle.std.proofs.Common.{◌≡◌, ◌*◌, take}
use Rattle.gj_places.specs.Lines.{line_feeds}
use Rattle.gj_places.specs.declared.lines.TheConstants.{ROW}
use Rattle.gj_places.proofs.lines.line_feeds.Given as goal

abbrev pub invariant-loop-row : goal.invariant-loop-row
invariant-loop-row l = l.count ≡ line_feeds (take (l.row-index * ROW) l.bytes)
