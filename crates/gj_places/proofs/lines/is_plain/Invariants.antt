use Rattle.std.proofs.Common.{◌≡◌, ◌*◌, take, false}
use Rattle.gj_places.specs.Lines.{characters, has_line_feed}
use Rattle.gj_places.specs.declared.lines.TheConstants.{PLAIN_BLOCK}
use Rattle.gj_places.proofs.lines.is_plain.Given as goal

abbrev pub invariant-loop-block : goal.invariant-loop-block
invariant-loop-block l =
    (has_line_feed (take (l.block-index * PLAIN_BLOCK) l.bytes) ≡ false)
    × (characters (take (l.block-index * PLAIN_BLOCK) l.bytes) ≡ l.block-index * PLAIN_BLOCK)
