use Rattle.std.proofs.Common.{◌≡◌, take, true, false}
use Rattle.gj_places.specs.Lines.{characters, has_line_feed}
use Rattle.gj_places.proofs.lines.is_plain_block.Given as goal

abbrev pub invariant-loop-byte : goal.invariant-loop-byte
invariant-loop-byte l = l.all ≡ true → (has_line_feed (take l.byte-index l.block) ≡ false) × (characters (take l.byte-index l.block) ≡ l.byte-index)
