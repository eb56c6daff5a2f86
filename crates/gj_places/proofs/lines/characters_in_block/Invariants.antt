use Rattle.std.proofs.Common.{◌≡◌, ◌≤◌, take}
use Rattle.gj_places.specs.Lines.{characters}
use Rattle.gj_places.proofs.lines.characters_in_block.Given as goal

abbrev pub invariant-loop-byte : goal.invariant-loop-byte
invariant-loop-byte l = (l.count ≡ characters (take l.byte-index l.block)) × (l.count ≤ l.byte-index)
