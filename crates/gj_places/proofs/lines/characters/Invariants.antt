use Rattle.std.proofs.Common.{◌≡◌, ◌*◌, take}
use Rattle.gj_places.specs.Lines.{characters}
use Rattle.gj_places.specs.declared.lines.TheConstants.{BLOCK}
use Rattle.gj_places.proofs.lines.characters.Given as goal

abbrev pub invariant-loop-block : goal.invariant-loop-block
invariant-loop-block l = l.count ≡ characters (take (l.block-index * BLOCK) l.bytes)
