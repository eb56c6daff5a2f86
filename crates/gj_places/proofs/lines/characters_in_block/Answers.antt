use Rattle.std.proofs.Common.{rules, arith, ◌≡◌, ap, get_or}
use Rattle.std.specs.Prelude.{true, false}
use Rattle.gj_places.specs.Lines.{begins_character}
use Rattle.gj_places.proofs.CountedPieces.{counted, characters-take}
use Rattle.gj_places.proofs.lines.characters_in_block.Goals as goal
use Rattle.gj_places.proofs.lines.characters_in_block.Goals.{then-begins_character, else-begins_character}

pub loop-byte-preserved : goal.loop-byte-preserved
loop-byte-preserved c =
    let more = characters-take c.args.block.now c.loop-byte.byte-index c.loop-byte-test.true in
    elim c.if-begins_character.branch [
      | then-begins_character w ↦ (
          let is : begins_character (get_or c.args.block.now c.loop-byte.byte-index 0) ≡ true = search rules in
          let one = ap counted is in
          (omega (arith, more, one, w.count-is, c.loop-byte.invariant.0), omega (arith, w.count-is, c.loop-byte.invariant.1))
          )
      | else-begins_character w ↦ (
          let is : begins_character (get_or c.args.block.now c.loop-byte.byte-index 0) ≡ false = search rules in
          let one = ap counted is in
          (omega (arith, more, one, w.count-is, c.loop-byte.invariant.0), omega (arith, w.count-is, c.loop-byte.invariant.1))
          )
    ]
