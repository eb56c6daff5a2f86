use Rattle.std.proofs.Common.{arith, ◌<◌, ap, ◌∙◌, ◌∷◌, [], false, length, take, get_or}
use Rattle.std.proofs.lemmas.List.{take_more}
use Rattle.std.proofs.lemmas.Bool.{and_parts}
use Rattle.gj_places.specs.Lines.{has_line_feed}
use Rattle.gj_places.proofs.CountedPieces.{counted, characters-take}
use Rattle.gj_places.proofs.KeptLines.{has-neither, has-one}
use Rattle.gj_places.proofs.lines.is_plain_block.Goals as goal

pub loop-byte-preserved : goal.loop-byte-preserved
loop-byte-preserved c = λ is.
    let i = c.loop-byte.byte-index in
    let block = c.args.block.now in
    let byte = get_or block i 0 in
    let two = and_parts c.loop-byte.all c.is_plain_byte-all.result is in
    let front = c.loop-byte.invariant two.0 in
    let within : i < length block = omega (arith, c.loop-byte-test.true, c.loop-byte.auto.byte-index-end) in
    let plain = c.is_plain_byte-all.ensures two.1 in
    let one = ap counted plain.1 in (
      ap has_line_feed (take_more block i 0 within) ∙ has-neither (take i block) (byte ∷ []) (has-one byte false plain.0) ∙ front.0,
      omega (arith, characters-take block i within, one, front.1),
    )
