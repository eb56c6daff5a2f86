-- One escape after another.
use Rattle.gj_json.proofs.Common.{Plain, ◌++◌}
use Rattle.gj_json.proofs.Grammar.SpelledCharacters.{characters_read_at}
use Rattle.gj_json.proofs.Pieces.QuietModes.{reads_more}
use Rattle.gj_json.proofs.Pieces.PieceRests.{more_within}
use Rattle.gj_json.proofs.characters.escapes_run.Goals as goal

pub loop-at-preserved : goal.loop-at-preserved
loop-at-preserved c =
    let piece = c.args.piece.now in
    let before = c.loop-at.invariant.characters in
    let more = characters_read_at _ c.escape-count.result c.escape-count.ensures.character in
    record {
      within = more_within piece c.loop-at.at c.escape-count.result c.loop-at.invariant.within c.escape-count.ensures.within;
      characters = (before.0 ++ more.0, reads_more Plain Plain Plain piece before.0 more.0 c.loop-at.at c.escape-count.result before.1 more.1);
    }
