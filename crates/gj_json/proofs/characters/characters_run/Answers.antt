-- Some characters after others.
use Rattle.gj_json.proofs.Common.{Plain, ◌++◌}
use Rattle.gj_json.proofs.Pieces.QuietModes.{reads_more}
use Rattle.gj_json.proofs.Pieces.PieceRests.{more_within}
use Rattle.gj_json.proofs.characters.characters_run.Goals as goal

pub loop-at-preserved : goal.loop-at-preserved
loop-at-preserved c =
    let piece = c.args.piece.now in
    let before = c.loop-at.invariant.characters in
    let more = c.some_characters-count.ensures.characters in
    record {
      within = more_within piece c.loop-at.at c.some_characters-count.result c.loop-at.invariant.within c.some_characters-count.ensures.within;
      characters = (before.0 ++ more.0, reads_more Plain Plain Plain piece before.0 more.0 c.loop-at.at c.some_characters-count.result before.1 more.1);
    }
