-- No byte is quiet.
use Rattle.gj_json.proofs.Common.{arith}
use Rattle.gj_json.proofs.Pieces.QuietModes.{other_mode, no_text}
use Rattle.gj_json.proofs.Pieces.SkippedRuns.{nothing_skipped}
use Rattle.gj_json.proofs.Readers.CallsInTurn.{of_prefix}
use Rattle.gj_json.proofs.reader.Reader.skip_front.Goals as goal

pub returns-else-is_white : goal.returns-else-is_white
returns-else-is_white c =
    let mode = c.args.self.now.mode in
    of_prefix (omega arith) (nothing_skipped c.args.self.now (other_mode mode c.in_default.not-NumberOn) (no_text mode c.in_default.not-StringOn c.in_default.not-NameOn))
