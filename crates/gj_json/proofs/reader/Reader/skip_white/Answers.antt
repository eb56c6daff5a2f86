-- White space leaves the mode as it is.
use Rattle.gj_json.proofs.Common.{length-take-le}
use Rattle.std.proofs.Common.{take}
use Rattle.gj_json.proofs.Pieces.QuietModes.{quiet_leads, other_mode, no_text}
use Rattle.gj_json.proofs.Pieces.SkippedRuns.{leads_skips}
use Rattle.gj_json.proofs.Readers.CallsInTurn.{of_prefix}
use Rattle.gj_json.proofs.reader.Reader.skip_white.Goals as goal

pub returns-in_default : goal.returns-in_default
returns-in_default c =
    let n = c.quiet_run.result in
    let mode = c.args.self.now.mode in
    rw (c.skip.ensures.count) (of_prefix c.quiet_run.ensures.within
    (leads_skips c.args.self.now c.skip.new.self (take n c.args.piece.now) n mode
    (length-take-le n c.args.piece.now c.quiet_run.ensures.within) c.skip.ensures.passed
    (quiet_leads mode (take n c.args.piece.now) c.quiet_run.ensures.quiet) (other_mode mode c.in_default.not-NumberOn)
    (no_text mode c.in_default.not-StringOn c.in_default.not-NameOn)))
