-- What passes the test of a mode leaves it as it is.
use Rattle.gj_json.proofs.Common.{is_white, prefix_len-le-length, sym}
use Rattle.gj_json.proofs.Pieces.QuietModes
use Rattle.gj_json.proofs.runs.quiet_run.Goals as goal

pub returns-then-is_between_tokens-clause-within : goal.returns-then-is_between_tokens-clause-within
returns-then-is_between_tokens-clause-within c = rw (c.white_run.ensures) (prefix_len-le-length is_white c.args.piece.now)

pub returns-then-is_between_tokens-clause-quiet : goal.returns-then-is_between_tokens-clause-quiet
returns-then-is_between_tokens-clause-quiet c =
    let mode = c.args.mode in
    rw (c.white_run.ensures) (QuietModes.white_run mode (sym c.if-is_between_tokens.ensures) c.args.piece.now)
