-- Characters by themselves leave no character under way.
use Rattle.gj_json.proofs.Common.{is_unescaped_ascii, prefix_len-le-length}
use Rattle.gj_json.proofs.Pieces.QuietModes
use Rattle.gj_json.proofs.runs.plain_front.Goals as goal

pub returns-in-Plain-clause-within : goal.returns-in-Plain-clause-within
returns-in-Plain-clause-within c = rw (c.run.ensures) (prefix_len-le-length is_unescaped_ascii c.args.piece.now)

pub returns-in-Plain-clause-ascii : goal.returns-in-Plain-clause-ascii
returns-in-Plain-clause-ascii c = rw (c.run.ensures) (QuietModes.plain_run c.args.piece.now).1

pub returns-in-Plain-clause-reads : goal.returns-in-Plain-clause-reads
returns-in-Plain-clause-reads c = rw (c.in-Plain.is, c.run.ensures) (QuietModes.plain_run c.args.piece.now).0
