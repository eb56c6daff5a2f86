-- No byte was taken.
use Rattle.gj_json.proofs.Common.{arith}
use Rattle.gj_json.proofs.Pieces.TokensInLevels.{token_none}
use Rattle.gj_json.proofs.Readers.CallsInTurn.{of_prefix}
use Rattle.gj_json.proofs.reader.Reader.take_number.Goals as goal

pub returns-then-count-eq0 : goal.returns-then-count-eq0
returns-then-count-eq0 g c = of_prefix (omega arith) (token_none _ _ c.args.self.now c.requires.takes.0)
