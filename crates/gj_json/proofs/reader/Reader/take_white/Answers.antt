-- White space.
use Rattle.gj_json.proofs.Readers.CallsInTurn.{front_skipped}
use Rattle.gj_json.proofs.Pieces.TokensInLevels.{skips_any}
use Rattle.gj_json.proofs.reader.Reader.take_white.Goals as goal

pub returns-then-piece-gt1 : goal.returns-then-piece-gt1
returns-then-piece-gt1 g c = record { all = front_skipped c.requires.takes c.skip_white.ensures; any = skips_any c.requires.takes c.skip_white.ensures }
