-- White space completes nothing.
use Rattle.gj_json.proofs.Pieces.TokensInLevels.{skips_any}
use Rattle.gj_json.proofs.reader.Reader.pass_member_or_white.Goals as goal

pub returns-else-piece-eq34 : goal.returns-else-piece-eq34
returns-else-piece-eq34 c = skips_any c.requires.takes c.skip_white.ensures
