use Rattle.gj_coords.proofs.Readers.AgreeingPositions.{agree_is}
use Rattle.gj_coords.proofs.laws.positions_agree.Goals as goal

pub returns : goal.returns
returns c = agree_is
