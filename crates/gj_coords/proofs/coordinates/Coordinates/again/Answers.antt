use Rattle.gj_coords.proofs.Walks.AnswersOfWalks.{none_read}
use Rattle.gj_coords.proofs.coordinates.Coordinates.again.Goals as goal

pub returns : goal.returns
returns c = record { stands = record { holds = none_read _ c.again.ensures } }
