use Rattle.gj_coords.proofs.Walks.AnswersOfWalks.{stands_more}
use Rattle.gj_coords.proofs.coordinates.Coordinates.take.Goals as goal

pub returns : goal.returns
returns c = record { stands = λ events stands. stands_more c.args.self.now events c.args.event.now _ c.event.ensures stands }
