use Rattle.gj_coords.proofs.Common.{What, event_at}
use Rattle.gj_coords.proofs.Walks.AnswersOfWalks.{stands_more}
use Rattle.gj_coords.proofs.coordinates.Coordinates.open_array.Goals as goal

pub returns : goal.returns
returns c = record { stands = λ events stands. stands_more c.args.self.now events (event_at c.args.place What.OpenArray) _ c.open_array.ensures stands }
