use Rattle.gj_coords.proofs.Walks.AnswersOfWalks.{holds_ended}
use Rattle.gj_coords.proofs.coordinates.Coordinates.done.Goals as goal

pub returns : goal.returns
returns c = record {
  at_the_end = λ value events rest stands joined room.
      let s = c.args.self.now in
      rw c.done.ensures (holds_ended s.state value events rest s.walk stands.holds joined room);
}
