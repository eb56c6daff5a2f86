use Rattle.gj_coords.proofs.Walks.AnswersOfWalks.{steady_in, steady_out, steady_on, steady_goes_on}
use Rattle.gj_coords.proofs.coordinates.Coordinates.ends_by_flat.Goals as goal

pub returns-then-is_steady_at : goal.returns-then-is_steady_at
returns-then-is_steady_at c =
    let s = c.args.self.now in
    let next = c.add_steady.new.self in
    let (floor, at, past) = c.is_steady_at.ensures c.if-is_steady_at.true in
    record {
      stands = λ events stands.
          let k = steady_in s floor events at stands in
          steady_out (record s { walk = next }) floor _ at (steady_on floor events c.args.flat.now s.walk next (c.add_steady.ensures floor k.1 past) k);
      at_the_end = λ value events rest stands joined room.
          steady_goes_on floor next value events rest (steady_in (record s { walk = next }) floor events at stands) joined room;
    }
