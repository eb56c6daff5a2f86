use Rattle.std.proofs.Common.{◌++◌}
use Rattle.geolint_report.proofs.PlacedNotes.{AreAllRight-longer}
use Rattle.geolint_report.proofs.every.spots.SpotsFollower.follow.Goals as goal

pub returns : goal.returns
returns c = λ bytes are.
    c.place_new.ensures (bytes ++ c.args.piece.now)
    (c.feed.ensures.recalls bytes are.0, c.feed.ensures.most are.1, AreAllRight-longer bytes c.args.piece.now c.args.self.now.placed.items are.2)
