use Rattle.geolint_report.proofs.PlacedNotes.{AreAllRight-kept}
use Rattle.geolint_report.proofs.every.spots.Spots.place.Goals as goal

pub returns : goal.returns
returns c = λ bytes are. (
  are.0,
  are.1,
  AreAllRight-kept bytes _ c.args.self.now.placed.items c.push-kept.new.self.items _ c.push-kept.ensures.items are.2 (c.spot_of-spot.ensures.right bytes are),
)
