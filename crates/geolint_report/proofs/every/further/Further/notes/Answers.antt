use Rattle.geolint_report.proofs.FurtherReadings.{next-by}
use Rattle.geolint_report.proofs.every.further.Further.notes.Goals as goal

pub returns-then-is_as_asked : goal.returns-then-is_as_asked
returns-then-is_as_asked c = λ framing limits text stands.
    let (same, fine) = c.is_as_asked.ensures c.if-is_as_asked.true in
    next-by framing limits text c.args.asked c.args.self.now c.listing-listing.result.now c.notes.result.now same fine c.notes.ensures
    (c.listing-listing.ensures.lists framing limits) stands
