use Rattle.geolint_report.proofs.FurtherReadings.{records-ended}
use Rattle.geolint_report.proofs.every.further.Further.end.Goals as goal

pub returns-in-OfRecords : goal.returns-in-OfRecords
returns-in-OfRecords c = λ framing limits text live whole stands.
    let self = c.args.self.now in
    records-ended framing limits text self.offset self.has_ended c.end.result.told self.reader c.in-OfRecords.records c.end.new.self c.in-OfRecords.listing
    c.end.new.sink c.end.result.verdict live c.in-OfRecords.is c.end.ensures.told whole stands
