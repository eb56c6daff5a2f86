use Rattle.geolint_report.proofs.FurtherReadings.{records-begun, text-begun}
use Rattle.geolint_report.proofs.KeptNotes.{KeepsNotes-none}
use Rattle.geolint_report.proofs.KeptRecords.{KeepsRecords-none}
use Rattle.geolint_report.proofs.every.further.Further.new.Goals as goal

pub returns-in-None-clause-stands : goal.returns-in-None-clause-stands
returns-in-None-clause-stands c =
    text-begun c.args.framing c.args.limits c.new.result c.in-None.is
    (c.new.ensures.stands (KeepsNotes-none _ c.new-listing.ensures.keeps c.new-listing.ensures.items)) c.new.ensures.limits

pub returns-in-Some-clause-stands : goal.returns-in-Some-clause-stands
returns-in-Some-clause-stands c =
    records-begun c.args.framing c.in-Some.framing c.args.limits c.new-in-Some.result c.new-listing.result c.in-Some.is c.new-in-Some.ensures.stands
    c.new-in-Some.ensures.framing c.new-in-Some.ensures.limits (KeepsRecords-none _ c.new-listing.ensures.keeps c.new-listing.ensures.items)
