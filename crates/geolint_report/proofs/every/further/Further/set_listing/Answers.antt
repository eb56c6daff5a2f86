use Rattle.geolint_report.proofs.Common.{List, subst, take}
use Rattle.gj_rules.specs.declared.feature.Feature.{Feature}
use Rattle.geolint_report.specs.declared.every.further.Reader.{Reader}
use Rattle.geolint_report.specs.Every.{KeepsNotes}
use Rattle.geolint_report.specs.Internal.FurtherReading.{listing_by}
use Rattle.geolint_report.proofs.FurtherReadings.{text-now}
use Rattle.geolint_report.proofs.every.further.Further.set_listing.Goals as goal

pub returns-in-OfText-clause-stands : goal.returns-in-OfText-clause-stands
returns-in-OfText-clause-stands c = λ features records framing limits text stands.
    let self = c.args.self.now in
    let keep = subst (λ (r : Reader). (told : List Feature) → KeepsNotes (listing_by r) told → KeepsNotes c.args.next told) c.in-OfText.is features in
    text-now framing limits text self.offset self.offset self.has_ended self.reader c.in-OfText.linter c.set_sink.new.self c.in-OfText.is
    c.set_sink.ensures.limits (c.set_sink.ensures.stands keep (take self.offset text)) stands
