use Rattle.geolint_report.proofs.FurtherReadings.{reader-lists}
use Rattle.geolint_report.proofs.Common.{subst, sym}
use Rattle.geolint_report.specs.declared.every.listing.Listing.{Listing}
use Rattle.geolint_report.specs.Internal.FurtherReading.{ListsFirst}
use Rattle.geolint_report.proofs.every.further.Further.listing.Goals as goal

pub returns-in-OfText-clause-lists : goal.returns-in-OfText-clause-lists
returns-in-OfText-clause-lists c = λ framing limits text stands.
    let self = c.args.self.now in
    let linter = c.in-OfText.linter in
    let tells = rw (c.sink.ensures.value) at c.sink.ensures.told in
    subst (λ (l : Listing). ListsFirst framing limits text l) (sym c.sink.ensures.value)
    (reader-lists framing limits text self.offset self.has_ended self.reader linter c.in-OfText.is c.few_events.ensures linter.short tells stands)
