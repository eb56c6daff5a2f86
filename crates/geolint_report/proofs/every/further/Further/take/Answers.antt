use Rattle.geolint_report.proofs.Common.{◌+◌, length, subst, sym, take, List, ℕ}
use Rattle.gj_rules.specs.FeatureLinter.{StandsFor}
use Rattle.geolint_report.specs.Every.{KeepsNotes}
use Rattle.geolint_report.proofs.FurtherReadings.{records-fed, text-now}
use Rattle.geolint_report.proofs.every.further.Further.take.Goals as goal

pub returns-in-OfText : goal.returns-in-OfText
returns-in-OfText c = λ framing limits text live longer stands.
    let self = c.args.self.now in
    let piece = c.args.piece.now in
    text-now framing limits text self.offset (self.offset + length piece) self.has_ended self.reader c.in-OfText.linter c.feed.new.self c.in-OfText.is
    c.feed.ensures.limits
    (λ before. subst (λ (bytes : List ℕ). StandsFor KeepsNotes c.feed.new.self bytes) (sym longer) (c.feed.ensures.stands (take self.offset text) before))
    stands

pub returns-in-OfRecords : goal.returns-in-OfRecords
returns-in-OfRecords c = λ framing limits text live longer stands.
    let self = c.args.self.now in
    let piece = c.args.piece.now in
    let fed = c.feed-in-OfRecords in
    records-fed framing limits text piece self.offset (self.offset + length piece) self.has_ended c.is_over-self.result self.reader c.in-OfRecords.records
    fed.new.self c.in-OfRecords.listing fed.new.sink live c.in-OfRecords.is fed.ensures.framing fed.ensures.limits fed.ensures.told longer stands
