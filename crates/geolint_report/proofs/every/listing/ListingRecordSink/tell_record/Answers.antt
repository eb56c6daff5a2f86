use Rattle.geolint_report.proofs.Common.{◌++◌, ◌∙◌, subst, Asked}
use Rattle.geolint_report.specs.Every.{Keeps, record_notes}
use Rattle.geolint_report.proofs.KeptRecords.{KeepsRecords-more}
use Rattle.geolint_report.proofs.every.listing.ListingRecordSink.tell_record.Goals as goal

pub returns : goal.returns
returns c = λ records keeps.
    let new = c.add_record.new.self in
    let found = c.args.found.now in
    KeepsRecords-more c.args.self.now new records found (c.add_record.ensures.asked ∙ c.add_item.ensures.asked)
    (c.add_record.ensures.items ∙ c.add_item.ensures.items)
    (λ all kept. subst (λ (a : Asked). Keeps new (all ++ record_notes a.with_warnings found)) c.add_item.ensures.asked
    (c.add_record.ensures.keeps all (c.add_item.ensures.keeps all kept))) keeps
