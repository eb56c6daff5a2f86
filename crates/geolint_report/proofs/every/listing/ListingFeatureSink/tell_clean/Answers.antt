use Rattle.geolint_report.proofs.KeptNotes.{KeepsNotes-clean}
use Rattle.geolint_report.proofs.every.listing.ListingFeatureSink.tell_clean.Goals as goal

pub returns : goal.returns
returns c = λ features keeps.
    KeepsNotes-clean c.args.self.now c.add_item.new.self features c.args._clean.now c.add_item.ensures.asked c.add_item.ensures.items
    c.add_item.ensures.keeps keeps
