use Rattle.std.proofs.Common.{rules}
use Rattle.geolint_report.proofs.KeptNotes.{AreNotes-of}
use Rattle.geolint_report.proofs.every.listing.notes_for.Goals as goal

pub returns-in-Ok-clause-notes : goal.returns-in-Ok-clause-notes
returns-in-Ok-clause-notes c = λ framing limits had lists.
    let told = c.in-Ok.ensures in
    AreNotes-of framing c.args.finding c.args.listing c.args.asked c.in-Ok.notes.notes.items c.in-Ok.notes.count c.in-Ok.notes.tally limits had told.asked
    told.tally told.notes lists (λ fault is. search rules)
