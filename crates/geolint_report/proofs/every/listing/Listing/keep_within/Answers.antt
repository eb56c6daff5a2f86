use Rattle.std.proofs.Common.{rules, arith, ◌≡◌, ◌∙◌, List, ap, length, sym, IsTrue}
use Rattle.geolint_report.specs.declared.every.listing.Note.{Note}
use Rattle.geolint_report.proofs.KeptNotes.{window-still}
use Rattle.geolint_report.proofs.every.listing.Listing.keep_within.Goals as goal

pub returns-else-keeps-clause-kept : goal.returns-else-keeps-clause-kept
returns-else-keeps-clause-kept c = λ all counted kept fine.
    let listing = c.args.self.now in
    let asked = listing.asked in
    let held = kept fine in
    let long : c.len.result ≡ length listing.notes.items = search rules in
    let some = long ∙ ap (λ (notes : List Note). length notes) held in
    kept fine ∙ sym (window-still asked.skipped asked.room listing.count all c.args.note c.keeps.ensures.small counted
    (λ both. let keeps : IsTrue c.keeps.result = c.keeps.ensures.keeps.1 (both.0, omega (arith, some, both.1)) in search rules))
