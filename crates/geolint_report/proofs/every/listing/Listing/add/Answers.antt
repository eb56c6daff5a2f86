use Rattle.geolint_report.proofs.Common.{arith, ◌≡◌, ◌++◌, ◌∷◌, [], List, length-append, take, drop, sym, subst, Asked, Note}
use Rattle.geolint_report.specs.declared.every.tally.Tally.{Tally}
use Rattle.geolint_report.specs.Tallies.{Tallies}
use Rattle.geolint_report.proofs.every.listing.Listing.add.Goals as goal

pub returns-clause-keeps : goal.returns-clause-keeps
returns-clause-keeps c = λ all keeps.
    let counted = keeps.count in
    let one : List Note = c.args.note ∷ [] in
    record {
      count = grind (arith, counted, c.keep_within.ensures.count, length-append all one);
      tally = c.add_note.ensures.notes all (subst (λ (tally : Tally). Tallies tally all) (sym c.keep_within.ensures.tally) keeps.tally);
      notes = λ kept. subst (λ (asked : Asked). c.keep_within.new.self.notes.items ≡ take asked.room (drop asked.skipped (all ++ one)))
          (sym c.keep_within.ensures.asked)
          (c.keep_within.ensures.kept all keeps.count keeps.notes kept);
    }
