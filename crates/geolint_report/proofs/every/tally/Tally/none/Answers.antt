-- Nothing has come, and each count is 0.
use Rattle.std.proofs.Common.{ℕ, refl}
use Rattle.std.proofs.lemmas.List.{get_or-replicate}
use Rattle.geolint_report.specs.Slots.{slot_of}
use Rattle.geolint_report.proofs.every.tally.Tally.none.Goals as goal

pub returns-clause-notes : goal.returns-clause-notes
returns-clause-notes c = record {
  broken = refl;
  codes = λ code small. get_or-replicate {A = ℕ} 34 (slot_of code) 0 0 small;
}

pub returns-clause-total : goal.returns-clause-total
returns-clause-total c = record {
  items = refl;
  broken = refl;
  codes = λ code small. get_or-replicate {A = ℕ} 34 (slot_of code) 0 0 small;
}
