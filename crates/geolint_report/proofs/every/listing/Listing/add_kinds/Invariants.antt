use Rattle.geolint_report.proofs.Common.{◌≡◌, ◌++◌, List, take, flat_map, kinds, Note}
use Rattle.geolint_report.specs.Every.{Keeps, kind_notes}
use Rattle.geolint_report.proofs.every.listing.Listing.add_kinds.Given as goal

abbrev pub invariant-loop-kind : goal.invariant-loop-kind
invariant-loop-kind l = record {
  keeps : (all : List Note) → Keeps l.initial.self all → Keeps l.self (all ++ flat_map (kind_notes l.item l.warnings) (take l.kind-index kinds));
  asked : l.self.asked ≡ l.initial.self.asked;
  items : l.self.tally.items ≡ l.initial.self.tally.items;
}
