use Rattle.std.proofs.Common.{ℕ, List}
use Rattle.geolint_report.specs.Spots.{AreSpots}
use Rattle.geolint_report.proofs.every.spots.Spots.place_new.Given as goal

abbrev pub invariant-loop-note : goal.invariant-loop-note
invariant-loop-note l = (bytes : List ℕ) → AreSpots l.initial.self bytes → AreSpots l.self bytes
