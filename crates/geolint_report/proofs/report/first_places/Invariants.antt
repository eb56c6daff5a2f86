use Rattle.geolint_report.proofs.Common.{ℕ, ◌≡◌, ◌<◌, ◌-◌, ◌^◌, length, get_or, kinds}
use Rattle.gj_coords.specs.declared.kind.Kind.TheVariants.{W1}
use Rattle.geolint_report.specs.Internal.SoughtPlaces.{first_or_none}
use Rattle.geolint_report.proofs.report.first_places.Given as goal

-- the kinds before this one have their place
abbrev pub invariant-loop-i : goal.invariant-loop-i
invariant-loop-i l = record {
  ten : length l.places ≡ 10;
  kinds : (k : ℕ) → k < l.i → get_or l.places k 0 ≡ first_or_none (get_or kinds k W1) l.warnings;
  last : get_or l.places 9 0 ≡ 2 ^ 64 - 1;
}
