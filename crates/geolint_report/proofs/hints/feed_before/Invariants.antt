use Rattle.std.proofs.Common.{◌-◌, ◌≡◌, ◌≤◌}
use Rattle.gj_rules.specs.Linter.{limits_of}
use Rattle.geolint_report.proofs.hints.feed_before.Given as goal

abbrev pub invariant-loop-fed : goal.invariant-loop-fed
invariant-loop-fed g l = record {
  limits : limits_of l.linter ≡ limits_of l.initial.linter;
  within : l.fed ≤ l.place;
}

abbrev pub decreases-loop-fed : goal.decreases-loop-fed
decreases-loop-fed g l = l.place - l.fed
