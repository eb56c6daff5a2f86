use Rattle.std.proofs.Common.{◌≡◌, ◌≤◌, drop}
use Rattle.geolint_files.specs.Walk.{start_in}
use Rattle.geolint_files.proofs.walk.ending_of.Given as goal

-- the bytes before this one are looked at
abbrev pub invariant-loop-i : goal.invariant-loop-i
invariant-loop-i l = record {
  same : start_in l.i l.start (drop l.i l.path) ≡ start_in 0 0 l.path;
  within : l.start ≤ l.i;
}
