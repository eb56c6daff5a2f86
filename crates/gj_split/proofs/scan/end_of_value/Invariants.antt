use Rattle.gj_split.proofs.Common.{List, Scan, Some, drop, is_running, scan_length, true, ℕ, ◌+◌, ◌≡◌, ◌≤◌}
use Rattle.gj_split.proofs.scan.end_of_value.Given as goal

abbrev pub invariant-loop-turn : goal.invariant-loop-turn
invariant-loop-turn g l = record {
  running : is_running l.scan ≡ true;
  from : l.place ≤ l.at;
  length : (bytes : List ℕ) → g.R.Ranges.text ≡ Some bytes
      → l.place + scan_length Scan.Start (drop l.place bytes) ≡ l.at + scan_length l.scan (drop l.at bytes);
}
