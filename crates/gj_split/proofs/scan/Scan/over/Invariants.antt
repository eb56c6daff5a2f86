use Rattle.gj_split.proofs.Common.{List, drop, is_running, scan_length, true, ℕ, ◌++◌, ◌+◌, ◌≡◌}
use Rattle.gj_split.proofs.scan.Scan.over.Given as goal

abbrev pub invariant-loop-at : goal.invariant-loop-at
invariant-loop-at l = record {
  running : is_running l.scan ≡ true;
  length : (rest : List ℕ) → scan_length l.fn.self (l.piece ++ rest) ≡ l.at + scan_length l.scan (drop l.at l.piece ++ rest);
}
