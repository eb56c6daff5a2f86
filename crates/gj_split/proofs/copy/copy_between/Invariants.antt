use Rattle.gj_split.proofs.Common.{Appends, List, Some, bytes_between, ℕ, ◌-◌, ◌≡◌, ◌≤◌}
use Rattle.std.proofs.Common.{max}
use Rattle.gj_split.proofs.copy.copy_between.Given as goal

abbrev pub invariant-loop-at : goal.invariant-loop-at
invariant-loop-at g l = record {
  from : l.place ≤ l.at;
  upto : l.at ≤ max l.place l.end;
  copied : (bytes : List ℕ) → g.R.Ranges.text ≡ Some bytes
      → Appends (g.W.Write.contents l.initial.out) (g.W.Write.contents l.out) (bytes_between l.place l.at bytes);
}

abbrev pub decreases-loop-at : goal.decreases-loop-at
decreases-loop-at g l = l.end - l.at
