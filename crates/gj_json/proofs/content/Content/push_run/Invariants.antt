use Rattle.gj_json.proofs.Common.{Holds, List, length, ℕ, ◌++◌, ◌-◌, ◌≤◌}
use Rattle.std.proofs.Common.{take}
use Rattle.gj_json.proofs.content.Content.push_run.Given as goal

abbrev pub invariant-loop-at : goal.invariant-loop-at
invariant-loop-at l = record {
  within : l.at ≤ length l.run;
  holds : (characters : List ℕ) → Holds l.fn.self characters → Holds l.self (characters ++ take l.at l.run);
}

abbrev pub decreases-loop-at : goal.decreases-loop-at
decreases-loop-at l = length l.run - l.at
