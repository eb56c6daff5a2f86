use Rattle.gj_json.proofs.Common.{Holds, List, length, ℕ, ◌++◌, ◌-◌, ◌≤◌}
use Rattle.std.proofs.Common.{take}
use Rattle.gj_json.specs.Internal.Transitions.{IsStringState}
use Rattle.gj_json.specs.Internal.QuietBytes.{Reads}
use Rattle.gj_json.proofs.runs.string_run.Given as goal

abbrev pub invariant-loop-count : goal.invariant-loop-count
invariant-loop-count l = record {
  within : l.count ≤ length l.piece;
  state : IsStringState l.here;
  reads : (characters : List ℕ) × Reads l.initial.here (take l.count l.piece) characters l.here
      × ((so_far : List ℕ) → Holds l.fn.content so_far → Holds l.content (so_far ++ characters));
}

abbrev pub decreases-loop-count : goal.decreases-loop-count
decreases-loop-count l = length l.piece - l.count
