use Rattle.gj_number.proofs.Common.{List, length, take, ℕ, ◌++◌, ◌-◌, ◌≤◌}
use Rattle.gj_number.specs.Literal.{StandsFor}
use Rattle.gj_number.proofs.literal.Literal.push_piece.Given as goal

-- the bytes before this one are taken
abbrev pub invariant-loop-at : goal.invariant-loop-at
invariant-loop-at l = record {
  length : l.at ≤ length l.piece;
  stands : (bytes : List ℕ) → StandsFor l.fn.self bytes → StandsFor l.self (bytes ++ take l.at l.piece);
}

abbrev pub decreases-loop-at : goal.decreases-loop-at
decreases-loop-at l = length l.piece - l.at
