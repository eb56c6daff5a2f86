-- The bytes up to the place were taken.
use Rattle.gj_rules.proofs.Common.{List, is_decided, length, take, true, ◌++◌, ◌-◌, ◌≤◌}
use Rattle.std.proofs.Common.{◌≡◌, ℕ}
use Rattle.gj_rules.specs.SequenceStands.{StandsFor}
use Rattle.gj_rules.proofs.sequence.Sequence.feed.Given as goal

abbrev pub invariant-loop-at : goal.invariant-loop-at
invariant-loop-at l = record {
  within : l.at ≤ length l.piece;
  stands : (bytes : List ℕ) → StandsFor l.initial.self bytes → StandsFor l.self (bytes ++ take l.at l.piece);
  limits : l.self.records.limits ≡ l.initial.self.records.limits;
  again : is_decided l.initial.self ≡ true → l.self ≡ l.initial.self;
}

abbrev pub decreases-loop-at : goal.decreases-loop-at
decreases-loop-at l = length l.piece - l.at
