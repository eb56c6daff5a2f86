use Rattle.std.proofs.Common.{◌++◌, ◌≡◌, List, ℕ, length}
use Rattle.gj_places.specs.Recalling.{Recalls, KeepsMost}
use Rattle.gj_places.proofs.recent.Recent.feed.Given as goal

-- what was taken, and what is left, are the piece
abbrev pub invariant-loop-rest : goal.invariant-loop-rest
invariant-loop-rest l = record {
  taken : List ℕ;
  all : taken ++ l.rest ≡ l.piece;
  recalls : (bytes : List ℕ) → Recalls l.fn.self bytes → Recalls l.self (bytes ++ taken);
  most : KeepsMost l.fn.self → KeepsMost l.self;
}

abbrev pub decreases-loop-rest : goal.decreases-loop-rest
decreases-loop-rest l = length l.rest
