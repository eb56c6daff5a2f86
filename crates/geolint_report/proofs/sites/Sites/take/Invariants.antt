use Rattle.geolint_report.proofs.Common.{◌≡◌, ◌+◌, ◌-◌, ℕ, List, length, Option, IsNonDecreasing, Allowed, Framing, sought}
use Rattle.geolint_report.specs.Internal.SecondReading.{Reaches, Follows, Tells, Shows, Seeks}
use Rattle.geolint_report.proofs.sites.Sites.take.Given as goal

abbrev pub decreases-loop : goal.decreases-loop
decreases-loop l = 10 - l.finder.next

abbrev pub invariant-loop : goal.invariant-loop
invariant-loop l = record {
  reaches : (text : List ℕ) → Reaches l.fn.finder l.fn.self text l.piece → Reaches l.finder l.self text l.piece;
  follows : (framing : Option Framing) (text : List ℕ) → Reaches l.fn.finder l.fn.self text l.piece → Follows framing l.fn.finder l.fn.self text l.piece
      → Follows framing l.finder l.self text l.piece;
  tells : (limits : Allowed) (framing : Option Framing) (text : List ℕ) → Reaches l.fn.finder l.fn.self text l.piece
      → Follows framing l.fn.finder l.fn.self text l.piece
      → Tells limits framing l.fn.finder l.fn.self text l.piece → Tells limits framing l.finder l.self text l.piece;
  seeks : (text : List ℕ) → Reaches l.fn.finder l.fn.self text l.piece → IsNonDecreasing (sought l.fn.self)
      → Seeks l.fn.finder l.fn.self (length text + l.fn.finder.counted)
      → Seeks l.finder l.self (length text + l.finder.counted);
  shows : (text : List ℕ) → Reaches l.fn.finder l.fn.self text l.piece → Shows l.fn.finder l.fn.self text l.piece → Shows l.finder l.self text l.piece;
  sought : sought l.self ≡ sought l.fn.self;
}
