use Rattle.geolint_report.proofs.Common.{◌≡◌, ◌≤◌, ℕ, List, [], length, Consumes, IsNonDecreasing}
use Rattle.geolint_report.specs.Sites.{AreRight, ArePaths, NoneFound, IsUnread, sought}
use Rattle.geolint_report.specs.Internal.SecondReading.{Reaches, Follows, Tells, Shows, Seeks}
use Rattle.geolint_report.proofs.sites.Sites.find.Given as goal

-- the sites and their paths are right behind the bytes that the reader told, and the places in these are found; each read gave a byte
abbrev pub invariant-loop : goal.invariant-loop
invariant-loop g l = record {
  reached : AreRight [] l.fn.self.sites → (read : List ℕ) × Consumes (g.S.Source.remaining l.fn.reader) (g.S.Source.remaining l.reader) read
      × Reaches l.finder l.self read []
      × (IsNonDecreasing (sought l.fn.self) → Seeks l.finder l.self (length read)) × (l.counter ≤ length read)
      × (ArePaths l.fn.framing [] l.fn.self.sites → Follows l.fn.framing l.finder l.self read [])
      × (NoneFound l.fn.self.sites → Tells l.fn.limits l.fn.framing l.finder l.self read [])
      × (IsUnread l.fn.self → Shows l.finder l.self read []);
  sought : sought l.self ≡ sought l.fn.self;
  text : g.S.Source.text l.reader ≡ g.S.Source.text l.fn.reader;
  unfailed : g.S.Source.failed_reads l.reader ≡ g.S.Source.failed_reads l.fn.reader;
}
