use Rattle.geolint_report.proofs.Common.{ℕ, List, [], length, ◌+◌, ◌-◌, ◌<◌, ◌≤◌, ◌≡◌, ◌^◌, ◌⊎◌, Consumes}
use Rattle.geolint_report.proofs.reading_loop.read_all.Given as goal

abbrev pub invariant-loop-error : goal.invariant-loop-error
invariant-loop-error g l = record {
  read : (read : List ℕ) × Consumes (g.P.Pieces.remaining l.initial.source) (g.P.Pieces.remaining l.source) read × (length read ≡ l.offset)
      × (g.F.Feeds.stands l.initial.fed [] → g.F.Feeds.limits l.initial.fed ≡ l.fn.limits → g.F.Feeds.stands l.fed read
      × ((read ≡ []) ⊎ g.F.Feeds.undecided l.fn.limits read));
  limits : g.F.Feeds.limits l.fed ≡ g.F.Feeds.limits l.initial.fed;
  within : l.offset ≤ l.fn.limits.bytes;
  few : g.P.Pieces.reads l.source ≤ g.P.Pieces.reads l.initial.source + l.offset;
  unfailed : g.P.Pieces.failed_reads l.source ≡ g.P.Pieces.failed_reads l.initial.source;
  text : g.P.Pieces.text l.source ≡ g.P.Pieces.text l.initial.source;
  followed : g.W.Follower.follows l.initial.follower [] → (read : List ℕ)
      × Consumes (g.P.Pieces.remaining l.initial.source) (g.P.Pieces.remaining l.source) read × g.W.Follower.follows l.follower read;
  given : g.P.Pieces.bytes_given l.source < 2 ^ 64 - 1 → g.P.Pieces.bytes_given l.source ≡ g.P.Pieces.bytes_given l.initial.source + l.offset;
}

abbrev pub decreases-loop-error : goal.decreases-loop-error
decreases-loop-error g l = l.fn.limits.bytes - l.offset
