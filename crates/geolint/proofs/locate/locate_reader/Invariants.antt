use Rattle.std.proofs.Common.{ℕ, List, length, None, ◌+◌, ◌-◌, ◌<◌, ◌≤◌, ◌≡◌, ◌^◌}
use Rattle.std.specs.Io.KnownBytes.{Consumes}
use Rattle.gj_json.specs.Locator.{StandsFor, limits_of, refusal_of}
use Rattle.geolint.proofs.locate.locate_reader.Given as goal

abbrev pub invariant-loop-count : goal.invariant-loop-count
invariant-loop-count g l = record {
  read : (read : List ℕ) × Consumes (g.S.Source.remaining l.initial.reader) (g.S.Source.remaining l.reader) read × (length read ≡ l.offset)
      × StandsFor l.locator read;
  live : refusal_of l.locator ≡ None;
  limits : limits_of l.locator ≡ l.fn.limits;
  before : l.offset ≤ l.fn.place;
  within : l.offset ≤ l.fn.limits.bytes;
  few : g.S.Source.reads l.reader ≤ g.S.Source.reads l.initial.reader + l.offset;
  unfailed : g.S.Source.failed_reads l.reader ≡ g.S.Source.failed_reads l.initial.reader;
  given : g.S.Source.bytes_given l.reader < 2 ^ 64 - 1 → g.S.Source.bytes_given l.reader ≡ g.S.Source.bytes_given l.initial.reader + l.offset;
}

abbrev pub decreases-loop-count : goal.decreases-loop-count
decreases-loop-count g l = l.fn.limits.bytes - l.offset
