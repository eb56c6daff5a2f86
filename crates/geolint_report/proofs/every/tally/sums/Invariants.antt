use Rattle.geolint_report.proofs.Common.{◌≡◌, ◌<◌, ◌+◌, ℕ, get_or, length, u64_saturate}
use Rattle.geolint_report.specs.declared.texts.TheConstants.{CODES}
use Rattle.geolint_report.proofs.every.tally.sums.Given as goal

-- the sums before this one are right
abbrev pub invariant-loop-slot : goal.invariant-loop-slot
invariant-loop-slot l = record {
  long : length l.sums ≡ CODES;
  done : (slot : ℕ) → slot < l.slot → get_or l.sums slot 0 ≡ u64_saturate (get_or l.one slot 0 + get_or l.other slot 0);
}
