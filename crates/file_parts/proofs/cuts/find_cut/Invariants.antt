use Rattle.std.proofs.Common.{◌≡◌, ◌-◌, ◌≤◌}
use Rattle.file_parts.specs.Internal.Begins.{AreSearchedTo}
use Rattle.file_parts.proofs.cuts.find_cut.Given as goal

abbrev pub invariant-loop-place : goal.invariant-loop-place
invariant-loop-place g l = record {
  from : l.fn.from ≤ l.place;
  text : g.S.Source.text l.source ≡ g.S.Source.text l.fn.source;
  unfailed : g.S.Source.failed_reads l.source ≡ g.S.Source.failed_reads l.fn.source;
  searched : AreSearchedTo (g.S.Source.text l.fn.source) l.fn.framing l.fn.limits l.fn.from l.place l.follows_separator;
}

abbrev pub decreases-loop-place : goal.decreases-loop-place
decreases-loop-place g l = l.until - l.place
