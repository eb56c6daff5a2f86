use Rattle.std.proofs.Common.{◌≡◌, ◌-◌, ◌≤◌}
use Rattle.std.specs.Prelude.{IfSome}
use Rattle.file_parts.proofs.LikelyPlaces.{Searched}
use Rattle.file_parts.proofs.collections.likely.likely_place.Given as goal

abbrev pub invariant-loop-place : goal.invariant-loop-place
invariant-loop-place g l = record {
  from : l.from ≤ l.place;
  text : g.S.Source.text l.source ≡ g.S.Source.text l.fn.source;
  unfailed : g.S.Source.failed_reads l.source ≡ g.S.Source.failed_reads l.fn.source;
  searched : IfSome (g.S.Source.text l.fn.source) (λ text. Searched l.fn.limits text l.from l.place l.tried);
}

abbrev pub decreases-loop-place : goal.decreases-loop-place
decreases-loop-place g l = l.last - l.place
