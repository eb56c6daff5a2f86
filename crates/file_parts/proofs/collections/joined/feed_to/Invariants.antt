use Rattle.std.proofs.Common.{◌≡◌, ◌-◌, ℕ}
use Rattle.std.specs.Prelude.{IfSome}
use Rattle.gj_json.specs.Limits.{Allowed}
use Rattle.file_parts.specs.Internal.Reading.{IsAt}
use Rattle.file_parts.proofs.collections.joined.feed_to.Given as goal

abbrev pub invariant-loop-place : goal.invariant-loop-place
invariant-loop-place g l = record {
  text : g.S.Source.text l.source ≡ g.S.Source.text l.fn.source;
  unfailed : g.S.Source.failed_reads l.source ≡ g.S.Source.failed_reads l.fn.source;
  at : IfSome (g.S.Source.text l.fn.source) (λ text. (limits : Allowed) (place : ℕ) → IsAt limits text l.fn.joiner place → IsAt limits text l.joiner l.place);
}

abbrev pub decreases-loop-place : goal.decreases-loop-place
decreases-loop-place g l = l.fn.until - l.place
