use Rattle.std.proofs.Common.{◌≡◌, ◌≤◌, ℕ}
use Rattle.std.specs.Prelude.{IfSome}
use Rattle.std.specs.List.{All}
use Rattle.file_parts.specs.Internal.Reading.{IsAt}
use Rattle.file_parts.specs.Sums.{IsTruePart}
use Rattle.file_parts.proofs.collections.joined.join_features.Given as goal

abbrev pub invariant-loop-part : goal.invariant-loop-part
invariant-loop-part g l = record {
  text : g.S.Source.text l.source ≡ g.S.Source.text l.fn.source;
  unfailed : g.S.Source.failed_reads l.source ≡ g.S.Source.failed_reads l.fn.source;
  few : l.passed ≤ l.part-index;
  at : IfSome (g.S.Source.text l.fn.source) (λ text. All (IsTruePart l.fn.limits text) l.fn.parts → (place : ℕ) × IsAt l.fn.limits text l.joiner place);
}
