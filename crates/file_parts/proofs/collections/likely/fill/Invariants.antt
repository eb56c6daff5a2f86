use Rattle.std.proofs.Common.{◌≡◌, ◌+◌, ◌-◌, ◌≤◌, ◌++◌, length, take, drop}
use Rattle.std.specs.Prelude.{IfSome}
use Rattle.file_parts.proofs.collections.likely.fill.Given as goal

abbrev pub invariant-loop-count : goal.invariant-loop-count
invariant-loop-count g l = record {
  within : l.count ≤ length l.piece;
  text : g.S.Source.text l.source ≡ g.S.Source.text l.fn.source;
  unfailed : g.S.Source.failed_reads l.source ≡ g.S.Source.failed_reads l.fn.source;
  given : IfSome (g.S.Source.text l.fn.source) (λ text. drop l.place text ≡ take l.count l.piece ++ drop (l.place + l.count) text);
}

abbrev pub decreases-loop-count : goal.decreases-loop-count
decreases-loop-count g l = length l.piece - l.count
