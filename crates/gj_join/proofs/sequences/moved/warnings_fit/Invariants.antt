use Rattle.gj_join.proofs.Common.{Some, ℕ, ◌+◌, ◌<◌, ◌≡◌, ◌≤◌}
use Rattle.std.proofs.Common.{get_or}
use Rattle.gj_coords.specs.Internal.KeptWarnings.{first_in}
use Rattle.gj_coords.specs.Warnings.{kinds}
use Rattle.gj_coords.specs.declared.kind.Kind.{Kind}
use Rattle.gj_join.specs.Joined.{greatest_place}
use Rattle.gj_join.proofs.sequences.moved.warnings_fit.Given as goal

abbrev pub invariant-loop-kind : goal.invariant-loop-kind
invariant-loop-kind l = (i place : ℕ) → i < l.kind-index → first_in (get_or kinds i Kind.W1) l.warnings ≡ Some place → place + l.by ≤ greatest_place
