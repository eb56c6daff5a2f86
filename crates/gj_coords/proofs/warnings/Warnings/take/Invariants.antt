use Rattle.gj_coords.proofs.Common.{joined_noted, kept}
use Rattle.std.proofs.Common.{◌≡◌}
use Rattle.gj_coords.proofs.Lists.KindsInTurn.{turned}
use Rattle.gj_coords.proofs.warnings.Warnings.take.Given as goal

-- the kinds before this one are joined
abbrev pub invariant-loop-kind : goal.invariant-loop-kind
invariant-loop-kind l = l.self ≡ turned l.kind-index (λ kind. joined_noted (kept l.initial.self kind) (kept l.other kind)) l.initial.self
