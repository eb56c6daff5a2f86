use Rattle.gj_coords.proofs.Common.{kept, shifted_noted}
use Rattle.std.proofs.Common.{◌≡◌}
use Rattle.gj_coords.proofs.Lists.KindsInTurn.{turned}
use Rattle.gj_coords.proofs.warnings.Warnings.shift.Given as goal

-- the kinds before this one are shifted
abbrev pub invariant-loop-kind : goal.invariant-loop-kind
invariant-loop-kind l = l.self ≡ turned l.kind-index (λ kind. shifted_noted l.by (kept l.initial.self kind)) l.initial.self
