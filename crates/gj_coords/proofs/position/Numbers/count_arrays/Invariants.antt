use Rattle.gj_coords.proofs.Common.{IsCounted, arrays_counted}
use Rattle.std.proofs.Common.{◌≡◌}
use Rattle.gj_coords.proofs.position.Numbers.count_arrays.Given as goal

abbrev pub invariant-loop-self : goal.invariant-loop-self
invariant-loop-self l = IsCounted l.fn.self → IsCounted l.self × (arrays_counted l.left l.self ≡ arrays_counted l.count l.fn.self)

abbrev pub decreases-loop-self : goal.decreases-loop-self
decreases-loop-self l = l.left
