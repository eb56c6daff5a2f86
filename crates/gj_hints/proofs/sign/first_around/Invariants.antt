use Rattle.std.proofs.Common.{◌≡◌, drop, map}
use Rattle.gj_hints.specs.Signs.{first_around}
use Rattle.gj_hints.proofs.sign.first_around.Given as goal

-- none of the rows so far is seen
abbrev pub invariant-loop-i : goal.invariant-loop-i
invariant-loop-i l =
    first_around (map (λ row. (row.0, row.1.now, row.2.now, row.3.now, row.4.now, row.5)) l.sets) l.clues
    ≡ first_around (map (λ row. (row.0, row.1.now, row.2.now, row.3.now, row.4.now, row.5)) (drop l.i l.sets)) l.clues
