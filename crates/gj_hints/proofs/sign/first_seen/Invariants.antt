use Rattle.std.proofs.Common.{◌≡◌, drop, map}
use Rattle.gj_hints.specs.Signs.{first_seen}
use Rattle.gj_hints.proofs.sign.first_seen.Given as goal

-- none of the rows so far is seen
abbrev pub invariant-loop-i : goal.invariant-loop-i
invariant-loop-i l =
    first_seen (map (λ row. (row.0, row.1.now, row.2)) l.signs) l.clues
    ≡ first_seen (map (λ row. (row.0, row.1.now, row.2)) (drop l.i l.signs)) l.clues
