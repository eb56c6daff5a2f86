use Rattle.std.proofs.Common.{ℕ, ◌++◌, [], List, take}
use Rattle.gj_places.specs.Keeping.{Keeps}
use Rattle.gj_places.proofs.excerpt.Excerpt.push_all_before.Given as goal

abbrev pub invariant-loop-byte : goal.invariant-loop-byte
invariant-loop-byte l = (before : List ℕ) → Keeps l.fn.self before [] → Keeps l.self (before ++ take l.byte-index l.piece) []
