use Rattle.std.proofs.Common.{ℕ, ◌++◌, List, take}
use Rattle.gj_places.specs.Keeping.{Keeps}
use Rattle.gj_places.proofs.excerpt.Excerpt.feed_after.Given as goal

abbrev pub invariant-loop-byte : goal.invariant-loop-byte
invariant-loop-byte l = (before after : List ℕ) → Keeps l.fn.self before after → Keeps l.self before (after ++ take l.byte-index l.piece)
