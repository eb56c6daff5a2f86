use Rattle.std.proofs.Common.{◌≡◌, map}
use Rattle.gj_places.specs.Excerpts.{harmless}
use Rattle.gj_places.proofs.excerpt.characters_of.Given as goal

abbrev pub invariant-loop-c : goal.invariant-loop-c
invariant-loop-c l = l.shown.items ≡ map harmless l.yielded
