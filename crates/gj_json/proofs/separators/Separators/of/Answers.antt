-- Those of the two numbers, of a third, and those around the bracket.
use Rattle.gj_json.proofs.Common.{refl}
use Rattle.gj_json.proofs.separators.Separators.of.Goals as goal
use Rattle.gj_json.proofs.separators.Separators.of.Goals.{in-None, in-Some+in_ok-before-in-Some}

pub returns-clause-separators : goal.returns-clause-separators
returns-clause-separators c = record {
  inner = c.in_ok-inner.ensures.inner;
  third = elim c.match-flat.branch [
    | in-None w ↦ rw (w.third-is) tt
    | in-Some+in_ok-before-in-Some w ↦ rw (w.third-is) (w.in_ok-before-in-Some.ensures.inner, w.in_ok-before-in-Some.ensures.unsigned refl)
  ];
  outer = c.in_ok-outer.ensures.outer;
}
