use Rattle.part_lines.proofs.Common.{List, subst, codes, Data, view}
use Rattle.part_lines.specs.LineObject.{array_in, AreWarningsOf}
use Rattle.part_lines.proofs.ReadItems.{array-is, same-items}
use Rattle.part_lines.proofs.reading.read_warnings.Goals as goal

pub returns-clause-none : goal.returns-clause-none
returns-clause-none c = λ none all are.
    let it = array_in (codes "warnings") (view c.args.value.now) in
    let is = array-is it c.in_ok-found.found.now.items c.as_slice.result.now c.in_ok-found.ensures c.as_slice.ensures.value in
    let (items, array, those) = are in
    c.read_each_warning.ensures.none none all
    (subst (λ (ds : List Data). AreWarningsOf c.args.begin ds all) (same-items it items c.as_slice.result.now array is) those)
