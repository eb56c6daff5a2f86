use Rattle.part_lines.proofs.Common.{List, subst, All, map, Data, view}
use Rattle.std.proofs.lemmas.Option.{IfSome_then}
use Rattle.part_lines.specs.LineObject.{array_in, IsKindName}
use Rattle.part_lines.proofs.ReadItems.{array-is, same-items}
use Rattle.part_lines.proofs.reading.read_kinds.Goals as goal

pub returns-clause-some : goal.returns-clause-some
returns-clause-some c =
    let is = array-is (array_in c.args.name.now (view c.args.value.now)) c.in_ok-found.found.now.items c.as_slice.result.now c.in_ok-found.ensures c.as_slice.ensures.value in
    IfSome_then c.read_each_kind.result c.read_each_kind.ensures.some (λ kinds all. (map view c.as_slice.result.now, is, all))

pub returns-clause-none : goal.returns-clause-none
returns-clause-none c = λ none kinds.
    let it = array_in c.args.name.now (view c.args.value.now) in
    let is = array-is it c.in_ok-found.found.now.items c.as_slice.result.now c.in_ok-found.ensures c.as_slice.ensures.value in
    let (items, array, all) = kinds in
    c.read_each_kind.ensures.none none (subst (λ (ds : List Data). All IsKindName ds) (same-items it items c.as_slice.result.now array is) all)
