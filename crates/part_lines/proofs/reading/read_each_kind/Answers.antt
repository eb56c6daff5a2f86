use Rattle.part_lines.proofs.Common.{List, sym, refl, subst, All, map, take, Data, view}
use Rattle.std.proofs.lemmas.List.Elements.{All-push}
use Rattle.part_lines.specs.LineObject.{IsKindName}
use Rattle.part_lines.proofs.ReadItems.{seen-more, seen-all, not-all}
use Rattle.part_lines.proofs.reading.read_each_kind.Goals as goal

pub loop-one-preserved : goal.loop-one-preserved
loop-one-preserved c =
    subst (λ (items : List Data). All IsKindName items)
    (sym (seen-more c.args.found.now c.loop-one.one-index c.one-item.result c.loop-one-test.true c.one-item.is))
    (All-push IsKindName (take c.loop-one.one-index (map view c.args.found.now)) (view c.one-item.result) c.loop-one.invariant
    (c.in_ok-kind.kind, c.in_ok-kind.ensures.some))

pub returns-in_err-kind-clause-none : goal.returns-in_err-kind-clause-none
returns-in_err-kind-clause-none c = λ none all.
    not-all IsKindName c.args.found.now c.loop-one.one-index c.one-item.result c.loop-one-test.true c.one-item.is (c.in_err-kind.ensures.none refl) all

pub returns-clause-some : goal.returns-clause-some
returns-clause-some c =
    subst (λ (items : List Data). All IsKindName items) (seen-all c.args.found.now c.loop-one.one-index c.loop-one-test.false) c.loop-one.invariant
