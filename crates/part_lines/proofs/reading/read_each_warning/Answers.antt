use Rattle.part_lines.proofs.Common.{List, [], refl, sym, subst, Data, AreWarningsOf}
use Rattle.part_lines.proofs.ReadItems.{seen-more, seen-all, joined-more, no-warning}
use Rattle.part_lines.proofs.reading.read_each_warning.Goals as goal

pub loop-one-init : goal.loop-one-init
loop-one-init c = ([], refl, c.none-all.ensures.stands)

pub loop-one-preserved : goal.loop-one-preserved
loop-one-preserved c =
    subst (λ (items : List Data). AreWarningsOf c.args.begin items c.join-all.result)
    (sym (seen-more c.args.found.now c.loop-one.one-index c.one-item.result c.loop-one-test.true c.one-item.is))
    (joined-more c.args.begin _ _ c.loop-one.all c.in_ok-more.more c.join-all.result c.loop-one.invariant c.in_ok-more.ensures.some c.join-all.ensures.stands)

pub returns-in_err-more-clause-none : goal.returns-in_err-more-clause-none
returns-in_err-more-clause-none c = λ none all are.
    no-warning c.args.begin c.args.found.now c.loop-one.one-index c.one-item.result all c.loop-one-test.true c.one-item.is (c.in_err-more.ensures.none refl) are

pub returns-clause-some : goal.returns-clause-some
returns-clause-some c =
    subst (λ (items : List Data). AreWarningsOf c.args.begin items c.loop-one.all)
    (seen-all c.args.found.now c.loop-one.one-index c.loop-one-test.false) c.loop-one.invariant
