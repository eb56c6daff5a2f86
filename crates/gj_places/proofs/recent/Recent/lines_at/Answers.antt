use Rattle.std.proofs.Common.{rules, arith, ◌++◌, List, ℕ, ◌-◌, take, subst}
use Rattle.gj_places.specs.Counting.{StandsFor}
use Rattle.gj_places.proofs.Recalled.{right-in-older, right-in-newer}
use Rattle.gj_places.proofs.recent.Recent.lines_at.Goals as goal

-- src/recent.rt:82:13
pub returns-then-at-self-clause-right : goal.returns-then-at-self-clause-right
returns-then-at-self-clause-right c = λ bytes recalls.
    right-in-older c.args.self.now bytes c.args.place c.after.result recalls (search (arith, rules)) (search (arith, rules)) (search (arith, rules))
    (λ before stands. subst (λ (ys : List ℕ). StandsFor c.after.result (before ++ take (c.args.place - c.args.self.now.passed) ys)) c.bytes.ensures
    (c.after.ensures before stands))

-- src/recent.rt:72:5
pub returns-then-rest-self-clause-right : goal.returns-then-rest-self-clause-right
returns-then-rest-self-clause-right c = λ bytes recalls.
    right-in-newer c.args.self.now bytes c.args.place c.after-then-rest-self.result recalls (search (arith, rules)) (search (arith, rules))
    (search (arith, rules))
    (search (arith, rules))
    (λ before stands. search rules)
