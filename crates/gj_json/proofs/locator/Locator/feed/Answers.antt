-- The steps follow what the reader reports of the piece.
use Rattle.gj_json.proofs.Paths.LocatorSteps.{fed_on}
use Rattle.gj_json.proofs.locator.Locator.feed.Goals as goal

pub returns-clause-stands : goal.returns-clause-stands
returns-clause-stands c = λ bytes h.
    fed_on c.args.self.now
    (record { trail = c.feed.new.sink; reader = c.feed.new.self }) bytes c.args.piece.now c.feed.result c.feed.ensures.limits c.feed.ensures.on
    c.feed.ensures.refusal
    (λ fault e. let a = c.feed.ensures.again fault e in (a.0, a.1)) (c.feed.ensures.stands bytes)
    (λ events live s k. c.feed.ensures.heard bytes events live s k) h
