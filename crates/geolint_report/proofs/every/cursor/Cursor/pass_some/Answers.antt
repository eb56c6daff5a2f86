use Rattle.geolint_report.proofs.Common.{arith, ◌≡◌, ◌+◌, ◌≤◌, ◌∙◌, length, take, length-take-le}
use Rattle.geolint_report.proofs.CursorPlaces.{StandsBy-more}
use Rattle.geolint_report.proofs.every.cursor.Cursor.pass_some.Goals as goal

pub returns-clause-stands : goal.returns-clause-stands
returns-clause-stands g c =
    let piece = c.read_from.new.piece in
    let count = c.in_ok-count.count in
    let bound : count ≤ length piece = c.in_ok-count.ensures.bound.0 in
    let long : length (take count piece) ≡ count = length-take-le count piece bound in
    let passed : c.pass.new.self.passed ≡ c.args.self.now.passed + count =
    c.pass.ensures.count (omega (arith, long, bound, c.requires, c.read_from.auto.piece)) ∙ omega (arith, long) in
    StandsBy-more (g.S.Source.text c.args.source.now) piece count count c.args.self.now c.pass.new.self bound (omega arith) c.in_ok-count.ensures.bytes passed
    (λ front is. c.pass.ensures.passed front is) c.pass.ensures.last c.pass.ensures.framing
