use Rattle.geolint_report.proofs.FurtherReadings.{read-more}
use Rattle.geolint_report.proofs.every.further.Further.read_on.Goals as goal

pub returns-in-Ok-clause-stands : goal.returns-in-Ok-clause-stands
returns-in-Ok-clause-stands g c = λ framing limits stands.
    read-more framing limits (g.S.Source.text c.args.source.now) c.in-Ok.count c.read_unchanged.new.piece c.args.self.now c.take.new.self c.if-self.false
    c.in-Ok.ensures.bound.0 c.in-Ok.ensures.bytes (c.take.ensures framing limits) stands
