-- A level was open, and has closed.
use Rattle.gj_json.proofs.Common.{arith, ◌-◌}
use Rattle.gj_json.proofs.Readers.CallsInTurn.{prefix_as}
use Rattle.gj_json.proofs.Events.IgnoredEvents.{innermost_closed}
use Rattle.gj_json.proofs.reader.Reader.take_innermost.Goals as goal

pub returns-then-len-open : goal.returns-then-len-open
returns-then-len-open c = λ some. prefix_as c.in-Ok.ensures.taken (λ given f.
    innermost_closed (c.len-open.result - 1) c.args.self.now c.take_within.new.self given
    (omega (arith, c.len-open.ensures.value, c.if-open-eq0.false))
    (omega (arith, c.len.ensures.value, c.take_within.ensures.floor, c.if-len-open.true)) f)
