-- The tokens, one after another.
use Rattle.gj_json.proofs.Common.{arith}
use Rattle.gj_json.proofs.Readers.CallsInTurn.{then_all, then_none}
use Rattle.gj_json.proofs.reader.Reader.take_tokens.Goals as goal

pub loop-at-preserved : goal.loop-at-preserved
loop-at-preserved g c = then_all c.loop-at.invariant c.take_token-count.ensures

pub returns-then-count-eq0 : goal.returns-then-count-eq0
returns-then-count-eq0 g c =
    then_none c.loop-at.invariant c.take_token-count.ensures (omega (arith, c.if-count-eq0.true))

-- a container was opened whose events the sink may miss
pub returns-then-may_be_missed : goal.returns-then-may_be_missed
returns-then-may_be_missed g c = then_all c.loop-at.invariant c.take_token-count.ensures
