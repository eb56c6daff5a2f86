-- The arrays, one after another.
use Rattle.gj_json.proofs.Readers.CallsInTurn.{then_all}
use Rattle.gj_json.proofs.reader.Reader.take_rows.Goals as goal

pub returns-then-row-eq0 : goal.returns-then-row-eq0
returns-then-row-eq0 g c = then_all c.loop-self.invariant c.take_row-row.ensures

pub loop-self-preserved : goal.loop-self-preserved
loop-self-preserved g c = then_all (then_all c.loop-self.invariant c.take_row-row.ensures) c.take_next_end-at.ensures.all
