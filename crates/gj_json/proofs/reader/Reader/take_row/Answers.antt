-- The bracket, and the numbers after it.
use Rattle.gj_json.proofs.Readers.CallsInTurn.{then_all}
use Rattle.gj_json.proofs.reader.Reader.take_row.Goals as goal

pub returns : goal.returns
returns g c = then_all c.take_open-opened.ensures.all c.take_numbers-row.ensures
