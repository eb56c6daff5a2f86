-- A name and its value.
use Rattle.gj_json.proofs.Readers.CallsInTurn.{then_all}
use Rattle.gj_json.proofs.reader.Reader.take_token.Goals as goal

pub returns-else-not-is_due : goal.returns-else-not-is_due
returns-else-not-is_due g c = then_all c.take_member-named.ensures c.take_value.ensures
