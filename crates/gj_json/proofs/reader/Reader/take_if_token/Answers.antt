-- The first bracket of a text, and then tokens.
use Rattle.gj_json.proofs.Readers.CallsInTurn.{then_all}
use Rattle.gj_json.proofs.reader.Reader.take_if_token.Goals as goal

pub returns : goal.returns
returns g c = then_all c.take_beginning-begun.ensures c.take_tokens.ensures
