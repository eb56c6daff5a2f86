use Rattle.gj_json.proofs.Common.{sym}
use Rattle.gj_json.proofs.Readers.CallsInTurn.{live_offset, refused_offset, taken_within}
use Rattle.gj_json.proofs.laws.bytes_taken.Goals as goal

pub returns-clause-open : goal.returns-clause-open
returns-clause-open c = λ reader bytes h e. live_offset reader bytes e h

pub returns-clause-refused : goal.returns-clause-refused
returns-clause-refused c = λ reader bytes fault h e. sym (refused_offset reader bytes fault e h)

pub returns-clause-within : goal.returns-clause-within
returns-clause-within c = λ reader bytes h. taken_within reader bytes h
