-- What is noted of the name says nothing of what was given.
use Rattle.gj_json.proofs.Pieces.PassedMembers.{names_any}
use Rattle.gj_json.proofs.Readers.CallsInTurn.{prefix_as}
use Rattle.gj_json.proofs.reader.Reader.pass_near_member.Goals as goal

pub returns-then-piece-name-eq32 : goal.returns-then-piece-name-eq32
returns-then-piece-name-eq32 c = prefix_as c.pass_named.ensures (λ given f. names_any c.args.self.now c.pass_named.new.self given f)

pub returns : goal.returns
returns c = prefix_as c.pass_named-2.ensures (λ given f. names_any c.args.self.now c.pass_named-2.new.self given f)
