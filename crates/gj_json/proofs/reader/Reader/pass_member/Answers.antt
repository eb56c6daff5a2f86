-- The place of the next member says nothing of what was given.
use Rattle.gj_json.proofs.Pieces.PassedMembers.{names_any}
use Rattle.gj_json.proofs.Readers.CallsInTurn.{prefix_as}
use Rattle.gj_json.proofs.reader.Reader.pass_member.Goals as goal

pub returns-then-not-begins_quoted : goal.returns-then-not-begins_quoted
returns-then-not-begins_quoted c = prefix_as c.pass_near_member.ensures (λ given f. names_any c.args.self.now c.pass_near_member.new.self given f)

pub returns-then-piece-name-eq32 : goal.returns-then-piece-name-eq32
returns-then-piece-name-eq32 c = prefix_as c.pass_named.ensures (λ given f. names_any c.args.self.now c.pass_named.new.self given f)

pub returns : goal.returns
returns c = prefix_as c.pass_named-2.ensures (λ given f. names_any c.args.self.now c.pass_named-2.new.self given f)
