-- A slot is set at the place of its name.
use Rattle.gj_rules.proofs.Common.{arith}
use Rattle.gj_rules.proofs.Objects.SlotsByPlace.{faulty_set, sound_set}
use Rattle.gj_rules.proofs.member_slots.MemberSlots.set_slot.Goals as goal

pub returns-in-Some : goal.returns-in-Some
returns-in-Some c = faulty_set c.args.name c.args.slot c.in-Some.fault c.args.self.now c.requires (omega arith) (omega arith) c.in-Some.is

pub returns-in-None : goal.returns-in-None
returns-in-None c = sound_set c.args.name c.args.slot c.args.self.now c.requires (omega arith) (omega arith) c.in-None.is
