-- The first member of a name lies at its place.
use Rattle.gj_rules.proofs.Common.{slots_in}
use Rattle.gj_rules.proofs.Objects.SlotsByPlace.{slot_there, slot_not_there, slot_past}
use Rattle.gj_rules.proofs.member_slots.MemberSlots.slot.Goals as goal
use Rattle.gj_rules.proofs.member_slots.MemberSlots.slot.Goals.{else-index-lt-NAMES-via-then-index-lt-NAMES+else-self-index-eq1}
use Rattle.gj_rules.proofs.member_slots.MemberSlots.slot.Goals.{else-index-lt-NAMES-via-else-index-lt-NAMES}

pub returns-then-self-index-eq1 : goal.returns-then-self-index-eq1
returns-then-self-index-eq1 c =
    rw c.counted_slot.ensures (slot_there c.args.name c.args.self.now c.if-index-lt-NAMES.true c.if-self-index-eq1.true)

pub returns-else-index-lt-NAMES : goal.returns-else-index-lt-NAMES
returns-else-index-lt-NAMES c = elim c.else-index-lt-NAMES.branch [
  | else-index-lt-NAMES-via-then-index-lt-NAMES+else-self-index-eq1 w ↦
      slot_not_there c.args.name c.args.self.now w.if-index-lt-NAMES.true w.if-self-index-eq1.false
  | else-index-lt-NAMES-via-else-index-lt-NAMES w ↦ slot_past c.args.name (slots_in c.args.self.now) w.if-index-lt-NAMES.false
]
