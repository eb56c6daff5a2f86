-- What is found for one type is what an object of that type asks for.
use Rattle.gj_rules.proofs.Common.{Findings, MemberSlots, Shapes, Simple, alike, ap, asked_as, shapes_of, slots_in, sym, ◌∙◌}
use Rattle.std.proofs.Common.{Option}
use Rattle.gj_rules.specs.Internal.OpenMembers.{shapes_set}
use Rattle.gj_rules.proofs.Objects.AskedShapes.{asked_is}
use Rattle.gj_rules.proofs.member_slots.MemberSlots.set_shape.Goals as goal

pub returns-in-Some : goal.returns-in-Some
returns-in-Some c = λ value d s.
    let f : MemberSlots = slots_in c.args.self.now in
    ap (λ (x : Findings). shapes_set (alike x) f) (c.set_one.ensures value d s)
    ∙ (ap (λ (x : Shapes). shapes_set x f) (sym (asked_is c.in-Some.simple value))
    ∙ ap (λ (o : Option Simple). shapes_set (asked_as o (shapes_of value)) f) (sym c.in-Some.is))
