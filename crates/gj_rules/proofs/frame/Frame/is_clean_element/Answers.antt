-- Nothing is found in the feature where none of these looks shows anything: it is no GeometryCollection of another's.
use Rattle.gj_rules.proofs.Common.{Role, ap, false, frame_in}
use Rattle.std.proofs.Common.{◌≡◌}
use Rattle.gj_rules.specs.Internal.FrameCalls.{is_nested}
use Rattle.gj_rules.proofs.Objects.CleanFrames.{clean_is}
use Rattle.gj_rules.proofs.Objects.MetRules.{none_by}
use Rattle.gj_rules.proofs.frame.Frame.is_clean_element.Goals as goal

pub returns-then-is_unwarned-clause-clean : goal.returns-then-is_unwarned-clause-clean
returns-then-is_unwarned-clause-clean c = λ e.
    let f = frame_in c.args.self.now in
    let own : is_nested f.slots.role f.slots.type_value ≡ false = ap (λ (role : Role). is_nested role f.slots.type_value) (c.is_sound_element.ensures.role e) in
    clean_is f (c.is_nothing.ensures c.if-is_nothing.true) (c.is_unwarned.ensures.none c.if-is_unwarned.true) own
    (none_by c.is_sound_element.result _ (c.is_sound_element.ensures.none (c.is_sound_element.ensures.role e)) e)
