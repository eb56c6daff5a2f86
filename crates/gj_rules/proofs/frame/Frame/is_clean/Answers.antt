-- Nothing is found in the object where none of these looks shows anything.
use Rattle.gj_rules.proofs.Common.{frame_in, sym, ◌∙◌}
use Rattle.gj_rules.proofs.Objects.CleanFrames.{clean_is}
use Rattle.gj_rules.proofs.Objects.MetRules.{none_by}
use Rattle.gj_rules.proofs.frame.Frame.is_clean.Goals as goal

pub returns-then-not-is_nested : goal.returns-then-not-is_nested
returns-then-not-is_nested c = λ e.
    clean_is (frame_in c.args.self.now) (c.is_nothing.ensures c.if-is_nothing.true) (c.is_unwarned.ensures.none c.if-is_unwarned.true)
    (sym c.is_nested.ensures ∙ c.if-not-is_nested.true) (none_by c.is_sound.result _ c.is_sound.ensures e)
