-- What the rules keep shows what the events do, and no more than the text has.
use Rattle.gj_rules.proofs.Common.{sym, ◌∙◌}
use Rattle.gj_rules.proofs.Doom.DoomedTexts.{answers}
use Rattle.gj_rules.proofs.rules.FramedRules.doomed.Goals as goal

pub returns-clause-sound : goal.returns-clause-sound
returns-clause-sound g c = λ text bytes n t d h e. (answers c.args.self.now text bytes n t d h).0 (sym c.is_lost.ensures ∙ e)

pub returns-clause-early : goal.returns-clause-early
returns-clause-early g c = λ text bytes n t d h e. c.is_lost.ensures ∙ (answers c.args.self.now text bytes n t d h).1 e
