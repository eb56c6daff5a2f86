use Rattle.gj_rules.proofs.Common.{arith, refl, [], ◌++◌, ◌∷◌}
use Rattle.gj_rules.proofs.Objects.FedSummaries.{not_whole, whole}
use Rattle.gj_rules.proofs.rules.FramedRules.feed_coordinates.Goals as goal

pub returns-else-done : goal.returns-else-done
returns-else-done g c = λ v taken left d h e.
    not_whole c.args.self.now _ v taken (c.args.event.now ∷ []) left c.done.result c.requires.skipped c.requires.mode c.requires.skipped c.requires.mode refl
    (c.take.ensures.stands taken) c.if-done.false
    (λ s. c.done.ensures.at_the_end v (taken ++ c.args.event.now ∷ []) left s e (omega arith)) h

pub returns-then-done : goal.returns-then-done
returns-then-done g c = λ v taken left d h e.
    whole c.args.self.now c.end_coordinates.new.self c.take.new.self v taken (c.args.event.now ∷ []) left c.done.result c.requires.skipped c.requires.mode
    (c.take.ensures.stands taken) c.if-done.true
    (λ s. c.done.ensures.at_the_end v (taken ++ c.args.event.now ∷ []) left s e (omega arith)) h e (λ s. c.end_coordinates.ensures v d s)
