use Rattle.gj_rules.proofs.Common.{arith, flat_events, refl, ◌++◌}
use Rattle.gj_rules.proofs.Objects.FedSummaries.{not_whole, whole}
use Rattle.gj_rules.proofs.rules.FramedRules.feed_flat.Goals as goal

pub returns-else-ends_by_flat : goal.returns-else-ends_by_flat
returns-else-ends_by_flat g c = λ v taken left d h e.
    not_whole c.args.self.now _ v taken
    (flat_events c.args.flat.now) left c.ends_by_flat.result c.requires.skipped c.requires.mode c.requires.skipped c.requires.mode refl
    (c.ends_by_flat.ensures.stands taken) c.if-ends_by_flat.false
    (λ s. c.ends_by_flat.ensures.at_the_end v (taken ++ flat_events c.args.flat.now) left s e (omega arith)) h

pub returns-then-ends_by_flat : goal.returns-then-ends_by_flat
returns-then-ends_by_flat g c = λ v taken left d h e.
    whole c.args.self.now c.end_coordinates.new.self c.ends_by_flat.new.self v taken
    (flat_events c.args.flat.now) left c.ends_by_flat.result c.requires.skipped c.requires.mode
    (c.ends_by_flat.ensures.stands taken) c.if-ends_by_flat.true
    (λ s. c.ends_by_flat.ensures.at_the_end v (taken ++ flat_events c.args.flat.now) left s e (omega arith)) h e (λ s. c.end_coordinates.ensures v d s)
