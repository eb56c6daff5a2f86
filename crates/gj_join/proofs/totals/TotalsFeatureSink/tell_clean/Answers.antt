-- One feature more, in which nothing is found.
use Rattle.std.proofs.Common.{refl}
use Rattle.gj_coords.specs.Internal.WarningLaws.{joined_none_last}
use Rattle.gj_rules.specs.CleanFeature.{feature_of}
use Rattle.gj_join.proofs.RunTotals.{told_one}
use Rattle.gj_join.proofs.totals.TotalsFeatureSink.tell_clean.Goals as goal

pub returns-then-self : goal.returns-then-self
returns-then-self c = λ features h. told_one _ _ features (feature_of c.args.clean.now) h (rw (c.if-self.true, joined_none_last c.args.self.now.warnings) refl)

pub returns-else-self : goal.returns-else-self
returns-else-self c = λ features h. told_one _ _ features (feature_of c.args.clean.now) h (rw (c.if-self.false) refl)
