-- Levels that the rules ignore, but for those of an array among the features.
use Rattle.gj_rules.proofs.Common.{Bool, arith, core_of, false, refl, subst, true, ◌<◌}
use Rattle.std.proofs.Common.{◌≡◌, ℕ}
use Rattle.gj_json.specs.Ignored.{Leaves}
use Rattle.gj_rules.specs.Internal.FeatureSteps.{ignored_of, lists}
use Rattle.gj_rules.proofs.Features.EventsPassed.{ignored_passed, passed}
use Rattle.gj_rules.proofs.Features.FeaturesSoFar.{more_heard}
use Rattle.gj_rules.proofs.feature_rules.FeatureRulesEventSink.pass.Goals as goal

elsewhere : (b : Bool) (n : ℕ) → 0 < ignored_of b n → b ≡ false
elsewhere true n l = absurd (omega (arith, l))
elsewhere false n l = refl

pub returns : goal.returns
returns g c = λ events inner w h l.
    let old = c.args.self.now in
    let Says = g.S.FeatureSink.told old.sink in
    let none = elsewhere (lists old.rules.mode) old.rules.skipped w in
    let leaves = subst (λ b. Leaves (ignored_of b old.rules.skipped) inner c.args.left) none l in (
      c.pass.ensures events inner (subst (λ b. 0 < ignored_of b old.rules.skipped) none w) h.0 leaves,
      more_heard Says Says old.rules old.count old.count events inner
          (passed Says old.count (core_of old.rules) inner (ignored_passed (core_of old.rules) inner c.args.left none leaves)) h.0 h.1,
    )
