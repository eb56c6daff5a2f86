-- No feature ends.
use Rattle.gj_rules.proofs.Common.{core_of, sym, ◌∙◌, [], ◌∷◌}
use Rattle.gj_json.specs.declared.event.What.{What}
use Rattle.gj_rules.proofs.Features.FeaturesSoFar.{more_heard, one_more}
use Rattle.gj_rules.proofs.Texts.WholePoints.{at}
use Rattle.gj_rules.proofs.feature_rules.FeatureRules.tell_close_object.Goals as goal

pub returns-else-ends_feature : goal.returns-else-ends_feature
returns-else-ends_feature g c = λ events h.
    let old = c.args.self.now in
    let Says = g.S.FeatureSink.told old.sink in
    let event = at c.args.place What.CloseObject in (
      c.tell_close_object.ensures events h.0,
      more_heard Says Says old.rules old.count old.count events (event ∷ [])
          (one_more Says Says old.count old.count (core_of old.rules) event (λ n u few was. rw (sym c.ends_feature.ensures ∙ c.if-ends_feature.false) was)) h.0 h.1,
    )

pub tell_end-requires : goal.tell_end-requires
tell_end-requires g c = record { ends = sym c.ends_feature.ensures ∙ c.if-ends_feature.true }
