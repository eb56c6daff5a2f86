-- The feature that ends is reported as the definition says.
use Rattle.gj_rules.proofs.Common.{Findings, Mode, Names, Role, ap, arith, core_of, length, refl, subst, suc, sym, true, zero, ◌∙◌, ◌++◌, [], ◌∷◌}
use Rattle.std.proofs.Common.{◌≡◌, ℕ}
use Rattle.gj_json.specs.declared.event.What.{What}
use Rattle.gj_rules.specs.declared.feature.Feature.{Feature}
use Rattle.gj_rules.specs.Internal.FeatureSteps.{IsHeard, at_end, ended, feature_found}
use Rattle.gj_rules.specs.Rules.{StandsFor}
use Rattle.gj_rules.proofs.Features.FeaturesSoFar.{more_heard, one_more}
use Rattle.gj_rules.proofs.Texts.WholePoints.{at}
use Rattle.gj_rules.proofs.feature_rules.FeatureRules.tell_end.Goals as goal

end_names : (k : ℕ) (m : Mode) (r : Role) → at_end k m r ≡ true → (k ≡ 0) × (m ≡ Names)
end_names zero Names r e = (refl, refl)
end_names zero _ r e = cc
end_names (suc k) m r e = cc

pub close_clean-requires : goal.close_clean-requires
close_clean-requires g c =
    let rules = c.args.self.now.rules in
    let at_names = end_names rules.skipped rules.mode (core_of rules).top.slots.role c.requires.ends in
    (omega arith, (at_names.0, (at_names.1, c.is_clean_feature.ensures c.if-is_clean_feature.true)))

pub returns-then-is_clean_feature : goal.returns-then-is_clean_feature
returns-then-is_clean_feature g c = λ events h.
    let old = c.args.self.now in
    let new = c.tell_clean.new.self in
    let Old = g.S.FeatureSink.told old.sink in
    let New = g.S.FeatureSink.told new.sink in
    let event = at c.args.place What.CloseObject in (
      subst (λ rules. StandsFor rules (events ++ event ∷ [])) (sym c.tell_clean.ensures.rules) (c.close_clean.ensures c.args.place events h.0),
      more_heard Old New old.rules old.count new.count events (event ∷ [])
          (one_more Old New old.count new.count (core_of old.rules) event
          (λ n u few was.
          rw c.requires.ends
          (subst (λ (feature : Feature). IsHeard New new.count (ended n feature u))
          (rw (was.0, was.1, c.place.ensures)
          (ap (λ (found : Findings). feature_found found (length u.told) (core_of old.rules).top.slots.place c.args.place u.begun)
          (sym (c.is_clean_feature.ensures c.if-is_clean_feature.true)))) (c.tell_clean.ensures.heard n u few was)))) h.0 h.1,
    )

pub returns-else-is_clean_feature : goal.returns-else-is_clean_feature
returns-else-is_clean_feature g c = λ events h.
    let old = c.args.self.now in
    let new = c.tell_ended.new.self in
    let Old = g.S.FeatureSink.told old.sink in
    let New = g.S.FeatureSink.told new.sink in
    let event = at c.args.place What.CloseObject in (
      subst (λ rules. StandsFor rules (events ++ event ∷ [])) (sym c.tell_ended.ensures.rules) (c.tell_close_object.ensures events h.0),
      more_heard Old New old.rules old.count new.count events (event ∷ [])
          (one_more Old New old.count new.count (core_of old.rules) event
          (λ n u few was.
          rw c.requires.ends
          (subst (λ (feature : Feature). IsHeard New new.count (ended n feature u))
          (c.feature_found-feature.ensures ∙ rw (was.0, was.1) refl) (c.tell_ended.ensures.heard n u few was)))) h.0 h.1,
    )
