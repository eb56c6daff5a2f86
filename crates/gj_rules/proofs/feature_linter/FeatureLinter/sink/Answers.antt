-- The features that are complete in the bytes that were taken, as each text has them that goes on so.
use Rattle.gj_rules.proofs.Common.{Stand, arith, features_by, subst, sym}
use Rattle.gj_rules.specs.FeatureLinter.{StandsFor}
use Rattle.gj_rules.proofs.feature_linter.FeatureLinter.sink.Goals as goal

pub returns-clause-told : goal.returns-clause-told
unfolding StandsFor
returns-clause-told g c = λ bytes rest text h t few.
    let self = c.args.self.now in
    let Told = g.S.FeatureSink.told in
    let stand = subst (Stand (Told self.rules.sink) self.rules.rules self.rules.count) (sym (h.1.complete text rest t.0)) h.1.told in (
      features_by self.reader.offset text,
      c.sink.ensures.told text _ self.reader.offset t.0
          (omega (arith, t.1, self.shallow)) few stand,
      c.features_say.ensures text self.reader.offset (omega (arith, few)),
    )
