-- One feature more.
use Rattle.std.proofs.Common.{refl}
use Rattle.gj_join.proofs.RunTotals.{told_one}
use Rattle.gj_join.proofs.totals.TotalsFeatureSink.tell_feature.Goals as goal
use Rattle.gj_join.proofs.totals.TotalsFeatureSink.tell_feature.Goals.{in_default-via-in-None+in_default, in_default-via-in_default}

pub returns-in-None-Some : goal.returns-in-None-Some
returns-in-None-Some c = λ features h.
    told_one _ _ features c.args.feature.now h
    (rw (c.if-self.true, c.in-None-Some.is-0, c.in-None-Some.is-1, c.join-self.ensures.exact) refl)

pub returns-in_default : goal.returns-in_default
returns-in_default c =
    elim c.in_default.branch [
      | in_default-via-in-None+in_default w ↦ λ features h.
          told_one _ _ features c.args.feature.now h (rw (c.if-self.true, w.in_default.is-0, w.in_default.is-1) refl)
      | in_default-via-in_default w ↦ λ features h.
          told_one _ _ features c.args.feature.now h (rw (c.if-self.true, w.in_default.is-0) refl)
    ]

pub returns-else-self : goal.returns-else-self
returns-else-self c = λ features h. told_one _ _ features c.args.feature.now h (rw (c.if-self.false) refl)
