use Rattle.gj_split.proofs.Common.{Allowed, IsAdmitted, IsValidSequence, length, refl, same_Some, split_of, subst, sym, ◌∙◌}
use Rattle.std.proofs.lemmas.Result.{IfOk-from_err}
use Rattle.gj_split.proofs.Outcomes.{ok_both, on_map}
use Rattle.gj_split.proofs.WholeReadings.{verdict_read, whole_read}
use Rattle.gj_split.proofs.reading.split.Goals as goal

pub feed_all-requires : goal.feed_all-requires
feed_all-requires g c = c.new-linter.ensures.refusal

pub returns-in-None-clause-verdict : goal.returns-in-None-clause-verdict
returns-in-None-clause-verdict g c =
    let same = c.feed_all.ensures.limits ∙ c.new-linter.ensures.limits in
    ok_both c.finished.result.outcome _ _ _ _ c.finished.ensures.verdict c.finished.ensures.refused
    (λ v h r bytes k. verdict_read _ c.feed_all.new.linter c.args.limits same v bytes h r
    (c.in-None.ensures.read refl bytes k.source_bytes (c.new-linter.ensures.stands (c.new.ensures.held bytes k))))

pub returns-in-None-clause-apart : goal.returns-in-None-clause-apart
returns-in-None-clause-apart g c =
    let same = c.feed_all.ensures.limits ∙ c.new-linter.ensures.limits in
    on_map c.finished.result.outcome _ _ c.finished.ensures.apart (λ h bytes text k a.
    let admitted = subst (λ (l : Allowed). IsAdmitted l text bytes) (sym same) a in
    h bytes text k.source_bytes
    (whole_read _ c.feed_all.new.linter c.args.limits same c.one_refusal.ensures.never_both bytes text
    (c.in-None.ensures.read refl bytes k.source_bytes (c.new-linter.ensures.stands (c.new.ensures.held bytes k))) admitted) admitted)

pub returns-in-None-clause-sequence : goal.returns-in-None-clause-sequence
returns-in-None-clause-sequence g c =
    let same = c.feed_all.ensures.limits ∙ c.new-linter.ensures.limits in
    on_map c.finished.result.outcome _ _ c.finished.ensures.apart (λ h bytes held text k a e.
    let admitted = subst (λ (l : Allowed). IsAdmitted l text bytes) (sym same) a in
    let apart = h bytes text k.source_bytes
    (whole_read _ c.feed_all.new.linter c.args.limits same c.one_refusal.ensures.never_both bytes text
    (c.in-None.ensures.read refl bytes k.source_bytes (c.new-linter.ensures.stands (c.new.ensures.held bytes k))) admitted) admitted in
    subst (λ xs. IsValidSequence c.args.limits.depth (length (split_of bytes text).valid) xs) (same_Some _ held (sym apart.valid_records ∙ e))
    (c.valid_apart.ensures.sequence c.args.limits text bytes a))

pub returns-in-Some-clause-verdict : goal.returns-in-Some-clause-verdict
returns-in-Some-clause-verdict g c = IfOk-from_err c.stopped.result.outcome _ c.stopped.ensures

pub returns-in-Some-clause-apart : goal.returns-in-Some-clause-apart
returns-in-Some-clause-apart g c = IfOk-from_err c.stopped.result.outcome _ c.stopped.ensures

pub returns-in-Some-clause-sequence : goal.returns-in-Some-clause-sequence
returns-in-Some-clause-sequence g c = IfOk-from_err c.stopped.result.outcome _ c.stopped.ensures
