use Rattle.report_forms.proofs.Common.{◌≡◌, ◌∙◌, sym, ap, true, List}
use Rattle.std.proofs.Common.{Option}
use Rattle.std.specs.Prelude.{is_none}
use Rattle.std.specs.Io.Iter.{u64_saturate}
use Rattle.std.specs.List.{count_by}
use Rattle.std.proofs.lemmas.Bool.{eq-eqb, eqb-true, ne_eqb, true≢false}
use Rattle.geolint_report.specs.declared.judge.Finding.{Finding}
use Rattle.report_forms.proofs.FileCounts.{none-counted}
use Rattle.report_forms.proofs.summary.Summary.is_empty.Goals as goal
use Rattle.report_forms.proofs.summary.Summary.is_empty.Goals.{then-self-eq0, else-self-eq0, then-self-eq0-2, else-self-eq0-2}
use Rattle.report_forms.proofs.summary.Summary.is_empty.Goals.{then-self-eq0-3, else-self-eq0-3, then-self-eq0-4, else-self-eq0-4}

pub returns-then-self-eq0-5 : goal.returns-then-self-eq0-5
returns-then-self-eq0-5 c =
    let summary = c.args.self.now in
    let not_valid : (c.if-self-eq0-3.value ≡ true) × (summary.not_valid ≡ 0) = elim c.if-self-eq0-4.branch [
      | then-self-eq0-4 w ↦ (w.if-self-eq0-4.true, eqb-true _ _ (sym w.value-is ∙ c.if-self-eq0-5.true))
      | else-self-eq0-4 w ↦ absurd (true≢false (sym c.if-self-eq0-5.true ∙ (w.value-is ∙ w.if-self-eq0-4.false)))
    ] in
    let refused : (c.if-self-eq0-2.value ≡ true) × (summary.refused ≡ 0) = elim c.if-self-eq0-3.branch [
      | then-self-eq0-3 w ↦ (w.if-self-eq0-3.true, eqb-true _ _ (sym w.value-is ∙ not_valid.0))
      | else-self-eq0-3 w ↦ absurd (true≢false (sym not_valid.0 ∙ (w.value-is ∙ w.if-self-eq0-3.false)))
    ] in
    let broken : (c.if-self-eq0.value ≡ true) × (summary.broken ≡ 0) = elim c.if-self-eq0-2.branch [
      | then-self-eq0-2 w ↦ (w.if-self-eq0-2.true, eqb-true _ _ (sym w.value-is ∙ refused.0))
      | else-self-eq0-2 w ↦ absurd (true≢false (sym refused.0 ∙ (w.value-is ∙ w.if-self-eq0-2.false)))
    ] in
    let valid : (summary.valid ≡ 0) × (summary.warned ≡ 0) = elim c.if-self-eq0.branch [
      | then-self-eq0 w ↦ (w.if-self-eq0.true, eqb-true _ _ (sym w.value-is ∙ broken.0))
      | else-self-eq0 w ↦ absurd (true≢false (sym broken.0 ∙ (w.value-is ∙ ne_eqb _ _ w.if-self-eq0.false)))
    ] in
    λ files counts. (
      λ unread. none-counted summary files counts valid.0 valid.1 broken.1 refused.1 not_valid.1 (eqb-true _ _ unread),
      λ none. eq-eqb _ _ (counts.unread ∙ ap (λ (all : List (Option Finding)). u64_saturate (count_by (λ (f : Option Finding). is_none f) all)) none),
    )
