use Rattle.std.proofs.Common.{sym, ap, subst, ◌≡◌, ◌∙◌, Bool, true, false, not}
use Rattle.geolint_report.specs.declared.texts.Code.{Code}
use Rattle.geolint_report.specs.Texts.{is_cause}
use Rattle.report_forms.specs.declared.summary.Summary.{Summary}
use Rattle.geolint_report.specs.Slots.{same}
use Rattle.report_forms.specs.Internal.AddedFiles.{Adds}
use Rattle.report_forms.proofs.FileCounts.{Adds-after, no-cause}
use Rattle.report_forms.proofs.summary.Summary.add_fault.Goals as goal
use Rattle.report_forms.proofs.summary.Summary.add_fault.Goals.{in-Cause, in_default}

pub returns : goal.returns
returns c =
    let mid = c.match-code.self in
    elim c.match-code.branch [
      | in-Cause t ↦ (let e : is_cause c.args.code ≡ true = ap is_cause t.in-Cause.is in
          subst (λ (b : Bool). Adds c.args.self.now c.count.new.self false false (not b) b false (λ (other : Code). same other c.args.code)) (sym e)
          (Adds-after c.args.self.now mid c.count.new.self false false false true (λ (other : Code). same other c.args.code)
          (ap (λ (s : Summary). s.valid) t.self-is) (ap (λ (s : Summary). s.warned) t.self-is) (ap (λ (s : Summary). s.broken) t.self-is)
          (ap (λ (s : Summary). s.refused) t.self-is ∙ t.saturating_add-self.ensures)
          (ap (λ (s : Summary). s.not_valid) t.self-is) (ap (λ (s : Summary). s.unread) t.self-is) (ap (λ (s : Summary). s.counts) t.self-is) c.count.ensures))
      | in_default t ↦ (let e : is_cause c.args.code ≡ false = no-cause c.args.code t.in_default.not-Cause in
          subst (λ (b : Bool). Adds c.args.self.now c.count.new.self false false (not b) b false (λ (other : Code). same other c.args.code)) (sym e)
          (Adds-after c.args.self.now mid c.count.new.self false false true false (λ (other : Code). same other c.args.code)
          (ap (λ (s : Summary). s.valid) t.self-is) (ap (λ (s : Summary). s.warned) t.self-is)
          (ap (λ (s : Summary). s.broken) t.self-is ∙ t.saturating_add-self-in_default.ensures) (ap (λ (s : Summary). s.refused) t.self-is)
          (ap (λ (s : Summary). s.not_valid) t.self-is) (ap (λ (s : Summary). s.unread) t.self-is) (ap (λ (s : Summary). s.counts) t.self-is) c.count.ensures))
    ]
