use Rattle.std.proofs.Common.{refl, sym, ◌∙◌}
use Rattle.report_forms.proofs.FileCounts.{Counts-fault, Counts-valid, Counts-not_valid}
use Rattle.report_forms.proofs.summary.Summary.add_file.Goals as goal

pub returns-in-Some : goal.returns-in-Some
returns-in-Some c = λ files counts. Counts-fault c.args.self.now c.add_fault.new.self files c.args.finding.now c.in-Some.told
    (sym c.fault.ensures ∙ c.in-Some.is) counts c.add_fault.ensures

pub returns-in-Some-warnings : goal.returns-in-Some-warnings
returns-in-Some-warnings c =
    λ files counts. Counts-valid c.args.self.now c.add_valid.new.self files c.args.finding.now c.in-Some-warnings.warnings (sym c.fault.ensures ∙ c.in-None.is)
    (sym c.warnings.ensures ∙ c.in-Some-warnings.is) counts c.add_valid.ensures

pub returns-in-None-warnings : goal.returns-in-None-warnings
returns-in-None-warnings c =
    λ files counts. Counts-not_valid c.args.self.now _ files c.args.finding.now (sym c.fault.ensures ∙ c.in-None.is)
    (sym c.warnings.ensures ∙ c.in-None-warnings.is) counts
    (record {
      valid_is = refl;
      warned_is = refl;
      broken_is = refl;
      refused_is = refl;
      not_valid_is = c.saturating_add-self.ensures;
      unread_is =
          refl;
      codes_are = λ code small. refl;
    })
