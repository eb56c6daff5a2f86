use Rattle.report_forms.proofs.Common.{append_assoc, Code}
use Rattle.report_forms.specs.Counts.{tells}
use Rattle.report_forms.specs.Summary.{counted, summary_of}
use Rattle.report_forms.proofs.summary.Summary.put.Goals as goal

pub returns : goal.returns
unfolding summary_of
returns c = λ files counts.
    simp (append_assoc, c.in_ok-put_files.ensures files counts) at (c.put_codes.ensures (λ (code : Code). counted (tells code) files) counts.codes)
