use Rattle.report_forms.proofs.Common.{append_assoc}
use Rattle.report_forms.specs.Forms.Lines.{lines_excerpt}
use Rattle.report_forms.proofs.formats.lines.put_shown.Goals as goal

pub returns : goal.returns
unfolding lines_excerpt
returns c =
    let so_far = simp (append_assoc, c.in_ok-put.ensures, c.in_ok-put-2.ensures, c.in_ok-put-3.ensures) at c.in_ok-put_spaces.ensures in
    simp (append_assoc, so_far, c.in_ok-put_beginning.ensures, c.in_ok-put-4.ensures, c.in_ok-put_ending.ensures) at c.put-5.ensures
