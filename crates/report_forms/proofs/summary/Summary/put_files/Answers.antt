use Rattle.report_forms.proofs.Common.{append_assoc}
use Rattle.report_forms.specs.Summary.{files_line}
use Rattle.report_forms.proofs.summary.Summary.put_files.Goals as goal

pub returns : goal.returns
unfolding files_line
returns c = λ files counts.
    let so_far1 = simp (append_assoc, c.in_ok-put_number.ensures, counts.valid, c.in_ok-put.ensures, c.in_ok-put_number-2.ensures, counts.warned)
    at c.in_ok-put-2.ensures in
    let so_far2 = simp (append_assoc, so_far1, c.in_ok-put_number-3.ensures, counts.broken) at c.in_ok-put-3.ensures in
    let so_far3 = simp (append_assoc, so_far2, c.in_ok-put_number-4.ensures, counts.refused) at c.in_ok-put-4.ensures in
    let so_far4 = simp (append_assoc, so_far3, c.in_ok-put_number-5.ensures, counts.unread) at c.in_ok-put-5.ensures in
    simp (append_assoc, so_far4, c.in_ok-put_and_not_valid.ensures, counts.not_valid) at c.put-6.ensures
