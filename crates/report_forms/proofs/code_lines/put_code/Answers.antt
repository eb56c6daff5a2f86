use Rattle.std.specs.Prelude.{OnOk}
use Rattle.std.proofs.Common.{◌≡◌, ◌++◌, ℕ, subst}
use Rattle.report_forms.specs.CodeLines.{count_line_if}
use Rattle.report_forms.proofs.code_lines.put_code.Goals as goal

pub returns : goal.returns
returns c = λ small count are.
    subst (λ (n : ℕ). OnOk c.put_count_if.result (c.put_count_if.new.line.items ≡ c.args.line.now.items ++ count_line_if c.args.code n))
    (c.count_of.ensures small count are) c.put_count_if.ensures
