use Rattle.std.proofs.Common.{arith, ap, ◌∙◌, ℕ, get_or}
use Rattle.report_forms.proofs.code_lines.count_of.Goals as goal

pub returns-then-slot-lt-CODES : goal.returns-then-slot-lt-CODES
returns-then-slot-lt-CODES c = λ small count are. ap (λ (n : ℕ). get_or c.args.counts.now n 0) c.slot-slot.ensures ∙ are c.args.code small

pub returns-else-slot-lt-CODES : goal.returns-else-slot-lt-CODES
returns-else-slot-lt-CODES c = λ small count are. absurd (omega (arith, small, c.slot-slot.ensures, c.if-slot-lt-CODES.false))
