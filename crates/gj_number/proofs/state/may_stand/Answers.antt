use Rattle.gj_number.proofs.Common.{◌∙◌}
use Rattle.gj_number.proofs.Grammar.ByteClasses.{number_byte}
use Rattle.gj_number.proofs.state.may_stand.Goals as goal

pub returns-in_default-clause-number : goal.returns-in_default-clause-number
returns-in_default-clause-number c = λ t. number_byte c.args.byte (λ e. c.in_default.not-Other (c.of.ensures ∙ e))
