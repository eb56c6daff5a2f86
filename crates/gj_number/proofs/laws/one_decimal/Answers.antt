use Rattle.gj_number.proofs.Grammar.SpelledParts.{number_from}
use Rattle.gj_number.proofs.Value.OneDenotation.{some_denoted, one_denoted}
use Rattle.gj_number.proofs.laws.one_decimal.Goals as goal

pub returns-clause-exists : goal.returns-clause-exists
returns-clause-exists c = some_denoted

pub returns-clause-unique : goal.returns-clause-unique
returns-clause-unique c = one_denoted

pub returns-clause-number : goal.returns-clause-number
returns-clause-number c = λ literal e d. number_from d.0 literal d.1
