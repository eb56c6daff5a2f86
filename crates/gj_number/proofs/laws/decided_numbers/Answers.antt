use Rattle.gj_number.proofs.Grammar.DecidedNumbers.{number, begins, first, last}
use Rattle.gj_number.proofs.laws.decided_numbers.Goals as goal

pub returns : goal.returns
returns c = record { number = number; begins = begins; first = first; last = last }
