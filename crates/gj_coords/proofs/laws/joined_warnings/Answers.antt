use Rattle.gj_coords.proofs.Common.{joined_none_first}
use Rattle.gj_coords.specs.Internal.WarningLaws.{joined_none_last, joined_assoc, joined_comm, warnings_of-append}
use Rattle.gj_coords.proofs.laws.joined_warnings.Goals as goal

pub returns-clause-none_first : goal.returns-clause-none_first
returns-clause-none_first c = joined_none_first

pub returns-clause-none_last : goal.returns-clause-none_last
returns-clause-none_last c = joined_none_last

pub returns-clause-grouping : goal.returns-clause-grouping
returns-clause-grouping c = joined_assoc

pub returns-clause-order : goal.returns-clause-order
returns-clause-order c = joined_comm

pub returns-clause-append : goal.returns-clause-append
returns-clause-append c = warnings_of-append
