use Rattle.gj_coords.specs.Internal.LeastLaws.{lesser_assoc, least-append}
use Rattle.gj_coords.proofs.Readers.LeastOfSome.{least_none, least_is_one, least_is_first}
use Rattle.gj_coords.proofs.laws.least_fault.Goals as goal

pub returns-clause-none : goal.returns-clause-none
returns-clause-none c = least_none

pub returns-clause-one_of_them : goal.returns-clause-one_of_them
returns-clause-one_of_them c = least_is_one

pub returns-clause-first : goal.returns-clause-first
returns-clause-first c = least_is_first

pub returns-clause-grouping : goal.returns-clause-grouping
returns-clause-grouping c = lesser_assoc

pub returns-clause-joined : goal.returns-clause-joined
returns-clause-joined c = least-append
