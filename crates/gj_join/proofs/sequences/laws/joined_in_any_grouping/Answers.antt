use Rattle.gj_join.proofs.JoinedGroups.{grouped}
use Rattle.gj_join.proofs.sequences.laws.joined_in_any_grouping.Goals as goal

pub returns : goal.returns
returns c = grouped
