use Rattle.gj_json.proofs.Machine.LongestPrefixes
use Rattle.gj_json.proofs.laws.one_refusal.Goals as goal

pub returns-clause-at_most_one : goal.returns-clause-at_most_one
returns-clause-at_most_one c = LongestPrefixes.one_refusal

pub returns-clause-either : goal.returns-clause-either
returns-clause-either c = LongestPrefixes.refused_or_admitted

pub returns-clause-never_both : goal.returns-clause-never_both
returns-clause-never_both c = LongestPrefixes.never_both
