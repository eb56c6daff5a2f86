use Rattle.gj_json.proofs.Machine.LongestPrefixes
use Rattle.gj_json.proofs.laws.longest_front.Goals as goal

pub returns-clause-some : goal.returns-clause-some
returns-clause-some c = LongestPrefixes.some_longest

pub returns-clause-one : goal.returns-clause-one
returns-clause-one c = LongestPrefixes.one_longest

pub returns-clause-tells : goal.returns-clause-tells
returns-clause-tells c = LongestPrefixes.told_by
