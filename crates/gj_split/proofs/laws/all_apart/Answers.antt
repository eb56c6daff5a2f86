use Rattle.gj_rules.specs.FeatureFindings.{feature_findings}
use Rattle.gj_split.proofs.TextsAlone.{all_alone, json_by_itself, merged}
use Rattle.gj_split.proofs.laws.all_apart.Goals as goal

pub returns-clause-once : goal.returns-clause-once
returns-clause-once c = λ text bytes. merged bytes (feature_findings text)

pub returns-clause-json : goal.returns-clause-json
returns-clause-json c = λ limits text bytes h. json_by_itself limits.depth bytes (feature_findings text) (all_alone limits.depth text bytes h.0)
