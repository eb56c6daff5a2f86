-- What was reported where they lay.
use Rattle.gj_rules.proofs.records.Records.finish.Goals as goal

pub returns : goal.returns
returns g c = record { told = λ bytes before found s t. (c.end.ensures.told bytes before found s t).have }
