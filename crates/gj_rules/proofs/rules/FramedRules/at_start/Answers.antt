use Rattle.gj_rules.proofs.Texts.OneEventMore.{started}
use Rattle.gj_rules.proofs.rules.FramedRules.at_start.Goals as goal

pub returns : goal.returns
returns g c = record { stands = started c.started.result c.started.ensures.core c.started.ensures.holds }
