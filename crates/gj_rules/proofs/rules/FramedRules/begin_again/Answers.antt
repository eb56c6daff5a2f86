use Rattle.gj_rules.proofs.Texts.OneEventMore.{started}
use Rattle.gj_rules.proofs.rules.FramedRules.begin_again.Goals as goal

pub returns : goal.returns
returns g c = record { stands = started c.start_again.new.self c.start_again.ensures.core c.start_again.ensures.holds }
