use Rattle.gj_rules.specs.Rules.{StandsFor}
use Rattle.gj_rules.proofs.Texts.PositionsMore.{none_more}
use Rattle.gj_rules.proofs.rules.FramedRulesEventSink.tell_positions.Goals as goal

pub returns-else-awaits-clause-heard : goal.returns-else-awaits-clause-heard
returns-else-awaits-clause-heard g c = none_more (StandsFor c.args.self.now)
