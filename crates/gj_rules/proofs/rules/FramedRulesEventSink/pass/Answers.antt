-- Where a value is not looked into, it does not matter which events pass.
use Rattle.gj_rules.proofs.Texts.IgnoredValues.{passed}
use Rattle.gj_rules.proofs.rules.FramedRulesEventSink.pass.Goals as goal

pub returns : goal.returns
returns g c = λ events inner w h l. passed inner c.args.self.now c.renew.new.self events c.args.left w l c.renew.ensures.core c.renew.ensures.holds h
