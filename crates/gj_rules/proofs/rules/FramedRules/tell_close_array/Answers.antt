use Rattle.gj_rules.proofs.Common.{is_feeding, refl, true}
use Rattle.std.proofs.Common.{◌≡◌}
use Rattle.gj_rules.proofs.Texts.OneEventMore.{told_on, steps_fed}
use Rattle.gj_rules.proofs.rules.FramedRules.tell_close_array.Goals as goal

pub returns-then-awaits : goal.returns-then-awaits
returns-then-awaits g c = λ events h.
    let old = c.args.self.now in
    let feeds : is_feeding old.skipped old.mode ≡ true =
    rw (c.awaits.ensures.skipped c.if-awaits.true, c.awaits.ensures.mode c.if-awaits.true) refl in
    told_on old c.feed_close_array.new.self _ events (steps_fed old c.feed_close_array.new.self _ feeds c.feed_close_array.ensures) h
