use Rattle.gj_rules.proofs.Common.{is_feeding, numbers_of, refl, true}
use Rattle.std.proofs.Common.{◌≡◌}
use Rattle.gj_rules.proofs.Texts.OneFlatMore.{told_flat}
use Rattle.gj_rules.proofs.rules.FramedRulesEventSink.tell_flat.Goals as goal

pub returns-then-awaits : goal.returns-then-awaits
returns-then-awaits g c = λ events h.
    let flat = c.args.flat.now in
    let old = c.args.self.now in
    let feeds : is_feeding old.skipped old.mode ≡ true =
    rw (c.awaits.ensures.skipped c.if-awaits.true, c.awaits.ensures.mode c.if-awaits.true) refl in
    told_flat old c.feed_flat.new.self flat.place (numbers_of flat) flat.close feeds c.feed_flat.ensures events h
