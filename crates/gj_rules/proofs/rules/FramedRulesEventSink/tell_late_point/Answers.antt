-- A whole Point adds the name of its member and its warnings, wherever its type stands.
use Rattle.gj_rules.proofs.Common.{Frame, ap, core_of, ◌∙◌}
use Rattle.gj_rules.proofs.Texts.LatePoints.{told_late_point}
use Rattle.gj_rules.proofs.rules.FramedRulesEventSink.tell_late_point.Goals as goal

pub returns-then-takes_point : goal.returns-then-takes_point
returns-then-takes_point g c = λ events h.
    let t = c.takes_point.ensures in
    let is = c.if-takes_point.true in
    let taken = c.take_point.ensures.frame in
    told_late_point c.args.self.now c.take_point.new.self c.args.point.now c.args.flat.now taken.warnings (t.skipped is) (t.mode is) (t.due is) taken.deserved
    (c.take_point.ensures.core ∙ ap (λ (top : Frame). record (core_of c.args.self.now) { top = top }) taken.after_is) events h
