use Rattle.std.proofs.Common.{ℕ, List, OnOk, IfErr, subst}
use Rattle.std.specs.Io.KnownBytes.{Appends}
use Rattle.gj_rules.specs.Verdict.{valid}
use Rattle.geolint.specs.Quick.{quick_report}
use Rattle.geolint.specs.Written.{IsFrontOut}
use Rattle.geolint.proofs.QuickReadings.{for_some}
use Rattle.geolint.proofs.quick.write_quickly.Goals as goal

pub returns-in-Some-clause-whole : goal.returns-in-Some-clause-whole
returns-in-Some-clause-whole g c =
    let Whole : List ℕ → Type 0 =
    λ bytes. OnOk c.write_report.result (Appends (g.W.Sink.taken c.args.writer.now) (g.W.Sink.taken c.write_report.new.writer) bytes) in
    for_some (λ warnings. Whole (quick_report warnings)) c.args.valid c.in-Some.warnings c.in-Some.is
    (λ all stands. subst Whole (c.write_report.ensures.said (valid all) stands) c.write_report.ensures.whole)

pub returns-in-Some-clause-front : goal.returns-in-Some-clause-front
returns-in-Some-clause-front g c =
    let Front : List ℕ → Type 0 =
    λ bytes. IfErr c.write_report.result
    (λ fault. IsFrontOut (g.W.Sink.taken c.args.writer.now) (g.W.Sink.taken c.write_report.new.writer) bytes fault.written) in
    for_some (λ warnings. Front (quick_report warnings)) c.args.valid c.in-Some.warnings c.in-Some.is
    (λ all stands. subst Front (c.write_report.ensures.said (valid all) stands) c.write_report.ensures.front)
