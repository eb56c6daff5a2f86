use Rattle.gj_split.proofs.Common.{AreHeld, List, Record, split_records, subst, [], ◌++◌}
use Rattle.gj_split.proofs.HeldOfRecords.{held_records}
use Rattle.gj_split.proofs.KeptRecords.{held_kept}
use Rattle.gj_split.proofs.Outcomes.{ok_gives, ok_on_both}
use Rattle.gj_split.proofs.records.finished_records.Goals as goal

pub returns-clause-verdict : goal.returns-clause-verdict
returns-clause-verdict g c =
    ok_gives c.end.result.outcome (record { verdict = c.finish-verdict.result; is_cut = c.is_over-is_cut.result }) _ _ c.end.ensures.outcome
    (λ bytes r. let told = c.finish-verdict.ensures.told bytes [] r.found r.stands r.heard in (r.found ++ told.more, told.findings, told.whole))

pub returns-clause-apart : goal.returns-clause-apart
returns-clause-apart g c =
    ok_on_both c.end.result.outcome (record { verdict = c.finish-verdict.result; is_cut = c.is_over-is_cut.result }) _ _ _ c.end.ensures.outcome
    c.end.ensures.held (λ e kept bytes found k r a.
    let told = c.finish-verdict.ensures.told bytes [] r.found r.stands r.heard in
    let valid = g.V.Write.contents c.finish-verdict.new.sink.outputs.valid in
    let broken = g.B.Write.contents c.finish-verdict.new.sink.outputs.broken in
    let counts = c.finish-verdict.new.sink.counts in
    held_kept (split_records bytes found) valid broken (g.V.Write.contents c.end.result.outputs.valid) (g.B.Write.contents c.end.result.outputs.broken) counts
    c.end.result.counts kept.0 kept.1 kept.2
    (subst (λ (all : List Record). AreHeld (split_records bytes all) valid broken counts)
    (c.one_finding.ensures.one _ _ bytes (r.found ++ told.more) found told.findings a)
    (held_records g.R.Ranges.text c.finish-verdict.new.sink.stop valid broken counts (r.found ++ told.more) bytes e k told.heard)))
