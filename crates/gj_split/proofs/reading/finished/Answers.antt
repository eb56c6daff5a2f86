use Rattle.gj_split.proofs.Common.{Verdict, split_of, ◌≡◌}
use Rattle.gj_split.proofs.KeptRecords.{held_kept}
use Rattle.gj_split.proofs.Outcomes.{ok_gives, ok_on_both}
use Rattle.gj_split.proofs.ToldFeatures.{held_apart}
use Rattle.gj_split.proofs.reading.finished.Goals as goal

pub returns-clause-verdict : goal.returns-clause-verdict
returns-clause-verdict g c = ok_gives c.end.result.outcome c.finish-verdict.result.0 _ _ c.end.ensures.outcome c.finish-verdict.ensures.verdict

pub returns-clause-refused : goal.returns-clause-refused
returns-clause-refused g c =
    λ fault e. ok_gives c.end.result.outcome c.finish-verdict.result.0 _ (λ v. v ≡ Verdict.NotJson fault) c.end.ensures.outcome
    (c.finish-verdict.ensures.again fault e)

pub returns-clause-apart : goal.returns-clause-apart
returns-clause-apart g c =
    ok_on_both c.end.result.outcome c.finish-verdict.result.0 _ _ _ c.end.ensures.outcome c.end.ensures.held (λ e kept bytes text k s a.
    let told = c.finish-verdict.ensures.told bytes text s a in
    let valid = g.V.Write.contents c.finish-verdict.result.1.outputs.valid in
    let broken = g.B.Write.contents c.finish-verdict.result.1.outputs.broken in
    held_kept (split_of bytes text) valid broken (g.V.Write.contents c.end.result.outputs.valid) (g.B.Write.contents c.end.result.outputs.broken)
    c.finish-verdict.result.1.counts c.end.result.counts kept.0 kept.1 kept.2
    (held_apart g.R.Ranges.text c.finish-verdict.result.1.stop valid broken c.finish-verdict.result.1.counts told.0 bytes text e k told.1 a.0.0 told.2))
