use Rattle.geolint_report.proofs.Common.{subst, sym, ◌≤◌, Framing, IsWholeVerdict}
use Rattle.gj_rules.specs.declared.sequence.verdict.SeqVerdict.{SeqVerdict}
use Rattle.gj_rules.specs.Sequence.{IsSequenceVerdict}
use Rattle.geolint_report.specs.declared.judge.Finding.{Finding}
use Rattle.geolint_report.specs.declared.judge.Reading.{Reading}
use Rattle.geolint_report.specs.Judged.{Finds}
use Rattle.geolint_report.proofs.KeptRecords.{Judges-as}
use Rattle.geolint_report.proofs.every.reading.judge_followed.Goals as goal

-- a text sequence is what its records make it
pub returns-in-Ok-judge_records-clause-found : goal.returns-in-Ok-judge_records-clause-found
returns-in-Ok-judge_records-clause-found g c = λ slow.
    let limits = c.args.limits in
    let had = g.S.Source.remaining c.args.reader.now in
    let left = g.S.Source.remaining c.judge_records.new.reader in
    let verdict = c.in-Ok-judge_records.found.0 in
    let some : 1 ≤ limits.bytes = c.bytes-most.ensures.allowed.some_byte in
    subst (λ (reading : Reading). Finds reading limits had left (Finding.Sequence verdict)) (sym c.in-Sequence.is)
    (Judges-as (IsWholeVerdict Framing.Sequence) IsSequenceVerdict limits had left verdict (λ bytes whole.
    let (found, are, is) = whole in
    subst (λ (v : SeqVerdict). IsSequenceVerdict limits bytes v) (sym is) (c.sequence_by_records.ensures limits bytes found some are))
    c.in-Ok-judge_records.ensures.verdict)
