-- By the parts that count.
use Rattle.gj_rules.proofs.Parts.SequencesByRecords as Records
use Rattle.gj_rules.proofs.record_laws.sequence_by_records.Goals as goal

pub returns : goal.returns
returns c = λ limits bytes found least h. Records.sequence_by_records limits bytes found least h
