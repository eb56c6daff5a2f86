-- What is reported of a finding: the fault, the warnings, the records and the word.
use Rattle.std.specs.Prelude.{ℕ, List, Option, Some, None, codes}
use Rattle.gj_coords.specs.declared.warnings.Warnings.{Warnings}
use Rattle.gj_rules.specs.declared.sequence.verdict.SeqVerdict.{SeqVerdict}
use Rattle.gj_rules.specs.declared.verdict.Verdict.{Verdict}
use Rattle.gj_rules.specs.declared.verdict.Verdict.TheVariants.{Valid, Broken, NotJson}
use Rattle.geolint_report.specs.declared.judge.Finding.{Finding}
use Rattle.geolint_report.specs.declared.report.Told.{Told}
use Rattle.geolint_report.specs.declared.texts.Code.{Code}

-- the rule or the cause that the linter's verdict reports, and its place
abbrev pub fault_in : Verdict → Option Told
fault_in (Valid warnings) = None
fault_in (Broken fault) = Some (record { code = Code.Rule fault.rule; place = fault.place })
fault_in (NotJson fault) = Some (record { code = Code.Cause fault.cause; place = fault.place })

abbrev pub fault_of : Finding → Option Told
fault_of (Finding.Text verdict) = fault_in verdict
fault_of (Finding.Sequence (SeqVerdict.Valid records warnings)) = None
fault_of (Finding.Sequence (SeqVerdict.Record number verdict)) = fault_in verdict
fault_of Finding.NotValid = None

-- of a valid file
abbrev pub warnings_of : Finding → Option Warnings
warnings_of (Finding.Text (Valid warnings)) = Some warnings
warnings_of (Finding.Sequence (SeqVerdict.Valid records warnings)) = Some warnings
warnings_of finding = None

-- the record that is not valid, from 1
abbrev pub record_of : Finding → Option ℕ
record_of (Finding.Sequence (SeqVerdict.Record number verdict)) = Some number
record_of finding = None

-- how many records a valid sequence has
abbrev pub records_of : Finding → Option ℕ
records_of (Finding.Sequence (SeqVerdict.Valid records warnings)) = Some records
records_of finding = None

abbrev pub verdict_word : Verdict → List ℕ
verdict_word (Valid warnings) = codes "valid"
verdict_word (Broken fault) = codes "broken"
verdict_word (NotJson fault) = codes "not JSON"

abbrev pub word_of : Finding → List ℕ
word_of (Finding.Text verdict) = verdict_word verdict
word_of (Finding.Sequence (SeqVerdict.Valid records warnings)) = codes "valid"
word_of (Finding.Sequence (SeqVerdict.Record number (Valid warnings))) = codes "not valid"
word_of (Finding.Sequence (SeqVerdict.Record number (Broken fault))) = codes "broken"
word_of (Finding.Sequence (SeqVerdict.Record number (NotJson fault))) = codes "not JSON"
word_of Finding.NotValid = codes "not valid"
