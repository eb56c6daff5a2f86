use Rattle.part_lines.proofs.Common.{◌≡◌, ℕ, Some, refl, sym, codes, Warnings, Data, view}
use Rattle.gj_rules.specs.declared.sequence.verdict.SeqVerdict.{SeqVerdict}
use Rattle.part_lines.specs.LineObject.{number_in, AreWarningsIn, IsVerdictIn}
use Rattle.part_lines.proofs.reading.read_verdict.Goals as goal

no-valid : (it : Data) (begin records : ℕ) → number_in (codes "records") it ≡ Some records → ((all : Warnings) → AreWarningsIn it begin all → ⊥)
    → (verdict : SeqVerdict)
    → IsVerdictIn it begin verdict → ⊥
no-valid it begin records is none (SeqVerdict.Valid count warnings) says = none warnings says.1
no-valid it begin records is none (SeqVerdict.Record number verdict) says = let (first, second, third) = says in cc (is, first)

pub returns-in_err-warnings-in-Some-clause-none : goal.returns-in_err-warnings-in-Some-clause-none
returns-in_err-warnings-in-Some-clause-none c = λ none verdict says.
    no-valid (view c.args.value.now) c.args.begin c.in-Some.records (sym c.in-Some.ensures) (c.in_err-warnings-in-Some.ensures.none refl) verdict says
