-- Lemmas on what lines are.
use Rattle.geolint_report.proofs.Common.{◌≡◌, ℕ, List, [], ◌++◌, ap, sym, ◌∙◌, subst, Allowed, Framing}
use Rattle.gj_rules.specs.declared.records.framing.Framing.TheVariants.{Lines}
use Rattle.gj_rules.specs.declared.records.record.Record.{Record}
use Rattle.gj_rules.specs.declared.sequence.verdict.SeqVerdict.{SeqVerdict}
use Rattle.gj_rules.specs.RecordFindings.{AreAllFindings, IsWholeVerdict, whole_of}
use Rattle.gj_rules.specs.RecordsStand.{HaveToldAll}

-- one list is found in the records of an input
abbrev pub HasOneFinding : Type 0
HasOneFinding = (framing : Framing) (limits : Allowed) (bytes : List ℕ) (first second : List Record) → AreAllFindings framing limits bytes first
    → AreAllFindings framing limits bytes second → first ≡ second

pub one-whole : HasOneFinding → (limits : Allowed) (bytes : List ℕ) (first second : SeqVerdict) → IsWholeVerdict Lines limits bytes first
    → IsWholeVerdict Lines limits bytes second
    → first ≡ second
one-whole one limits bytes first second (found, are, is) (others, also, same) = is ∙ (ap whole_of (one Lines limits bytes found others are also) ∙ sym same)

pub lines-by : (framing : Framing) (here limits : Allowed) (bytes : List ℕ) (verdict : SeqVerdict) → framing ≡ Lines → here ≡ limits
    → IsWholeVerdict framing here bytes verdict
    → IsWholeVerdict Lines limits bytes verdict
lines-by framing here limits bytes verdict kind same is =
    subst (λ (l : Allowed). IsWholeVerdict Lines l bytes verdict) same (subst (λ (f : Framing). IsWholeVerdict f here bytes verdict) kind is)

-- at the end of the input
pub whole-told : (told : List Record → Type 0) (framing : Framing) (here limits : Allowed) (bytes : List ℕ) (found : List Record) (verdict : SeqVerdict)
    → framing ≡ Lines
    → here ≡ limits → HaveToldAll told framing here bytes [] found verdict → IsWholeVerdict Lines limits bytes verdict
whole-told told framing here limits bytes found verdict kind same all =
    lines-by framing here limits bytes verdict kind same (found ++ all.more, all.findings, all.whole)
