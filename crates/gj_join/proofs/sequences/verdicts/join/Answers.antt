use Rattle.gj_join.proofs.Common.{Allowed, ArePartsOf, Framing, Lines, List, Sequence, SequenceJudgement, Some, ap, joined_judgement, length}
use Rattle.gj_join.proofs.Common.{limits_after, subst, sym, ℕ, ◌++◌, ◌∙◌, ◌≡◌}
use Rattle.std.proofs.Common.{None, Option}
use Rattle.std.specs.Prelude.{◌↔◌, IfSome}
use Rattle.gj_rules.specs.RecordFindings.{IsWholeVerdict}
use Rattle.gj_rules.specs.Sequence.{IsSequenceVerdict, SequenceSays}
use Rattle.gj_rules.specs.SequenceJudgement.{IsSequenceJudgement}
use Rattle.gj_rules.specs.declared.sequence.verdict.SeqVerdict.{SeqVerdict}
use Rattle.gj_join.specs.Joined.{IsVerdictOf, joined_verdict}
use Rattle.gj_join.proofs.sequences.verdicts.join.Goals as goal

-- a verdict is what it says
SaysIt : Type 0
SaysIt = (limits : Allowed) (bytes : List ℕ) (verdict : SeqVerdict) → IsSequenceVerdict limits bytes verdict ↔
    ((judgement : SequenceJudgement) × IsSequenceJudgement limits bytes judgement × SequenceSays verdict judgement)

Joins : Type 0
Joins = (limits : Allowed) (first second : List ℕ) (one other : SequenceJudgement) → ArePartsOf Sequence limits first second
    → IsSequenceJudgement limits first one
    → IsSequenceJudgement (limits_after limits (length first)) second other
    → IsSequenceJudgement limits (first ++ second) (joined_judgement (length first) one other)

JoinsLines : Type 0
JoinsLines = (limits : Allowed) (first second : List ℕ) (one other : SeqVerdict) → ArePartsOf Lines limits first second → IsWholeVerdict Lines limits first one
    → IsWholeVerdict Lines (limits_after limits (length first)) second other
    → IsWholeVerdict Lines limits (first ++ second) (joined_verdict (length first) one other)

Says : SeqVerdict → ℕ → SeqVerdict → SeqVerdict → Type 0
Says first end second whole = (one other : SequenceJudgement) → SequenceSays first one → SequenceSays second other
    → SequenceSays whole (joined_judgement end one other)

sequences : SaysIt → Joins → (first second whole : SeqVerdict) (end : ℕ) → Says first end second whole → (limits : Allowed) (part rest : List ℕ)
    → ArePartsOf Sequence limits part rest → end ≡ length part → IsSequenceVerdict limits part first
    → IsSequenceVerdict (limits_after limits end) rest second
    → IsSequenceVerdict limits (part ++ rest) whole
unfolding SaysIt Joins Says
sequences says joins first second verdict end h limits part rest parts at of_part of_rest =
    let (one, is_one, says_one) = (says limits part first).0 of_part in
    let (other, is_other, says_other) = (says (limits_after limits end) rest second).0 of_rest in
    let both = joins limits part rest one other parts is_one (subst (λ (n : ℕ). IsSequenceJudgement (limits_after limits n) rest other) at is_other) in
    (says limits (part ++ rest) verdict).1 (
      joined_judgement end one other,
      subst (λ (n : ℕ). IsSequenceJudgement limits (part ++ rest) (joined_judgement n one other)) (sym at) both,
      h one other says_one says_other,
    )

lines : JoinsLines → (first second whole : SeqVerdict) (end : ℕ) → whole ≡ joined_verdict end first second → (limits : Allowed) (part rest : List ℕ)
    → ArePartsOf Lines limits part rest → end ≡ length part → IsWholeVerdict Lines limits part first
    → IsWholeVerdict Lines (limits_after limits end) rest second
    → IsWholeVerdict Lines limits (part ++ rest) whole
unfolding JoinsLines
lines joins first second verdict end is limits part rest parts at of_part of_rest =
    let both = joins limits part rest first second parts of_part (subst (λ (n : ℕ). IsWholeVerdict Lines (limits_after limits n) rest second) at of_rest) in
    subst (λ (v : SeqVerdict). IsWholeVerdict Lines limits (part ++ rest) v)
    (ap (λ (n : ℕ). joined_verdict n first second) (sym at) ∙ sym is) both

whole : SaysIt → Joins → JoinsLines → (first second : SeqVerdict) (end : ℕ) (result : Option SeqVerdict)
    → IfSome result (λ whole. whole ≡ joined_verdict end first second)
    → IfSome result (λ whole. (one other : SequenceJudgement) → SequenceSays first one → SequenceSays second other
    → SequenceSays whole (joined_judgement end one other))
    → IfSome result (λ whole. (framing : Framing) (limits : Allowed) (part rest : List ℕ) → ArePartsOf framing limits part rest → end ≡ length part
    → IsVerdictOf framing limits part first → IsVerdictOf framing (limits_after limits end) rest second
    → IsVerdictOf framing limits (part ++ rest) whole)
unfolding Says
whole says joins joins_lines first second end None is h = tt
whole says joins joins_lines first second end (Some verdict) is h = by_framing
  where
    by_framing : (framing : Framing) (limits : Allowed) (part rest : List ℕ) → ArePartsOf framing limits part rest → end ≡ length part
        → IsVerdictOf framing limits part first → IsVerdictOf framing (limits_after limits end) rest second
        → IsVerdictOf framing limits (part ++ rest) verdict
    by_framing Sequence = sequences says joins first second verdict end h
    by_framing Lines = lines joins_lines first second verdict end is

pub returns-clause-joined : goal.returns-clause-joined
unfolding SaysIt Joins JoinsLines
returns-clause-joined c =
    whole c.one_sequence_verdict.ensures.said c.joined_judgements.ensures c.joined_lines.ensures c.args.first c.args.second c.args.end c.said.result
    c.said.ensures.exact c.said.ensures.says
