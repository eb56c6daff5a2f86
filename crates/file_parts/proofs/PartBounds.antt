-- Which bytes a part has.
use Rattle.file_parts.proofs.Common.{arith, ◌≡◌, ◌-◌, ◌<◌, ◌≤◌, ℕ, sym, subst, List, length, Option, IfSome, Allowed, Framing, limits_after}
use Rattle.file_parts.proofs.Common.{CheckedPart}
use Rattle.std.proofs.Common.{suc, zero, inl, inr, Some, None}
use Rattle.std.specs.Prelude.{◌⊎◌}
use Rattle.std.specs.Option.{option_map}
use Rattle.gj_rules.specs.declared.records.framing.Framing.TheVariants.{Sequence, Lines}
use Rattle.gj_rules.specs.declared.sequence.verdict.SeqVerdict.{SeqVerdict}
use Rattle.geolint_report.specs.Judged.{Finds}
use Rattle.geolint_report.specs.declared.judge.Finding.{Finding}
use Rattle.gj_join.specs.Joined.{IsVerdictOf}
use Rattle.file_parts.specs.Checked.{IsPartOf, reading_of}
use Rattle.file_parts.specs.Cuts.{MayBeCut, bytes_between}
use Rattle.file_parts.specs.Ranges.{range_begin, IsEnd, IsByRange, ArePart}

-- ---- the end

pub end_within : (framing : Framing) (limits : Allowed) (text : List ℕ) (until end : ℕ) → IsEnd framing limits text until end → end ≤ length text
end_within framing limits text until end (None, first, is) = omega (arith, is)
end_within framing limits text until end (Some cut, first, is) = omega (arith, is, first.1)

-- ---- a part is one by which the whole can be judged

by_range : (framing : Framing) (limits : Allowed) (text : List ℕ) (from until begin end : ℕ) → IsByRange framing limits text from until begin end → begin < end
    → (end ≤ length text) × ((begin ≡ 0) ⊎ MayBeCut framing limits text begin)
by_range framing limits text zero until begin end (first, is) has = (end_within framing limits text until end is, inl first)
by_range framing limits text (suc n) until begin end (None, none, is) has = absurd (omega (arith, has, is.0, is.1))
by_range framing limits text (suc n) until begin end (Some cut, first, is) has = (
  end_within framing limits text until end is.1,
  inr (subst (λ (m : ℕ). MayBeCut framing limits text m) (sym is.0) first.2),
)

pub right_bytes : (framing : Framing) (limits : Allowed) (text : List ℕ) (number parts begin end : ℕ)
    → ArePart framing limits text number parts begin end → begin < end
    → (end ≤ length text) × ((begin ≡ 0) ⊎ MayBeCut framing limits text begin)
right_bytes framing limits text number parts begin end is has =
    by_range framing limits text (range_begin (length text) parts (number - 1)) (range_begin (length text) parts number) begin end is has

-- ---- the verdict

pub found_verdict : (known now : Option (List ℕ)) (framing : Framing) (limits : Allowed) (verdict : SeqVerdict)
    → Finds (reading_of framing) limits known now (Finding.Sequence verdict)
    → IfSome known (λ text. IsVerdictOf framing limits text verdict)
found_verdict None now framing limits verdict is = tt
found_verdict (Some text) None Sequence limits verdict is = absurd is
found_verdict (Some text) None Lines limits verdict is = absurd is
found_verdict (Some text) (Some rest) Sequence limits verdict is = is.of_all
found_verdict (Some text) (Some rest) Lines limits verdict is = is.of_all

-- what is right of the bytes that are read of the source is right of those of the part
pub in_part : (P : Allowed → List ℕ → Type 0) (known had : Option (List ℕ)) (f : List ℕ → List ℕ) (limits left : Allowed) (begin end : ℕ)
    → had ≡ option_map f known → left ≡ limits → IfSome had (P left) → IfSome known (λ text. begin < end → P limits (f text))
in_part P None had f limits left begin end same_bytes same_limits is = tt
in_part P (Some text) had f limits left begin end same_bytes same_limits is =
    let by_bytes = subst (λ (o : Option (List ℕ)). IfSome o (P left)) same_bytes is in
    λ has. subst (λ (l : Allowed). P l (f text)) same_limits by_bytes

part_of : (framing : Framing) (limits : Allowed) (text : List ℕ) (number parts : ℕ) (part : CheckedPart) → part.begin ≤ part.end
    → ArePart framing limits text number parts part.begin part.end
    → (part.begin < part.end → IsVerdictOf framing (limits_after limits part.begin) (bytes_between part.begin part.end text) part.verdict)
    → IsPartOf framing limits text part
part_of framing limits text number parts part ordered are verdict = record {
  ordered = ordered;
  right = λ has.
      let right = right_bytes framing limits text number parts part.begin part.end are has in
      record { within = right.0; cut = right.1; verdict = verdict has };
}

pub known_part : (known now : Option (List ℕ)) (framing : Framing) (limits : Allowed) (number parts size : ℕ) (part : CheckedPart) → now ≡ known
    → part.begin ≤ part.end
    → IfSome known (λ text. length text ≡ size → ArePart framing limits text number parts part.begin part.end)
    → IfSome now (λ text. part.begin < part.end
    → IsVerdictOf framing (limits_after limits part.begin) (bytes_between part.begin part.end text) part.verdict)
    → IfSome known (λ text. length text ≡ size → IsPartOf framing limits text part)
known_part None now framing limits number parts size part same ordered are verdict = tt
known_part (Some text) now framing limits number parts size part same ordered are verdict =
    let there = subst (λ (o : Option (List ℕ)). IfSome o (λ text. part.begin < part.end
    → IsVerdictOf framing (limits_after limits part.begin) (bytes_between part.begin part.end text) part.verdict)) same verdict in
    λ long. part_of framing limits text number parts part ordered (are long) there
