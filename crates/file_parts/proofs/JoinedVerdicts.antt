-- A part more.
use Rattle.file_parts.proofs.Common.{arith, ◌≡◌, ◌+◌, ◌-◌, ◌<◌, ℕ, refl, ap, sym, subst, ◌∙◌, List, length, take, Option, IfSome, Allowed, Framing}
use Rattle.file_parts.proofs.Common.{CheckedPart}
use Rattle.std.proofs.Common.{suc, zero, [], ◌∷◌, ◌++◌, drop, inl, inr, Some, None}
use Rattle.std.specs.Prelude.{◌⊎◌, ◌*◌, ◌^◌, ◌≤◌}
use Rattle.std.proofs.lemmas.List.{length-take-le, take_all}
use native.Mathlib.Nat.{mul-le-mul_right}
use Rattle.std.proofs.Math.Seq.{take-add}
use Rattle.gj_rules.specs.declared.sequence.verdict.SeqVerdict.{SeqVerdict}
use Rattle.gj_join.specs.Joined.{Fit, IsVerdictOf, NumbersFit, joined_verdict}
use Rattle.gj_join.specs.Parts.{separator_first, separator_last, may_begin, ArePartsOf, limits_after}
use Rattle.file_parts.specs.Cuts.{MayBeCut}
use Rattle.file_parts.specs.Checked.{HasAtMost, IsPartOf, IsVerdictOfBytes, records_in}
use Rattle.file_parts.specs.Internal.JoinedSoFar.{IsJoinedTo}

pub begins_taken : (framing : Framing) (n : ℕ) (bytes : List ℕ) → 0 < n → separator_first framing (take n bytes) ≡ separator_first framing bytes
begins_taken framing zero bytes some = absurd (omega (arith, some))
begins_taken framing (suc n) [] some = refl
begins_taken framing (suc n) (byte ∷ more) some = refl

-- nothing of the limit is used up before the first byte
pub none_before : (limits : Allowed) → limits_after limits 0 ≡ limits
none_before limits = ap (λ (n : ℕ). record { depth = limits.depth; bytes = n }) (omega arith)

part_cut : (framing : Framing) (limits : Allowed) (text : List ℕ) (place : ℕ) → 0 < place → (place ≡ 0) ⊎ MayBeCut framing limits text place
    → MayBeCut framing limits text place
part_cut framing limits text place some (inl first) = absurd (omega (arith, some, first))
part_cut framing limits text place some (inr cut) = cut

Joins : SeqVerdict → ℕ → SeqVerdict → SeqVerdict → Type 0
Joins first end second whole = (framing : Framing) (limits : Allowed) (part rest : List ℕ) → ArePartsOf framing limits part rest → end ≡ length part
    → IsVerdictOf framing limits part first
    → IsVerdictOf framing (limits_after limits end) rest second
    → IsVerdictOf framing limits (part ++ rest) whole

next_part : (before whole : SeqVerdict) (part : CheckedPart) → 0 < part.begin → Joins before part.begin part.verdict whole
    → (framing : Framing) (limits : Allowed) (text : List ℕ) → part.begin < part.end → IsVerdictOfBytes framing limits text part
    → IsJoinedTo framing limits text part.begin before
    → IsJoinedTo framing limits text part.end whole
unfolding Joins
next_part before whole part some joins framing limits text has of_it so_far =
    let cut = part_cut framing limits text part.begin some of_it.cut in
    let begin = part.begin in
    let more = part.end - part.begin in
    let parts : ArePartsOf framing limits (take begin text) (take more (drop begin text)) = record {
      cut = ap (may_begin framing (separator_last framing (take begin text))) (begins_taken framing more (drop begin text) (omega (arith, has)))
          ∙ cut.parts.cut;
      within = cut.parts.within;
    } in
    let long : length (take begin text) ≡ begin = length-take-le begin text so_far.within in
    let both : begin + more ≡ part.end = omega (arith, has) in
    record {
      within = of_it.within;
      verdict_of_it = subst (λ (n : ℕ). IsVerdictOf framing limits (take n text) whole) both
          (subst (λ (l : List ℕ). IsVerdictOf framing limits l whole) (sym (take-add begin more text))
          (joins framing limits (take begin text) (take more (drop begin text)) parts (sym long) so_far.verdict_of_it of_it.verdict));
    }

pub next_part_if : (before : SeqVerdict) (part : CheckedPart) (result : Option SeqVerdict) → 0 < part.begin
    → IfSome result (λ whole. (framing : Framing) (limits : Allowed) (first rest : List ℕ) → ArePartsOf framing limits first rest → part.begin ≡ length first
    → IsVerdictOf framing limits first before
    → IsVerdictOf framing (limits_after limits part.begin) rest part.verdict → IsVerdictOf framing limits (first ++ rest) whole)
    → IfSome result (λ whole. (framing : Framing) (limits : Allowed) (text : List ℕ) → part.begin < part.end → IsVerdictOfBytes framing limits text part
    → IsJoinedTo framing limits text part.begin before
    → IsJoinedTo framing limits text part.end whole)
unfolding Joins
next_part_if before part None some joins = tt
next_part_if before part (Some whole) some joins = next_part before whole part some joins

pub whole_text : (framing : Framing) (limits : Allowed) (text : List ℕ) (end : ℕ) (verdict : SeqVerdict) → length text ≡ end
    → IsJoinedTo framing limits text end verdict
    → IsVerdictOf framing limits text verdict
whole_text framing limits text end verdict all so_far =
    subst (λ (l : List ℕ). IsVerdictOf framing limits l verdict) (take_all end text (omega (arith, all))) so_far.verdict_of_it

pub same_joined : (framing : Framing) (limits : Allowed) (text : List ℕ) (end now_end : ℕ) (whole now_whole : SeqVerdict) → now_end ≡ end → now_whole ≡ whole
    → IsJoinedTo framing limits text end whole
    → IsJoinedTo framing limits text now_end now_whole
same_joined framing limits text end now_end whole now_whole same_end same_whole so_far =
    subst (λ (n : ℕ). IsJoinedTo framing limits text n now_whole) (sym same_end)
    (subst (λ (v : SeqVerdict). IsJoinedTo framing limits text end v) (sym same_whole) so_far)

pub more_joined : (framing : Framing) (limits : Allowed) (text : List ℕ) (part : CheckedPart) (end : ℕ) (before whole : SeqVerdict)
    → IsPartOf framing limits text part
    → part.begin < part.end → part.begin ≡ end → IsJoinedTo framing limits text end before
    → ((framing' : Framing) (limits' : Allowed) (text' : List ℕ) → part.begin < part.end → IsVerdictOfBytes framing' limits' text' part
    → IsJoinedTo framing' limits' text' part.begin before
    → IsJoinedTo framing' limits' text' part.end whole) → IsJoinedTo framing limits text part.end whole
more_joined framing limits text part end before whole is has there so_far joins =
    joins framing limits text has (is.right has) (subst (λ (n : ℕ). IsJoinedTo framing limits text n before) (sym there) so_far)

-- ---- how many records there are

pub records_of_both : (end : ℕ) (one other : SeqVerdict) → records_in (joined_verdict end one other) ≤ records_in one + records_in other
records_of_both end (SeqVerdict.Valid n one) (SeqVerdict.Valid m other) = omega arith
records_of_both end (SeqVerdict.Valid n one) (SeqVerdict.Record m other) = omega arith
records_of_both end (SeqVerdict.Record n one) other = omega arith

pub both_fit : (end : ℕ) (one other : SeqVerdict) → NumbersFit 0 end other → records_in one + records_in other < 2 ^ 64 → Fit end one other
both_fit end (SeqVerdict.Valid n one) (SeqVerdict.Valid m other) fits few = (few, fits.1)
both_fit end (SeqVerdict.Valid n one) (SeqVerdict.Record m other) fits few = (few, fits.1)
both_fit end (SeqVerdict.Record n one) other fits few = tt

pub one_more : (i most : ℕ) → (i + 1) * most ≡ i * most + most
one_more i most = omega arith

pub counted_more : (i most before now : ℕ) (part : CheckedPart) → HasAtMost most part → before ≤ i * most → now ≤ before + records_in part.verdict
    → now ≤ (i + 1) * most
counted_more i most before now part has so_far more = omega (arith, one_more i most, has.records, so_far, more)

pub few_before : (i parts most before : ℕ) (part : CheckedPart) → i < parts → parts * most < 2 ^ 64 → HasAtMost most part → before ≤ i * most
    → before + records_in part.verdict < 2 ^ 64
few_before i parts most before part within few has so_far =
    omega (arith, few, one_more i most, mul-le-mul_right {m = i + 1} {n = parts} most (omega (arith, within)), has.records, so_far)
