-- All parts, one after the other, are the text.
use Rattle.file_parts.proofs.Common.{arith, ◌≡◌, ◌+◌, ◌-◌, ◌<◌, ◌≤◌, ℕ, refl, ap, sym, subst, ◌∙◌, List, length, take, Allowed, Framing}
use Rattle.std.proofs.Common.{suc, zero, ◌++◌, drop, inl, inr, Some, None}
use Rattle.std.specs.Prelude.{◌⊎◌}
use Rattle.std.proofs.lemmas.Bool.{cases_lt}
use Rattle.std.proofs.lemmas.List.{append-nil, take_all}
use Rattle.std.proofs.Math.Seq.{take-add}
use Rattle.file_parts.specs.Cuts.{NoneMayBeCut, IsFirstCut, bytes_between}
use Rattle.file_parts.specs.Internal.Covered.{GoTo}
use Rattle.file_parts.specs.Ranges.{range_begin, IsEnd, IsByRange, ArePart, AreParts, bytes_of_parts}
use Rattle.file_parts.proofs.PartBounds.{end_within}
use Rattle.file_parts.proofs.RangeNumbers.{range_first, range_last, range_within, range_grows, range_some}

-- ---- the first cut from a place on

end_after : (framing : Framing) (limits : Allowed) (text : List ℕ) (until end : ℕ) → until ≤ length text → IsEnd framing limits text until end → until ≤ end
end_after framing limits text until end within (None, first, is) = omega (arith, is, within)
end_after framing limits text until end within (Some cut, first, is) = omega (arith, is, first.0)

-- there is one, and no other
same_cut : (framing : Framing) (limits : Allowed) (text : List ℕ) (from until cut covered : ℕ) → until ≤ length text
    → IsFirstCut framing limits text from until (Some cut)
    → IsEnd framing limits text from covered → cut ≡ covered
same_cut framing limits text from until cut covered within first (None, none, is) =
    absurd (none cut first.0 (omega (arith, first.1, within)) first.2)
same_cut framing limits text from until cut covered within first (Some other, second, is) = elim (cases_lt cut other) [
  | inl e ↦ absurd (second.3 cut first.0 e first.2)
  | inr e ↦ elim (cases_lt other cut) [
    | inl f ↦ absurd (first.3 other second.0 f second.2)
    | inr f ↦ omega (arith, e, f, is)
  ]
]

-- with none up to a place, the first from there on is the first of all
later_cut : (framing : Framing) (limits : Allowed) (text : List ℕ) (from until covered : ℕ) → from ≤ until → NoneMayBeCut framing limits text from until
    → IsEnd framing limits text from covered
    → IsEnd framing limits text until covered
later_cut framing limits text from until covered less none (None, first, is) =
    (None, λ place after below cut. first place (omega (arith, after, less)) below cut, is)
later_cut framing limits text from until covered less none (Some cut, first, is) = elim (cases_lt cut until) [
  | inl e ↦ absurd (none cut first.0 e first.2)
  | inr e ↦ (Some cut, (e, first.1, first.2, λ place after below other. first.3 place (omega (arith, after, less)) below other), is)
]

-- ---- one part more

-- It begins where those before it end, or has no byte.
abbrev pub GoesOn : Framing → Allowed → List ℕ → (parts count covered begin end : ℕ) → Type 0
GoesOn framing limits text parts count covered begin end =
    ((begin ≡ covered) × (begin ≤ end) × GoTo framing limits text parts (suc count) end)
    ⊎ ((begin ≡ end) × GoTo framing limits text parts (suc count) covered)

module _ (framing : Framing) (limits : Allowed) (text : List ℕ) (parts : ℕ) (some : 0 < parts) where
  first_part : (covered begin end : ℕ) → covered ≡ 0 → IsByRange framing limits text 0 (range_begin (length text) parts 1) begin end
      → GoesOn framing limits text parts 0 covered begin end
  first_part covered begin end none is = inl (is.0 ∙ sym none, omega (arith, is.0), is.1)

  later_part : (count from covered begin end : ℕ) → suc (suc count) ≤ parts → from ≡ range_begin (length text) parts (suc count)
      → IsEnd framing limits text from covered
      → IsByRange framing limits text from (range_begin (length text) parts (suc (suc count))) begin end
      → GoesOn framing limits text parts (suc count) covered begin end
  later_part count zero covered begin end few is reached part = elim (cases_lt 0 (length text)) [
    | inl e ↦ absurd (omega (arith, is, range_some (length text) parts (suc count) e some (omega arith)))
    | inr e ↦ inl (omega (arith, part.0, e, end_within framing limits text 0 covered reached), omega (arith, part.0), part.1)
  ]
  later_part count (suc from) covered begin end few is reached (None, none, at) =
      let grows = range_grows (length text) parts (suc count) in
      inr (
        at.0 ∙ sym at.1,
        later_cut framing limits text (suc from) (range_begin (length text) parts (suc (suc count))) covered
            (omega (arith, is, grows)) none reached,
      )
  later_part count (suc from) covered begin end few is reached (Some cut, first, at) =
      let until = range_begin (length text) parts (suc (suc count)) in
      let within = range_within (length text) parts (suc (suc count)) some few in
      let there = same_cut framing limits text (suc from) until cut covered within first reached in
      inl (at.0 ∙ there, omega (arith, at.0, first.1, end_after framing limits text until end within at.1), at.1)

  pub next_part : (count covered begin end : ℕ) → suc count ≤ parts → GoTo framing limits text parts count covered
      → ArePart framing limits text (suc count) parts begin end
      → GoesOn framing limits text parts count covered begin end
  next_part zero covered begin end few reached part =
      first_part covered begin end reached
      (subst (λ (n : ℕ). IsByRange framing limits text n (range_begin (length text) parts 1) begin end) (range_first (length text) parts) part)
  next_part (suc n) covered begin end few reached part =
      let less : suc (suc n) - 1 ≡ suc n = omega arith in
      let here = subst (λ (m : ℕ). IsByRange framing limits text (range_begin (length text) parts m)
      (range_begin (length text) parts (suc (suc n))) begin end) less part in
      later_part n (range_begin (length text) parts (suc n)) covered begin end few refl reached here

  -- ---- all of them

  pub whole_covered : (covered : ℕ) → GoTo framing limits text parts parts covered → covered ≡ length text
  whole_covered covered reached = by_count parts some refl reached
    where
      by_count : (n : ℕ) → 0 < n → n ≡ parts → GoTo framing limits text parts n covered → covered ≡ length text
      by_count zero has e h = absurd (omega (arith, has))
      by_count (suc n) has e (None, first, is) = is
      by_count (suc n) has e (Some cut, first, is) =
          let last = ap (λ (m : ℕ). range_begin (length text) parts m) e ∙ range_last (length text) parts some in
          absurd (omega (arith, last, first.0, first.1))

  pub bytes_covered : (begin end : ℕ → ℕ) → AreParts framing limits text parts begin end → (count : ℕ) → count ≤ parts
      → (covered : ℕ) × GoTo framing limits text parts count covered × (bytes_of_parts begin end text count ≡ take covered text)
  bytes_covered begin end are zero few = (0, refl, refl)
  bytes_covered begin end are (suc n) few =
      let (covered, reached, bytes) = bytes_covered begin end are n (omega (arith, few)) in
      let from = begin (suc n) in
      let to = end (suc n) in
      elim (next_part n covered from to few reached (are (suc n) (omega arith) few)) [
        | inl h ↦
            let both : covered + (to - from) ≡ to = omega (arith, h.0, h.1) in (
              to,
              h.2,
              ap (λ (l : List ℕ). l ++ bytes_between from to text) bytes
                  ∙ (ap (λ (m : ℕ). take covered text ++ take (to - from) (drop m text)) h.0
                  ∙ (sym (take-add covered (to - from) text) ∙ ap (λ (m : ℕ). take m text) both)),
            )
        | inr h ↦
            let none : to - from ≡ 0 = omega (arith, h.0) in (
              covered,
              h.1,
              ap (λ (l : List ℕ). l ++ bytes_between from to text) bytes
                  ∙ (ap (λ (m : ℕ). take covered text ++ take m (drop from text)) none ∙ append-nil (take covered text)),
            )
      ]

  pub parts_are_text : (begin end : ℕ → ℕ) → AreParts framing limits text parts begin end → bytes_of_parts begin end text parts ≡ text
  parts_are_text begin end are =
      let (covered, reached, bytes) = bytes_covered begin end are parts (omega arith) in
      let all = whole_covered covered reached in
      bytes ∙ take_all covered text (omega (arith, all))

-- ---- as they are joined

-- a part with bytes begins where those before it end
pub is_next : (framing : Framing) (limits : Allowed) (text : List ℕ) (parts count covered begin end : ℕ) → begin < end
    → GoesOn framing limits text parts count covered begin end
    → (begin ≡ covered) × GoTo framing limits text parts (suc count) end
is_next framing limits text parts count covered begin end has (inl h) = (h.0, h.2)
is_next framing limits text parts count covered begin end has (inr h) = absurd (omega (arith, has, h.0))

-- one with none is passed over
pub is_passed : (framing : Framing) (limits : Allowed) (text : List ℕ) (parts count covered begin end : ℕ) → end ≤ begin
    → GoesOn framing limits text parts count covered begin end
    → GoTo framing limits text parts (suc count) covered
is_passed framing limits text parts count covered begin end none (inl h) =
    subst (λ (n : ℕ). GoTo framing limits text parts (suc count) n) (omega (arith, none, h.0, h.1)) h.2
is_passed framing limits text parts count covered begin end none (inr h) = h.1

pub counted_on : (framing : Framing) (limits : Allowed) (text : List ℕ) (parts count place now : ℕ) → now ≡ place
    → GoTo framing limits text parts (suc count) place
    → GoTo framing limits text parts (count + 1) now
counted_on framing limits text parts count place now same h =
    let next : suc count ≡ count + 1 = omega arith in
    subst (λ (n : ℕ). GoTo framing limits text parts n now) next (subst (λ (n : ℕ). GoTo framing limits text parts (suc count) n) (sym same) h)
