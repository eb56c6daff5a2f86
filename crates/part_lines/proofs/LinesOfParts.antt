-- Parts of which each is that of a line.
use Rattle.part_lines.proofs.Common.{◌≡◌, ◌<◌, ◌+◌, ◌++◌, ◌∷◌, [], ℕ, List, length, get_or, Some, refl, subst, sym, ap, ◌∙◌, arith, map, All, Framing}
use Rattle.part_lines.proofs.Common.{CheckedPart, PartLine}
use Rattle.std.proofs.Common.{◌-◌, suc, inl, inr, length-append}
use Rattle.std.specs.Prelude.{slice_get}
use Rattle.std.proofs.Math.ListN.{get_or-append}
use Rattle.std.proofs.Math.Seq.{get_or-append_seam}
use Rattle.std.proofs.lemmas.Bool.{cases_lt}
use Rattle.std.proofs.lemmas.List.{length-map, get_or-map}
use Rattle.std.proofs.lemmas.Option.{get_or_from_slice_get, slice_get_past}
use Rattle.gj_json.specs.Limits.{Allowed}
use Rattle.file_parts.specs.Checked.{AreAllParts}
use Rattle.file_parts.specs.Ranges.{ArePart}
use Rattle.part_lines.specs.Internal.Places.{ArePlaced}
use Rattle.part_lines.specs.Lines.{AreAllLines, AreAllNumbers, ArePartsTo, IsPartIn, HasBytesOf, part_number}

-- what holds of all lines holds of the one that is there
pub line_there : (P : PartLine → Type 0) (lines : List PartLine) (i : ℕ) (line : PartLine) → i < length lines → line ≡ get_or lines i line
    → All P lines → P line
line_there P lines i line within is all = subst P (sym is) (all i line within)

-- the line of each part has its place
pub is_there : (numbers order : List ℕ) (k : ℕ) → ArePlaced numbers (length numbers) order → AreAllNumbers numbers → k < length order
    → get_or order k 0 < length numbers
is_there numbers order k placed all within =
    let (i, less, is) = all.there (suc k) (omega arith) (omega (arith, within, placed.long)) in
    let here : get_or numbers i 0 - 1 ≡ k = omega (arith, is) in
    subst (λ (n : ℕ). get_or order n 0 < length numbers) here (placed.there i less (omega (arith, is, within, placed.long)))

-- the part of the line at the next place
pub next_part : (lines : List PartLine) (order : List ℕ) (k : ℕ) (parts : List CheckedPart) (line : PartLine)
    → ArePlaced (map part_number lines) (length lines) order → ArePartsTo lines k parts → k < length order
    → get_or order k 0 < length lines → line ≡ get_or lines (get_or order k 0) line
    → ArePartsTo lines (k + 1) (parts ++ line.checked ∷ [])
next_part lines order k parts line placed before within there is =
    let long = length-map lines part_number in
    let (_, numbered) = placed.right k within (omega (arith, there, long)) in
    let all = parts ++ line.checked ∷ [] in
    let here : IsPartIn lines (suc k) line.checked = record {
      index = get_or order k 0;
      line = line;
      within = there;
      is = sym is;
      of = ap part_number is ∙ (sym (get_or-map part_number lines (get_or order k 0) line 0 there) ∙ numbered);
      has = refl;
    } in
    let seam = λ (none : CheckedPart). sym (subst (λ (n : ℕ). get_or all n none ≡ line.checked) before.long (get_or-append_seam parts line.checked [] none)) in
    record {
      long = omega (arith, length-append parts (line.checked ∷ []), before.long);
      each = λ j none less. elim (cases_lt j k) [
        | inl few ↦ subst (IsPartIn lines (suc j)) (sym (get_or-append parts (line.checked ∷ []) none j (omega (arith, few, before.long)))) (before.each j none few)
        | inr last ↦
            let same : k ≡ j = omega (arith, less, last) in
            subst (λ (n : ℕ). IsPartIn lines (suc n) (get_or all n none)) same (subst (IsPartIn lines (suc k)) (seam none) here)
      ];
    }

-- what holds of the part of each line holds of all of these
pub parts_hold : (P : CheckedPart → Type 0) (lines : List PartLine) (parts : List CheckedPart) → ArePartsTo lines (length lines) parts
    → All (λ (line : PartLine). P line.checked) lines → All P parts
parts_hold P lines parts are all = λ k none within.
    let part = are.each k none (omega (arith, within, are.long)) in
    subst P (sym part.has) (line_there (λ (line : PartLine). P line.checked) lines part.index part.line part.within (sym part.is) all)

-- those of all lines are all parts of the text
pub all_parts : (framing : Framing) (limits : Allowed) (text : List ℕ) (lines : List PartLine) (parts : List CheckedPart)
    → ArePartsTo lines (length lines) parts
    → AreAllLines framing limits text lines → AreAllParts framing limits text parts
all_parts framing limits text lines parts are all = λ k none within.
    let part = are.each k none (omega (arith, within, are.long)) in
    let has = line_there (HasBytesOf framing limits text (length lines)) lines part.index part.line part.within (sym part.is) all.each in
    subst (λ (p : CheckedPart). ArePart framing limits text (suc k) (length parts) p.begin p.end) (sym part.has)
    (subst (λ (n : ℕ). ArePart framing limits text (suc k) n part.line.checked.begin part.line.checked.end) (sym are.long)
    (subst (λ (n : ℕ). ArePart framing limits text n (length lines) part.line.checked.begin part.line.checked.end) part.of has.bytes))

pub first_size : (text : List ℕ) (lines : List PartLine) (first : PartLine) → Some first ≡ slice_get lines 0
    → All (λ (line : PartLine). length text ≡ line.file.size) lines → length text ≡ first.file.size
first_size text lines first is all = elim (cases_lt 0 (length lines)) [
  | inl some ↦ line_there (λ (line : PartLine). length text ≡ line.file.size) lines 0 first some (sym (get_or_from_slice_get lines 0 first first (sym is))) all
  | inr none ↦ let past = slice_get_past lines 0 none in absurd (cc (is, past))
]
