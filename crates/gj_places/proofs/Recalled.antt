-- The bytes before a place among those that are kept.
use Rattle.std.proofs.Common.{arith, ap, sym, ◌∙◌, ◌≡◌, ◌≤◌, ◌<◌, ◌+◌, ◌-◌, ◌^◌, ◌++◌, [], ℕ, List, length, take, subst, append_assoc, append-nil}
use Rattle.std.proofs.Common.{length-append, inl, inr, ◌⊎◌}
use Rattle.std.proofs.lemmas.List.{take-append-le, nil_from_length}
use Rattle.std.proofs.Math.Seq.{take-append-add}
use Rattle.std.specs.Io.Iter.{u64_saturate}
use Rattle.gj_places.specs.Counting.{StandsFor}
use Rattle.gj_places.specs.Keeping.{Keeps}
use Rattle.gj_places.specs.Recalling.{held, Recalls, IsKept}
use Rattle.gj_places.specs.declared.excerpt.Excerpt.{Excerpt}
use Rattle.gj_places.specs.declared.lines.Lines.{Lines}
use Rattle.gj_places.specs.declared.recent.Kept.{Kept}
use Rattle.gj_places.specs.declared.recent.Recent.{Recent}
use Rattle.gj_places.proofs.KeptLines.{recent as newest}

taken-within : (before part rest : List ℕ) (n : ℕ) → n ≤ length part
    → take (length before + n) (before ++ (part ++ rest)) ≡ before ++ take n part
taken-within before part rest n within =
    take-append-add before (part ++ rest) n ∙ ap (λ (ys : List ℕ). before ++ ys) (take-append-le n part rest within)

-- a count that is no greatest u64 is exact
passed-is : (place passed : ℕ) (before : List ℕ) → passed ≡ u64_saturate (length before) → passed ≤ place → place < 2 ^ 64 - 1 → length before ≡ passed
passed-is place passed before saturated from small = omega (arith, saturated, from, small)

abbrev Right : ℕ → Lines → List ℕ → Type 0
Right place lines bytes = (place ≤ length bytes) × StandsFor lines (take place bytes)

-- so many bytes into a part, before which these stand
right-within : (before part rest : List ℕ) (place n : ℕ) (lines : Lines) → place ≡ length before + n → n ≤ length part
    → StandsFor lines (before ++ take n part) → Right place lines (before ++ (part ++ rest))
right-within before part rest place n lines is within stands =
    let long : length (before ++ (part ++ rest)) ≡ length before + (length part + length rest) =
    length-append before (part ++ rest) ∙ ap (λ (k : ℕ). length before + k) (length-append part rest) in (
      omega (arith, is, within, long),
      subst (StandsFor lines) (sym (ap (λ (k : ℕ). take k (before ++ (part ++ rest))) is ∙ taken-within before part rest n within)) stands,
    )

pub right-in-older : (recent : Recent) (bytes : List ℕ) (place : ℕ) (lines : Lines) → (recalls : Recalls recent bytes)
    → recent.passed ≤ place → place < 2 ^ 64 - 1 → place - recent.passed ≤ length (held recent.older)
    → ((before : List ℕ) → StandsFor recent.at_older before → StandsFor lines (before ++ take (place - recent.passed) (held recent.older)))
    → (place ≤ length bytes) × StandsFor lines (take place bytes)
right-in-older recent bytes place lines recalls from small within after =
    let exact = passed-is place recent.passed recalls.before recalls.passed from small in
    subst (Right place lines) (sym recalls.all)
    (right-within recalls.before (held recent.older) (held recent.newer) place (place - recent.passed) lines (omega (arith, exact, from)) within
    (after recalls.before recalls.at_older))

pub right-in-newer : (recent : Recent) (bytes : List ℕ) (place : ℕ) (lines : Lines) → (recalls : Recalls recent bytes)
    → recent.passed ≤ place → place < 2 ^ 64 - 1 → length (held recent.older) ≤ place - recent.passed
    → (place - recent.passed) - length (held recent.older) ≤ length (held recent.newer)
    → ((before : List ℕ) → StandsFor recent.at_newer before
    → StandsFor lines (before ++ take ((place - recent.passed) - length (held recent.older)) (held recent.newer)))
    → (place ≤ length bytes) × StandsFor lines (take place bytes)
right-in-newer recent bytes place lines recalls from small beyond within after =
    let exact = passed-is place recent.passed recalls.before recalls.passed from small in
    let front = recalls.before ++ (held recent.older) in
    let long : length front ≡ length recalls.before + length (held recent.older) = length-append recalls.before (held recent.older) in
    let whole : bytes ≡ front ++ ((held recent.newer) ++ []) =
    recalls.all ∙ sym (append_assoc recalls.before (held recent.older) (held recent.newer))
    ∙ ap (λ (ys : List ℕ). front ++ ys) (sym (append-nil (held recent.newer))) in
    subst (Right place lines) (sym whole)
    (right-within front (held recent.newer) [] place ((place - recent.passed) - length (held recent.older)) lines
    (omega (arith, exact, from, long, beyond)) within
    (after front recalls.at_newer))

-- ---- the bytes that are kept

-- with 256 bytes or more, the excerpt before a place depends on no byte before these
Keeps-behind : (excerpt : Excerpt) (before front : List ℕ) → 256 ≤ length front → Keeps excerpt front [] → Keeps excerpt (before ++ front) []
Keeps-behind excerpt before front many keeps = record {
  front = keeps.front ∙ (newest 256 [] front many ∙ sym (newest 256 before front many));
  rest = keeps.rest;
  whole = keeps.whole;
  goes_on = keeps.goes_on;
}

-- all are, or so many of the older ones of which the first tell what is before the others
pub record IsLead (passed count long : ℕ) : Type 0 where
  pub either : ((passed ≡ 0) × (count ≡ 0)) ⊎ ((count ≡ 256) × (49152 ≤ long))

pub kept-is : (recent : Recent) (bytes front : List ℕ) (kept : Kept) → (recalls : Recalls recent bytes) → IsLead recent.passed (length front) (length (held recent.older))
    → front ++ kept.older.now ≡ held recent.older → kept.newer.now ≡ held recent.newer → kept.passed ≡ u64_saturate (recent.passed + length front)
    → StandsFor kept.lines (recalls.before ++ front) → Keeps kept.excerpt front [] → IsKept kept bytes
kept-is recent bytes front kept recalls lead parts newer passed lines keeps = record {
  before = before ++ front;
  all = recalls.all
      ∙ (ap (λ (ys : List ℕ). before ++ ys) (ap (λ (ys : List ℕ). ys ++ held recent.newer) (sym parts) ∙ append_assoc front kept.older.now (held recent.newer))
      ∙ (sym (append_assoc before front (kept.older.now ++ held recent.newer))
      ∙ ap (λ (ys : List ℕ). (before ++ front) ++ (kept.older.now ++ ys)) (sym newer)));
  passed = omega (arith, passed, recalls.passed, length-append before front);
  lines = lines;
  excerpt = elim lead.either [
    | inl all ↦ subst (λ (ys : List ℕ). Keeps kept.excerpt (ys ++ front) []) (sym (none all)) keeps
    | inr some ↦ Keeps-behind kept.excerpt before front (omega (arith, some.0)) keeps
  ];
  most = elim lead.either [
    | inl all ↦ inl (ap (λ (ys : List ℕ). ys ++ front) (none all) ∙ nil_from_length front all.1)
    | inr some ↦ inr (omega (arith, some.0, some.1, ap length parts, length-append front kept.older.now))
  ];
}
  where
    before : List ℕ
    before = recalls.before

    none : (recent.passed ≡ 0) × (length front ≡ 0) → before ≡ []
    none all = nil_from_length before (omega (arith, all.0, recalls.passed))
