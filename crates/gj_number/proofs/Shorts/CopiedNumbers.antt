-- Numbers that are read from a copy with more bytes after it.
use Rattle.gj_number.proofs.Common.{Exact, IsNumberByte, List, StartsUsual, StartsUsualPair, StartsWithNumber, StartsWithPair, arith, close_bracket}
use Rattle.gj_number.proofs.Common.{comma, drop, get_or, inl, inr, length, length-drop, refl, subst, sym, take, ℕ, ◌++◌, ◌+◌, ◌-◌, ◌<◌, ◌∙◌, ◌≡◌, ◌≤◌}
use Rattle.std.proofs.lemmas.List.{take-append-le, drop-append-le, get_or_append_left, length-append}
use Rattle.gj_number.specs.Short.{IsOrdinary}

-- the number that bytes start with, where it ends before their end, is that of the bytes with more after them
pub number_there : (piece more : List ℕ) (e : Exact) (n : ℕ) → n < length piece → StartsWithNumber (piece ++ more) e n → StartsWithNumber piece e n
number_there piece more e n within h =
    let taken : take n (piece ++ more) ≡ take n piece = take-append-le n piece more (omega arith) in
    let next : take (n + 1) (piece ++ more) ≡ take (n + 1) piece = take-append-le (n + 1) piece more (omega arith) in
    record {
      within = within;
      number = rw (sym taken) h.number;
      denotes = rw (sym taken) h.denotes;
      value = rw (sym taken) h.value;
      ends = rw (sym next) h.ends;
    }

-- the same of two numbers
pub pair_there : (piece more : List ℕ) (first second : Exact) (comma_at second_at end : ℕ) → end < length piece
    → StartsWithPair (piece ++ more) first second comma_at second_at end → StartsWithPair piece first second comma_at second_at end
pair_there piece more first second comma_at second_at end within h =
    let ordered = h.ordered in
    let before : comma_at + 1 ≤ second_at = elim h.between [ inl e ↦ omega arith | inr e ↦ (let k = e.0 in omega arith) ] in
    let byte : (k : ℕ) → k < length piece → get_or (piece ++ more) k 0 ≡ get_or piece k 0 = λ k l. get_or_append_left piece more 0 k l in
    let rest : drop second_at (piece ++ more) ≡ drop second_at piece ++ more = drop-append-le second_at piece more (omega arith) in
    let P : List ℕ → Type 0 = λ xs. StartsWithNumber xs second (end - second_at) in
    record {
      one = number_there piece more first comma_at (omega arith) h.one;
      comma = sym (byte comma_at (omega arith)) ∙ h.comma;
      between = elim h.between [ inl e ↦ inl e | inr e ↦ inr (e.0, (let k = e.0 in sym (byte (comma_at + 1) (omega arith)) ∙ e.1)) ];
      ordered = ordered;
      other = number_there (drop second_at piece) more second (end - second_at) (omega (arith, length-drop second_at piece)) (subst P rest h.other);
      closing = sym (byte end within) ∙ h.closing;
    }

-- ---- what bytes start with, they start with where more follow

usual_more : (piece more : List ℕ) (n behind : ℕ) → StartsUsual piece n behind → StartsUsual (piece ++ more) n behind
usual_more piece more n behind u =
    let within = u.number.within in
    let byte : get_or (piece ++ more) n 0 ≡ get_or piece n 0 = get_or_append_left piece more 0 n within in
    let taken : take n (piece ++ more) ≡ take n piece = take-append-le n piece more (omega arith) in
    let P : List ℕ → Type 0 = λ xs. (o : IsOrdinary xs) × (length o.natural ≤ 3) × (0 < length o.fraction) × (length o.fraction ≤ 11) in
    let o = subst P (sym taken) (u.number.ordinary, u.few, u.some_after, u.few_after) in
    record {
      number = record {
        within = omega (arith, length-append piece more, within);
        ordinary = o.0;
        after = (let Q : ℕ → Type 0 = λ b. IsNumberByte b → ⊥ in subst Q (sym byte) u.number.after);
      };
      few = o.1;
      some_after = o.2;
      few_after = o.3;
      ends = byte ∙ u.ends;
    }

-- two usual numbers, which end where they did
pub usual_pair_more : (piece more : List ℕ) (u : StartsUsualPair piece)
    → (v : StartsUsualPair (piece ++ more)) × (v.second_at + v.length_other ≡ u.second_at + u.length_other)
usual_pair_more piece more u =
    let there = u.other.number.within in
    let rest : drop u.second_at (piece ++ more) ≡ drop u.second_at piece ++ more =
    drop-append-le u.second_at piece more (omega (arith, length-drop u.second_at piece)) in
    let P : List ℕ → Type 0 = λ xs. StartsUsual xs u.length_other close_bracket in (
      record {
        comma_at = u.comma_at;
        second_at = u.second_at;
        length_other = u.length_other;
        one = usual_more piece more u.comma_at comma u.one;
        between = elim u.between [
          | inl e ↦ inl e
          | inr e ↦ inr (e.0, (let k = e.0 in get_or_append_left piece more 0 (u.comma_at + 1) (omega (arith, length-drop u.second_at piece)) ∙ e.1))
        ];
        other = subst P (sym rest) (usual_more (drop u.second_at piece) more u.length_other close_bracket u.other);
      },
      refl,
    )

pub usual_pair_end : (piece : List ℕ) (u : StartsUsualPair piece) → u.second_at + u.length_other < length piece
usual_pair_end piece u = let there = u.other.number.within in omega (arith, length-drop u.second_at piece)
