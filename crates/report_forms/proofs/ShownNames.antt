-- Lemmas on what is shown of a name, chunk by chunk.
use Rattle.std.proofs.Common.{arith, ap, sym, ◌∙◌, ◌≡◌, ◌<◌, ◌≤◌, ◌+◌, ℕ, zero, suc, List, ◌++◌, [], length, take, drop, length-append, append_assoc, refl, ◌∷◌}
use Rattle.std.specs.List.{flat_map}
use Rattle.std.specs.Str.Lossy.{utf8_valid_len, utf8_invalid_len, after_first_chunk}
use Rattle.std.proofs.lemmas.List.{take_at, drop_at}
use Rattle.std.proofs.lemmas.Str.{chars-nil}
use Rattle.std.proofs.Math.Seq.{drop-nil, take-nil}
use Rattle.report_forms.specs.Names.{by_number, shown_char, shown_text, valid_front, first_invalid, shown_within}

-- the first chunk of a name, and what is shown of the rest
pub shown_chunk : (most : ℕ) (name valid invalid rest : List ℕ) → name ≡ valid ++ (invalid ++ rest) → length valid ≡ utf8_valid_len name
    → length invalid ≡ utf8_invalid_len (drop (utf8_valid_len name) name) → length rest < length name → length name ≤ most
    → (next : ℕ) × (length rest ≤ next) × (shown_within most name ≡ shown_text valid ++ (flat_map by_number invalid ++ shown_within next rest))
shown_chunk zero name valid invalid rest parts valid_len invalid_len less enough = absurd (omega arith)
shown_chunk (suc most) name valid invalid rest parts valid_len invalid_len less enough =
    let n = utf8_valid_len name in
    let front : valid_front name ≡ valid = ap (take n) parts ∙ take_at valid _ n valid_len in
    let behind : drop n name ≡ invalid ++ rest = ap (drop n) parts ∙ drop_at valid _ n valid_len in
    let middle : first_invalid name ≡ invalid = ap (take (utf8_invalid_len (drop n name))) behind ∙ take_at invalid rest _ invalid_len in
    let both_len : length (valid ++ invalid) ≡ n + utf8_invalid_len (drop n name) = omega (arith, length-append valid invalid) in
    let back : after_first_chunk name ≡ rest =
    ap (drop (n + utf8_invalid_len (drop n name))) (parts ∙ sym (append_assoc valid invalid rest)) ∙ drop_at _ rest _ both_len in
    (most, omega arith, λ i. shown_text (front i) ++ (flat_map by_number (middle i) ++ shown_within most (back i)))

shown-nil : shown_text [] ≡ []
unfolding shown_text
shown-nil = ap (λ (cs : List ℕ). flat_map shown_char cs) chars-nil

-- of nothing, nothing is shown
pub shown_nothing : (most : ℕ) (name : List ℕ) → length name ≡ 0 → shown_within most name ≡ []
shown_nothing zero name none = refl
shown_nothing (suc most) [] none =
    let rest : drop (utf8_valid_len []) [] ≡ [] = drop-nil (utf8_valid_len []) in
    let invalid = utf8_invalid_len (drop (utf8_valid_len []) []) in
    let front : valid_front [] ≡ [] = take-nil (utf8_valid_len []) in
    let middle : first_invalid [] ≡ [] = ap (λ (ys : List ℕ). take invalid ys) rest ∙ take-nil invalid in
    let back : after_first_chunk [] ≡ [] = drop-nil _ in
    (λ i. shown_text (front i) ++ (flat_map by_number (middle i) ++ shown_within most (back i)))
    ∙ (ap (λ (ys : List ℕ). ys ++ shown_within most []) shown-nil ∙ shown_nothing most [] none)
shown_nothing (suc most) (x ∷ xs) none = absurd (omega arith)
