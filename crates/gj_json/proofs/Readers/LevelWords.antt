-- Words of bits keep as many levels as their counts say.
use Rattle.gj_json.proofs.Common.{Array, Level, List, Object, Some, ap, arith, get_or, inner_of, length, outer_of, refl, suc, zero, ℕ, ◌%◌, ◌*◌, ◌++◌}
use Rattle.gj_json.proofs.Common.{◌+◌, ◌-◌, ◌/◌, ◌<◌, ◌∷◌, ◌≡◌, ◌≢◌, ◌≤◌}
use Rattle.std.proofs.Common.{set, add-one}
use Rattle.std.proofs.lemmas.List.{get_or-set_same, get_or-set_other, length-append}
use Rattle.std.specs.Prelude.{slice_set}
use Rattle.gj_json.specs.declared.levels.Levels.{Levels}
use Rattle.gj_json.specs.declared.levels.TheConstants.{WORD}
use Rattle.gj_json.specs.Internal.OpenLevels.{level_of, bit_of, levels_at, full_levels, levels_in}

length-levels_at : (count bits : ℕ) → length (levels_at count bits) ≡ count
length-levels_at zero bits = refl
length-levels_at (suc count) bits = ap suc (length-levels_at count (bits / 2))

length-full : (n : ℕ) (words : List ℕ) → length (full_levels n words) ≡ n * WORD
length-full zero words = refl
length-full (suc n) words =
    omega (arith, length-append (levels_at WORD (get_or words n 0)) (full_levels n words), length-levels_at WORD (get_or words n 0), length-full n words)

pub length-levels : (l : Levels) → length (levels_in l) ≡ l.count + l.full * WORD
unfolding levels_in
length-levels l = omega
    (arith, length-append (levels_at l.count l.inner) (full_levels l.full l.outer), length-levels_at l.count l.inner, length-full l.full l.outer)

set_above : (words : List ℕ) (n m word : ℕ) → n ≤ m → full_levels n (set words m word) ≡ full_levels n words
set_above words zero m word l = refl
set_above words (suc n) m word l =
    let d : n ≢ m = omega arith in
    rw (get_or-set_other words m n word 0 d) (ap (λ ls. levels_at WORD (get_or words n 0) ++ ls) (set_above words n m word (omega arith)))

-- one more full word
full_more : (words : List ℕ) (n word : ℕ) → n < length words → full_levels (n + 1) (slice_set words n word) ≡ levels_at WORD word ++ full_levels n words
full_more words n word l = rw (add-one, get_or-set_same words n word 0 l) (ap (λ ls. levels_at WORD word ++ ls) (set_above words n n word (omega arith)))

bit_level : (level : Level) → level_of (bit_of level % 2) ≡ level
bit_level Array = refl
bit_level Object = refl

-- a level is pushed where the word of the innermost levels is full
pub pushed_full : (level : Level) (bit inner count full : ℕ) (words : List ℕ) → bit ≡ bit_of level → count ≡ WORD → full < length words
    → levels_at 1 bit ++ full_levels (full + 1) (slice_set words full inner) ≡ level ∷ (levels_at count inner ++ full_levels full words)
pushed_full level bit inner count full words b e l = rw (b, bit_level level, full_more words full inner l, e) refl

-- the lowest bits of the word of the innermost levels
three_inner : (count inner : ℕ) (around : List Level) → 2 < count → inner % 8 ≡ 3
    → levels_at count inner ++ around ≡ Object ∷ Object ∷ Array ∷ (levels_at (count - 3) (inner / 2 / 2 / 2) ++ around)
three_inner zero inner around few bits = absurd (omega arith)
three_inner (suc zero) inner around few bits = absurd (omega arith)
three_inner (suc (suc zero)) inner around few bits = absurd (omega arith)
three_inner (suc (suc (suc count))) inner around few bits =
    let one : inner % 2 ≡ 1 = omega arith in
    let two : inner / 2 % 2 ≡ 1 = omega arith in
    let three : inner / 2 / 2 % 2 ≡ 0 = omega arith in
    let left : suc (suc (suc count)) - 3 ≡ count = omega arith in
    rw (one, two, three, left) refl

pub in_feature : (l : Levels) → 2 < l.count → l.inner % 8 ≡ 3
    → levels_in l ≡ Object ∷ Object ∷ Array ∷ outer_of (outer_of (outer_of (levels_in l)))
unfolding levels_in
in_feature l few bits = rw (three_inner l.count l.inner (full_levels l.full l.outer) few bits) refl

two_inner : (count inner : ℕ) (around : List Level) → 1 < count → inner % 4 ≡ 1
    → levels_at count inner ++ around ≡ Object ∷ Array ∷ (levels_at (count - 2) (inner / 2 / 2) ++ around)
two_inner zero inner around few bits = absurd (omega arith)
two_inner (suc zero) inner around few bits = absurd (omega arith)
two_inner (suc (suc count)) inner around few bits =
    let one : inner % 2 ≡ 1 = omega arith in
    let two : inner / 2 % 2 ≡ 0 = omega arith in
    let left : suc (suc count) - 2 ≡ count = omega arith in
    rw (one, two, left) refl

pub in_element : (l : Levels) → 1 < l.count → l.inner % 4 ≡ 1 → levels_in l ≡ Object ∷ Array ∷ outer_of (outer_of (levels_in l))
unfolding levels_in
in_element l few bits = rw (two_inner l.count l.inner (full_levels l.full l.outer) few bits) refl

-- the lowest bit of the word of the innermost levels
one_inner : (count inner : ℕ) (around : List Level) → 0 < count → inner % 2 ≡ 1
    → levels_at count inner ++ around ≡ Object ∷ (levels_at (count - 1) (inner / 2) ++ around)
one_inner zero inner around few bits = absurd (omega arith)
one_inner (suc count) inner around few bits = let left : suc count - 1 ≡ count = omega arith in rw (bits, left) refl

pub in_object : (l : Levels) → 0 < l.count → l.inner % 2 ≡ 1 → inner_of (levels_in l) ≡ Some Object
unfolding levels_in
in_object l few bits = rw (one_inner l.count l.inner (full_levels l.full l.outer) few bits) refl
