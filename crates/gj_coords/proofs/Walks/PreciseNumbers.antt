-- What is known of a number's places by how it is written, and of a position's.
use Rattle.gj_coords.proofs.Common.{Flat, IsCutPosition, KindWarnings, Numbered, W3, W4, W5, Warned, ap, arith, counted_noted, flat_position}
use Rattle.gj_coords.proofs.Common.{ints, joined_noted, nat_tests, noted_as, pos, precise_noted, sound_noted, sym, ℤ, ◌∙◌}
use Rattle.std.proofs.Common.{◌≡◌, ◌↔◌, ℕ, ◌+◌, ◌<◌, ◌≤◌, ◌==◌, suc, Bool, if◌then◌else◌, true, false, IsTrue, nat_lt, Option, Some, None, is_none, IfSome}
use Rattle.std.proofs.Common.{negsuc, ◌-ℤ◌, refl}
use Rattle.gj_number.specs.Exact.{below_zero, zero_exact}
use Rattle.gj_number.specs.Short.{short_value, exact_of}
use Rattle.gj_number.specs.Cuts.{IsCut}
use Rattle.gj_number.specs.declared.short.Short.{Short}
use Rattle.gj_number.specs.declared.short.cuts.Cut.{Cut}
use Rattle.gj_json.specs.declared.cut_position.CutPosition.{CutPosition}
use Rattle.gj_coords.specs.declared.cuts.PreciseNumbers.{PreciseNumbers}
use Rattle.gj_coords.specs.CoordinateWarnings.{is_precise}
use Rattle.gj_coords.specs.Internal.CutPositionGather.{pair_with, HasCounted}
use Rattle.gj_coords.specs.Internal.GatheredWarnings.{noted_when, some_noted}
use Rattle.gj_coords.specs.Internal.GatheredWarningLaws.{some_noted_twice}
use Rattle.gj_coords.specs.Internal.KeptWarnings.{nothing_noted, is_nothing}
use Rattle.gj_coords.specs.Internal.KeptWarningLaws.{joined_noted_none, joined_noted_assoc}
use Rattle.gj_coords.specs.Internal.PositionGather.{corner_in, precise_with}
use Rattle.gj_coords.specs.Internal.FlatPosition.{flat_count, flat_values, flat_precise, third_precise}

-- ---- there are no more places than are written

few_places : (tens places : ℕ) (power : ℤ) → power ≡ pos tens -ℤ pos places → places ≤ 7 → nat_lt 7 (below_zero power) ≡ false
few_places tens places (pos n) e k = refl
few_places tens places (negsuc n) e k = let few : suc n ≤ 7 = omega (arith, ints) in grind (arith, nat_tests)

short_if : (zero : Bool) (negative : Bool) (digits tens places : ℕ) → places ≤ 7 →
    is_precise (Some (if zero then zero_exact else record { negative = negative; digits = digits; power = pos tens -ℤ pos places })) ≡ false
short_if true negative digits tens places k = refl
short_if false negative digits tens places k = few_places tens places _ refl k

pub written_short : (negative : Bool) (digits places : ℕ) → places ≤ 7 → is_precise (Some (short_value negative digits places)) ≡ false
unfolding short_value
written_short negative digits places k = short_if (digits == 0) negative _ _ places k

-- ---- in a position in range without such a number nothing deserves a warning

-- a position of two or three numbers has no more than three
few_numbers : (third : Option Numbered) → nat_lt 3 (flat_count third) ≡ false
few_numbers None = refl
few_numbers (Some number) = refl

pub quiet_flat : (f : Flat) (w : Warned) → flat_precise f ≡ nothing_noted → is_none (corner_in (flat_values f)) ≡ false → sound_noted w (flat_position f) ≡ w
quiet_flat f w short at = rw (short, at, few_numbers f.third) refl

-- ---- numbers that are counted and noted at once

flag_is : (short : Short) (cut : Cut) → IsCut short cut → is_precise (Some (exact_of short)) ≡ cut.precise
flag_is short cut is = go cut.precise (below_zero (exact_of short).power) is.precise
  where
    go : (flag : Bool) (places : ℕ) → IsTrue flag ↔ (7 < places) → nat_lt 7 places ≡ flag
    go true places h = let more : 7 < places = h.0 refl in grind (arith, nat_tests)
    go false places h = grind (arith, nat_tests, h)

-- a third number that is written short is not among them
third_short : (third : Option Numbered) (noted : KindWarnings) → IfSome third (λ number. number.value.places ≤ 7) → third_precise third noted ≡ noted
third_short None noted few = refl
third_short (Some number) noted few =
    let short = number.value in
    ap (λ precise. precise_with precise number.place noted) (written_short short.negative short.digits short.places few)

pair_precise : (p : CutPosition) (f : Flat) → IsCutPosition p f → flat_precise f ≡ pair_with p nothing_noted
pair_precise p f is =
    let first = flag_is f.first.value (record { value = p.first; precise = p.first_precise }) is.first in
    let second = flag_is f.second.value (record { value = p.second; precise = p.second_precise }) is.second in
    third_short f.third _ is.third
    ∙ (λ i. precise_with (second i) (is.second_place i) (precise_with (first i) (is.first_place i) nothing_noted))

pair_noted_is : (p : CutPosition) (f : Flat) (w : Warned) → IsCutPosition p f → is_none (corner_in (flat_values f)) ≡ false
    → sound_noted w (flat_position f) ≡ precise_noted w (pair_with p nothing_noted)
pair_noted_is p f w is at =
    let e = pair_precise p f is in
    (λ i. some_noted (is_nothing (e i)) (noted_when (at i) (noted_when (few_numbers f.third i) w W3 f.place) W5 f.place) W4 (e i))

joined_with : (precise : Bool) (place : ℕ) (a b : KindWarnings) → joined_noted a (precise_with precise place b) ≡ precise_with precise place (joined_noted a b)
joined_with true place a b = sym (joined_noted_assoc a b (noted_as 1 place))
joined_with false place a b = refl

joined_pair : (p : CutPosition) (noted : KindWarnings) → joined_noted noted (pair_with p nothing_noted) ≡ pair_with p noted
joined_pair p noted =
    let first = joined_with p.first_precise (p.place + p.first_at) noted nothing_noted in
    let alone = joined_noted_none noted in
    joined_with p.second_precise (p.place + p.second_at) noted (precise_with p.first_precise (p.place + p.first_at) nothing_noted)
    ∙ ap (precise_with p.second_precise (p.place + p.second_at)) (first ∙ ap (precise_with p.first_precise (p.place + p.first_at)) alone)

pub counted_more : (p : CutPosition) (f : Flat) (old new : PreciseNumbers) → IsCutPosition p f → is_none (corner_in (flat_values f)) ≡ false
    → counted_noted new ≡ pair_with p (counted_noted old) → HasCounted f old new
counted_more p f old new is at e = λ w.
    ap (precise_noted w) (e ∙ sym (joined_pair p (counted_noted old))) ∙ sym (some_noted_twice w (counted_noted old) (pair_with p nothing_noted))
    ∙ sym (pair_noted_is p f (precise_noted w (counted_noted old)) is at)
