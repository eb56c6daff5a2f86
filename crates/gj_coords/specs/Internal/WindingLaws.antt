-- A `Winding` to which the positions of a linear ring are added in turn runs as the definition says.
use Rattle.std.specs.Prelude.{IfSome, is_some, filter_map, Bool, ◌&&◌, if◌then◌else◌, map, take, int_le, ◌-ℤ◌, ◌*ℤ◌, neg_ℤ}
use Rattle.std.specs.List.{list_all, cons_option, AllByRecursion}
use Rattle.std.specs.Int.{int_wrap, w32, w128}
use Rattle.std.proofs.Common.{◌≡◌, ℕ, suc, ◌*◌, ◌^◌, ◌<◌, ◌≤◌, List, [], ◌∷◌, Option, Some, None, true, false, length, ℤ, pos, ◌+ℤ◌, unsigned_abs}
use Rattle.std.proofs.Common.{FitsSigned, refl, ◌∙◌, ap, arith}
use Rattle.std.proofs.lemmas.Nat.{mul-le}
use Rattle.std.proofs.lemmas.Int.{ints, int_wrap_fits, int_wrap-add_left, fits_signed_from_abs, unsigned_abs-mul}
use Rattle.gj_number.specs.Exact.{Exact, cut_places}
use Rattle.gj_json.specs.Tree.{Tree}
use Rattle.gj_coords.specs.declared.winding.Corner.{Corner}
use Rattle.gj_coords.specs.declared.winding.Turn.{Turn}
use Rattle.gj_coords.specs.declared.winding.Turn.TheVariants.{Unjudged}
use Rattle.gj_coords.specs.declared.winding.Winding.{Winding}
use Rattle.gj_coords.specs.Internal.PositionGather.{position_answer}
use Rattle.gj_coords.specs.Items.{elements_of}
use Rattle.gj_coords.specs.Ring.{exact_value}
use Rattle.gj_coords.specs.Internal.PositionLaws.{position_values, values_from}
use Rattle.gj_coords.specs.Winding.{most_longitude, most_latitude, bounded_cut, cut_value, both, corner_of, first_corner, cut_position, in_range, cross}
use Rattle.gj_coords.specs.Winding.{area_of, sign_of, ring_turn}
use Rattle.gj_coords.specs.Internal.WindingGather.{no_winding, term_of, corner_added, winding_added, all_added, turn_in}

-- ---- the corners of positions

-- as each corner is that the code holds
record IsSmall (corner : Corner) : Type 0 where
  x : FitsSigned w32 corner.x
  y : FitsSigned w32 corner.y

both_small : (x y : Option ℤ) → IfSome x (FitsSigned w32) → IfSome y (FitsSigned w32) → IfSome (both x y) IsSmall
both_small (Some x) (Some y) f g = record { x = f; y = g }
both_small (Some x) None f g = g
both_small None (Some y) f g = f
both_small None None f g = f

if_small : (b : Bool) (z : ℤ) → (b ≡ true → FitsSigned w32 z) → IfSome (if b then Some z else None) (FitsSigned w32)
if_small true z fits = fits refl
if_small false z fits = search arith

bounded_fits : (most : ℕ) (z : ℤ) → most < 2 ^ 31 → (int_le (neg_ℤ (pos most)) z && int_le z (pos most)) ≡ true → FitsSigned w32 z
bounded_fits most z small h = grind (arith, ints)

bounded_small : (most : ℕ) (cut : Option ℤ) → most < 2 ^ 31 → IfSome (bounded_cut (pos most) cut) (FitsSigned w32)
bounded_small most (Some z) small = if_small (int_le (neg_ℤ (pos most)) z && int_le z (pos most)) z (bounded_fits most z small)
bounded_small most None small = search arith

both_none : (x : Option ℤ) → both x None ≡ None
both_none (Some x) = refl
both_none None = refl

corner_small : (longitude latitude : Option Exact) → IfSome (corner_of longitude latitude) IsSmall
corner_small longitude latitude =
    both_small (bounded_cut most_longitude (cut_value longitude)) (bounded_cut most_latitude (cut_value latitude))
    (bounded_small (180 * 10 ^ cut_places) (cut_value longitude) (omega arith)) (bounded_small (90 * 10 ^ cut_places) (cut_value latitude) (omega arith))

first_small : (values : List Tree) → IfSome (first_corner values) IsSmall
first_small [] = search arith
first_small (longitude ∷ []) = search arith
first_small (longitude ∷ latitude ∷ more) = corner_small (exact_value longitude) (exact_value latitude)

position_small : (position : Tree) → IfSome (cut_position position) IsSmall
position_small position = first_small (elements_of position)

first_values_corner : (values : List Tree)
    → corner_of (values_from (map exact_value (take 3 values))).first (values_from (map exact_value (take 3 values))).second ≡ first_corner values
first_values_corner [] = refl
first_values_corner (a ∷ []) = both_none (bounded_cut most_longitude (cut_value (exact_value a)))
first_values_corner (a ∷ b ∷ []) = refl
first_values_corner (a ∷ b ∷ c ∷ more) = refl

-- the corner of the values that the reader of a position answers
pub answered_corner : (v : Tree) → corner_of (position_answer v).values.first (position_answer v).values.second ≡ cut_position v
answered_corner v = rw (position_values v) (first_values_corner (elements_of v))

-- ---- the sum of all terms

product_size : (a b : ℤ) → FitsSigned w32 a → FitsSigned w32 b → unsigned_abs (a *ℤ b) ≤ 2 ^ 62
product_size a b f g =
    let m : unsigned_abs a ≤ 2 ^ 31 = omega (arith, ints) in
    let n : unsigned_abs b ≤ 2 ^ 31 = omega (arith, ints) in
    rw (unsigned_abs-mul a b) (mul-le (unsigned_abs a) (unsigned_abs b) (2 ^ 31) (2 ^ 31) m n)

difference_size : (a b : ℤ) → unsigned_abs a ≤ 2 ^ 62 → unsigned_abs b ≤ 2 ^ 62 → unsigned_abs (a -ℤ b) ≤ 2 ^ 63
difference_size a b m n = omega (arith, ints)

cross_size : (a b : Corner) → IsSmall a → IsSmall b → unsigned_abs (cross a b) ≤ 2 ^ 63
cross_size a b s t = difference_size (a.x *ℤ b.y) (b.x *ℤ a.y) (product_size a.x b.y s.x t.y) (product_size b.x a.y t.x s.y)

sum_size : (a b : ℤ) (n : ℕ) → unsigned_abs a ≤ 2 ^ 63 → unsigned_abs b ≤ 2 ^ 63 * n → unsigned_abs (a +ℤ b) ≤ 2 ^ 63 * suc n
sum_size a b n term small = omega (arith, ints)

area_size : (corners : List Corner) → AllByRecursion IsSmall corners → unsigned_abs (area_of corners) ≤ 2 ^ 63 * length corners
area_size [] small = omega arith
area_size (a ∷ []) small = omega arith
area_size (a ∷ b ∷ more) small =
    sum_size (cross a b) (area_of (b ∷ more)) (length (b ∷ more)) (cross_size a b small.0 small.1.0) (area_size (b ∷ more) small.1)

-- they are no more than there are positions
record AreSmall (n : ℕ) (corners : List Corner) : Type 0 where
  few : length corners ≤ n
  small : AllByRecursion IsSmall corners

one_more_small : (corner : Option Corner) (n : ℕ) (corners : List Corner) → IfSome corner IsSmall → AreSmall n corners
    → AreSmall (suc n) (cons_option corner corners)
one_more_small (Some c) n corners small k = record { few = omega arith; small = (small, k.small) }
one_more_small None n corners small k = record { few = omega arith; small = k.small }

all_small : (positions : List Tree) → AreSmall (length positions) (filter_map cut_position positions)
all_small [] = record { few = omega arith; small = tt }
all_small (v ∷ more) = one_more_small (cut_position v) (length more) (filter_map cut_position more) (position_small v) (all_small more)

-- so the sum of fewer than 2^64 positions is exact
exact_area : (positions : List Tree) → length positions < 2 ^ 64 →
    int_wrap w128 (area_of (filter_map cut_position positions)) ≡ area_of (filter_map cut_position positions)
exact_area positions few =
    let corners : List Corner = filter_map cut_position positions in
    let k : AreSmall (length positions) corners = all_small positions in
    let size : unsigned_abs (area_of corners) ≤ 2 ^ 63 * length corners = area_size corners k.small in
    let below : unsigned_abs (area_of corners) < 2 ^ 127 = omega (arith, size, k.few) in
    int_wrap_fits w128 (area_of corners) (fits_signed_from_abs w128 (area_of corners) below)

-- ---- the positions in turn

-- a position out of range makes all that is held of no use
stays_unjudged : (corners : List (Option Corner)) (w : Winding) → w.unjudged ≡ true → (all_added w corners).unjudged ≡ true
stays_unjudged [] w h = h
stays_unjudged (Some c ∷ more) w h = stays_unjudged more (corner_added w c) h
stays_unjudged (None ∷ more) w h = stays_unjudged more (winding_added w None) refl

-- along a way from the last corner before them, where there is one
abbrev area_after : Option Corner → List Corner → ℤ
area_after None corners = area_of corners
area_after (Some last) corners = area_of (last ∷ corners)

none_after : (last : Option Corner) (z : ℤ) → z ≡ z +ℤ area_after last []
none_after None z = omega (arith, ints)
none_after (Some last) z = omega (arith, ints)

one_after : (last : Option Corner) (c : Corner) (corners : List Corner) (z : ℤ) →
    (z +ℤ term_of last c) +ℤ area_after (Some c) corners ≡ z +ℤ area_after last (c ∷ corners)
one_after None c corners z = let area : ℤ = area_of (c ∷ corners) in omega (arith, ints)
one_after (Some last) c corners z =
    let area : ℤ = area_of (c ∷ corners) in
    let term : ℤ = cross last c in
    omega (arith, ints)

-- how they run, where the terms before them add up to this
abbrev turn_from : ℤ → Option Corner → List Tree → Turn
turn_from z last positions =
    if list_all in_range positions then sign_of (int_wrap w128 (z +ℤ area_after last (filter_map cut_position positions))) else Unjudged

abbrev RunsFrom : List Tree → Type 0
RunsFrom positions = (w : Winding) (z : ℤ) → w.unjudged ≡ false → w.area ≡ int_wrap w128 z →
    turn_in (all_added w (map cut_position positions)) ≡ turn_from z w.last positions

runs_on : (corner : Option Corner) (more : List Tree) → RunsFrom more → (w : Winding) (z : ℤ) → w.unjudged ≡ false → w.area ≡ int_wrap w128 z →
    turn_in (all_added (winding_added w corner) (map cut_position more)) ≡
    (if is_some corner && list_all in_range more
    then sign_of (int_wrap w128 (z +ℤ area_after w.last (cons_option corner (filter_map cut_position more)))) else Unjudged)
runs_on (Some c) more rest w z judged area =
    rest (corner_added w c) (z +ℤ term_of w.last c) judged
    (ap (λ y. int_wrap w128 (y +ℤ term_of w.last c)) area ∙ int_wrap-add_left w128 z (term_of w.last c)) ∙
    ap (λ y. if list_all in_range more then sign_of (int_wrap w128 y) else Unjudged) (one_after w.last c (filter_map cut_position more) z)
runs_on None more rest w z judged area = rw (stays_unjudged (map cut_position more) (winding_added w None) refl) refl

runs : (positions : List Tree) → RunsFrom positions
runs [] w z judged area = rw judged (ap sign_of (area ∙ ap (int_wrap w128) (none_after w.last z)))
runs (v ∷ more) w z judged area = runs_on (cut_position v) more (runs more) w z judged area

none_before : (z : ℤ) → pos 0 +ℤ z ≡ z
none_before z = omega (arith, ints)

pub positions_turn : (positions : List Tree) → length positions < 2 ^ 64 → turn_in (all_added no_winding (map cut_position positions)) ≡ ring_turn positions
unfolding int_wrap
positions_turn positions few =
    runs positions no_winding (pos 0) refl refl ∙
    ap (λ y. if list_all in_range positions then sign_of y else Unjudged)
    (ap (int_wrap w128) (none_before (area_of (filter_map cut_position positions))) ∙ exact_area positions few)
