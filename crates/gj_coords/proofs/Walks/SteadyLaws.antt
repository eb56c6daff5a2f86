-- Where a walk is steady, a position that is reported as one changes only what is gathered of positions, and their count.
use Rattle.gj_coords.proofs.Common.{Fault, Flat, G11, G14, IsCounted, Level, Line, Numbered, Numbers, Outermost, Values, What, ap, arith}
use Rattle.gj_coords.proofs.Common.{arrays_counted, comes_first, event_at, fault_at, first_gathering, first_steady, flat_position, lesser, nat_tests}
use Rattle.gj_coords.proofs.Common.{position_added, second_gathering, second_steady, sound_noted, subst, sym, third_gathering, ◌&&◌, ◌∙◌}
use Rattle.std.proofs.Common.{◌≡◌, ℕ, zero, suc, ◌<◌, ◌≤◌, ◌-◌, min, Option, Some, None, Bool, true, false, nat_lt, if◌then◌else◌, refl}
use Rattle.std.specs.Option.{option_map_or}
use Rattle.std.proofs.Math.Bool.{and-false}
use Rattle.gj_coords.specs.declared.fault.Rule.{Rule}
use Rattle.gj_coords.specs.Fault.{number_of}
use Rattle.gj_coords.specs.Internal.LeastLaws.{Tests, lesser-none}
use Rattle.gj_coords.specs.Internal.ElementCount.{one_counted}
use Rattle.gj_coords.specs.Internal.PositionGather.{pushed, precise_with, number_added, array_counted}
use Rattle.gj_coords.specs.Internal.FlatPosition.{least_with, least_place, flat_misshapen, flat_ring, flat_third, flat_second}
use Rattle.gj_coords.specs.Internal.SteadyWalk.{IsFaultBy, IsSettled, IsSteadyFirst, IsSteadySecond, third_steady}

-- ---- a fault by this place stays the least of it and one after it

kept_by : (x : Fault) (place : ℕ) (rule : Rule) → x.place < place → lesser (Some x) (Some (fault_at place rule)) ≡ Some x
kept_by x place rule h = let e : nat_lt x.place place ≡ true = grind (arith, nat_tests) in rw e refl

pub kept_fault : (floor : ℕ) (fault : Option Fault) (place : ℕ) (rule : Rule) → IsFaultBy floor fault → floor < place →
    lesser fault (Some (fault_at place rule)) ≡ fault
kept_fault floor None place rule k h = absurd k
kept_fault floor (Some x) place rule k h = kept_by x place rule (omega arith)

-- all of a position stands after this place, where its bracket does
past_with : (floor : ℕ) (third : Option Numbered) (place n : ℕ) → place ≤ option_map_or (λ number. number.place) third place → floor < place → floor < n →
    floor < least_with third n
past_with floor None place n t h k = k
past_with floor (Some c) place n t h k = omega arith

past_least : (floor : ℕ) (f : Flat) → floor < f.place → floor < least_place f
past_least floor f p =
    past_with floor f.third f.place (min f.first.place f.second.place) f.third_on p (let a = f.first_on in let b = f.second_on in omega arith)

kept_ring_if : (floor : ℕ) (fault : Option Fault) (b : Bool) (place least : ℕ) → IsFaultBy floor fault → floor < place → floor < least →
    lesser fault (Some (if b then fault_at place G14 else fault_at least G11)) ≡ fault
kept_ring_if floor fault true place least k h g = kept_fault floor fault place G14 k h
kept_ring_if floor fault false place least k h g = kept_fault floor fault least G11 k g

kept_ring : (floor : ℕ) (fault : Option Fault) (f : Flat) → IsFaultBy floor fault → floor < f.place → lesser fault (flat_ring f) ≡ fault
kept_ring floor fault f k p = kept_ring_if floor fault (nat_lt f.place (least_place f)) f.place (least_place f) k p (past_least floor f p)

kept_misshapen : (floor : ℕ) (fault : Option Fault) (f : Flat) → IsFaultBy floor fault → floor < f.place → lesser fault (flat_misshapen f) ≡ fault
kept_misshapen floor fault f k p = kept_fault floor fault (least_place f) G11 k (past_least floor f p)

-- ---- the numbers

settled_kept : (floor place : ℕ) (n : Numbers) → IsSettled floor n → floor < place → number_added n (event_at place What.OpenArray) ≡ array_counted n
settled_kept floor place n k h =
    let build : Option Fault → Bool → Numbers = λ fault precise.
    record (array_counted n) { fault = fault; precise = precise_with precise place n.precise } in
    ap (λ x. build x (nat_lt n.values.count 3 && false)) (kept_fault floor n.fault place G11 k.fault h) ∙
    ap (λ x. build n.fault x) (and-false (nat_lt n.values.count 3))

-- and stays so
least_next : (b : Bool) (n : ℕ) → 3 ≤ n → min 3 (if b then suc n else n) ≡ 3
least_next true n h = omega arith
least_next false n h = omega arith

counted_next : (m n : ℕ) (values : Values) → m ≡ min 3 n → values.count ≡ m → (pushed m None values).count ≡ min 3 (one_counted n)
counted_next m zero values e h = let P : ℕ → Type 0 = λ x. (pushed x None values).count ≡ 1 in subst P (sym e) refl
counted_next m (suc zero) values e h = let P : ℕ → Type 0 = λ x. (pushed x None values).count ≡ 2 in subst P (sym e) refl
counted_next m (suc (suc zero)) values e h = let P : ℕ → Type 0 = λ x. (pushed x None values).count ≡ 3 in subst P (sym e) refl
counted_next m (suc (suc (suc n))) values e h =
    let most : 3 ≤ suc (suc (suc n)) = omega arith in
    let full : m ≡ 3 = e ∙ least_next false (suc (suc (suc n))) most in
    let P : ℕ → Type 0 = λ x. (pushed x None values).count ≡ 3 in
    subst P (sym full) (h ∙ full) ∙ sym (least_next (nat_lt (suc (suc (suc n))) 4) (suc (suc (suc n))) most)

pub counted_still : (n : Numbers) → IsCounted n → IsCounted (array_counted n)
counted_still n k = counted_next n.values.count n.tally.count n.values k refl

settled_still : (floor : ℕ) (n : Numbers) → IsSettled floor n → IsSettled floor (array_counted n)
settled_still floor n k = record { counted = counted_still n k.counted; fault = k.fault }

pushed_full : (n : ℕ) (values : Values) → n ≡ 3 → pushed n None values ≡ values
pushed_full n values e = rw e refl

least_three : (n : ℕ) → nat_lt n 4 ≡ false → min 3 n ≡ 3
least_three n e = let k : 4 ≤ n = grind (arith, nat_tests) in omega arith

-- an array of four is counted no further
pub counted_whole : (n : Numbers) → IsCounted n → nat_lt n.tally.count 4 ≡ false → n ≡ array_counted n
counted_whole n k e =
    let full : n.values.count ≡ 3 = k ∙ least_three n.tally.count e in
    let build : Values → ℕ → Numbers = λ values count. record n { values = values; tally = record { place = n.tally.place; count = count } } in
    sym (ap (λ x. build x (one_counted n.tally.count)) (pushed_full n.values.count n.values full)
    ∙ ap (λ x. build n.values x) (ap (λ b. if b then suc n.tally.count else n.tally.count) e))

-- nor are several more
pub counted_enough : (count : ℕ) (n : Numbers) → IsCounted n → nat_lt n.tally.count 4 ≡ false → n ≡ arrays_counted count n
counted_enough zero n k e = refl
counted_enough (suc m) n k e = counted_enough m n k e ∙ ap (arrays_counted m) (counted_whole n k e)

-- one of those that are left
pub counted_one : (left : ℕ) (n : Numbers) → 0 < left → arrays_counted (left - 1) (array_counted n) ≡ arrays_counted left n
counted_one zero n some = absurd (omega (arith, some))
counted_one (suc m) n some = let e : suc m - 1 ≡ m = omega arith in ap (λ x. arrays_counted x (array_counted n)) e

-- ---- the levels

pub third_kept : (floor : ℕ) (f : Flat) (g : Line) → IsSettled floor g.numbers → floor < f.place →
    third_gathering.added g (flat_position f) ≡ third_steady f g
third_kept floor f g k p =
    let build : Numbers → Line = λ n. record { numbers = n; positions = position_added g.positions (flat_position f) } in
    ap build (settled_kept floor f.place g.numbers k p)

pub second_kept : (floor : ℕ) (f : Flat) (g : Level) → IsSteadySecond floor g → floor < f.place →
    second_gathering.added g (flat_third f) ≡ second_steady f g
second_kept floor f g k p =
    let build : Numbers → Option Fault → Level = λ n rings.
    record g { numbers = n; positions = position_added g.positions (flat_position f); rings = rings } in
    ap (λ x. build x (lesser g.rings (flat_ring f))) (settled_kept floor f.place g.numbers k.settled p) ∙
    ap (λ x. build (array_counted g.numbers) x) (kept_ring floor g.rings f k.by_rings p)

pub first_kept : (floor : ℕ) (f : Flat) (g : Outermost) → IsSteadyFirst floor g → floor < f.place →
    first_gathering.added g (flat_second f) ≡ first_steady f g
first_kept floor f g k p =
    let build : Numbers → Option Fault → Option Fault → Option Fault → Option Fault → Outermost = λ n positions lines rings polygons.
    record g {
      numbers = n;
      positions_warned = sound_noted g.positions_warned (flat_position f);
      positions = positions;
      lines = lines;
      rings = rings;
      polygons = polygons;
    } in
    let n : Numbers = array_counted g.numbers in
    let lines : Option Fault = lesser g.lines (flat_misshapen f) in
    let rings : Option Fault = lesser g.rings (flat_ring f) in
    let polygons : Option Fault = lesser g.polygons (flat_misshapen f) in
    ap (λ x. build x (lesser g.positions None) lines rings polygons) (settled_kept floor f.place g.numbers k.settled p) ∙
    (ap (λ x. build n x lines rings polygons) (lesser-none g.positions) ∙
    (ap (λ x. build n g.positions x rings polygons) (kept_misshapen floor g.lines f k.by_lines p) ∙
    (ap (λ x. build n g.positions g.lines x polygons) (kept_ring floor g.rings f k.by_rings p) ∙
    ap (λ x. build n g.positions g.lines g.rings x) (kept_misshapen floor g.polygons f k.by_polygons p))))

-- ---- and is steady still

pub first_still : (floor : ℕ) (f : Flat) (g : Outermost) → IsSteadyFirst floor g → IsSteadyFirst floor (first_steady f g)
first_still floor f g k =
    record { settled = settled_still floor g.numbers k.settled; by_lines = k.by_lines; by_rings = k.by_rings; by_polygons = k.by_polygons }

pub second_still : (floor : ℕ) (f : Flat) (h : Level) → IsSteadySecond floor h → IsSteadySecond floor (second_steady f h)
second_still floor f h k = record { settled = settled_still floor h.numbers k.settled; by_rings = k.by_rings }

pub third_still : (floor : ℕ) (f : Flat) (h : Level) → IsSettled floor h.numbers → IsSettled floor (second_steady f h).numbers
third_still floor f h k = settled_still floor h.numbers k

-- ---- a position makes it steady

by_if : (floor : ℕ) (b : Bool) (x y : Fault) → (b ≡ true → x.place ≤ floor) → y.place ≤ floor → IsFaultBy floor (if b then Some x else Some y)
by_if floor true x y h k = h refl
by_if floor false x y h k = k

first_by : (floor p r q s : ℕ) → Tests p r q s ≡ true → q ≤ floor → p ≤ floor
first_by floor p r q s e h = grind (arith, nat_tests)

-- with a fault by the place, the least is by it
by_lesser : (floor : ℕ) (fault : Option Fault) (place : ℕ) (rule : Rule) → place ≤ floor → IsFaultBy floor (lesser fault (Some (fault_at place rule)))
by_lesser floor None place rule h = h
by_lesser floor (Some x) place rule h =
    let y : Fault = fault_at place rule in
    by_if floor (comes_first x y) x y (λ e. first_by floor x.place (number_of x.rule) place (number_of rule) e h) h

least_on : (third : Option Numbered) (p q : ℕ) → least_with third (min p q) ≤ p
least_on None p q = omega arith
least_on (Some c) p q = omega arith

by_misshapen : (f : Flat) (fault : Option Fault) → IsFaultBy f.first.place (lesser fault (flat_misshapen f))
by_misshapen f fault = by_lesser f.first.place fault (least_place f) G11 (least_on f.third f.first.place f.second.place)

by_ring_if : (floor : ℕ) (fault : Option Fault) (b : Bool) (place least : ℕ) → place ≤ floor → least ≤ floor →
    IsFaultBy floor (lesser fault (Some (if b then fault_at place G14 else fault_at least G11)))
by_ring_if floor fault true place least h k = by_lesser floor fault place G14 h
by_ring_if floor fault false place least h k = by_lesser floor fault least G11 k

by_ring : (f : Flat) (fault : Option Fault) → IsFaultBy f.first.place (lesser fault (flat_ring f))
by_ring f fault =
    by_ring_if f.first.place fault (nat_lt f.place (least_place f)) f.place (least_place f) f.first_on (least_on f.third f.first.place f.second.place)

settled_by : (f : Flat) (n : Numbers) → IsCounted (number_added n (event_at f.place What.OpenArray)) →
    IsSettled f.first.place (number_added n (event_at f.place What.OpenArray))
settled_by f n k = record { counted = k; fault = by_lesser f.first.place n.fault f.place G11 f.first_on }

pub steady_first : (f : Flat) (g : Outermost) → let new : Outermost = first_gathering.added g (flat_second f) in
    IsCounted new.numbers → IsSteadyFirst f.first.place new
steady_first f g k = record {
  settled = settled_by f g.numbers k;
  by_lines = by_misshapen f g.lines;
  by_rings = by_ring f g.rings;
  by_polygons = by_misshapen f g.polygons;
}

pub steady_second : (f : Flat) (h : Level) → let new : Level = second_gathering.added h (flat_third f) in
    IsCounted new.numbers → IsSteadySecond f.first.place new
steady_second f h k = record { settled = settled_by f h.numbers k; by_rings = by_ring f h.rings }

pub steady_third : (f : Flat) (h : Level) → let new : Level = second_gathering.added h (flat_third f) in
    IsCounted new.numbers → IsSettled f.first.place new.numbers
steady_third f h k = settled_by f h.numbers k
