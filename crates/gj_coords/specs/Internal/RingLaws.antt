-- The reader of a linear ring reports its least fault.
use Rattle.std.specs.Prelude.{◌≡◌, ℕ, List, [], ◌∷◌, ◌++◌, Option, Some, None, is_none, Bool, true, false, ◌&&◌, not, refl, if◌then◌else◌}
use Rattle.std.specs.List.{flat_map}
use Rattle.std.proofs.Common.{arith, sym, ◌∙◌, ap, append-nil}
use Rattle.gj_json.specs.Tree.{Tree, array}
use Rattle.gj_coords.specs.declared.fault.Fault.{Fault}
use Rattle.gj_coords.specs.declared.fault.Rule.TheVariants.{G14, G15}
use Rattle.gj_coords.specs.Internal.PositionGather.{Position}
use Rattle.gj_coords.specs.declared.position.Values.{Values}
use Rattle.gj_coords.specs.declared.ring.Positions.{Positions}
use Rattle.gj_coords.specs.Internal.CoordinatesKept.{third_answer}
use Rattle.gj_coords.specs.Internal.LevelGather.{Line, third_gathering}
use Rattle.gj_coords.specs.Fault.{fault_at, lesser, least, comes_first}
use Rattle.gj_coords.specs.Items.{items}
use Rattle.gj_coords.specs.Ring.{agree, last_of}
use Rattle.gj_coords.specs.Shape.{few, position, ring, is_empty, unclosed}
use Rattle.gj_coords.specs.Internal.Gathering.{gathered}
use Rattle.gj_coords.specs.Internal.PositionGather.{same_values, corner_in, sound_noted, position_answer}
use Rattle.gj_coords.specs.Internal.PositionsGather.{no_positions, first_or, sound_joined, sound_added, judged_added, position_added, unclosed_or}
use Rattle.gj_coords.specs.Internal.LeastLaws.{lesser-none}
use Rattle.gj_coords.specs.Internal.ElementCountLaws.{gathered_place, few_gathered, gathered_fault, both_least}
use Rattle.gj_coords.specs.Internal.PositionLaws.{position_fault, same_agree}

is_some_if : (b : Bool) (x y : Fault) → is_none (if b then Some x else Some y) ≡ false
is_some_if true x y = refl
is_some_if false x y = refl

least_if_not : (b : Bool) (y : Fault) → (if not b then Some y else None) ≡ least (if not b then y ∷ [] else [])
least_if_not true y = refl
least_if_not false y = refl

pub is_some_lesser : (x : Fault) (o : Option Fault) → is_none (lesser (Some x) o) ≡ false
is_some_lesser x None = refl
is_some_lesser x (Some y) = is_some_if (comes_first x y) x y

-- the least fault of positions that have none, or of those that have
one_more_least : (xs : List Fault) (least_fault : Option Fault) (closes same : Bool) (at place : ℕ) →
    at ≡ place → least_fault ≡ least xs → (is_empty xs ≡ true → closes ≡ same) →
    (if is_none least_fault && not closes then Some (fault_at at G15) else least_fault) ≡
    least (xs ++ (if is_empty xs && not same then fault_at place G15 ∷ [] else []))
one_more_least [] least_fault closes same at place e f h = rw (e, f, h refl) (least_if_not same (fault_at place G15))
one_more_least (x ∷ xs) least_fault closes same at place e f h =
    rw (f, is_some_lesser x (least xs)) (ap least (sym (append-nil (x ∷ xs))))

-- ---- where no position has a fault, the last is compared

pub empty_front : (xs ys : List Fault) → is_empty (xs ++ ys) ≡ true → (xs ≡ []) × (is_empty ys ≡ true)
empty_front [] ys h = (refl, h)
empty_front (x ∷ xs) ys h = cc

before_added : (before : Option Fault) (s : Positions) (p : Position) → (sound_added before s p).fault ≡ s.fault
before_added None s p = refl
before_added (Some before) s p = refl

judged_fault : (fault : Option Fault) (s : Positions) (p : Position) → (judged_added fault s p).fault ≡ lesser s.fault fault
judged_fault None s p = before_added s.fault s p ∙ sym (lesser-none s.fault)
judged_fault (Some fault) s p = refl

pub added_fault : (s : Positions) (p : Position) → (position_added s p).fault ≡ lesser s.fault p.fault
added_fault s p = judged_fault p.fault s p

-- what a position without a fault adds to others without one
pub one_more_sound : (s : Positions) (p : Position) → s.fault ≡ None → p.fault ≡ None →
    position_added s p ≡ sound_joined (record s { warned = sound_noted s.warned p }) p.values (corner_in p.values)
one_more_sound s p e f = ap (λ o. judged_added o s p) f ∙ ap (λ o. sound_added o s p) e

-- positions without a fault
pub sound_position : (v : Tree) → position v ≡ [] → (position_answer v).fault ≡ None
sound_position v e = position_fault v ∙ ap least e

closes_last : (vs : List Tree) (g : Line) (first : Values) (u : Tree) → g.positions.fault ≡ None → g.positions.first ≡ Some first →
    g.positions.closes ≡ same_values first (position_answer u).values → is_empty (flat_map position vs) ≡ true →
    (gathered third_gathering position_answer g vs).positions.closes ≡ same_values first (position_answer (last_of u vs)).values
closes_last [] g first u e f h k = h
closes_last (v ∷ more) g first u e f h k =
    let parts : (position v ≡ []) × (is_empty (flat_map position more) ≡ true) = empty_front (position v) (flat_map position more) k in
    let p : Position = position_answer v in
    let one = one_more_sound g.positions p e (sound_position v parts.0) in
    closes_last more (third_gathering.added g p) first v
    (ap (λ s. s.fault) one ∙ e)
    (ap (λ s. s.first) one ∙ ap (λ o. Some (first_or o p.values)) f)
    (ap (λ s. s.closes) one ∙ ap (λ o. same_values (first_or o p.values) p.values) f) parts.1

closes_agree : (place : ℕ) (v : Tree) (more : List Tree) → is_empty (flat_map position (v ∷ more)) ≡ true →
    (gathered third_gathering position_answer (third_gathering.opened place) (v ∷ more)).positions.closes ≡ agree v (last_of v more)
closes_agree place v more k =
    let parts : (position v ≡ []) × (is_empty (flat_map position more) ≡ true) = empty_front (position v) (flat_map position more) k in
    let p : Position = position_answer v in
    let one = one_more_sound no_positions p refl (sound_position v parts.0) in
    closes_last more (third_gathering.added (third_gathering.opened place) p) p.values v
    (ap (λ s. s.fault) one) (ap (λ s. s.first) one) (ap (λ s. s.closes) one) parts.1 ∙
    same_agree v (last_of v more)

fault_gathered : (place : ℕ) (vs : List Tree) →
    (gathered third_gathering position_answer (third_gathering.opened place) vs).positions.fault ≡ least (flat_map position vs)
fault_gathered place vs =
    gathered_fault third_gathering position_answer (λ g. g.positions.fault) (λ a. a.fault) position
    (λ g a. added_fault g.positions a) position_fault vs (third_gathering.opened place)

unclosed_least : (at place : ℕ) (vs : List Tree) → at ≡ place →
    unclosed_or at (gathered third_gathering position_answer (third_gathering.opened place) vs).positions ≡ least (flat_map position vs ++ unclosed place vs)
unclosed_least at place [] e = refl
unclosed_least at place (v ∷ more) e =
    let g : Line = gathered third_gathering position_answer (third_gathering.opened place) (v ∷ more) in
    one_more_least (flat_map position (v ∷ more)) g.positions.fault g.positions.closes (agree v (last_of v more)) at place e
    (fault_gathered place (v ∷ more)) (closes_agree place v more)

pub ring_least : (v : Tree) → (third_answer v).ring ≡ least (ring v)
ring_least (array place es close) =
    both_least _ _ (few 4 G14 place (items es)) (flat_map position (items es) ++ unclosed place (items es))
    (few_gathered third_gathering position_answer (λ g. g.numbers.tally) (λ g a. refl) 4 (omega arith) G14 place (items es) (third_gathering.opened place) refl)
    (unclosed_least _ place (items es)
    (gathered_place third_gathering position_answer (λ g. g.numbers.tally) (λ g a. refl) (items es) (third_gathering.opened place)))
ring_least _ = refl
