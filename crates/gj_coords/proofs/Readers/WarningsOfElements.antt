-- What a gathering of warnings says of its elements, and of the linear rings of a polygon.
use Rattle.gj_coords.proofs.Common.{Concern, Elements, Fault, G14, Gathering, Tree, W2, Warned, Warning, Warnings, all_in, ap, arith, array, each}
use Rattle.gj_coords.proofs.Common.{elements_of, flat_map, gathered, items, joined_none_first, least, place_of, position, position_answer}
use Rattle.gj_coords.proofs.Common.{position_warned, position_warnings, ring, ring_turn, role_behind, sent, sym}
use Rattle.gj_coords.proofs.Common.{taken_is, third_answer, third_gathering, ◌&&◌, ◌∙◌}
use Rattle.std.specs.Prelude.{is_none, ⊤}
use Rattle.std.proofs.Common.{◌≡◌, ℕ, zero, suc, ◌<◌, ◌^◌, List, [], ◌∷◌, ◌++◌, length, Option, Bool, true, false, refl, nat_lt}
use Rattle.std.proofs.Common.{if◌then◌else◌}
use Rattle.gj_coords.specs.Internal.RingWarnings.{added_warned, ring_turns}
use Rattle.gj_coords.specs.declared.ring.RingRole.{RingRole}
use Rattle.gj_coords.specs.declared.ring.RingRole.TheVariants.{Exterior, Hole}
use Rattle.gj_coords.specs.declared.winding.Turn.{Turn}
use Rattle.gj_coords.specs.Shape.{few, is_empty, unclosed}
use Rattle.gj_coords.specs.CoordinateWarnings.{warned_if, rings_warnings}
use Rattle.gj_coords.specs.Internal.ElementCount.{one_counted}
use Rattle.gj_coords.specs.Internal.KeptWarnings.{warnings_of, no_warnings, joined}
use Rattle.gj_coords.specs.Internal.GatheredWarnings.{noted_when}
use Rattle.gj_coords.specs.Internal.PositionsGather.{runs_wrong, ring_noted}
use Rattle.gj_coords.specs.Internal.RingLaws.{is_some_lesser, empty_front}
use Rattle.gj_coords.specs.Internal.WarningLaws.{warnings_of_none, joined_step}
use Rattle.gj_coords.specs.Internal.GatheredWarningLaws.{none_more, noted_when_is}
use Rattle.gj_coords.proofs.Readers.EventCounts.{length_below, total, total_below}

-- a value whose events are fewer than 2^64
abbrev pub IsShort : Tree → Type 0
IsShort v = length (sent v) < 2 ^ 64

pub elements_short : (place : ℕ) (es : Elements) (close : ℕ) → IsShort (array place es close) → total (items es) < 2 ^ 64
elements_short place es close short = let h = total_below place es close in omega arith

pub none_of : no_warnings ≡ warnings_of []
none_of = sym warnings_of_none

-- ---- elements that are all of one concern

module _ {G A B : Type 0} (r : Gathering G A B) (meaning : Tree → A) (warned : G → Warned) (concern : Concern) (Holds : G → Type 0) where
  pub gathered_warned : ((g : G) (a : A) → Holds g → Holds (r.added g a)) →
      ((g : G) (v : Tree) → Holds g → IsShort v → all_in (warned (r.added g (meaning v))) ≡ joined (all_in (warned g)) (warnings_of (concern v))) →
      (vs : List Tree) (g : G) → Holds g → total vs < 2 ^ 64 →
      all_in (warned (gathered r meaning g vs)) ≡ joined (all_in (warned g)) (warnings_of (flat_map concern vs))
  gathered_warned keeps step [] g holds few = none_more (all_in (warned g))
  gathered_warned keeps step (v ∷ more) g holds few =
      joined_step (all_in (warned g)) (warnings_of (concern v)) (concern v) (flat_map concern more) _
      (gathered_warned keeps step more (r.added g (meaning v)) (keeps g (meaning v) holds) (omega arith) ∙
      ap (λ x. joined x (warnings_of (flat_map concern more))) (step g v holds (omega arith)))
      refl

-- joined to none
pub from_none : (a b : Warnings) (warnings : List Warning) → a ≡ joined b (warnings_of warnings) → b ≡ no_warnings → a ≡ warnings_of warnings
from_none a b warnings h k = h ∙ (ap (λ x. joined x (warnings_of warnings)) k ∙ joined_none_first (warnings_of warnings))

-- those of an array, whatever else is gathered
pub elements_warned : {G A B : Type 0} (r : Gathering G A B) (meaning : Tree → A) (warned : G → Warned) (concern : Concern) →
    ((g : G) (v : Tree) → IsShort v → all_in (warned (r.added g (meaning v))) ≡ joined (all_in (warned g)) (warnings_of (concern v))) →
    (place : ℕ) (es : Elements) (close : ℕ) → IsShort (array place es close) → all_in (warned (r.opened place)) ≡ no_warnings →
    all_in (warned (gathered r meaning (r.opened place) (items es))) ≡ warnings_of (flat_map concern (items es))
elements_warned r meaning warned concern step place es close short none =
    from_none _ (all_in (warned (r.opened place))) (flat_map concern (items es))
    (gathered_warned r meaning warned concern (λ g. ⊤) (λ g a t. t) (λ g v t few. step g v few)
    (items es) (r.opened place) tt (elements_short place es close short))
    none

-- ---- a linear ring

-- a sound ring has sound positions
pub sound_positions : (place : ℕ) (vs : List Tree) → is_empty (few 4 G14 place vs ++ (flat_map position vs ++ unclosed place vs)) ≡ true →
    is_empty (flat_map position vs) ≡ true
sound_positions place vs h =
    let behind : is_empty (flat_map position vs ++ unclosed place vs) ≡ true =
    (empty_front (few 4 G14 place vs) (flat_map position vs ++ unclosed place vs) h).1 in
    ap is_empty (empty_front (flat_map position vs) (unclosed place vs) behind).0

-- how its positions run, and what they warn of
pub ring_turned : (v : Tree) → IsShort v → is_empty (ring v) ≡ true → (third_answer v).turn ≡ ring_turn (elements_of v)
ring_turned (array place es close) short sound =
    let count = elements_short place es close short in
    let long = length_below (items es) in
    ring_turns place (items es) (sound_positions place (items es) sound) (omega arith)
ring_turned _ short sound = cc

pub ring_positions : (v : Tree) → IsShort v → all_in (third_answer v).warned ≡ warnings_of (each position_warnings v)
ring_positions (array place es close) short =
    elements_warned third_gathering position_answer (λ g. g.positions.warned) position_warnings
    (λ g v few. ap all_in (added_warned g.positions (position_answer v)) ∙ position_warned g.positions.warned v) place es close short refl
ring_positions _ short = none_of

abbrev pub ring_warnings : RingRole → Concern
ring_warnings role v = warned_if (is_empty (ring v) && runs_wrong role (ring_turn (elements_of v))) (place_of v) W2 ++ each position_warnings v

same_test : (faults : List Fault) (fault : Option Fault) (role : RingRole) (turn other : Turn) → fault ≡ least faults →
    (is_empty faults ≡ true → turn ≡ other) → (is_none fault && runs_wrong role turn) ≡ (is_empty faults && runs_wrong role other)
same_test [] fault role turn other e h = ap (λ o. is_none o && runs_wrong role turn) e ∙ ap (runs_wrong role) (h refl)
same_test (x ∷ xs) fault role turn other e h =
    ap (λ o. is_none o && runs_wrong role turn) e ∙ ap (λ b. b && runs_wrong role turn) (is_some_lesser x (least xs))

-- what a value adds as a linear ring
pub ring_warned : (role : RingRole) (w : Warned) (place : ℕ) (fault : Option Fault) (turn : Turn) (positions : Warned) (v : Tree) →
    place ≡ place_of v → fault ≡ least (ring v) → (is_empty (ring v) ≡ true → turn ≡ ring_turn (elements_of v)) →
    all_in positions ≡ warnings_of (each position_warnings v) →
    all_in (ring_noted role w place fault turn positions) ≡ joined (all_in w) (warnings_of (ring_warnings role v))
ring_warned role w place fault turn positions v e f h k =
    let wrong : Bool = is_none fault && runs_wrong role turn in
    let right : Bool = is_empty (ring v) && runs_wrong role (ring_turn (elements_of v)) in
    let ws : List Warning = warned_if right (place_of v) W2 in
    joined_step (all_in w) (warnings_of ws) ws (each position_warnings v) _
    (taken_is (noted_when wrong w W2 place) positions ∙
    (ap (joined (all_in (noted_when wrong w W2 place))) k ∙
    ap (λ x. joined x (warnings_of (each position_warnings v)))
    (noted_when_is wrong w W2 place ∙
    (ap (λ b. joined (all_in w) (warnings_of (warned_if b place W2))) (same_test (ring v) fault role turn (ring_turn (elements_of v)) f h) ∙
    ap (λ at. joined (all_in w) (warnings_of (warned_if right at W2))) e))))
    refl

-- ---- the linear rings of a polygon

by_count : (more : Bool) (n : ℕ) → role_behind (if more then suc (suc n) else suc n) ≡ Hole
by_count true n = refl
by_count false n = refl

still_hole : (c : ℕ) → role_behind c ≡ Hole → role_behind (one_counted c) ≡ Hole
still_hole zero h = cc
still_hole (suc n) h = by_count (nat_lt (suc n) 4) n

module _ {G A B : Type 0} (r : Gathering G A B) (meaning : Tree → A) (warned : G → Warned) (count : G → ℕ) where
  pub gathered_rings : ((g : G) (a : A) → count (r.added g a) ≡ one_counted (count g)) →
      ((g : G) (v : Tree) → IsShort v →
      all_in (warned (r.added g (meaning v))) ≡ joined (all_in (warned g)) (warnings_of (ring_warnings (role_behind (count g)) v))) →
      (vs : List Tree) (g : G) → count g ≡ 0 → all_in (warned g) ≡ no_warnings → total vs < 2 ^ 64 →
      all_in (warned (gathered r meaning g vs)) ≡ warnings_of (rings_warnings vs)
  gathered_rings counts step [] g start none few = none ∙ sym warnings_of_none
  gathered_rings counts step (v ∷ more) g start none few =
      from_none _ (all_in (warned g)) (rings_warnings (v ∷ more))
      (joined_step (all_in (warned g)) (warnings_of (ring_warnings Exterior v)) (ring_warnings Exterior v) (flat_map (ring_warnings Hole) more) _
      (gathered_warned r meaning warned (ring_warnings Hole) (λ h. role_behind (count h) ≡ Hole)
      (λ h a hole. ap role_behind (counts h a) ∙ still_hole (count h) hole)
      (λ h u hole short. step h u short ∙ ap (λ role. joined (all_in (warned h)) (warnings_of (ring_warnings role u))) hole)
      more (r.added g (meaning v)) (ap role_behind (counts g (meaning v) ∙ ap one_counted start)) (omega arith) ∙
      ap (λ x. joined x (warnings_of (flat_map (ring_warnings Hole) more)))
      (step g v (omega arith) ∙ ap (λ c. joined (all_in (warned g)) (warnings_of (ring_warnings (role_behind c) v))) start))
      refl)
      none
