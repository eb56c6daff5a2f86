-- What the reader of some positions reports of them: what is worth a warning, and how they run as a linear ring.
use Rattle.std.specs.Prelude.{◌≡◌, ◌<◌, ◌^◌, List, [], ◌∷◌, Option, Some, None, true, refl, map, length}
use Rattle.std.specs.List.{flat_map}
use Rattle.std.proofs.Common.{◌∙◌, ap}
use Rattle.gj_json.specs.Tree.{Tree}
use Rattle.gj_coords.specs.declared.fault.Fault.{Fault}
use Rattle.gj_coords.specs.Internal.PositionGather.{Position}
use Rattle.gj_coords.specs.declared.ring.Positions.{Positions}
use Rattle.gj_coords.specs.Internal.LevelGather.{Line, third_gathering}
use Rattle.gj_coords.specs.Shape.{is_empty, position}
use Rattle.gj_coords.specs.Winding.{cut_position, ring_turn}
use Rattle.gj_coords.specs.Internal.WindingGather.{winding_added, all_added, turn_in}
use Rattle.gj_coords.specs.Internal.Gathering.{gathered}
use Rattle.gj_coords.specs.Internal.PositionGather.{position_answer, sound_noted, judged_noted}
use Rattle.gj_coords.specs.Internal.PositionsGather.{sound_added, judged_added, position_added}
use Rattle.gj_coords.specs.Internal.RingLaws.{empty_front, one_more_sound, sound_position}
use Rattle.gj_coords.specs.Internal.WindingLaws.{answered_corner, positions_turn}

-- ---- what a position adds to the warnings

sound_warned : (before : Option Fault) (s : Positions) (p : Position) → (sound_added before s p).warned ≡ sound_noted s.warned p
sound_warned None s p = refl
sound_warned (Some before) s p = refl

judged_warned : (fault : Option Fault) (s : Positions) (p : Position) → (judged_added fault s p).warned ≡ judged_noted fault s.warned p
judged_warned None s p = sound_warned s.fault s p
judged_warned (Some fault) s p = refl

pub added_warned : (s : Positions) (p : Position) → (position_added s p).warned ≡ judged_noted p.fault s.warned p
added_warned s p = judged_warned p.fault s p

-- ---- where no position has a fault, all are added to the winding

winding_gathered : (vs : List Tree) (g : Line) → g.positions.fault ≡ None → is_empty (flat_map position vs) ≡ true →
    (gathered third_gathering position_answer g vs).positions.winding ≡ all_added g.positions.winding (map cut_position vs)
winding_gathered [] g e k = refl
winding_gathered (v ∷ more) g e k =
    let parts : (position v ≡ []) × (is_empty (flat_map position more) ≡ true) = empty_front (position v) (flat_map position more) k in
    let p : Position = position_answer v in
    let one = one_more_sound g.positions p e (sound_position v parts.0) in
    winding_gathered more (third_gathering.added g p) (ap (λ s. s.fault) one ∙ e) parts.1 ∙
    ap (λ w. all_added w (map cut_position more)) (ap (λ s. s.winding) one ∙ ap (winding_added g.positions.winding) (answered_corner v))

-- how they run
pub ring_turns : (place : _) (vs : List Tree) → is_empty (flat_map position vs) ≡ true → length vs < 2 ^ 64 →
    turn_in (gathered third_gathering position_answer (third_gathering.opened place) vs).positions.winding ≡ ring_turn vs
ring_turns place vs k few = ap turn_in (winding_gathered vs (third_gathering.opened place) refl k) ∙ positions_turn vs few
