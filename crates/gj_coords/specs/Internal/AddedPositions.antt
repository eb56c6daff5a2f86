-- What is gathered of positions that are reported as arrays of numbers, one after another.
use Rattle.std.specs.Prelude.{◌≡◌, ◌<◌, ℕ, List, [], ◌∷◌}
use Rattle.gj_json.specs.declared.flat.Flat.{Flat}
use Rattle.gj_coords.specs.declared.ring.Positions.{Positions}
use Rattle.gj_coords.specs.declared.walk.Walk.{Walk}
use Rattle.gj_coords.specs.declared.walk.level.Level.{Level}
use Rattle.gj_coords.specs.declared.walk.outermost.Outermost.{Outermost}
use Rattle.gj_coords.specs.declared.warned.Warned.{Warned}
use Rattle.gj_coords.specs.Internal.FlatPosition.{flat_position}
use Rattle.gj_coords.specs.Internal.PositionGather.{sound_noted}
use Rattle.gj_coords.specs.Internal.PositionsGather.{position_added}
use Rattle.gj_coords.specs.Internal.SteadyWalk.{second_steady, first_steady, StaysSteady}

-- in an array of positions
abbrev pub positions_added : Positions → List Flat → Positions
positions_added s [] = s
positions_added s (flat ∷ flats) = positions_added (position_added s (flat_position flat)) flats

-- of those that deserve a warning
abbrev pub all_noted : Warned → List Flat → Warned
all_noted w [] = w
all_noted w (flat ∷ flats) = all_noted (sound_noted w (flat_position flat)) flats

-- by an array that is not the value, where they change no fault
abbrev pub all_steady : Level → List Flat → Level
all_steady h [] = h
all_steady h (flat ∷ flats) = all_steady (second_steady flat h) flats

-- by the value
abbrev pub all_first : Outermost → List Flat → Outermost
all_first g [] = g
all_first g (flat ∷ flats) = all_first (first_steady flat g) flats

-- each after this place
abbrev pub AllAfter : ℕ → List Flat → Type 0
AllAfter floor [] = Unit {0}
AllAfter floor (flat ∷ flats) = (floor < flat.place) × AllAfter floor flats

-- by a walk, which is steady after each
abbrev pub StayAll : ℕ → List Flat → Walk → Walk → Type 0
StayAll floor [] old new = new ≡ old
StayAll floor (flat ∷ flats) old new = (mid : Walk) × StaysSteady floor flat old mid × StayAll floor flats mid new
