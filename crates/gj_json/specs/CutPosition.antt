-- Positions that are reported as their cut values: which arrays of numbers they stand for, and the events of those.
use Rattle.std.specs.Prelude.{◌≡◌, ◌+◌, ◌<◌, ◌≤◌, ℕ, List, [], ◌∷◌, ◌++◌, IfSome}
use Rattle.gj_number.specs.Cuts.{IsCut}
use Rattle.gj_json.specs.declared.event.Event.{Event}
use Rattle.gj_json.specs.declared.flat.Flat.{Flat}
use Rattle.gj_json.specs.declared.cut_position.CutPosition.{CutPosition}
use Rattle.gj_json.specs.Flat.{flat_events}

-- The array has two numbers with these cut values, at these places, and no third one or one that is written with at most
-- seven places.
pub record IsCutPosition (position : CutPosition) (flat : Flat) : Type 0 where
  pub place : flat.place ≡ position.place
  pub first_place : flat.first.place ≡ position.place + position.first_at
  pub after : 0 < position.first_at
  pub second_place : flat.second.place ≡ position.place + position.second_at
  pub close : flat.close ≡ position.place + position.close_at
  pub third : IfSome flat.third (λ number. number.value.places ≤ 7)
  pub first : IsCut flat.first.value (record { value = position.first; precise = position.first_precise })
  pub second : IsCut flat.second.value (record { value = position.second; precise = position.second_precise })

-- as many arrays, each with the cut values of one
abbrev pub AreCutPositions : List CutPosition → List Flat → Type 0
AreCutPositions [] [] = Unit {0}
AreCutPositions (position ∷ positions) (flat ∷ flats) = IsCutPosition position flat × AreCutPositions positions flats
AreCutPositions _ _ = ⊥

-- the events of arrays, one after another
abbrev pub flats_events : List Flat → List Event
flats_events [] = []
flats_events (flat ∷ flats) = flat_events flat ++ flats_events flats

-- each stands after the one before, the first after this place
abbrev pub RiseAfter : ℕ → List CutPosition → Type 0
RiseAfter place [] = Unit {0}
RiseAfter place (position ∷ positions) = (place < position.place) × RiseAfter position.place positions

-- each stands after the one before
abbrev pub Rise : List CutPosition → Type 0
Rise [] = Unit {0}
Rise (position ∷ positions) = RiseAfter position.place positions
