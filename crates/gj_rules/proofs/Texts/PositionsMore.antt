-- What a call leaves stands for the events of arrays of two numbers more, of which none ends the value.
use Rattle.gj_rules.proofs.Common.{Coordinates, Due, Event, Flat, FramedRules, List, Stands, State, ap, arith, core_of, false, flats_events}
use Rattle.gj_rules.proofs.Common.{is_feeding, refl, run, start, subst, sym, true, [], ◌++◌, ◌∙◌, ◌∷◌}
use Rattle.std.proofs.Common.{◌≡◌, ℕ, append-nil}
use Rattle.gj_json.specs.CutPosition.{AreCutPositions}
use Rattle.gj_coords.specs.Coordinates.{NoneEnds}
use Rattle.gj_rules.specs.Rules.{StandsFor}
use Rattle.gj_rules.specs.Internal.RulesState.{FeedsMany}
use Rattle.gj_rules.specs.Internal.Summaries.{StandsForCoordinates}
use Rattle.gj_rules.proofs.Objects.FedSummaries.{held, held_now, not_whole}
use Rattle.gj_rules.proofs.Texts.OneFlatMore.{events_told, within_values, last_goes_on}

module _ {frames : ℕ} (old new : FramedRules frames) (a : old.skipped ≡ 0) (b : old.mode ≡ Due Coordinates) (k : new.skipped ≡ 0)
    (m : new.mode ≡ Due Coordinates) (e : core_of new ≡ core_of old) where
  none_told : (s : State) → ((events : List Event) → StandsForCoordinates old.coordinates events → StandsForCoordinates new.coordinates (events ++ []))
      → Stands old s → Stands new s
  none_told s t h =
      let taken = s.feed.taken in
      let stands = t taken (held old.skipped old.mode old.coordinates old.bbox taken a b h.1) in
      (e ∙ h.0, held_now new.skipped new.mode new.coordinates new.bbox taken k m (subst (StandsForCoordinates new.coordinates) (append-nil taken) stands))

  pub positions_told : (flats : List Flat)
      → ((events : List Event) → StandsForCoordinates old.coordinates events → StandsForCoordinates new.coordinates (events ++ flats_events flats))
      → ((events : List Event) → StandsForCoordinates old.coordinates events → NoneEnds events flats) → (events : List Event) → StandsFor old events
      → StandsFor new (events ++ flats_events flats)
  positions_told [] t on events h = λ text done rest p q deep. none_told (run done start) t (h text done rest p (q ∙ append-nil events) deep)
  positions_told (f ∷ fs) t on events h =
      let es = flats_events (f ∷ fs) in
      let feeds : is_feeding old.skipped old.mode ≡ true = rw (a, b) refl in
      let many : FeedsMany old es new = λ v taken left deep holds joined.
      let stands = held old.skipped old.mode old.coordinates old.bbox taken a b holds in
      not_whole old new v taken es left false a b k m e (t taken) refl
      (λ s. (
        λ yes. cc,
        λ nothing. absurd (last_goes_on taken f fs (on taken stands) v (omega arith)
            (sym (append-nil (taken ++ es)) ∙ ap (λ (ys : List Event). (taken ++ es) ++ ys) (sym nothing) ∙ joined)),
      )) holds in
      events_told old new es feeds many (λ nothing. cc)
      (λ v taken left front bs next later deep holds l s joined.
      within_values (f ∷ fs) v taken left front bs next later (omega arith)
      (on taken (held old.skipped old.mode old.coordinates old.bbox taken a b holds)) l s joined)
      events h

-- no array is taken
pub none_more : (heard : List Event → Type 0) (flats : List Flat) → AreCutPositions [] flats → (events : List Event) → heard events
    → heard (events ++ flats_events flats)
none_more heard [] are events h = subst heard (sym (append-nil events)) h
none_more heard (f ∷ fs) are events h = absurd are
