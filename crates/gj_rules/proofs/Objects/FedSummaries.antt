-- A summary that has not the whole value goes on with it.
use Rattle.gj_rules.proofs.Common.{Bool, Coordinates, Due, Event, Fed, FramedRules, Holds, HoldsIn, IsTrue, List, Mode, Tree, core_of, false, refl}
use Rattle.gj_rules.proofs.Common.{subst, sym, true, value_events, [], ◌++◌, ◌∙◌, ◌∷◌}
use Rattle.std.proofs.Common.{◌≡◌, ℕ, ◌↔◌, append-nil}
use Rattle.gj_rules.specs.Internal.EventSteps.{ended_as}
use Rattle.gj_coords.specs.declared.coordinates.Coordinates as C
use Rattle.gj_coords.specs.declared.bbox.Bbox.{Bbox}
use Rattle.gj_rules.specs.Internal.Summaries.{StandsForCoordinates}

pub held : (k : ℕ) (m : Mode) (c : C.Coordinates) (bbox : Bbox) (es : List Event) → k ≡ 0 → m ≡ Due Coordinates → HoldsIn k m c bbox es
    → StandsForCoordinates c es
held k m c bbox es a b h = rw (a, b) at h

lost : (b : Bool) → b ≡ false → IsTrue b → ⊥
lost true e i = cc
lost false e i = cc

pub held_now : (k : ℕ) (m : Mode) (c : C.Coordinates) (bbox : Bbox) (es : List Event) → k ≡ 0 → m ≡ Due Coordinates → StandsForCoordinates c es
    → HoldsIn k m c bbox es
held_now k m c bbox es a b h = rw (a, b) h

pub not_whole : {frames : ℕ} (old new : FramedRules frames) (v : Tree) (taken events left : List Event) (done : Bool) → old.skipped ≡ 0
    → old.mode ≡ Due Coordinates
    → new.skipped ≡ 0 → new.mode ≡ Due Coordinates → core_of new ≡ core_of old
    → (StandsForCoordinates old.coordinates taken → StandsForCoordinates new.coordinates (taken ++ events))
    → done ≡ false → (StandsForCoordinates new.coordinates (taken ++ events) → IsTrue done ↔ (left ≡ [])) → Holds old taken
    → Fed old v (taken ++ events) left new
not_whole old new v taken events [] done a b k m e t f d h =
    absurd (lost done f ((d (t (held old.skipped old.mode old.coordinates old.bbox taken a b h))).1 refl))
not_whole old new v taken events (y ∷ ys) done a b k m e t f d h =
    (e, held_now new.skipped new.mode new.coordinates new.bbox (taken ++ events) k m (t (held old.skipped old.mode old.coordinates old.bbox taken a b h)))

pub whole : {frames : ℕ} (old new : FramedRules frames) (c : C.Coordinates) (v : Tree) (taken events left : List Event) (done : Bool) → old.skipped ≡ 0
    → old.mode ≡ Due Coordinates
    → (StandsForCoordinates old.coordinates taken → StandsForCoordinates c (taken ++ events))
    → done ≡ true → (StandsForCoordinates c (taken ++ events) → IsTrue done ↔ (left ≡ [])) → Holds old taken
    → (taken ++ events) ++ left ≡ value_events v
    → (StandsForCoordinates c (value_events v) → core_of new ≡ ended_as Coordinates v (core_of old))
    → Fed old v (taken ++ events) left new
whole old new c v taken events [] done a b t f d h e k =
    let s : StandsForCoordinates c (taken ++ events) = t (held old.skipped old.mode old.coordinates old.bbox taken a b h) in
    let p : taken ++ events ≡ value_events v = sym (append-nil (taken ++ events)) ∙ e in
    rw b (k (subst (StandsForCoordinates c) p s))
whole old new c v taken events (y ∷ ys) done a b t f d h e k =
    let q : y ∷ ys ≡ [] = (d (t (held old.skipped old.mode old.coordinates old.bbox taken a b h))).0 f in
    absurd cc
