-- Where a walk is steady, it is so after a position that is reported as one, at each depth.
use Rattle.gj_coords.proofs.Common.{First, Flat, IsCounted, Level, Outermost, Second, StayAll, Third, ap, first_steady, in_first, in_second, in_third}
use Rattle.gj_coords.proofs.Common.{second_steady, subst, ◌∙◌}
use Rattle.std.proofs.Common.{◌≡◌, ℕ, ◌<◌, List, [], ◌∷◌, refl}
use Rattle.gj_coords.specs.declared.walk.Depth.{Depth}
use Rattle.gj_coords.specs.declared.walk.Walk.{Walk}
use Rattle.gj_coords.specs.Internal.AddedPositions.{all_steady, all_first, AllAfter}
use Rattle.gj_coords.specs.Internal.LevelGather.{line_of}
use Rattle.gj_coords.specs.Internal.SteadyWalk.{IsSteady, IsSteadyAt, IsSteadyFirst, IsSteadySecond, IsSettled, StaysSteady}
use Rattle.gj_coords.proofs.Walks.FlatLaws.{flat_in_first, flat_in_second, flat_in_third}
use Rattle.gj_coords.proofs.Walks.SteadyLaws.{first_kept, second_kept, third_kept, first_still, second_still, third_still}

-- at a number of open arrays
pub innermost_at : (depth : Depth) (floor : ℕ) (s : Walk) → s.depth ≡ depth → IsSteady floor s → IsSteadyAt depth floor s
innermost_at depth floor s e k = subst (λ d. IsSteadyAt d floor s) e k.innermost

-- ---- after one

pub stays_first : (floor : ℕ) (f : Flat) (s : Walk) (next : Outermost) → s.depth ≡ First → (IsCounted s.outer.numbers → next ≡ first_steady f s.outer)
    → IsSteady floor s → floor < f.place → StaysSteady floor f s (record s { outer = next })
stays_first floor f s next at is k past =
    let old : IsSteadyFirst floor s.outer = innermost_at First floor s at k in
    record {
      leads = rw (k.is_open, at, is old.settled.counted) (flat_in_first f s.outer ∙ ap in_first (first_kept floor f s.outer old past));
      steady = record { is_open = k.is_open; innermost = rw (at, is old.settled.counted) (first_still floor f s.outer old) };
    }

pub stays_second : (floor : ℕ) (f : Flat) (s : Walk) (next : Level) → s.depth ≡ Second → (IsCounted s.middle.numbers → next ≡ second_steady f s.middle)
    → IsSteady floor s → floor < f.place → StaysSteady floor f s (record s { middle = next })
stays_second floor f s next at is k past =
    let old : IsSteadySecond floor s.middle = innermost_at Second floor s at k in
    record {
      leads = rw (k.is_open, at, is old.settled.counted) (flat_in_second f s.outer s.middle ∙ ap (in_second s.outer) (second_kept floor f s.middle old past));
      steady = record { is_open = k.is_open; innermost = rw (at, is old.settled.counted) (second_still floor f s.middle old) };
    }

pub stays_third : (floor : ℕ) (f : Flat) (s : Walk) (next : Level) → s.depth ≡ Third → (IsCounted s.inner.numbers → next ≡ second_steady f s.inner)
    → IsSteady floor s → floor < f.place → StaysSteady floor f s (record s { inner = next })
stays_third floor f s next at is k past =
    let old : IsSettled floor s.inner.numbers = innermost_at Third floor s at k in
    record {
      leads = rw (k.is_open, at, is old.counted)
          (flat_in_third f s.outer s.middle (line_of s.inner) ∙ ap (in_third s.outer s.middle) (third_kept floor f (line_of s.inner) old past));
      steady = record { is_open = k.is_open; innermost = rw (at, is old.counted) (third_still floor f s.inner old) };
    }

-- ---- after several

pub stay_first : (floor : ℕ) (fs : List Flat) (s : Walk) → s.depth ≡ First → IsSteady floor s → AllAfter floor fs
    → StayAll floor fs s (record s { outer = all_first s.outer fs })
stay_first floor [] s at k past = refl
stay_first floor (f ∷ fs) s at k past =
    let next = first_steady f s.outer in
    let one = stays_first floor f s next at (λ _. refl) k past.0 in
    (record s { outer = next }, one, stay_first floor fs (record s { outer = next }) at one.steady past.1)

pub stay_second : (floor : ℕ) (fs : List Flat) (s : Walk) → s.depth ≡ Second → IsSteady floor s → AllAfter floor fs
    → StayAll floor fs s (record s { middle = all_steady s.middle fs })
stay_second floor [] s at k past = refl
stay_second floor (f ∷ fs) s at k past =
    let next = second_steady f s.middle in
    let one = stays_second floor f s next at (λ _. refl) k past.0 in
    (record s { middle = next }, one, stay_second floor fs (record s { middle = next }) at one.steady past.1)

pub stay_third : (floor : ℕ) (fs : List Flat) (s : Walk) → s.depth ≡ Third → IsSteady floor s → AllAfter floor fs
    → StayAll floor fs s (record s { inner = all_steady s.inner fs })
stay_third floor [] s at k past = refl
stay_third floor (f ∷ fs) s at k past =
    let next = second_steady f s.inner in
    let one = stays_third floor f s next at (λ _. refl) k past.0 in
    (record s { inner = next }, one, stay_third floor fs (record s { inner = next }) at one.steady past.1)
