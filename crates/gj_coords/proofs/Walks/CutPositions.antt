-- Positions that come as their cut values are added as their arrays of numbers are.
use Rattle.gj_coords.proofs.Common.{AreCutPositions, Corner, Flat, IsCutPosition, Level, Outermost, Values, Warned, ap, arith, arrays_counted}
use Rattle.gj_coords.proofs.Common.{counted_noted, first_steady, flat_position, position_added, precise_noted, second_steady, sound_noted, subst, sym}
use Rattle.gj_coords.proofs.Common.{take, ◌∙◌}
use Rattle.std.proofs.Common.{◌≡◌, ℕ, zero, suc, ◌+◌, ◌<◌, ◌≤◌, List, [], ◌∷◌, ◌++◌, length, slice_index_or, Bool, true, false}
use Rattle.std.proofs.Common.{Some, None, refl}
use Rattle.std.proofs.lemmas.Bool.Decides.{Decides-eqb, Decides-and}
use Rattle.std.proofs.lemmas.List.{length-take-le}
use Rattle.gj_json.specs.declared.cut_position.CutPosition.{CutPosition}
use Rattle.gj_json.specs.CutPosition.{RiseAfter, Rise}
use Rattle.gj_coords.specs.declared.cuts.AddedCuts.{AddedCuts}
use Rattle.gj_coords.specs.declared.cuts.PreciseNumbers.{PreciseNumbers}
use Rattle.gj_coords.specs.declared.ring.Positions.{Positions}
use Rattle.gj_coords.specs.declared.winding.Winding.{Winding}
use Rattle.gj_coords.specs.Winding.{corner_of}
use Rattle.gj_coords.specs.Internal.AddedPositions.{positions_added, all_noted, all_steady, all_first, AllAfter}
use Rattle.gj_coords.specs.Internal.CutPositionGather.{HasCounted, IsAdded}
use Rattle.gj_coords.specs.Internal.FlatPosition.{flat_values}
use Rattle.gj_coords.specs.Internal.PositionGather.{corner_in, same_values}
use Rattle.gj_coords.specs.Internal.WindingGather.{winding_added, with_sum}
use Rattle.gj_coords.proofs.Readers.AgreeingPositions.{option_decides}

-- the same values have the same corner
same_corner : (a b : Values) → same_values a b ≡ true → corner_in a ≡ corner_in b
same_corner a b same =
    let d = Decides-and _ _ (Decides-eqb a.count b.count) (Decides-and _ _ (option_decides a.first b.first)
    (Decides-and _ _ (option_decides a.second b.second) (option_decides a.third b.third))) in
    let p = d.0 same in
    (λ i. corner_of (p.1.0 i) (p.1.1.0 i))

differ : (a b : Values) → (corner_in a ≡ corner_in b → ⊥) → same_values a b ≡ false
differ a b other = go (same_values a b) refl
  where
    go : (same : Bool) → same_values a b ≡ same → same ≡ false
    go false e = refl
    go true e = absurd (other (same_corner a b e))

some_same : (a b : Corner) → Some a ≡ Some b → a ≡ b
some_same a b e = cc

pub cut_added : (s : Positions) (flat : Flat) (first : Values) (corner : Corner) (winding : Winding) (warned : Warned) → s.fault ≡ None → s.first ≡ Some first
    → corner_in (flat_values flat) ≡ Some corner → (corner_in first ≡ Some corner → ⊥) → winding ≡ winding_added s.winding (Some corner)
    → warned ≡ sound_noted s.warned (flat_position flat)
    → record { first = s.first; winding = winding; warned = warned; fault = s.fault; closes = false } ≡ position_added s (flat_position flat)
cut_added s flat first corner winding warned sound begun at other runs notes =
    let apart : same_values first (flat_values flat) ≡ false = differ first (flat_values flat) (λ e. other (e ∙ at)) in
    rw (sound, begun, runs, notes) (λ i. record {
      first = Some first;
      winding = winding_added s.winding (sym at i);
      warned = sound_noted s.warned (flat_position flat);
      fault = None;
      closes = sym apart i;
    })

-- ---- what a loop has added

abbrev pub closes_after : ℕ → Bool → Bool
closes_after zero closes = closes
closes_after (suc n) closes = false

-- to these positions, by how many it has taken
abbrev pub with_cuts : Positions → ℕ → AddedCuts → Positions
with_cuts s at added = record s {
  winding = with_sum s.winding added.sum;
  warned = precise_noted s.warned (counted_noted added.precise);
  closes = closes_after at s.closes;
}

one_cut_more : (s : Positions) (at : ℕ) (flat : Flat) (first : Values) (start : Corner) (old new : AddedCuts) → s.fault ≡ None → s.first ≡ Some first
    → corner_in first ≡ Some start → IsAdded flat start old new → with_cuts s (suc at) new ≡ position_added (with_cuts s at old) (flat_position flat)
one_cut_more s at flat first start old new sound begun at_start is =
    cut_added (with_cuts s at old) flat first is.corner (with_sum s.winding new.sum) (precise_noted s.warned (counted_noted new.precise)) sound begun
    is.in_range (λ e. is.apart (some_same start is.corner (sym at_start ∙ e))) (ap (with_sum s.winding) is.sum) (is.counted s.warned)

-- what is written back is that
pub cuts_written : (s : Positions) (at : ℕ) (added : AddedCuts) (winding : Winding) (warned : Warned) → 0 < at → winding ≡ with_sum s.winding added.sum
    → warned ≡ precise_noted s.warned (counted_noted added.precise)
    → record { first = s.first; winding = winding; warned = warned; fault = s.fault; closes = false } ≡ with_cuts s at added
cuts_written s zero added winding warned some runs notes = absurd (omega (arith, some))
cuts_written s (suc n) added winding warned some runs notes =
    (λ i. record { first = s.first; winding = runs i; warned = notes i; fault = s.fault; closes = false })

-- ---- one more

-- the last of so many
pub record IsMore (ps : List CutPosition) (d : CutPosition) (k : ℕ) (flats : List Flat) : Type 0 where
  pub before : List Flat
  pub last : Flat
  pub joined : flats ≡ before ++ last ∷ []
  pub are : AreCutPositions (take k ps) before
  pub is : IsCutPosition (slice_index_or ps k d) last

more_of : (ps : List CutPosition) (d : CutPosition) (k : ℕ) (flats : List Flat) → k < length ps → AreCutPositions (take (suc k) ps) flats
    → IsMore ps d k flats
more_of [] d k flats less are = absurd (omega (arith, less))
more_of (p ∷ ps) d k [] less are = absurd are
more_of (p ∷ ps) d zero (f ∷ []) less are = record { before = []; last = f; joined = refl; are = tt; is = are.0 }
more_of (p ∷ ps) d zero (f ∷ g ∷ fs) less are = absurd are.1
more_of (p ∷ ps) d (suc k) (f ∷ fs) less are =
    let m = more_of ps d k fs (omega (arith, less)) are.1 in
    record { before = f ∷ m.before; last = m.last; joined = ap (λ xs. f ∷ xs) m.joined; are = (are.0, m.are); is = m.is }

added_more : (fs : List Flat) (f : Flat) (s : Positions) → positions_added s (fs ++ f ∷ []) ≡ position_added (positions_added s fs) (flat_position f)
added_more [] f s = refl
added_more (g ∷ fs) f s = added_more fs f (position_added s (flat_position g))

noted_more : (fs : List Flat) (f : Flat) (w : Warned) → all_noted w (fs ++ f ∷ []) ≡ sound_noted (all_noted w fs) (flat_position f)
noted_more [] f w = refl
noted_more (g ∷ fs) f w = noted_more fs f (sound_noted w (flat_position g))

-- so a loop adds one more to what it has added
pub cuts_more : (s : Positions) (ps : List CutPosition) (d : CutPosition) (at : ℕ) (first : Values) (start : Corner) (old new : AddedCuts) → at < length ps
    → s.fault ≡ None → s.first ≡ Some first → corner_in first ≡ Some start
    → ((flat : Flat) → IsCutPosition (slice_index_or ps at d) flat → IsAdded flat start old new)
    → ((flats : List Flat) → AreCutPositions (take at ps) flats → with_cuts s at old ≡ positions_added s flats)
    → (flats : List Flat) → AreCutPositions (take (at + 1) ps) flats → with_cuts s (at + 1) new ≡ positions_added s flats
cuts_more s ps d at first start old new less sound begun at_start one all flats are =
    let e : at + 1 ≡ suc at = omega arith in
    let P : ℕ → Type 0 = λ n. AreCutPositions (take n ps) flats in
    let m = more_of ps d at flats less (subst P e are) in
    ap (λ n. with_cuts s n new) e ∙ one_cut_more s at m.last first start old new sound begun at_start (one m.last m.is)
    ∙ ap (λ x. position_added x (flat_position m.last)) (all m.before m.are) ∙ sym (added_more m.before m.last s) ∙ ap (positions_added s) (sym m.joined)

-- and counts the numbers of one more
pub counts_more : (w : Warned) (ps : List CutPosition) (d : CutPosition) (at : ℕ) (old new : PreciseNumbers) → at < length ps
    → ((flat : Flat) → IsCutPosition (slice_index_or ps at d) flat → HasCounted flat old new)
    → ((flats : List Flat) → AreCutPositions (take at ps) flats → precise_noted w (counted_noted old) ≡ all_noted w flats)
    → (flats : List Flat) → AreCutPositions (take (at + 1) ps) flats → precise_noted w (counted_noted new) ≡ all_noted w flats
counts_more w ps d at old new less one all flats are =
    let e : at + 1 ≡ suc at = omega arith in
    let P : ℕ → Type 0 = λ n. AreCutPositions (take n ps) flats in
    let m = more_of ps d at flats less (subst P e are) in
    one m.last m.is w ∙ ap (λ v. sound_noted v (flat_position m.last)) (all m.before m.are) ∙ sym (noted_more m.before m.last w)
    ∙ ap (all_noted w) (sym m.joined)

-- ---- by the arrays around them

-- as many as there are cut values
pub as_many : (ps : List CutPosition) (k : ℕ) (flats : List Flat) → k ≤ length ps → AreCutPositions (take k ps) flats → length flats ≡ k
as_many ps k flats few are = go (take k ps) flats are ∙ length-take-le k ps few
  where
    go : (ps : List CutPosition) (flats : List Flat) → AreCutPositions ps flats → length flats ≡ length ps
    go [] [] are = refl
    go [] (f ∷ fs) are = absurd are
    go (p ∷ ps) [] are = absurd are
    go (p ∷ ps) (f ∷ fs) are = ap suc (go ps fs are.1)

pub level_added : (fs : List Flat) (h : Level) → all_steady h fs
    ≡ record h { numbers = arrays_counted (length fs) h.numbers; positions = positions_added h.positions fs }
level_added [] h = refl
level_added (f ∷ fs) h = level_added fs (second_steady f h)

pub outermost_added : (fs : List Flat) (g : Outermost) → all_first g fs
    ≡ record g { numbers = arrays_counted (length fs) g.numbers; positions_warned = all_noted g.positions_warned fs }
outermost_added [] g = refl
outermost_added (f ∷ fs) g = outermost_added fs (first_steady f g)

-- ---- all of them stand after a place

after_rise : (floor place : ℕ) (ps : List CutPosition) (k : ℕ) (flats : List Flat) → floor ≤ place → RiseAfter place ps → AreCutPositions (take k ps) flats
    → AllAfter floor flats
after_rise floor place [] zero [] least rise are = tt
after_rise floor place [] (suc k) [] least rise are = tt
after_rise floor place [] zero (f ∷ fs) least rise are = absurd are
after_rise floor place [] (suc k) (f ∷ fs) least rise are = absurd are
after_rise floor place (p ∷ ps) zero [] least rise are = tt
after_rise floor place (p ∷ ps) zero (f ∷ fs) least rise are = absurd are
after_rise floor place (p ∷ ps) (suc k) [] least rise are = absurd are
after_rise floor place (p ∷ ps) (suc k) (f ∷ fs) least rise are =
    let here = are.0.place in
    let next = rise.0 in
    (omega arith, after_rise floor p.place ps k fs (omega arith) rise.1 are.1)

pub all_after : (floor : ℕ) (d : CutPosition) (ps : List CutPosition) (k : ℕ) (flats : List Flat) → 0 < length ps → floor < (slice_index_or ps 0 d).place
    → Rise ps → AreCutPositions (take k ps) flats → AllAfter floor flats
all_after floor d [] k flats some less rise are = absurd (omega (arith, some))
all_after floor d (p ∷ ps) k flats some less rise are = after_rise floor floor (p ∷ ps) k flats (omega arith) (less, rise) are
