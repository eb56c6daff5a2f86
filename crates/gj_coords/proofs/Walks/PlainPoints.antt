-- A value that comes as one position breaks no rule as a Point, and deserves the warnings of the position: a plain one deserves none.
use Rattle.gj_coords.proofs.Common.{Flat, Numbered, Point, Tree, Warned, all_in, ap, arith, coordinates_faults, done, fault_as, first_answer}
use Rattle.gj_coords.proofs.Common.{flat_events, flat_first, flat_position, least, level, no_warned, progress_machine, sound_noted, subst, sym}
use Rattle.gj_coords.proofs.Common.{value_events, waiting, warned_as, ◌∙◌}
use Rattle.std.proofs.Common.{◌≡◌, ◌<◌, ◌^◌, [], length, Option, Some, None, is_none, false, refl}
use Rattle.gj_coords.specs.Coordinates.{IsAt}
use Rattle.gj_coords.specs.PlainPoint.{IsPlainPoint, IsPointWith}
use Rattle.gj_coords.specs.Internal.CoordinatesKept.{coordinates_kept}
use Rattle.gj_coords.specs.Internal.FlatPosition.{flat_values, flat_precise}
use Rattle.gj_coords.specs.Internal.KeptWarnings.{nothing_noted}
use Rattle.gj_coords.specs.Internal.PositionGather.{corner_in}
use Rattle.gj_coords.proofs.Lists.KeptOfShortValues.{countable}
use Rattle.gj_coords.proofs.Readers.RestsOfValues.{reads_on_answers}
use Rattle.gj_coords.proofs.Walks.AnswersOfWalks.{none_read, flat_read}
use Rattle.gj_coords.proofs.Walks.FaultsOfLevels.{first_least}
use Rattle.gj_coords.proofs.Walks.FlatLaws.{flat_value}
use Rattle.gj_coords.proofs.Walks.HeldPositions.{flat_fault, flat_warned}
use Rattle.gj_coords.proofs.Walks.PreciseNumbers.{quiet_flat}

few_by : (a b : Numbered) (third : Option Numbered) (f : Flat) → f.first ≡ a → f.second ≡ b → f.third ≡ third → length (flat_events f) < 2 ^ 64
few_by a b None f i j k = rw k (omega arith)
few_by a b (Some number) f i j k = rw k (omega arith)

-- its events are few
few_events : (f : Flat) → length (flat_events f) < 2 ^ 64
few_events f = few_by f.first f.second f.third f refl refl refl

-- the position is what the walk answers of it
answer_is : (f : Flat) (v : Tree) → value_events v ≡ flat_events f → level (flat_first f) ≡ first_answer v
answer_is f v e =
    let few : length (value_events v) < 2 ^ 64 = rw e (few_events f) in
    let read : IsAt (flat_events f) (done (flat_first f)) = subst (IsAt (flat_events f)) (flat_value f) (flat_read waiting [] f (none_read waiting refl)) in
    reads_on_answers progress_machine first_answer (done (flat_first f)) v (subst (λ es. IsAt es (done (flat_first f))) (sym e) read) (countable v few)

no_fault : (f : Flat) (v : Tree) → value_events v ≡ flat_events f → least (coordinates_faults Point v) ≡ None
no_fault f v e = sym (ap (fault_as Point) (answer_is f v e) ∙ first_least Point v) ∙ sym (flat_fault Point f)

-- its warnings are those of the position
position_kept : (f : Flat) (v : Tree) → value_events v ≡ flat_events f → coordinates_kept Point v ≡ all_in (sound_noted no_warned (flat_position f))
unfolding coordinates_kept
position_kept f v e = ap (λ a. all_in (warned_as Point a)) (sym (answer_is f v e)) ∙ ap all_in (sym (flat_warned Point f))

pub point_with : (f : Flat) (warned : Warned) → warned ≡ sound_noted no_warned (flat_position f) → IsPointWith (all_in warned) f
point_with f warned is = λ v same. (no_fault f v same, position_kept f v same ∙ ap all_in (sym is))

pub plain_point : (f : Flat) → flat_precise f ≡ nothing_noted → is_none (corner_in (flat_values f)) ≡ false → IsPlainPoint f
plain_point f short at = λ v same. (no_fault f v same, position_kept f v same ∙ ap all_in (quiet_flat f no_warned short at))
