-- What one walk over a value answers.
use Rattle.gj_coords.proofs.Common.{Event, Fault, First, Flat, IsCountable, LineString, MultiLineString, MultiPoint, MultiPolygon, Point, Polygon}
use Rattle.gj_coords.proofs.Common.{Simple, StayAll, Tree, WholeSummary, all_in, ap, append-nil, append_assoc, arith}
use Rattle.gj_coords.proofs.Common.{coordinates_faults, done, fault_as, first_answer, flat_events, flat_first, least, level, no_warned}
use Rattle.gj_coords.proofs.Common.{progress_machine, run, subst, sym, value_events, waiting, warned_as, ◌∙◌}
use Rattle.std.proofs.Common.{◌≡◌, ℕ, ◌↔◌, ◌++◌, ◌∷◌, List, [], IsTrue, true}
use Rattle.std.proofs.Common.{false, is_none, refl}
use Rattle.gj_json.specs.CutPosition.{flats_events}
use Rattle.gj_coords.specs.declared.walk.Depth.{Depth}
use Rattle.gj_coords.specs.declared.walk.Stage.{Stage}
use Rattle.gj_coords.specs.declared.walk.Stage.TheVariants.{Due, Open, Past, Done}
use Rattle.gj_coords.specs.declared.walk.Walk.{Walk}
use Rattle.gj_coords.specs.Coordinates.{IsAt, IsWhole, Holds, StandsFor, NoneEnds}
use Rattle.gj_coords.specs.Internal.SteadyWalk.{StaysSteady}
use Rattle.gj_coords.specs.declared.coordinates.Coordinates.{Coordinates}
use Rattle.gj_coords.specs.declared.coordinates.State.{State}
use Rattle.gj_coords.specs.declared.coordinates.State.TheVariants.{Walked, Steady, Whole}
use Rattle.gj_coords.specs.Internal.KeptWarnings.{no_warnings}
use Rattle.gj_coords.specs.Internal.LevelGather.{quiet_as}
use Rattle.gj_coords.specs.Internal.FlatPosition.{held_fault, held_warned}
use Rattle.gj_coords.specs.Internal.CoordinatesKept.{coordinates_kept}
use Rattle.gj_coords.specs.Internal.Progress.{Progress, step, ended, answered}
use Rattle.gj_coords.specs.Internal.WalkProgress.{open_at, progress, progress_at, answer_at, answer_of}
use Rattle.gj_coords.proofs.Readers.RestsOfValues.{left, reads_on_none, reads_on_more, reads_on_ended, reads_on_answers}
use Rattle.gj_coords.proofs.Walks.FaultsOfLevels.{first_least}
use Rattle.gj_coords.proofs.Walks.ReadValues.{value_leads}
use Rattle.gj_coords.proofs.Walks.HeldPositions.{flat_fault, flat_warned, is_no_warned, quiet_none}

-- nothing is read yet
pub none_read : (s : Progress) → s ≡ waiting → IsAt [] s
none_read s e = reads_on_none progress_machine first_answer s (rw e value_leads)

one_read : (s : Progress) (es : List Event) (e : Event) → IsAt es s → IsAt (es ++ e ∷ []) (step s e)
one_read s es e k = reads_on_more progress_machine first_answer s es e k

pub flat_read : (s : Progress) (es : List Event) (f : Flat) → IsAt es s → IsAt (es ++ flat_events f) (run step s (flat_events f))
flat_read s es f k v rest p room =
    left progress_machine s (flat_events f) rest (first_answer v) (k v (flat_events f ++ rest) (sym (append_assoc es (flat_events f) rest) ∙ p) room)

-- ---- a walk that has ended in a position, of which little is held

holds_whole : (state : State) (es : List Event) (walk : Walk) → state ≡ Whole → Holds state es walk → IsWhole es walk
holds_whole state es walk e k = subst (λ t. Holds t es walk) e k

holds_walk : (state : State) (es : List Event) (walk : Walk) → (state ≡ Whole → ⊥) → Holds state es walk → IsAt es (progress walk)
holds_walk Walked es walk not k = k
holds_walk (Steady floor) es walk not k = k.0
holds_walk Whole es walk not k = absurd (not refl)

-- what comes after it begins no value
pub holds_more : (state : State) (es : List Event) (e : Event) (more : List Event) (walk : Walk) (next : Progress) →
    Holds state es walk → (IsAt es (progress walk) → IsAt (es ++ e ∷ more) next) → IsAt (es ++ e ∷ more) next
holds_more Walked es e more walk next k then = then k
holds_more (Steady floor) es e more walk next k then = then k.0
holds_more Whole es e more walk next k then = λ v rest p room.
    let h = k.reads_on v (e ∷ (more ++ rest)) (sym (append_assoc es (e ∷ more) rest) ∙ p) room in
    let never : true ≡ false = h.0 in
    cc

-- after an event more
pub stands_more : (s : Coordinates) (events : List Event) (e : Event) (walk : Walk) → progress walk ≡ step (progress s.walk) e → StandsFor s events →
    StandsFor (record { walk = walk; state = Walked }) (events ++ e ∷ [])
stands_more s events e walk moved k =
    record { holds = rw moved (holds_more s.state events e [] s.walk _ k.holds (one_read (progress s.walk) events e)) }

whole_ended : (walk : Walk) → walk.stage ≡ Done → ended (progress walk) ≡ true
whole_ended walk e = rw e refl

pub holds_ended : (state : State) (v : Tree) (es rest : List Event) (walk : Walk) →
    Holds state es walk → es ++ rest ≡ value_events v → IsCountable v → IsTrue (ended (progress walk)) ↔ (rest ≡ [])
holds_ended Walked v es rest walk k e room = reads_on_ended progress_machine first_answer (progress walk) v es rest k e room
holds_ended (Steady floor) v es rest walk k e room = reads_on_ended progress_machine first_answer (progress walk) v es rest k.0 e room
holds_ended Whole v es rest walk k e room =
    subst (λ b. IsTrue b ↔ (rest ≡ [])) (sym (whole_ended walk k.ended))
    (reads_on_ended progress_machine first_answer (done (flat_first k.position)) v es rest k.reads_on e room)

-- ---- where the walk is steady

pub steady_in : (s : Coordinates) (floor : ℕ) (events : List Event) → s.state ≡ Steady floor → StandsFor s events → Holds (Steady floor) events s.walk
steady_in s floor events at k = subst (λ t. Holds t events s.walk) at k.holds

pub steady_out : (s : Coordinates) (floor : ℕ) (events : List Event) → s.state ≡ Steady floor → Holds (Steady floor) events s.walk → StandsFor s events
steady_out s floor events at k = record { holds = subst (λ t. Holds t events s.walk) (sym at) k }

pub steady_on : (floor : ℕ) (events : List Event) (f : Flat) (walk next : Walk) → StaysSteady floor f walk next → Holds (Steady floor) events walk
    → Holds (Steady floor) (events ++ flat_events f) next
steady_on floor events f walk next moved k =
    (subst (IsAt (events ++ flat_events f)) moved.leads (flat_read (progress walk) events f k.0), moved.steady)

pub steady_all : (fs : List Flat) (floor : ℕ) (events : List Event) (walk next : Walk) → StayAll floor fs walk next → Holds (Steady floor) events walk
    → Holds (Steady floor) (events ++ flats_events fs) next
steady_all [] floor events walk next same k =
    subst (Holds (Steady floor) (events ++ [])) (sym same) (subst (λ es. Holds (Steady floor) es walk) (sym (append-nil events)) k)
steady_all (f ∷ fs) floor events walk next stay k =
    subst (λ es. Holds (Steady floor) es next) (append_assoc events (flat_events f) (flats_events fs))
    (steady_all fs floor (events ++ flat_events f) stay.0 next stay.2 (steady_on floor events f walk stay.0 stay.1 k))

open_not_ended : (depth : Depth) (s : Walk) → ended (open_at depth s) ≡ false
open_not_ended First s = refl
open_not_ended other s = refl

-- so the value has not ended
pub steady_goes_on : (floor : ℕ) (walk : Walk) (v : Tree) (es rest : List Event) → Holds (Steady floor) es walk → es ++ rest ≡ value_events v → IsCountable v →
    IsTrue false ↔ (rest ≡ [])
steady_goes_on floor walk v es rest k joined countable =
    let still : ended (progress walk) ≡ false = ap (λ stage. ended (progress_at stage walk)) k.1.is_open ∙ open_not_ended walk.depth walk in
    subst (λ b. IsTrue b ↔ (rest ≡ [])) still (holds_ended (Steady floor) v es rest walk k joined countable)

pub none_end : (fs : List Flat) (floor : ℕ) (events : List Event) (walk next : Walk) → StayAll floor fs walk next → Holds (Steady floor) events walk
    → NoneEnds events fs
none_end [] floor events walk next stay k = tt
none_end (f ∷ fs) floor events walk next stay k =
    let on = steady_on floor events f walk stay.0 stay.1 k in (
      λ v deep e.
          let lost : false ≡ true = (steady_goes_on floor stay.0 v (events ++ flat_events f) [] on (append-nil (events ++ flat_events f) ∙ e) deep).1 refl in
          cc,
      none_end fs floor (events ++ flat_events f) stay.0 next stay.2 on,
    )

-- ---- the answers

answered_open : (depth : Depth) (s : Walk) (a : WholeSummary) → ended (open_at depth s) ≡ true → answered (open_at depth s) ≡ a
answered_open First s a e = cc
answered_open other s a e = cc

answered_at : (stage : Stage) (s : Walk) → ended (progress_at stage s) ≡ true → answered (progress_at stage s) ≡ answer_at stage s
answered_at Due s e = cc
answered_at Open s e = answered_open s.depth s _ e
answered_at Past s e = cc
answered_at other s e = refl

answer_is : (s : Coordinates) (v : Tree) → (s.state ≡ Whole → ⊥) → StandsFor s (value_events v) → IsCountable v → answer_of s.walk ≡ first_answer v
answer_is s v e k room =
    let h = holds_walk s.state (value_events v) s.walk e k.holds v [] (append-nil (value_events v)) room in
    sym (answered_at s.walk.stage s.walk h.0) ∙ h.1

pub walk_least : (simple : Simple) (s : Coordinates) (v : Tree) → (s.state ≡ Whole → ⊥) → StandsFor s (value_events v) → IsCountable v →
    fault_as simple (answer_of s.walk) ≡ least (coordinates_faults simple v)
walk_least simple s v e k room = ap (fault_as simple) (answer_is s v e k room) ∙ first_least simple v

pub walk_kept : (simple : Simple) (s : Coordinates) (v : Tree) → (s.state ≡ Whole → ⊥) → StandsFor s (value_events v) → IsCountable v →
    all_in (warned_as simple (answer_of s.walk)) ≡ coordinates_kept simple v
unfolding coordinates_kept
walk_kept simple s v e k room = ap (λ a. all_in (warned_as simple a)) (answer_is s v e k room)

-- a whole value is answered for by its position
whole_answer : (walk : Walk) (v : Tree) (k : IsWhole (value_events v) walk) → IsCountable v → level (flat_first k.position) ≡ first_answer v
whole_answer walk v k room = reads_on_answers progress_machine first_answer (done (flat_first k.position)) v k.reads_on room

pub whole_least : (simple : Simple) (s : Coordinates) (v : Tree) → s.state ≡ Whole → StandsFor s (value_events v) → IsCountable v →
    held_fault simple s.walk.outer.positions ≡ least (coordinates_faults simple v)
whole_least simple s v e stands room =
    let k = holds_whole s.state (value_events v) s.walk e stands.holds in
    ap (held_fault simple) k.fault ∙ (flat_fault simple k.position ∙ (ap (fault_as simple) (whole_answer s.walk v k room) ∙ first_least simple v))

pub whole_kept : (simple : Simple) (s : Coordinates) (v : Tree) → s.state ≡ Whole → StandsFor s (value_events v) → IsCountable v →
    all_in (held_warned simple s.walk.outer.positions_warned) ≡ coordinates_kept simple v
unfolding coordinates_kept
whole_kept simple s v e stands room =
    let k = holds_whole s.state (value_events v) s.walk e stands.holds in
    ap (λ w. all_in (held_warned simple w)) k.warned ∙ (ap all_in (flat_warned simple k.position) ∙
    ap (λ a. all_in (warned_as simple a)) (whole_answer s.walk v k room))

-- ---- no warning

pub walk_quiet : (simple : Simple) (s : Coordinates) (v : Tree) → quiet_as (answer_of s.walk) ≡ true → (s.state ≡ Whole → ⊥) → StandsFor s (value_events v) →
    IsCountable v → coordinates_kept simple v ≡ no_warnings
walk_quiet simple s v quiet e k room = sym (walk_kept simple s v e k room) ∙ ap all_in (quiet_none simple (answer_of s.walk) quiet)

held_none : (simple : Simple) → held_warned simple no_warned ≡ no_warned
held_none Point = refl
held_none other = refl

pub whole_quiet : (simple : Simple) (s : Coordinates) (v : Tree) → is_none s.walk.outer.positions_warned.warnings ≡ true → s.state ≡ Whole →
    StandsFor s (value_events v) → IsCountable v → coordinates_kept simple v ≡ no_warnings
whole_quiet simple s v quiet e k room =
    sym (whole_kept simple s v e k room) ∙
    ap all_in (ap (held_warned simple) (is_no_warned s.walk.outer.positions_warned quiet) ∙ held_none simple)
