-- Nothing is left to the end of a text only after a value that nothing is around.
use Rattle.gj_json.proofs.Common.{Bool, Event, Exact, IsAdmitted, JsonFault, Level, List, Mode, None, NumberOn, Option, Reader, Some, StandsFor}
use Rattle.gj_json.proofs.Common.{StandsRefused, Text, Truncated, ValueDone, all_events, ap, arith, events_by, inner_of, length, not, refl}
use Rattle.gj_json.proofs.Common.{sym, true, ℕ, [], ◌++◌, ◌∙◌, ◌∷◌, ◌≡◌}
use Rattle.std.specs.Option.{is_some}
use Rattle.std.proofs.lemmas.List.{length-append}
use Rattle.gj_json.specs.Internal.OpenLevels.{levels_in}
use Rattle.gj_json.specs.Internal.ToldEvents.{last_event}
use Rattle.gj_json.proofs.Events.FinishedTexts.{Ends, under_ends}
use Rattle.gj_json.proofs.Machine.LongestPrefixes.{never_both}
use Rattle.gj_json.proofs.Machine.MachineTexts.{one_text}

-- where the machine has what a reader keeps
abbrev IsWhole : Reader → Type 0
IsWhole reader = (reader.fault ≡ None) × (reader.mode ≡ ValueDone) × (inner_of (levels_in reader.levels) ≡ None)

only_whole : (mode : Mode) (inner : Option Level) (may_end : Bool) (value : Option Exact) (start : ℕ) → last_event mode inner may_end value start ≡ Some None
    → (mode ≡ ValueDone) × (inner ≡ None)
only_whole ValueDone None may_end value start e = (refl, refl)
only_whole NumberOn None true value start e = cc
only_whole other another third value start e = cc

-- what `is_none` answers of nothing
pub none_told : {A : Type 0} (x : Option A) (b : Bool) → is_some x ≡ not b → x ≡ None → b ≡ true
none_told None true e n = refl
none_told other another e n = cc

-- a list is not itself and one event more
no_event_more : (events : List Event) (found : Event) → events ++ [] ≡ events ++ found ∷ [] → ⊥
no_event_more events found e = omega (arith, ap length e, length-append events [], length-append events (found ∷ []))

pub ended_whole : (reader : Reader) (bytes : List ℕ) → StandsFor reader bytes → (text : Text) → IsAdmitted reader.limits text bytes
    → all_events text ≡ events_by (length bytes) text ++ [] → IsWhole reader
ended_whole reader bytes h text admitted none_left = go reader.fault refl
  where
    by_end : reader.fault ≡ None → (may_end : Bool) (value : Option Exact) (o : Option (Option Event))
        → last_event reader.mode (inner_of (levels_in reader.levels)) may_end value reader.start ≡ o
        → Ends reader.limits reader.offset bytes o → IsWhole reader
    by_end live may_end value None e k = absurd (never_both reader.limits bytes (record { cause = Truncated; place = reader.offset }) text k admitted)
    by_end live may_end value (Some None) e k = let w =
        only_whole reader.mode (inner_of (levels_in reader.levels)) may_end value reader.start e in (live, w.0, w.1)
    by_end live may_end value (Some (Some found)) e k =
        let same : k.0 ≡ text = one_text k.0 text bytes k.1.0.0 admitted.0.0 in
        absurd (no_event_more (events_by (length bytes) text) found (sym none_left ∙ rw same at k.2))

    go : (o : Option JsonFault) → reader.fault ≡ o → IsWhole reader
    go None live =
        let u = under_ends reader bytes live h in
        by_end live u.0 u.1 (last_event reader.mode (inner_of (levels_in reader.levels)) u.0 u.1 reader.start) refl u.2
    go (Some fault) e = let r : StandsRefused reader.limits fault reader.mode (levels_in reader.levels) reader.start reader.offset bytes =
        rw e at h in absurd (never_both reader.limits bytes fault text r.refusal admitted)
