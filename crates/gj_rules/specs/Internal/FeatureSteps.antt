-- What an event reports of the features of a text, as the rules stand before it.
use Rattle.std.specs.Prelude.{◌≡◌, ℕ, zero, suc, ◌<◌, ◌≤◌, ◌^◌, Bool, true, false, List, [], ◌∷◌, ◌++◌, map, length, Option, Some, None}
use Rattle.std.specs.Option.{unwrap_or}
use Rattle.gj_json.specs.declared.event.Event.{Event}
use Rattle.gj_json.specs.declared.event.What.{What}
use Rattle.gj_json.specs.declared.names.Known.TheVariants.{Id}
use Rattle.gj_json.specs.Tree.{Tree, Text, depth}
use Rattle.gj_coords.specs.declared.fault.Fault.{Fault}
use Rattle.gj_coords.specs.declared.fault.Rule.TheVariants.{G1}
use Rattle.gj_coords.specs.declared.warnings.Warnings.{Warnings}
use Rattle.gj_coords.specs.Fault.{fault_at, least}
use Rattle.gj_coords.specs.Internal.KeptWarnings.{no_warnings}
use Rattle.gj_coords.specs.Items.{place_of}
use Rattle.gj_rules.specs.declared.feature.Feature.{Feature}
use Rattle.gj_rules.specs.declared.feature_rules.FeatureCount.{FeatureCount}
use Rattle.gj_rules.specs.declared.mode.Mode.{Mode}
use Rattle.gj_rules.specs.declared.mode.Mode.TheVariants.{Names, Due, Elements}
use Rattle.gj_rules.specs.declared.role.Role.{Role}
use Rattle.gj_rules.specs.Faults.{faults}
use Rattle.gj_rules.specs.Levels.{most_levels}
use Rattle.gj_rules.specs.Rules.{StandsFor as RulesStandFor}
use Rattle.gj_rules.specs.declared.rules.FramedRules.{FramedRules}
use Rattle.gj_rules.specs.declared.rules.TheConstants.{MOST_FRAMES}
use Rattle.gj_rules.specs.FeatureFindings.{closing_of, id_place, complete_at, complete_in, features_of}
use Rattle.gj_rules.specs.Internal.EventSteps.{State, step, start}
use Rattle.gj_rules.specs.Internal.FrameCalls.{settled}
use Rattle.gj_rules.specs.Internal.FrameMeaning.{Findings, Frame}
use Rattle.gj_rules.specs.Internal.LabelledEvents as L
use Rattle.gj_rules.specs.Internal.LabelledEvents.{event_of, at_of, text_told}
use Rattle.gj_rules.specs.Internal.TextKept.{or_none, kept}

-- ---- what is reported of a feature

abbrev pub kept_unless : Option Fault → Warnings → Warnings
kept_unless None kept = kept
kept_unless (Some fault) kept = no_warnings

abbrev pub feature_of : ℕ → Tree → Feature
feature_of index value = record {
  index = index;
  place = place_of value;
  close = closing_of value;
  id = id_place value;
  fault = least (faults Role.Feature value);
  warnings = kept_unless (least (faults Role.Feature value)) (or_none (kept Role.Feature value));
}

abbrev pub features_from : ℕ → List Tree → List Feature
features_from index [] = []
features_from index (value ∷ more) = feature_of index value ∷ features_from (suc index) more

-- of the features that are complete in the first n bytes of a text
abbrev pub features_by : ℕ → Text → List Feature
features_by n text = features_from 0 (complete_in n (features_of text.value))

-- an object ends as a feature, in which this is found
abbrev pub feature_found : Findings → (index place close : ℕ) → Option ℕ → Feature
feature_found found index place close id =
    record { index = index; place = place; close = Some close; id = id; fault = found.fault; warnings = kept_unless found.fault found.warned }

-- an element that is no object
abbrev pub no_feature : ℕ → ℕ → Option ℕ → Feature
no_feature index place close = record { index = index; place = place; close = close; id = None; fault = Some (fault_at place G1); warnings = no_warnings }

-- ---- where an event matters

abbrev pub is_feature : Role → Bool
is_feature Role.Feature = true
is_feature _ = false

-- in the array of the first `features`, and in no object in it
abbrev pub lists : Mode → Bool
lists (Elements role) = is_feature role
lists _ = false

-- where an element of it begins
abbrev pub at_element : ℕ → Mode → Bool
at_element zero mode = lists mode
at_element (suc levels) mode = false

-- in an element that is an array, and in no value in it
abbrev pub in_array : ℕ → Mode → Bool
in_array zero mode = false
in_array (suc zero) mode = lists mode
in_array (suc (suc levels)) mode = false

-- where the value of the first `id` of a feature begins
abbrev pub at_id : ℕ → Mode → Role → Bool
at_id zero (Due Id) role = is_feature role
at_id zero _ role = false
at_id (suc levels) mode role = false

-- where a feature that is an object may end
abbrev pub at_end : ℕ → Mode → Role → Bool
at_end zero Names role = is_feature role
at_end zero _ role = false
at_end (suc levels) mode role = false

-- ---- what was heard

-- a feature, and in how many bytes of the text it is complete
pub record TimedFeature : Type 0 where
  pub at : ℕ
  pub feature : Feature

-- the features that have ended, and where the value of the first `id` of the open one begins, or it itself where it is an array
pub record Heard : Type 0 where
  pub begun : Option ℕ
  pub told : List TimedFeature

abbrev pub unheard : Heard
unheard = record { begun = None; told = [] }

abbrev pub begins : Bool → ℕ → Heard → Heard
begins true place h = record h { begun = Some place }
begins false place h = h

abbrev pub ended : ℕ → Feature → Heard → Heard
ended at feature h = record { begun = None; told = h.told ++ record { at = at; feature = feature } ∷ [] }

abbrev pub ends : Bool → ℕ → Feature → Heard → Heard
ends true at feature h = ended at feature h
ends false at feature h = h

abbrev pub hear_at : ℕ → Mode → Frame → What → (place at : ℕ) → Heard → Heard
hear_at skipped mode top (What.Name name) place at h = h
hear_at skipped mode top What.OpenObject place at h = begins (at_id skipped mode top.slots.role) place h
hear_at skipped mode top What.OpenArray place at h = begins (at_element skipped mode) place (begins (at_id skipped mode top.slots.role) place h)
hear_at skipped mode top What.CloseObject place at h =
    ends (at_end skipped mode top.slots.role) at (feature_found (settled top) (length h.told) top.slots.place place h.begun) h
hear_at skipped mode top What.CloseArray place at h =
    ends (in_array skipped mode) at (no_feature (length h.told) (unwrap_or h.begun 0) (Some place)) h
hear_at skipped mode top _ place at h =
    ends (at_element skipped mode) at (no_feature (length h.told) place None) (begins (at_id skipped mode top.slots.role) place h)

abbrev pub hear : L.Told → State → Heard → Heard
hear x s h = hear_at s.core.skipped s.core.mode s.core.top (event_of x).what (event_of x).place (at_of x) h

abbrev pub hears : List L.Told → State → Heard → Heard
hears [] s h = h
hears (x ∷ xs) s h = hears xs (step x s) (hear x s h)

-- ---- a text

abbrev pub timed_from : ℕ → List Tree → List TimedFeature
timed_from index [] = []
timed_from index (value ∷ more) = record { at = complete_at value; feature = feature_of index value } ∷ timed_from (suc index) more

abbrev pub features_in : List TimedFeature → List Feature
features_in all = map (λ (x : TimedFeature). x.feature) all

-- these features were reported, and this is the count
abbrev pub IsHeard : (List Feature → Type 0) → FeatureCount → Heard → Type 0
IsHeard Told count h = (count.index ≡ length h.told) × (count.begun ≡ h.begun) × Told (features_in h.told)

-- what these events of a text of fewer than 2^63 events report was reported
abbrev pub FeaturesAre : (List Feature → Type 0) → FeatureCount → List Event → Type 0
FeaturesAre Told count events = (text : Text) (done rest : List L.Told) → text_told text ≡ done ++ rest → map event_of done ≡ events
    → depth text.value ≤ most_levels → length (text_told text) < 2 ^ 63 → IsHeard Told count (hears done start unheard)

-- these events were reported to rules and a count, and this holds of what these report
abbrev pub Stand : (List Feature → Type 0) → FramedRules MOST_FRAMES → FeatureCount → List Event → Type 0
Stand Told rules count events = RulesStandFor rules events × FeaturesAre Told count events

-- how many levels have to close before an event matters again
abbrev pub ignored_of : Bool → ℕ → ℕ
ignored_of true skipped = 0
ignored_of false skipped = skipped
