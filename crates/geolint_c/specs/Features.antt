-- What a handle stands for that reports features, and what each of its calls gives.
use Rattle.std.specs.Prelude.{◌≡◌, ℕ, ◌+◌, ◌≤◌, ◌<◌, ◌^◌, true, false, Bool, not, ◌&&◌, nat_lt, if◌then◌else◌, List, [], ◌++◌, length, take, slice_get, Option}
use Rattle.std.specs.Prelude.{Some, None, IsSomeAnd, option_and_then}
use Rattle.gj_json.specs.Events.{all_events}
use Rattle.gj_json.specs.Limits.{Allowed}
use Rattle.gj_json.specs.Text.{IsTextWithin}
use Rattle.gj_json.specs.Tree.{Text}
use Rattle.gj_json.specs.declared.fault.JsonFault.{JsonFault}
use Rattle.gj_rules.specs.FeatureFindings.{FeatureFinding, findings_by}
use Rattle.gj_rules.specs.FeatureLinter.{StandsFor as LinterStandsFor, limits_of, refusal_of, offset_of, sink_of}
use Rattle.gj_rules.specs.declared.feature_linter.FeatureLinter.{FeatureLinter}
use Rattle.geolint_c.specs.declared.features.FeatureHandle.{FeatureHandle}
use Rattle.geolint_c.specs.declared.finding.Finding.{Finding}
use Rattle.geolint_c.specs.declared.finding.Progress.{Progress}
use Rattle.geolint_c.specs.declared.latest.LatestFeatures.{LatestFeatures}
use Rattle.geolint_c.specs.declared.latest.TheConstants.{ROOM}
use Rattle.geolint_c.specs.declared.report.Report.{Report}
use Rattle.geolint_c.specs.Finding.{IsFeature, no_finding, progress_of}
use Rattle.geolint_c.specs.Handle.{AnswersBy}
use Rattle.geolint_c.specs.Latest.{Keeps}
use Rattle.geolint_c.specs.Options.{AreAllowed, limits_meant}
use Rattle.geolint_c.specs.Report.{Reports, no_report}

-- ---- what it stands for

abbrev pub Judging : Type 0
Judging = FeatureLinter LatestFeatures

-- Of each text that goes on from the bytes that were taken, and has fewer than 2^63 events, this holds of the features that have
-- ended in them.
abbrev pub OfFeatures : Judging → Allowed → List ℕ → (List FeatureFinding → Type 0) → Type 0
OfFeatures linter limits bytes Holds =
    (text : Text) (rest : List ℕ) → IsTextWithin limits.depth text (take (offset_of linter) bytes ++ rest) → length (all_events text) < 2 ^ 63
    → Holds (findings_by (offset_of linter) text)

-- so many features were pulled, and the others are kept
abbrev pub HasRoom : ℕ → List FeatureFinding → Type 0
HasRoom pulled found = (pulled ≤ length found) × (length found ≤ pulled + ROOM)

pub record Judges (linter : Judging) (pulled : ℕ) (limits : Allowed) (bytes : List ℕ) : Type 0 where
  pub stands : LinterStandsFor Keeps linter bytes
  pub under : limits_of linter ≡ limits
  pub room : OfFeatures linter limits bytes (HasRoom pulled)

-- it was begun under these limits and fed these bytes, and has not ended
abbrev pub StandsFor : FeatureHandle → Allowed → List ℕ → Type 0
StandsFor handle limits bytes = (handle.ended ≡ false) × IsSomeAnd handle.linter (λ linter. Judges linter handle.pulled limits bytes)

abbrev pub HasEnded : FeatureHandle → Type 0
HasEnded handle = handle.ended ≡ true

-- the refusal of what was fed, once there was one
abbrev pub refusal : FeatureHandle → Option JsonFault
refusal handle = option_and_then refusal_of handle.linter

-- more features were reported than were pulled
abbrev pub tells_more : Judging → ℕ → Bool
tells_more linter pulled = nat_lt pulled (sink_of linter).told

abbrev pub ready_by : Option Judging → ℕ → Bool
ready_by None pulled = false
ready_by (Some linter) pulled = tells_more linter pulled

-- whether a finding is ready
abbrev pub is_ready : FeatureHandle → Bool
is_ready handle = not handle.ended && ready_by handle.linter handle.pulled

-- ---- begin

-- it is before the first byte
pub record IsLive (limits : Allowed) (handle : FeatureHandle) : Type 0 where
  pub stands : StandsFor handle limits []
  pub pulled : handle.pulled ≡ 0
  pub refusal : refusal handle ≡ None

pub record IsBegun (max_depth max_bytes : ℕ) (handle : FeatureHandle) : Type 0 where
  pub live : AreAllowed max_depth max_bytes → IsLive (limits_meant max_depth max_bytes) handle
  pub ended : ¬ (AreAllowed max_depth max_bytes) → HasEnded handle

-- ---- feed

pub record IsFed (old : FeatureHandle) (piece : List ℕ) (told : Progress) (new : FeatureHandle) : Type 0 where
  pub within : told.taken ≤ length piece
  pub stands : (limits : Allowed) (bytes : List ℕ) → StandsFor old limits bytes → StandsFor new limits (bytes ++ take told.taken piece)
  pub answer : (limits : Allowed) (bytes : List ℕ) → StandsFor old limits bytes → is_ready old ≡ false
      → AnswersBy limits (bytes ++ take told.taken piece) told.status (refusal new)
  pub ready : old.ended ≡ false → told.ready ≡ (if is_ready new then 1 else 0)
  pub all : old.ended ≡ false → is_ready new ≡ false → told.taken ≡ length piece
  pub pulled : new.pulled ≡ old.pulled
  pub waits : is_ready old ≡ true → (told ≡ progress_of 0 5 true) × (new ≡ old)
  pub ended : HasEnded old → (told ≡ progress_of 0 2 false) × (new ≡ old)

-- ---- next

-- it is the next of these, where there is one
abbrev pub IsNextOf : Option FeatureFinding → Bool → Finding → Type 0
IsNextOf None ready told = ready ≡ false
IsNextOf (Some finding) ready told = (ready ≡ true) × IsFeature finding told

pub record IsNext (old : FeatureHandle) (told : Finding) (new : FeatureHandle) : Type 0 where
  pub stands : (limits : Allowed) (bytes : List ℕ) → StandsFor old limits bytes → StandsFor new limits bytes
  pub finding : (limits : Allowed) (bytes : List ℕ) → StandsFor old limits bytes
      → IsSomeAnd old.linter (λ linter. OfFeatures linter limits bytes (λ found. IsNextOf (slice_get found old.pulled) (is_ready old) told))
  pub counted : is_ready old ≡ true → new.pulled ≡ old.pulled + 1
  pub none : is_ready old ≡ false → (told ≡ no_finding 6) × (new ≡ old)

-- ---- offset

pub record IsOffset (old : FeatureHandle) (offset : ℕ) (new : FeatureHandle) : Type 0 where
  pub taken : (limits : Allowed) (bytes : List ℕ) → StandsFor old limits bytes → refusal old ≡ None → offset ≡ length bytes
  pub refused : (limits : Allowed) (bytes : List ℕ) (fault : JsonFault) → StandsFor old limits bytes → refusal old ≡ Some fault → offset ≡ fault.place
  pub ended : HasEnded old → offset ≡ 0
  pub unchanged : new ≡ old

-- ---- finish

pub record IsFinished (old : FeatureHandle) (told : Report) (new : FeatureHandle) : Type 0 where
  pub verdict : (limits : Allowed) (bytes : List ℕ) → StandsFor old limits bytes → is_ready old ≡ false → Reports limits bytes told
  pub last : is_ready old ≡ false → HasEnded new
  pub waits : is_ready old ≡ true → (told ≡ no_report 5) × (new ≡ old)
  pub ended : HasEnded old → told ≡ no_report 2
