-- What a handle stands for that checks a run of features, and what each of its calls gives.
use Rattle.std.specs.Prelude.{◌≡◌, ◌↔◌, ℕ, ◌+◌, ◌≤◌, ◌<◌, ◌^◌, List, [], ◌++◌, length, drop, None, IsSome, IsSomeAnd}
use Rattle.gj_json.specs.Events.{all_events}
use Rattle.gj_json.specs.Limits.{Allowed}
use Rattle.gj_json.specs.Text.{IsTextWithin}
use Rattle.gj_json.specs.Tree.{Text}
use Rattle.gj_rules.specs.FeatureFindings.{findings_by, least_found}
use Rattle.gj_rules.specs.Linter.{Answers}
use Rattle.gj_rules.specs.declared.linter.Progress.{Progress}
use Rattle.gj_join.specs.RunLinter.{StandsFor as RunStandsFor, limits_of}
use Rattle.gj_join.specs.Runs.{IsLongestSum, IsOver, stand_at}
use Rattle.gj_join.specs.declared.sum.FeatureSum.{FeatureSum}
use Rattle.geolint_c.specs.declared.run.RunHandle.{RunHandle}
use Rattle.geolint_c.specs.declared.sum.Sum.{Sum}
use Rattle.geolint_c.specs.Handle.{status_of}
use Rattle.geolint_c.specs.Options.{AreAllowed, limits_meant}
use Rattle.geolint_c.specs.Sum.{SaysSum, no_sum}

-- ---- what it stands for

-- it was begun at that place under these limits, and fed these bytes
abbrev pub StandsFor : RunHandle → Allowed → ℕ → List ℕ → Type 0
StandsFor handle limits begin bytes = IsSomeAnd handle.run (λ run. RunStandsFor run begin bytes × (limits_of run ≡ limits))

-- ---- begin

-- a feature can have ended at that place: `{"features":[{}` has fifteen bytes and three levels
pub record MayBegin (max_depth place : ℕ) : Type 0 where
  pub allowed : AreAllowed max_depth 0
  pub levels : 3 ≤ (limits_meant max_depth 0).depth
  pub room : 15 ≤ place
  pub within : place ≤ (limits_meant max_depth 0).bytes

pub record IsBegun (max_depth place : ℕ) (handle : RunHandle) : Type 0 where
  pub live : MayBegin max_depth place → StandsFor handle (limits_meant max_depth 0) place []
  pub ended : ¬ (MayBegin max_depth place) → handle.run ≡ None

abbrev pub BegunStatus : ℕ → ℕ → ℕ → Type 0
BegunStatus max_depth place status = (MayBegin max_depth place → status ≡ 0) × (¬ (MayBegin max_depth place) → status ≡ 3)

-- ---- feed

-- the number by which a call reports what these bytes show
abbrev pub Shows : Allowed → List ℕ → ℕ → Type 0
Shows limits bytes status = (progress : Progress) × Answers limits bytes progress × (status ≡ status_of progress)

pub record IsFed (old : RunHandle) (piece : List ℕ) (status : ℕ) (new : RunHandle) : Type 0 where
  pub stands : (limits : Allowed) (begin : ℕ) (bytes : List ℕ) → StandsFor old limits begin bytes → StandsFor new limits begin (bytes ++ piece)
  pub answer : (limits : Allowed) (begin : ℕ) (bytes : List ℕ) → StandsFor old limits begin bytes
      → Shows limits (stand_at begin ++ (bytes ++ piece)) status
  pub ended : old.run ≡ None → (status ≡ 2) × (new ≡ old)

-- ---- sum

-- of each text that goes on so and has fewer than 2^63 events: a feature with a fault has ended in these bytes
abbrev pub HasFault : Allowed → ℕ → List ℕ → Type 0 → Type 0
HasFault limits begin bytes Told = (rest : List ℕ) (text : Text) → IsTextWithin limits.depth text (stand_at begin ++ (bytes ++ rest))
    → begin + length bytes ≤ limits.bytes → length (all_events text) < 2 ^ 63
    → Told ↔ IsSome (least_found (drop 1 (findings_by (begin + length bytes) text)))

-- the numbers are those of the longest run that the bytes begin with
abbrev pub SaysLongest : Allowed → ℕ → List ℕ → Sum → Type 0
SaysLongest limits begin bytes told = (found : FeatureSum) × IsLongestSum limits begin bytes found × SaysSum found told

pub record IsTold (old : RunHandle) (told : Sum) (new : RunHandle) : Type 0 where
  pub sum : (limits : Allowed) (begin : ℕ) (bytes : List ℕ) → StandsFor old limits begin bytes → (told.status ≡ 0) × SaysLongest limits begin bytes told
  pub fault : (limits : Allowed) (begin : ℕ) (bytes : List ℕ) → StandsFor old limits begin bytes → HasFault limits begin bytes (told.ended ≡ 1)
  pub over : (limits : Allowed) (begin : ℕ) (bytes : List ℕ) → StandsFor old limits begin bytes → told.ended ≡ 1 → IsOver limits begin bytes
  pub ended : old.run ≡ None → told ≡ no_sum 2
  pub unchanged : new ≡ old
