-- What a handle stands for that passes over runs of features, and what each of its calls gives.
use Rattle.std.specs.Prelude.{◌≡◌, ◌⊎◌, ℕ, ◌≤◌, true, false, List, [], ◌++◌, length, Option, None, IsSomeAnd, option_and_then}
use Rattle.gj_json.specs.Limits.{Allowed}
use Rattle.gj_json.specs.declared.fault.JsonFault.{JsonFault}
use Rattle.gj_join.specs.Joiner.{Joins, limits_of, refusal_of}
use Rattle.gj_join.specs.Runs.{StandsAfterFeature, IsSumOf}
use Rattle.gj_join.specs.declared.sum.FeatureSum.{FeatureSum}
use Rattle.geolint_c.specs.declared.join.JoinHandle.{JoinHandle}
use Rattle.geolint_c.specs.declared.report.Report.{Report}
use Rattle.geolint_c.specs.declared.sum.Sum.{Sum}
use Rattle.geolint_c.specs.Handle.{AnswersBy}
use Rattle.geolint_c.specs.Options.{AreAllowed, limits_meant}
use Rattle.geolint_c.specs.Report.{Reports, no_report}
use Rattle.geolint_c.specs.Sum.{SaysSum}

-- ---- what it stands for

-- it was begun under these limits and given these bytes, fed or passed over, and has not ended
abbrev pub StandsFor : JoinHandle → Allowed → List ℕ → Type 0
StandsFor handle limits bytes = (handle.ended ≡ false) × IsSomeAnd handle.joiner (λ joiner. Joins joiner bytes × (limits_of joiner ≡ limits))

abbrev pub HasEnded : JoinHandle → Type 0
HasEnded handle = handle.ended ≡ true

-- the refusal of what was fed, once there was one
abbrev pub refusal : JoinHandle → Option JsonFault
refusal handle = option_and_then refusal_of handle.joiner

-- ---- begin

pub record IsBegun (max_depth max_bytes : ℕ) (handle : JoinHandle) : Type 0 where
  pub live : AreAllowed max_depth max_bytes → StandsFor handle (limits_meant max_depth max_bytes) [] × (refusal handle ≡ None)
  pub ended : ¬ (AreAllowed max_depth max_bytes) → HasEnded handle

-- ---- feed

pub record IsFed (old : JoinHandle) (piece : List ℕ) (status : ℕ) (new : JoinHandle) : Type 0 where
  pub stands : (limits : Allowed) (bytes : List ℕ) → StandsFor old limits bytes → StandsFor new limits (bytes ++ piece)
  pub answer : (limits : Allowed) (bytes : List ℕ) → StandsFor old limits bytes → AnswersBy limits (bytes ++ piece) status (refusal new)
  pub ended : HasEnded old → (status ≡ 2) × (new ≡ old)

-- ---- pass over

-- It stands after the run, where the sum is true of it. It passes over each run that begins where a feature has ended right before.
pub record IsPassed (old : JoinHandle) (said : Sum) (told : ℕ) (new : JoinHandle) : Type 0 where
  pub stands : (limits : Allowed) (bytes run : List ℕ) (sum : FeatureSum) → told ≡ 1 → StandsFor old limits bytes → SaysSum sum said
      → IsSumOf limits.depth run sum → StandsFor new limits (bytes ++ run)
  pub taken : (limits : Allowed) (bytes : List ℕ) → StandsFor old limits bytes → refusal old ≡ None → StandsAfterFeature limits.depth bytes
      → said.begin ≡ length bytes → said.begin ≤ said.end → said.end ≤ limits.bytes → told ≡ 1
  pub other : (told ≡ 1) ⊎ ((told ≡ 0) × (new ≡ old))
  pub ended : HasEnded old → (told ≡ 0) × (new ≡ old)

-- ---- finish

pub record IsFinished (old : JoinHandle) (told : Report) (new : JoinHandle) : Type 0 where
  pub verdict : (limits : Allowed) (bytes : List ℕ) → StandsFor old limits bytes → Reports limits bytes told
  pub ended : HasEnded old → told ≡ no_report 2
  pub last : HasEnded new
