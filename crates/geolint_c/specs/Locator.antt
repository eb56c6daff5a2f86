-- What a handle stands for that reports the path to a place, and what each of its calls gives.
use Rattle.std.specs.Prelude.{◌≡◌, ℕ, List, [], ◌++◌, take, replicate, slice_get, Option, Some, None, IsSomeAnd, Result, Ok, Err}
use Rattle.gj_json.specs.Limits.{Allowed}
use Rattle.gj_json.specs.Locator.{StandsFor as LocatorStandsFor, limits_of, offset_of}
use Rattle.gj_json.specs.Path.{path_at}
use Rattle.gj_json.specs.Reader.{Answers}
use Rattle.gj_json.specs.Text.{IsText}
use Rattle.gj_json.specs.Tree.{Text}
use Rattle.gj_json.specs.declared.fault.JsonFault.{JsonFault}
use Rattle.gj_json.specs.declared.path.PathStep.{PathStep}
use Rattle.geolint_c.specs.declared.locator.LocatorHandle.{LocatorHandle}
use Rattle.geolint_c.specs.declared.locator.StepText.{StepText}
use Rattle.geolint_c.specs.declared.locator.TheConstants.{STEP_ROOM}
use Rattle.geolint_c.specs.Options.{AreAllowed, limits_meant}
pub use Rattle.gj_json.specs.Texts.{step_text}

-- ---- texts

-- the bytes that count
abbrev pub shown : StepText → List ℕ
shown text = take text.size text.bytes

abbrev pub no_step : StepText
no_step = record { size = 0; bytes = replicate STEP_ROOM 0 }

abbrev pub Shows : Option PathStep → StepText → Type 0
Shows None text = text ≡ no_step
Shows (Some step) text = shown text ≡ step_text step

-- ---- what it stands for

-- it was begun under these limits and fed these bytes
abbrev pub StandsFor : LocatorHandle → Allowed → List ℕ → Type 0
StandsFor handle limits bytes = IsSomeAnd handle.locator (λ locator. LocatorStandsFor locator bytes × (limits_of locator ≡ limits))

pub record IsBegun (max_depth max_bytes : ℕ) (handle : LocatorHandle) : Type 0 where
  pub live : AreAllowed max_depth max_bytes → StandsFor handle (limits_meant max_depth max_bytes) []
  pub ended : ¬ (AreAllowed max_depth max_bytes) → handle.locator ≡ None

-- ---- feed

abbrev pub status_of : {A : Type 0} → Result A JsonFault → ℕ
status_of (Ok done) = 0
status_of (Err fault) = 1

pub record AnswersBy (limits : Allowed) (bytes : List ℕ) (status : ℕ) : Type 0 where
  pub answer : Result (Unit {0}) JsonFault
  pub answers : Answers limits bytes answer
  pub status_is : status ≡ status_of answer

pub record IsFed (old : LocatorHandle) (piece : List ℕ) (status : ℕ) (new : LocatorHandle) : Type 0 where
  pub stands : (limits : Allowed) (bytes : List ℕ) → StandsFor old limits bytes → StandsFor new limits (bytes ++ piece)
  pub answer : (limits : Allowed) (bytes : List ℕ) → StandsFor old limits bytes → AnswersBy limits (bytes ++ piece) status
  pub ended : old.locator ≡ None → (status ≡ 2) × (new ≡ old)

-- ---- the path

-- of each text that goes on from the bytes that were taken
pub record IsStep (old : LocatorHandle) (i : ℕ) (told : StepText) (new : LocatorHandle) : Type 0 where
  pub step : (limits : Allowed) (bytes : List ℕ) → StandsFor old limits bytes
      → IsSomeAnd old.locator (λ locator. (text : Text) (rest : List ℕ) → IsText text (take (offset_of locator) bytes ++ rest)
      → Shows (slice_get (path_at (offset_of locator) text) i) told)
  pub none : old.locator ≡ None → told ≡ no_step
  pub unchanged : new ≡ old
