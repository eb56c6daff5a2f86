-- What a handle stands for, and what each of its calls gives.
use Rattle.std.specs.Prelude.{◌≡◌, ◌⊎◌, ℕ, true, false, List, [], ◌++◌, length, take, Option, Some, None, IsSomeAnd, option_and_then}
use Rattle.gj_json.specs.Limits.{Allowed}
use Rattle.gj_json.specs.Open.{open_at}
use Rattle.gj_json.specs.Text.{IsText}
use Rattle.gj_json.specs.Tree.{Text}
use Rattle.gj_json.specs.declared.fault.JsonFault.{JsonFault}
use Rattle.gj_rules.specs.declared.linter.Progress.{Progress}
use Rattle.gj_rules.specs.declared.linter.Progress.TheVariants.{Open, Refused}
use Rattle.gj_rules.specs.Linter.{StandsFor as LinterStandsFor, limits_of, refusal_of, refusal_in, offset_of, Answers}
use Rattle.gj_rules.specs.Verdict.{NeverValid}
use Rattle.gj_rules.specs.Doomed.{BeginNoGeoJson}
use Rattle.geolint_c.specs.declared.handle.Handle.{Handle}
use Rattle.geolint_c.specs.declared.report.Report.{Report}
use Rattle.geolint_c.specs.Options.{AreAllowed, limits_meant}
use Rattle.geolint_c.specs.Report.{Reports, no_report}

-- it was begun under these limits and fed these bytes, and has not ended
abbrev pub StandsFor : Handle → Allowed → List ℕ → Type 0
StandsFor handle limits bytes =
    (handle.ended ≡ false) × IsSomeAnd handle.linter (λ linter. LinterStandsFor linter bytes × (limits_of linter ≡ limits))

abbrev pub HasEnded : Handle → Type 0
HasEnded handle = handle.ended ≡ true

-- the refusal of what was fed, once there was one
abbrev pub refusal : Handle → Option JsonFault
refusal handle = option_and_then refusal_of handle.linter

-- ---- begin

-- it is before the first byte
abbrev pub Begins : Allowed → Handle → Type 0
Begins limits handle = StandsFor handle limits [] × (refusal handle ≡ None)

pub record IsBegun (max_depth max_bytes : ℕ) (handle : Handle) : Type 0 where
  pub live : AreAllowed max_depth max_bytes → Begins (limits_meant max_depth max_bytes) handle
  pub ended : ¬ (AreAllowed max_depth max_bytes) → HasEnded handle

abbrev pub BegunStatus : ℕ → ℕ → ℕ → Type 0
BegunStatus max_depth max_bytes status =
    (AreAllowed max_depth max_bytes → status ≡ 0) × (¬ (AreAllowed max_depth max_bytes) → status ≡ 3)

-- ---- feed

-- the number by which a call reports what a piece shows
abbrev pub status_of : Progress → ℕ
status_of Open = 0
status_of (Refused fault) = 1

-- and the refusal that it then keeps
abbrev pub AnswersBy : Allowed → List ℕ → ℕ → Option JsonFault → Type 0
AnswersBy limits bytes status kept =
    (progress : Progress) × Answers limits bytes progress × (status ≡ status_of progress) × (kept ≡ refusal_in progress)

-- Once what was fed is refused, each piece is, and nothing changes.
pub record IsFed (old : Handle) (piece : List ℕ) (status : ℕ) (new : Handle) : Type 0 where
  pub stands : (limits : Allowed) (bytes : List ℕ) → StandsFor old limits bytes → StandsFor new limits (bytes ++ piece)
  pub answer : (limits : Allowed) (bytes : List ℕ) → StandsFor old limits bytes → AnswersBy limits (bytes ++ piece) status (refusal new)
  pub ended : HasEnded old → (status ≡ 2) × (new ≡ old)
  pub again : (fault : JsonFault) → old.ended ≡ false → refusal old ≡ Some fault → (status ≡ 1) × (new ≡ old)

-- ---- offset

-- How many bytes there are, as long as they may become an admitted text; once they are refused, the place of the refusal.
pub record IsOffset (old : Handle) (offset : ℕ) (new : Handle) : Type 0 where
  pub taken : (limits : Allowed) (bytes : List ℕ) → StandsFor old limits bytes → refusal old ≡ None → offset ≡ length bytes
  pub refused : (limits : Allowed) (bytes : List ℕ) (fault : JsonFault) → StandsFor old limits bytes → refusal old ≡ Some fault → offset ≡ fault.place
  pub ended : HasEnded old → offset ≡ 0
  pub unchanged : new ≡ old

-- ---- doomed

-- 1 only where no input that begins so is valid, otherwise 0; after a refusal always 1, and where the bytes show early that they begin no GeoJSON text.
pub record IsDoomed (old : Handle) (doomed : ℕ) (new : Handle) : Type 0 where
  pub sound : (limits : Allowed) (bytes : List ℕ) → StandsFor old limits bytes → (doomed ≡ 0) ⊎ ((doomed ≡ 1) × NeverValid limits bytes)
  pub refused : (fault : JsonFault) → old.ended ≡ false → refusal old ≡ Some fault → doomed ≡ 1
  pub early : (limits : Allowed) (bytes : List ℕ) → StandsFor old limits bytes → refusal old ≡ None → BeginNoGeoJson limits.depth bytes → doomed ≡ 1
  pub ended : HasEnded old → doomed ≡ 0
  pub unchanged : new ≡ old

-- ---- levels

-- As many arrays and objects as are open there in each text that goes on from the bytes that were taken.
pub record IsLevels (old : Handle) (levels : ℕ) (new : Handle) : Type 0 where
  pub open_there : (limits : Allowed) (bytes : List ℕ) → StandsFor old limits bytes
      → IsSomeAnd old.linter (λ linter. (text : Text) (rest : List ℕ) → IsText text (take (offset_of linter) bytes ++ rest)
      → levels ≡ open_at (offset_of linter) text)
  pub ended : HasEnded old → levels ≡ 0
  pub unchanged : new ≡ old

-- ---- finish

pub record IsFinished (old : Handle) (report : Report) (new : Handle) : Type 0 where
  pub verdict : (limits : Allowed) (bytes : List ℕ) → StandsFor old limits bytes → Reports limits bytes report
  pub ended : HasEnded old → report ≡ no_report 2
  pub last : HasEnded new
