-- What is read of a text from a place on, as if a feature had ended there.
use Rattle.std.specs.Prelude.{◌≡◌, ◌⊎◌, ℕ, ◌+◌, ◌<◌, ◌≤◌, List, ◌++◌, length}
use Rattle.gj_json.specs.Limits.{Allowed}
use Rattle.gj_rules.specs.Linter.{Answers}
use Rattle.gj_join.specs.Runs.{IsLongestSum, IsOver, MayBegin, stand_at}
use Rattle.file_parts.specs.Cuts.{bytes_between}
use Rattle.file_parts.specs.declared.collections.runs.ReadRun.{ReadRun}

-- the longest run among the bytes that were read, and what they show
pub record IsReadRun (limits : Allowed) (text : List ℕ) (begin : ℕ) (run : ReadRun) : Type 0 where
  pub ordered : begin ≤ run.reached
  pub longest : IsLongestSum limits begin (bytes_between begin run.reached text) run.sum
  pub shows : Answers limits (stand_at begin ++ bytes_between begin run.reached text) run.progress

-- so many bytes and a feature
abbrev pub IsEnough : (begin enough : ℕ) → ReadRun → Type 0
IsEnough begin enough run = (begin + enough ≤ run.reached) × (0 < run.sum.features)

-- why no more was read: the text has ended, or it was enough, or no bytes make the run longer
abbrev pub HasStopped : Allowed → List ℕ → (begin enough : ℕ) → ReadRun → Type 0
HasStopped limits text begin enough run =
    (length text ≤ run.reached) ⊎ (IsEnough begin enough run ⊎ IsOver limits begin (bytes_between begin run.reached text))

-- up to `end`, unless no more was to be read
pub record ReadsRun (limits : Allowed) (text : List ℕ) (begin end enough : ℕ) (run : ReadRun) : Type 0 where
  pub may : MayBegin limits begin
  pub within : begin < run.reached → run.reached ≤ end
  pub read : IsReadRun limits text begin run
  pub stopped : run.reached < end → HasStopped limits text begin enough run

-- and nothing where no feature can have ended at the place
abbrev pub ReadsTo : Allowed → List ℕ → (begin end enough : ℕ) → ReadRun → Type 0
ReadsTo limits text begin end enough run =
    ReadsRun limits text begin end enough run ⊎ ((MayBegin limits begin → ⊥) × (run.sum.features ≡ 0) × (run.reached ≡ begin))
