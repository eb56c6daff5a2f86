-- What a run does: it checks what the reader gives, and writes the report, with the path where it is sought.
use Rattle.std.specs.Prelude.{◌≡◌, ◌⊎◌, ℕ, Bool, if◌then◌else◌, List, [], ◌∷◌, length, Option, None, Result, Ok, Err, ◌+◌, ◌-◌, ◌^◌, ◌<◌}
use Rattle.std.specs.Io.KnownBytes.{Appends, Consumes, Keeps}
use Rattle.gj_json.specs.Limits.{Allowed}
use Rattle.gj_json.specs.declared.path.Path.{Path}
use Rattle.geolint.specs.declared.fault.RunFault.{RunFault}
use Rattle.geolint.specs.declared.fault.RunFault.TheVariants.{Read, Write}
use Rattle.geolint.specs.declared.options.Options.{Options}
use Rattle.geolint.specs.declared.options.Outcome.{Outcome}
use Rattle.geolint.specs.declared.options.Outcome.TheVariants.{Pass, Fail}
use Rattle.gj_rules.specs.Verdict.{Judgement, valid, broken, IsJudgement}
use Rattle.geolint_report.specs.ReadingLoop.{one_more}
use Rattle.geolint.specs.Judged.{JudgesBy}
use Rattle.geolint.specs.Located.{Locates}
use Rattle.geolint.specs.Report.{report}
use Rattle.geolint.specs.Written.{IsFrontOut}

-- a valid text passes; where the run is strict, only one without a warning
abbrev pub outcome_of : Bool → Judgement → Outcome
outcome_of strict (valid []) = Pass
outcome_of strict (valid (warning ∷ more)) = if strict then Fail else Pass
outcome_of strict _ = Fail

-- a failed read ends a run, by a read fault
abbrev pub CountsReadFault : ℕ → ℕ → Result Outcome RunFault → Type 0
CountsReadFault old new (Err (Read fault)) = new ≡ one_more old
CountsReadFault old new _ = new ≡ old

-- a failed write ends a run, by a write fault
abbrev pub CountsWriteFault : ℕ → ℕ → Result Outcome RunFault → Type 0
CountsWriteFault old new (Err (Write fault)) = new ≡ one_more old
CountsWriteFault old new _ = new ≡ old

-- the offset of a read fault is how many bytes the run had from its reader, as far as the reader's count goes
abbrev pub CountsOffset : ℕ → ℕ → Result Outcome RunFault → Type 0
CountsOffset old new (Err (Read fault)) = new < 2 ^ 64 - 1 → new ≡ old + fault.offset
CountsOffset old new _ = Unit {0}

-- a read fault of a reader: so many bytes had come
abbrev pub ReadFaultOf : Option (List ℕ) → Option (List ℕ) → (given now_given : ℕ) → RunFault → Type 0
ReadFaultOf had left given now_given (Read fault) =
    ((read : List ℕ) × Consumes had left read × (length read ≡ fault.offset)) × (now_given < 2 ^ 64 - 1 → now_given ≡ given + fault.offset)
ReadFaultOf had left given now_given (Write fault) = ⊥

-- a write fault of a report: a prefix of it is out
abbrev pub WriteFaultOf : Option (List ℕ) → Option (List ℕ) → List ℕ → RunFault → Type 0
WriteFaultOf held holds bytes (Read fault) = ⊥
WriteFaultOf held holds bytes (Write fault) = IsFrontOut held holds bytes fault.written

-- `had` and `left` are what a second reader has to give before and after, `before` and `after` its counts of failed reads, `read`
-- and `now_read` those of all reads.
abbrev pub SeeksFor : Judgement → Allowed → Option (List ℕ) → Option (List ℕ) → (before after : ℕ) → (read now_read : ℕ) → Option Path → Type 0
-- the path to what breaks a rule is sought in that reader: none where a read of it failed
SeeksFor (broken fault) limits had left before after read now_read path =
    ((after ≡ before) × Locates limits fault.place had left path) ⊎ ((after ≡ one_more before) × (path ≡ None))
-- for another input none is sought, and the reader is not read
SeeksFor _ limits had left before after read now_read path = (path ≡ None) × (now_read ≡ read)

-- where the first reader failed, the second is not read
abbrev pub SparesAtReadFault : (read now_read : ℕ) → Result Outcome RunFault → Type 0
SparesAtReadFault read now_read (Err (Read fault)) = now_read ≡ read
SparesAtReadFault read now_read _ = Unit {0}

-- `had` and `left` are what the reader has to give before and after, `held` and `holds` what the writer has taken; `Found` says
-- which path the report has
abbrev pub RunsBy : (Judgement → Option Path → Type 0) → Options → Option (List ℕ) → Option (List ℕ) → Option (List ℕ) → Option (List ℕ)
    → Result Outcome RunFault → Type 0
-- the whole report went out
RunsBy Found options had left held holds (Ok outcome) =
    (judgement : Judgement) × (path : Option Path) × JudgesBy IsJudgement options.limits had left judgement × Found judgement path
    × Appends held holds (report judgement path) × (outcome ≡ outcome_of options.strict judgement)
-- a prefix of it did
RunsBy Found options had left held holds (Err (Write fault)) =
    (judgement : Judgement) × (path : Option Path) × JudgesBy IsJudgement options.limits had left judgement × Found judgement path
    × IsFrontOut held holds (report judgement path) fault.written
-- so many bytes came, and nothing went out
RunsBy Found options had left held holds (Err (Read fault)) = (read : List ℕ) × Consumes had left read × (length read ≡ fault.offset) × Keeps held holds

-- no path is sought
abbrev pub Runs : Options → Option (List ℕ) → Option (List ℕ) → Option (List ℕ) → Option (List ℕ) → Result Outcome RunFault → Type 0
Runs = RunsBy (λ judgement path. path ≡ None)
