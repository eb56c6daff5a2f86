-- What a run does that asks only whether an input is valid: nothing is said of an input that is not but that it is not.
use Rattle.std.specs.Prelude.{◌≡◌, ℕ, Bool, List, length, Option, Some, None, IfSome, ⊤, Result, Ok, Err, codes}
use Rattle.std.specs.Io.KnownBytes.{Appends, Consumes, IsAtEnd, Keeps}
use Rattle.gj_json.specs.Limits.{Allowed}
use Rattle.gj_coords.specs.Warnings.{Warning}
use Rattle.gj_coords.specs.WarningsStand.{StandsFor as WarningsStandFor}
use Rattle.gj_coords.specs.declared.warnings.Warnings.{Warnings}
use Rattle.gj_rules.specs.Verdict.{valid, IsJudgement, NeverValid}
use Rattle.geolint.specs.declared.fault.RunFault.{RunFault}
use Rattle.geolint.specs.declared.fault.RunFault.TheVariants.{Read, Write}
use Rattle.geolint.specs.declared.options.Options.{Options}
use Rattle.geolint.specs.declared.options.Outcome.{Outcome}
use Rattle.geolint.specs.declared.options.Outcome.TheVariants.{Fail}
use Rattle.geolint.specs.Report.{valid_report}
use Rattle.geolint.specs.Run.{outcome_of}
use Rattle.geolint.specs.Written.{IsFrontOut}

-- ---- the reading

-- they are those of this list, or there are none on either side
abbrev pub SaysValid : Option Warnings → Option (List Warning) → Type 0
SaysValid (Some told) (Some warnings) = WarningsStandFor told warnings
SaysValid None None = ⊤
SaysValid _ _ = ⊥

-- What a reader has to give was `had` and is `left`. Where it tells its bytes, a valid text was read to its end. Another one is no
-- valid text, and where it was left before its end, no bytes after those that were read make them one.
abbrev pub JudgesQuickly : Allowed → (had left : Option (List ℕ)) → Option (List Warning) → Type 0
JudgesQuickly limits had left (Some warnings) = IfSome had (λ all. Consumes had left all × IsJudgement limits all (valid warnings))
JudgesQuickly limits had left None =
    (read : List ℕ) × Consumes had left read
    × IfSome had (λ all. ((warnings : List Warning) → IsJudgement limits all (valid warnings) → ⊥) × ((IsAtEnd left → ⊥) → NeverValid limits read))

-- ---- the report

abbrev pub quick_report : Option (List Warning) → List ℕ
quick_report (Some warnings) = valid_report warnings
quick_report None = codes "not valid\n"

abbrev pub quick_outcome : Bool → Option (List Warning) → Outcome
quick_outcome strict (Some warnings) = outcome_of strict (valid warnings)
quick_outcome strict None = Fail

-- ---- the run

-- `had` and `left` are what the reader has to give before and after, `held` and `holds` what the writer has taken
abbrev pub QuickRuns : Options → Option (List ℕ) → Option (List ℕ) → Option (List ℕ) → Option (List ℕ) → Result Outcome RunFault → Type 0
-- the whole report went out
QuickRuns options had left held holds (Ok outcome) =
    (warnings : Option (List Warning)) × JudgesQuickly options.limits had left warnings × Appends held holds (quick_report warnings)
    × (outcome ≡ quick_outcome options.strict warnings)
-- a prefix of it did
QuickRuns options had left held holds (Err (Write fault)) =
    (warnings : Option (List Warning)) × JudgesQuickly options.limits had left warnings × IsFrontOut held holds (quick_report warnings) fault.written
-- so many bytes came, and nothing went out
QuickRuns options had left held holds (Err (Read fault)) = (read : List ℕ) × Consumes had left read × (length read ≡ fault.offset) × Keeps held holds
