-- What the open record of an input stands for, and where it is refused.
use Rattle.std.specs.Prelude.{◌≡◌, ℕ, zero, suc, ◌+◌, List, length, Bool, true, false, Option, Some, None}
use Rattle.gj_json.specs.declared.fault.JsonFault.{JsonFault}
use Rattle.gj_rules.specs.declared.linter.Progress.{Progress}
use Rattle.gj_rules.specs.declared.linter.Progress.TheVariants.{Open, Refused}
use Rattle.gj_rules.specs.declared.records.open_record.OpenRecord.{OpenRecord}
use Rattle.gj_rules.specs.Linter.{StandsFor as LinterStandsFor, limits_of, refusal_of, Answers}
use Rattle.gj_rules.specs.Sequence.{separator, last_byte}

-- what a linter with this refusal has answered
abbrev pub progress_of : Option JsonFault → Progress
progress_of None = Open
progress_of (Some fault) = Refused fault

-- the bytes of the record
pub record StandsFor (r : OpenRecord) (bytes : List ℕ) : Type 0 where
  pub linter : LinterStandsFor r.linter bytes
  pub counted : r.start + length bytes ≡ r.end
  pub last : r.last ≡ last_byte separator bytes
  pub under : limits_of r.linter ≡ r.limits
  pub answers : Answers r.limits bytes (progress_of (refusal_of r.linter))

-- the place of the byte that is refused, of a record that starts there
abbrev pub refused_from : ℕ → Option JsonFault → Option ℕ
refused_from start None = None
refused_from start (Some fault) = Some (start + fault.place)

abbrev pub refused_in : OpenRecord → Option ℕ
refused_in r = refused_from r.start (refusal_of r.linter)

-- Of the open part, given its number and whether it has no byte that counts: before the first separator of a sequence each byte is refused.
abbrev pub refused_part : ℕ → Bool → Option ℕ → Option ℕ
refused_part zero false place = Some 0
refused_part zero true place = place
refused_part (suc n) is_void place = place
