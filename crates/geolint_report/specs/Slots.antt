-- Which codes are the same, where the count of each lies, and what a count is with one more.
use Rattle.std.specs.Prelude.{ℕ, ◌+◌, ◌-◌, ◌^◌, Bool, true, false, length, nat_eq}
use Rattle.std.specs.Io.Iter.{u64_saturate}
use Rattle.gj_coords.specs.Fault.{number_of, rules}
use Rattle.gj_coords.specs.Warnings.{kinds, index_of, kind_number}
use Rattle.geolint_report.specs.declared.texts.Code.{Code}
use Rattle.gj_json.specs.Texts.{cause_number}

abbrev pub same : Code → Code → Bool
same (Code.Rule first) (Code.Rule second) = nat_eq (number_of first) (number_of second)
same (Code.Kind first) (Code.Kind second) = nat_eq (kind_number first) (kind_number second)
same (Code.Cause first) (Code.Cause second) = nat_eq (cause_number first) (cause_number second)
same first second = false

-- where the count of a code lies
abbrev pub slot_of : Code → ℕ
slot_of (Code.Rule rule) = number_of rule - 1
slot_of (Code.Kind kind) = index_of kind + length rules
slot_of (Code.Cause cause) = (cause_number cause - 1) + (length rules + length kinds)
slot_of Code.NotValid = 2 ^ 64 - 1

-- one more where it is to be counted, as far as a u64 goes
abbrev pub more : Bool → ℕ → ℕ
more true count = u64_saturate (count + 1)
more false count = count
