-- The verdict of a text from what is found in it.
use Rattle.std.specs.Prelude.{Option, Some, None}
use Rattle.gj_coords.specs.declared.fault.Fault.{Fault}
use Rattle.gj_coords.specs.declared.warnings.Warnings.{Warnings}
use Rattle.gj_rules.specs.declared.verdict.Verdict.{Verdict}
use Rattle.gj_rules.specs.declared.verdict.Verdict.TheVariants.{Valid, Broken}

-- the verdict of a text with this least fault and these warnings
abbrev pub verdict_of : Option Fault → Warnings → Verdict
verdict_of None warnings = Valid warnings
verdict_of (Some fault) warnings = Broken fault
