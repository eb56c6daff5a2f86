-- The line of a part as it was asked for.
use Rattle.std.specs.Prelude.{◌≡◌, ℕ, List, Option, Some, None, option_map}
use Rattle.gj_rules.specs.declared.records.framing.Framing.{Framing}
use Rattle.file_parts.specs.Likely.{HasRun}
use Rattle.geolint_report.specs.declared.every.listing.Asked.{Asked}
use Rattle.geolint_report.specs.declared.every.listing.Notes.{Notes}
use Rattle.part_lines.specs.Lines.{IsListedLineOf}
use Rattle.part_lines.specs.declared.line.FileState.{FileState}
use Rattle.part_lines.specs.declared.line.Listed.{Listed}
use Rattle.part_lines.specs.declared.line.PartLine.{PartLine}
use Rattle.report_forms.specs.declared.options.Options.{Options}
use Rattle.file_parts.specs.Ranges.{ArePart}
use Rattle.file_parts.specs.declared.ranges.Share.{Share}
use Rattle.geolint_files.specs.JoinReport.{IsTrueLine}
use Rattle.geolint_files.specs.Listed.{asked_in}

-- of this part of this file, checked with these options
pub record IsAskedLine (options : Options) (asked : Share) (file : FileState) (line : PartLine) : Type 0 where
  pub of_file : line.file ≡ file
  pub share : line.share ≡ asked
  pub limits : line.settings.limits ≡ options.limits
  pub strictness : line.settings.strictness ≡ options.strictness

-- the notes of a part with what was asked for, where both are there
abbrev pub listed_of : Option Asked → Option Notes → Option Listed
listed_of (Some asked) (Some notes) = Some (record { asked = asked; notes = notes })
listed_of (Some asked) None = None
listed_of None notes = None

-- what a line says of a source with these bytes: it is that of its part, with the notes that are asked for
pub record IsReadLine (framing : Framing) (options : Options) (asked : Share) (text : List ℕ) (line : PartLine) : Type 0 where
  pub bytes : ArePart framing options.limits text asked.number asked.parts line.checked.begin line.checked.end
  pub says : IsListedLineOf framing options.limits text line
  pub listed : option_map (λ (listed : Listed). listed.asked) line.listed ≡ asked_in options

-- and where it is one text: what is found of its features, from a likely place in its range on
abbrev pub IsReadLineBy : Option Framing → Options → Share → List ℕ → PartLine → Type 0
IsReadLineBy (Some framing) options asked text line = IsReadLine framing options asked text line
IsReadLineBy None options asked text line = (line.settings.framing ≡ None) × (line.listed ≡ None) × IsTrueLine options.limits line text
    × HasRun options.limits text asked line.file.size line.checked
