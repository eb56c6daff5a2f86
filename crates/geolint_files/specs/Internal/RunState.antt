-- Which files a run has reported.
use Rattle.std.specs.Prelude.{◌≡◌, ◌≤◌, ◌+◌, ℕ, true, List, [], ◌∷◌, ◌++◌, length, map, Option}
use Rattle.std.specs.Io.Iter.{u64_saturate}
use Rattle.std.specs.Io.KnownBytes.{Appends, Keeps}
use Rattle.gj_json.specs.Limits.{Allowed}
use Rattle.geolint_report.specs.declared.every.listing.Asked.{Asked}
use Rattle.geolint_report.specs.declared.every.listing.Note.{Note}
use Rattle.geolint_report.specs.declared.every.tally.Tally.{Tally}
use Rattle.geolint_report.specs.declared.judge.Reading.{Reading}
use Rattle.geolint_report.specs.declared.report.Report.{Report}
use Rattle.geolint_report.specs.Judged.{framing_in}
use Rattle.geolint_report.specs.Tallies.{IsTotal}
use Rattle.report_forms.specs.declared.formats.lines.Style.{Style}
use Rattle.report_forms.specs.declared.options.Options.{Options}
use Rattle.report_forms.specs.FileCounts.{Counts}
use Rattle.geolint_files.specs.declared.run.Run.{Run}
use Rattle.geolint_files.specs.Listed.{AreEntriesOf, AreFurther, IsPlaced, joined}
use Rattle.geolint_files.specs.Outcome.{worst}
use Rattle.geolint_files.specs.Run.{ToldFile, listed, FeatureLine, finding_in, tallies_in, worst_of, Written, AddsFiles, begun}

-- `held` is what the writer had before the run, and `contents` what a writer has
pub record HasTold {W : Type 0} (contents : W → Option (List ℕ)) (held : Option (List ℕ)) (options : Options) (style : Style) (files : List ToldFile)
    (run : Run W) : Type 0 where
  pub options_are : run.options ≡ options
  pub style_is : run.style ≡ style
  pub outcome : run.outcome ≡ worst_of options files
  pub summary : Counts run.summary (map finding_in files)
  pub tally : IsTotal run.tally (tallies_in files)
  pub written : Written
  pub files_told : AddsFiles options style files (begun options.format) written
  pub out : Appends held (contents run.out) written.bytes
  pub first : run.log.is_first ≡ written.is_first
  pub unread : run.log.unread.items ≡ written.unread
  pub line : run.line.items ≡ []

-- as a run is made: nothing is written
pub record IsFresh {W : Type 0} (contents : W → Option (List ℕ)) (held : Option (List ℕ)) (run : Run W) : Type 0 where
  pub outcome : run.outcome ≡ worst []
  pub summary : Counts run.summary []
  pub tally : IsTotal run.tally []
  pub out : Keeps held (contents run.out)
  pub first : run.log.is_first ≡ true
  pub unread : run.log.unread.items ≡ []
  pub line : run.line.items ≡ []

-- a call reported one file more
pub record TellsFile {W : Type 0} (contents : W → Option (List ℕ)) (file : ToldFile) (old new : Run W) : Type 0 where
  pub tells : (held : Option (List ℕ)) (options : Options) (style : Style) (files : List ToldFile)
      → HasTold contents held options style files old → HasTold contents held options style (files ++ file ∷ []) new

-- a call reported more lines of the features of the last file
pub record TellsLines {W : Type 0} (contents : W → Option (List ℕ)) (lines : List FeatureLine) (old new : Run W) : Type 0 where
  pub tells : (held : Option (List ℕ)) (options : Options) (style : Style) (files : List ToldFile) (report : Report) (before : List FeatureLine)
      (tally : Tally) → HasTold contents held options style (files ++ listed report before tally ∷ []) old
      → HasTold contents held options style (files ++ listed report (before ++ lines) tally ∷ []) new

-- after so many notes a call reported those that a further reading of these bytes found
abbrev pub ToldFurther : {W : Type 0} → (W → Option (List ℕ)) → Reading → Asked → ℕ → Allowed → List ℕ → Option (List ℕ) → ℕ → ℕ → Run W → Run W → Type 0
ToldFurther contents reading asked most limits name text held told old new =
    (further : List (List Note)) × AreFurther (framing_in reading) asked most limits text held further × (most ≤ asked.room → further ≡ [])
    × (told ≡ u64_saturate (held + length (joined further)))
    × ((lines : List FeatureLine) × AreEntriesOf (IsPlaced (framing_in reading) text) name (joined further) lines × TellsLines contents lines old new)

-- it reported these
pub record TellsFiles {W : Type 0} (contents : W → Option (List ℕ)) (more : List ToldFile) (old new : Run W) : Type 0 where
  pub tells : (held : Option (List ℕ)) (options : Options) (style : Style) (files : List ToldFile)
      → HasTold contents held options style files old → HasTold contents held options style (files ++ more) new

-- it reported none
pub record SameTold {W : Type 0} (old new : Run W) : Type 0 where
  pub options : new.options ≡ old.options
  pub style : new.style ≡ old.style
  pub outcome : new.outcome ≡ old.outcome
  pub summary : new.summary ≡ old.summary
  pub tally : new.tally ≡ old.tally

-- it changed nothing of that
pub record Unchanged {W : Type 0} (old new : Run W) : Type 0 where
  pub same : SameTold old new
  pub out : new.out ≡ old.out
  pub log : new.log ≡ old.log
  pub line : new.line ≡ old.line
