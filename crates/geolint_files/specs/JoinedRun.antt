-- What is reported of a file whose verdict is known, and where that is asked for the notes on its records, and of one that is read for it.
use Rattle.std.specs.Prelude.{◌≡◌, ℕ, List, [], ◌∷◌, Option, Some, None}
use Rattle.std.specs.Option.{option_map_or}
use Rattle.std.specs.Io.KnownBytes.{Appends}
use Rattle.geolint_report.specs.declared.every.listing.Asked.{Asked}
use Rattle.geolint_report.specs.declared.every.listing.Notes.{Notes}
use Rattle.geolint_report.specs.declared.judge.Finding.{Finding}
use Rattle.geolint_report.specs.declared.report.Report.{Report}
use Rattle.report_forms.specs.declared.formats.lines.Style.{Style}
use Rattle.report_forms.specs.declared.options.Options.{Options}
use Rattle.geolint_files.specs.declared.outcome.Outcome.{Outcome}
use Rattle.geolint_files.specs.Listed.{AreLinesOf, ArePlacedLines, IsTwice, IsUnplaced, asked_in}
use Rattle.geolint_files.specs.Run.{ToldFile, FeatureLine, judged, listed, not_read, worst_of, IsWholeReport}
use Rattle.geolint_files.specs.Told.{HasSites, reading_of}

-- what a source tells: its bytes from the first one on, and how many of its calls had failed before a call that reads it, and after
pub record Readings : Type 0 where
  pub text : Option (List ℕ)
  pub failed : ℕ
  pub now_failed : ℕ

-- those of a source, where it is there
abbrev pub readings_of : {S : Type 0} → (S → Option (List ℕ)) → (S → ℕ) → (old now : Option S) → Option Readings
readings_of text failed None now = None
readings_of text failed (Some old) now = Some (record { text = text old; failed = failed old; now_failed = option_map_or failed now 0 })

-- the places of what is found, as the source is read again for them: none where it is not there
abbrev pub HasPlaces : Options → List ℕ → Option Readings → Report → Type 0
HasPlaces options name None report = report.sites ≡ None
HasPlaces options name (Some source) report =
    HasSites (reading_of options name) options.limits source.text source.failed source.now_failed report

abbrev pub IsWholeFile : Options → List ℕ → Finding → Option Readings → Report → Type 0
IsWholeFile options name finding source report = (report.name.now ≡ name) × (report.finding ≡ finding) × HasPlaces options name source report

-- and the lines of these notes, with their places where the source is there
abbrev pub IsListedFile : Options → List ℕ → Finding → Asked → Notes → Option Readings → Report → List FeatureLine → Type 0
IsListedFile options name finding asked notes None report lines =
    IsWholeFile options name finding None report × AreLinesOf IsUnplaced name notes.notes.items notes.count lines
IsListedFile options name finding asked notes (Some source) report lines =
    ((middle : ℕ) × IsWholeFile options name finding (Some (record source { now_failed = middle })) report)
    × ArePlacedLines (reading_of options name) asked options.most options.limits name source.text notes.notes.items notes.count lines

-- a file of this name, of which this is found; its notes are reported where there are some, and where they are asked for
abbrev pub IsFileOf : Options → Option Notes → Option Asked → List ℕ → Finding → Option Readings → ToldFile → Type 0
IsFileOf options None asked name finding source (judged report) = IsWholeFile options name finding source report
IsFileOf options (Some notes) None name finding source (judged report) = IsWholeFile options name finding source report
IsFileOf options (Some notes) (Some asked) name finding source (listed report lines tally) =
    (tally ≡ notes.tally) × IsListedFile options name finding asked notes source report lines
IsFileOf options notes asked name finding source file = ⊥

-- a file of this name, as a run reports it that reads it: as not read where its source is not there
abbrev pub IsReadFile : Options → List ℕ → Option Readings → ToldFile → Type 0
IsReadFile options name (Some source) file = IsTwice options name source.text source.text source.failed source.now_failed file
IsReadFile options name None (not_read told reason) = told ≡ name
IsReadFile options name None file = ⊥

-- where nothing is known of the file it is read
abbrev pub IsJoinedFile : Options → Option Finding → Option Notes → List ℕ → Option Readings → ToldFile → Type 0
IsJoinedFile options (Some finding) notes name source file = IsFileOf options notes (asked_in options) name finding source file
IsJoinedFile options None notes name source file = IsReadFile options name source file

-- the whole report of this one file; the outcome is that of this file
pub record IsJoinedRun (options : Options) (found : Option Finding) (notes : Option Notes) (name : List ℕ) (source : Option Readings)
    (held holds : Option (List ℕ)) (outcome : Outcome) : Type 0 where
  pub file : ToldFile
  pub of_it : IsJoinedFile options found notes name source file
  pub style : Style
  pub bytes : List ℕ
  pub whole : IsWholeReport options style (file ∷ []) bytes
  pub out : Appends held holds bytes
  pub worst_is : outcome ≡ worst_of options (file ∷ [])
