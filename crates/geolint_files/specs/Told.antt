-- What is reported of a file that was read: what its bytes were found to be, and where its places stand.
use Rattle.std.specs.Prelude.{◌≡◌, ◌+◌, ◌&&◌, ℕ, Bool, true, false, List, Option, Some, None, IsSomeAnd}
use Rattle.std.specs.Io.Iter.{u64_saturate}
use Rattle.gj_json.specs.Limits.{Allowed}
use Rattle.gj_rules.specs.declared.records.framing.Framing.{Framing}
use Rattle.geolint_report.specs.declared.judge.Finding.{Finding}
use Rattle.geolint_report.specs.declared.judge.Reading.{Reading}
use Rattle.geolint_report.specs.declared.report.Report.{Report}
use Rattle.geolint_report.specs.declared.sites.Sites.{Sites}
use Rattle.geolint_report.specs.Held.{AreHeld}
use Rattle.geolint_report.specs.Judged.{Finds}
use Rattle.geolint_report.specs.Report.{has_places}
use Rattle.geolint_report.specs.Sought.{AreSought}
use Rattle.report_forms.specs.declared.formats.Format.{Format}
use Rattle.report_forms.specs.declared.options.Options.{Options}
use Rattle.geolint_files.specs.Run.{ToldFile, judged, not_read, listed}
use Rattle.geolint_files.specs.Walk.{framing_of}

-- how a file of this name is read
abbrev pub reading_by : Option Framing → Bool → Reading
reading_by (Some Framing.Sequence) quick = Reading.Sequence
reading_by (Some Framing.Lines) quick = Reading.Lines
reading_by None true = Reading.Quick
reading_by None false = Reading.Text

-- how its texts are separated: as the words say, or as the name does
abbrev pub framing_by : Option Framing → List ℕ → Option Framing
framing_by (Some framing) name = Some framing
framing_by None name = framing_of name

abbrev pub reading_of : Options → List ℕ → Reading
reading_of options name = reading_by (framing_by options.framing name) options.quick

-- the source is read again exactly where a place is reported
abbrev pub HasSitesIf : Bool → Reading → Allowed → Option (List ℕ) → (failed now_failed : ℕ) → Report → Type 0
HasSitesIf true reading limits text failed now_failed report =
    IsSomeAnd report.sites (λ sites. AreSought report.finding reading limits text failed now_failed sites.now)
HasSitesIf false reading limits text failed now_failed report = (report.sites ≡ None) × (now_failed ≡ failed)

abbrev pub HasSites : Reading → Allowed → Option (List ℕ) → (failed now_failed : ℕ) → Report → Type 0
HasSites reading limits text failed now_failed report = HasSitesIf (has_places report.finding) reading limits text failed now_failed report

-- ---- a source that is read once

-- Its places are reported where its text is shown, but for the form `text`: that has the report of the program `geolint`, which reads once.
abbrev pub shows : Bool → Format → Finding → Bool
shows is_shown Format.Text finding = false
shows is_shown format finding = is_shown && has_places finding

abbrev pub HasHeldIf : Bool → (Sites → Type 0) → Report → Type 0
HasHeldIf true Are report = IsSomeAnd report.sites (λ sites. Are sites.now)
HasHeldIf false Are report = (report.sites ≡ None) × (report.hint ≡ None)

-- what these bytes are found to be and, where the places are reported, what was found of them in the bytes that were read
abbrev pub IsFoundOnce : (Finding → Bool) → Reading → Allowed → Option (List ℕ) → Report → Type 0
IsFoundOnce Shows reading limits had report =
    (left : Option (List ℕ)) × Finds reading limits had left report.finding
    × HasHeldIf (Shows report.finding) (AreHeld report.finding reading limits had left) report

-- what is reported of a source that had these bytes: that, or that a read failed
abbrev pub IsToldOnce : (Finding → Bool) → Reading → Allowed → List ℕ → Option (List ℕ) → (failed now_failed : ℕ) → ToldFile → Type 0
IsToldOnce Shows reading limits name had failed now_failed (judged report) =
    (report.name.now ≡ name) × (now_failed ≡ failed) × IsFoundOnce Shows reading limits had report
IsToldOnce Shows reading limits name had failed now_failed (not_read told reason) = (told ≡ name) × (now_failed ≡ u64_saturate (failed + 1))
IsToldOnce Shows reading limits name had failed now_failed (listed report lines tally) = ⊥

-- ---- a source that is read again

-- as above: `text` are its bytes from the first one on
abbrev pub IsToldTwice : Reading → Allowed → List ℕ → Option (List ℕ) → Option (List ℕ) → (failed now_failed : ℕ) → ToldFile → Type 0
IsToldTwice reading limits name had text failed now_failed (judged report) =
    (report.name.now ≡ name) × ((left : Option (List ℕ)) × Finds reading limits had left report.finding) × HasSites reading limits text failed now_failed report
IsToldTwice reading limits name had text failed now_failed (not_read told reason) = (told ≡ name) × (now_failed ≡ u64_saturate (failed + 1))
IsToldTwice reading limits name had text failed now_failed (listed report lines tally) = ⊥
