-- What is reported of a file from the lines of its parts.
use Rattle.std.specs.Prelude.{◌≡◌, ◌&&◌, ◌||◌, ℕ, Bool, not, true, false, List, Option, Some, None, IfSome, IsSomeAnd, string_bytes, get_or, slice_get}
use Rattle.std.specs.List.{All}
use Rattle.gj_json.specs.Limits.{Allowed}
use Rattle.gj_coords.specs.Internal.KeptWarnings.{none_in}
use Rattle.gj_join.specs.Joined.{IsVerdictOf}
use Rattle.gj_rules.specs.declared.records.framing.Framing.{Framing}
use Rattle.gj_rules.specs.Verdict.{IsVerdict}
use Rattle.gj_rules.specs.declared.sequence.verdict.SeqVerdict.{SeqVerdict}
use Rattle.gj_rules.specs.declared.verdict.Verdict.{Verdict}
use Rattle.gj_rules.specs.declared.verdict.Verdict.TheVariants.{Valid, Broken, NotJson}
use Rattle.file_parts.specs.Sums.{IsTruePart}
use Rattle.geolint_report.specs.declared.every.listing.Asked.{Asked}
use Rattle.geolint_report.specs.declared.every.listing.Notes.{Notes}
use Rattle.geolint_report.specs.declared.judge.Finding.{Finding}
use Rattle.part_lines.specs.Lines.{IsLineOf, IsListedLineOf, IsLike}
use Rattle.part_lines.specs.declared.line.PartLine.{PartLine}
use Rattle.part_lines.specs.declared.line.Settings.{Settings}
use Rattle.report_forms.specs.declared.options.Options.{Options}
use Rattle.file_parts.specs.Checked.{AreNotesIf}
use Rattle.geolint_files.specs.JoinedRun.{IsJoinedRun, Readings}
use Rattle.geolint_files.specs.Listed.{asked_in}
use Rattle.geolint_files.specs.declared.outcome.Outcome.{Outcome}

-- what decides is that of the lines, and the form of the report is as it is asked for
abbrev pub joined_options : Options → Settings → Options
joined_options asked settings = record {
  limits = settings.limits;
  strictness = settings.strictness;
  quick = false;
  framing = settings.framing;
  format = asked.format;
  summary = asked.summary;
  every = asked.every;
  most = asked.most;
}

-- what these lines say together of a file of records, if each of them is true
pub record AreRecordsJoined (options : Options) (lines : List PartLine) (verdict : SeqVerdict) (notes : Option Notes) : Type 0 where
  pub whole : (framing : Framing) (limits : Allowed) (text : List ℕ) → All (IsLineOf framing limits text) lines → IsVerdictOf framing limits text verdict
  pub noted : (framing : Framing) (limits : Allowed) (text : List ℕ) → All (IsListedLineOf framing limits text) lines
      → AreNotesIf framing limits (asked_in options) text notes

-- what is found of the features of a part is true of the text
abbrev pub IsTrueLine : Allowed → PartLine → List ℕ → Type 0
IsTrueLine limits line text = IsTruePart limits text line.checked

-- the verdict is that of the one text that the source has, if each line is true of it
abbrev pub IsJoinedText : Allowed → List PartLine → Option Readings → Verdict → Type 0
IsJoinedText limits lines source verdict = IsSomeAnd source (λ there.
    IfSome there.text (λ text. All (λ (line : PartLine). IsTrueLine limits line text) lines → IsVerdict limits text verdict))

-- no feature of a text is listed or counted: that is not asked for, or it is no JSON text, or it has no fault and no warning that is listed
abbrev pub lists_none : Option Asked → Bool → Verdict → Bool
lists_none None summary verdict = true
lists_none (Some asked) summary (Valid warnings) = not summary && (not asked.with_warnings || none_in warnings)
lists_none (Some asked) summary (Broken fault) = false
lists_none (Some asked) summary (NotJson fault) = true

-- what is found of the file, which has records or is one text; a text whose features are listed is read
abbrev pub AreJoined : Options → Option Framing → Allowed → List PartLine → Option Readings → Option Notes → Option Finding → Type 0
AreJoined options (Some framing) limits lines source notes (Some (Finding.Sequence verdict)) = AreRecordsJoined options lines verdict notes
AreJoined options None limits lines source notes (Some (Finding.Text verdict)) =
    (notes ≡ None) × (lists_none (asked_in options) options.summary verdict ≡ true) × IsJoinedText limits lines source verdict
AreJoined options None limits lines source notes None =
    (notes ≡ None) × ((verdict : Verdict) × (lists_none (asked_in options) options.summary verdict ≡ false) × IsJoinedText limits lines source verdict)
AreJoined options framing limits lines source notes found = ⊥

-- The report of these lines, which are of one file and were made in one way. Of one text the bytes were read that no part has checked.
pub record IsJoinReport (options : Options) (lines : List PartLine) (source : Option Readings) (held holds : Option (List ℕ)) (outcome : Outcome) : Type 0 where
  pub first : PartLine
  pub is_first : slice_get lines 0 ≡ Some first
  pub alike : (none : PartLine) → All (IsLike (get_or lines 0 none)) lines
  pub found : Option Finding
  pub notes : Option Notes
  pub joined : AreJoined options first.settings.framing first.settings.limits lines source notes found
  pub run : IsJoinedRun (joined_options options first.settings) found notes (string_bytes first.file.path) source held holds outcome
