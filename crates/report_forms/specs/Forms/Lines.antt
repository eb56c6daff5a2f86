-- The form `lines`: a line for each thing that is reported, and after a fault the line of the file around it.
use Rattle.std.specs.Prelude.{◌≡◌, ℕ, false, List, [], ◌∷◌, ◌++◌, Option, Some, None, codes, replicate, chars, encode_utf8_all, if◌then◌else◌, nat_lt}
use Rattle.std.specs.Fmt.{decimal}
use Rattle.std.specs.List.{flat_map}
use Rattle.unicode_width.specs.Width.{str_width}
use Rattle.gj_coords.specs.declared.kind.Kind.{Kind}
use Rattle.gj_coords.specs.declared.warnings.Warnings.{Warnings}
use Rattle.gj_hints.specs.declared.kind.Hint.{Hint}
use Rattle.gj_json.specs.declared.path.Path.{Path}
use Rattle.gj_json.specs.Path.{steps_of}
use Rattle.gj_places.specs.declared.excerpt.Excerpt.{Excerpt}
use Rattle.gj_places.specs.Excerpts.{front_of, rest_of}
use Rattle.gj_places.specs.Keeping.{Keeps}
use Rattle.geolint_report.specs.declared.every.tally.Tally.{Tally}
use Rattle.geolint_report.specs.declared.found.Found.{Found}
use Rattle.geolint_report.specs.declared.judge.Finding.{Finding}
use Rattle.geolint_report.specs.declared.report.Report.{Report}
use Rattle.geolint_report.specs.declared.report.Told.{Told}
use Rattle.geolint_report.specs.declared.sites.Spot.{Spot}
use Rattle.geolint_report.specs.declared.texts.Code.{Code}
use Rattle.geolint_report.specs.Finding.{word_of, warnings_of, record_of}
use Rattle.geolint_report.specs.Found.{found_bytes}
use Rattle.geolint_report.specs.Report.{warning_of, of_warning, spot_of, excerpt_in, path_of}
use Rattle.geolint_report.specs.Texts.{code_name, code_text}
use Rattle.report_forms.specs.declared.every.Entry.{Entry}
use Rattle.report_forms.specs.declared.formats.lines.Part.{Part}
use Rattle.report_forms.specs.declared.formats.lines.Style.{Style}
use Rattle.report_forms.specs.Names.{shown_name}
use Rattle.report_forms.specs.Forms.Features.{and_byte, and_more, id_behind, item_text, note_word, path_at, spot_at}
use Rattle.report_forms.specs.Forms.Hints.{hint_text}
use Rattle.report_forms.specs.Forms.Messages.{and_path, path_text}
use Rattle.report_forms.specs.Summary.{calls_of}

-- ---- colour: what begins a part, after an escape character, and what ends it

abbrev pub begun_in_colour : Part → List ℕ
begun_in_colour Part.Name = codes "[1m"
begun_in_colour Part.Fault = codes "[1;31m"
begun_in_colour Part.Warning = codes "[1;33m"
begun_in_colour Part.Caret = codes "[1;32m"

abbrev pub beginning : Part → Style → List ℕ
beginning part Style.Plain = []
beginning part Style.Colour = 27 ∷ begun_in_colour part

abbrev pub ending : Style → List ℕ
ending Style.Plain = []
ending Style.Colour = 27 ∷ codes "[0m"

-- ---- the place, and the code with its text

abbrev pub and_spot : Option Spot → List ℕ
and_spot (Some spot) = codes ":" ++ (decimal spot.line ++ (codes ":" ++ decimal spot.column))
and_spot None = []

unfoldable pub lines_where : Style → List ℕ → Option Spot → List ℕ
lines_where style name spot = beginning Part.Name style ++ (shown_name name ++ (and_spot spot ++ (ending style ++ codes ": ")))

unfoldable pub lines_code : Style → Code → List ℕ
lines_code style code = codes " " ++ (code_name code ++ (ending style ++ (codes ": " ++ code_text code)))

-- ---- what stands in parentheses at the end of a line

abbrev pub record_detail : Option ℕ → List (List ℕ)
record_detail (Some number) = (codes "record " ++ decimal number) ∷ []
record_detail None = []

-- how often, where that is more than once
abbrev pub times_detail : ℕ → List (List ℕ)
times_detail count = if nat_lt 1 count then (decimal count ++ codes " times") ∷ [] else []

-- the offset, where the line is not known
abbrev pub byte_detail : ℕ → Option Spot → List (List ℕ)
byte_detail place (Some spot) = []
byte_detail place None = (codes "at byte " ++ decimal place) ∷ []

abbrev pub path_detail : Option Path → List (List ℕ)
path_detail (Some path) = path_text (steps_of path) ∷ []
path_detail None = []

abbrev pub details : Report → Told → ℕ → List (List ℕ)
details report told count =
    record_detail (record_of report.finding)
    ++ (times_detail count ++ (byte_detail told.place (spot_of report told.place) ++ path_detail (path_of report told)))

abbrev pub more_details : List (List ℕ) → List ℕ
more_details items = flat_map (λ item. codes ", " ++ item) items

abbrev pub in_parentheses : List (List ℕ) → List ℕ
in_parentheses [] = []
in_parentheses (first ∷ more) = codes " (" ++ (first ++ (more_details more ++ codes ")"))

-- ---- a line

-- what a line is of: `warning`, or the word for a file with a fault
unfoldable pub lines_line : Style → Part → List ℕ → Report → Told → ℕ → List ℕ
lines_line style part word report told count =
    lines_where style report.name.now (spot_of report told.place)
    ++ (beginning part style ++ (word ++ (lines_code style told.code ++ (in_parentheses (details report told count) ++ codes "\n"))))

abbrev pub lines_warning : Style → Report → Told → ℕ → List ℕ
lines_warning style report told count = lines_line style Part.Warning (codes "warning") report told count

abbrev pub lines_kind : Style → Report → Warnings → Kind → List ℕ
lines_kind style report warnings kind = of_warning (lines_warning style report) (warning_of kind warnings)

-- positions out of range, as metres are, stand before their long numbers
abbrev pub shown_kinds : List Kind
shown_kinds = Kind.W1 ∷ Kind.W2 ∷ Kind.W3 ∷ Kind.W5 ∷ Kind.W4 ∷ Kind.W6 ∷ Kind.W7 ∷ Kind.W8 ∷ Kind.W9 ∷ []

unfoldable pub lines_warnings : Style → Report → Warnings → List ℕ
lines_warnings style report warnings = flat_map (lines_kind style report warnings) shown_kinds

unfoldable pub lines_not_valid : Style → List ℕ → List ℕ
lines_not_valid style name = lines_where style name None ++ codes "not valid\n"

-- where there is no fault to report
abbrev pub lines_rest : Style → Report → Option Warnings → List ℕ
lines_rest style report (Some warnings) = lines_warnings style report warnings
lines_rest style report None = lines_not_valid style report.name.now

-- ---- the line of the file around a fault

-- the text that is shown of an excerpt, and how many columns stand before the place, whatever bytes it keeps
pub record IsShown (excerpt : Excerpt) (text : List ℕ) (columns : ℕ) : Type 0 where
  pub text_is : (before after : List ℕ) → Keeps excerpt before after → text ≡ encode_utf8_all (front_of before) ++ encode_utf8_all (rest_of after)
  pub columns_are : (before after : List ℕ) → Keeps excerpt before after → columns ≡ str_width false (chars (encode_utf8_all (front_of before)))

-- that text, and a caret under the character at the place
unfoldable pub lines_excerpt : Style → List ℕ → ℕ → List ℕ
lines_excerpt style text columns =
    codes "  | "
    ++ (text ++ (codes "\n  | " ++ (replicate columns 32 ++ (beginning Part.Caret style ++ (codes "^" ++ (ending style ++ codes "\n"))))))

-- where the line of the fault is known, this excerpt
abbrev pub IsExcerpt : Style → Option Spot → Option Excerpt → List ℕ → Type 0
IsExcerpt style (Some spot) (Some excerpt) bytes = (text : List ℕ) × (columns : ℕ) × IsShown excerpt text columns × (bytes ≡ lines_excerpt style text columns)
IsExcerpt style (Some spot) None bytes = ⊥
IsExcerpt style None excerpt bytes = bytes ≡ []

-- ---- what stands at the place

unfoldable pub found_line : Found → List ℕ
found_line found = codes "    found: " ++ (shown_name (found_bytes found) ++ codes "\n")

abbrev pub lines_found : Option Found → List ℕ
lines_found (Some found) = found_line found
lines_found None = []

-- ---- what the file looks like

unfoldable pub hint_line : List ℕ → Hint → List ℕ
hint_line name hint = codes "    hint: " ++ (hint_text name hint ++ codes "\n")

abbrev pub lines_hint : List ℕ → Option Hint → List ℕ
lines_hint name (Some hint) = hint_line name hint
lines_hint name None = []

-- ---- the lines of a file, before that

abbrev pub AreLines : Style → Report → Option Told → List ℕ → Type 0
AreLines style report (Some told) bytes =
    (excerpt : List ℕ) × IsExcerpt style (spot_of report told.place) (excerpt_in report.sites) excerpt
    × (bytes ≡ lines_line style Part.Fault (word_of report.finding) report told 1 ++ excerpt)
AreLines style report None bytes = bytes ≡ lines_rest style report (warnings_of report.finding)

-- ---- a feature or a record

abbrev pub note_part : Code → Part
note_part (Code.Kind kind) = Part.Warning
note_part code = Part.Fault

-- the offset, where the line is not known
abbrev pub byte_behind : ℕ → Option Spot → List ℕ
byte_behind place (Some spot) = []
byte_behind place None = and_byte place

unfoldable pub feature_details : Entry → List ℕ
feature_details entry =
    codes " ("
    ++ (item_text entry.note.item
    ++ (id_behind (codes ", id ") entry.id.now ++ (byte_behind entry.note.told.place (spot_at entry.mark) ++ (and_path (path_at entry.mark) ++ codes ")\n"))))

unfoldable pub lines_entry : Style → Entry → List ℕ
lines_entry style entry =
    lines_where style entry.name.now (spot_at entry.mark)
    ++ (beginning (note_part entry.note.told.code) style
    ++ (note_word entry.note.told.code ++ (lines_code style entry.note.told.code ++ feature_details entry)))

unfoldable pub lines_more : Style → List ℕ → ℕ → List ℕ
lines_more style name count = lines_where style name None ++ (and_more count ++ codes "\n")

-- ---- after the last file

-- on a terminal the calls that explain what is reported
abbrev pub lines_calls : Style → List (Option Finding) → List Tally → List ℕ
lines_calls Style.Colour files tallies = calls_of files tallies
lines_calls Style.Plain files tallies = []
