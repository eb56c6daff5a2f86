-- The form `sarif`: a log in SARIF 2.1.0.
use Rattle.std.specs.Prelude.{◌/◌, ◌%◌, ℕ, Bool, ◌||◌, List, [], ◌∷◌, ◌++◌, Option, Some, None, codes, get_or, if◌then◌else◌, nat_eq}
use Rattle.std.specs.Char.{is_ascii_alphanumeric}
use Rattle.std.specs.Fmt.{decimal}
use Rattle.std.specs.List.{flat_map, list_any}
use Rattle.gj_coords.specs.declared.kind.Kind.{Kind}
use Rattle.gj_json.specs.declared.path.Path.{Path}
use Rattle.gj_json.specs.declared.path.PathStep.{PathStep}
use Rattle.gj_json.specs.Path.{steps_of}
use Rattle.geolint_report.specs.declared.report.Report.{Report}
use Rattle.geolint_report.specs.declared.sites.Spot.{Spot}
use Rattle.geolint_report.specs.declared.texts.Code.{Code}
use Rattle.geolint_report.specs.Finding.{record_of}
use Rattle.geolint_report.specs.Line.{truth}
use Rattle.geolint_report.specs.Report.{spot_of, path_of}
use Rattle.geolint_report.specs.Texts.{code_name, code_text}
use Rattle.report_forms.specs.Manual.{section_of as manual_of}
use Rattle.report_forms.specs.declared.every.Entry.{Entry}
use Rattle.report_forms.specs.declared.formats.issues.Issue.{Issue}
use Rattle.report_forms.specs.Forms.Features.{and_more, is_nothing, item_text, path_at, spot_at}
use Rattle.report_forms.specs.Forms.Hints.{and_hint, hint_on}
use Rattle.report_forms.specs.Forms.Issues.{break_unless}
use Rattle.report_forms.specs.Forms.Json.{item_members}
use Rattle.report_forms.specs.Forms.Messages.{and_record, and_times, if_placed, level_of, path_text}
use Rattle.report_forms.specs.Names.{digit_in, in_json}
use Rattle.geolint_report.specs.declared.texts.TheConstants.{ALL}

-- ---- a reference to a file

-- what stands in a reference for itself; any other byte by its number (RFC 3986, sections 2.1 and 2.3)
abbrev pub is_plain_in_uri : ℕ → Bool
is_plain_in_uri byte = is_ascii_alphanumeric byte || list_any (λ other. nat_eq other byte) (codes "/-._~")

unfoldable pub percent_of : ℕ → List ℕ
percent_of byte = codes "%" ++ (digit_in (codes "0123456789ABCDEF") (byte / 16) ∷ digit_in (codes "0123456789ABCDEF") (byte % 16) ∷ [])

abbrev pub in_uri : ℕ → List ℕ
in_uri byte = if is_plain_in_uri byte then byte ∷ [] else percent_of byte

-- an absolute name begins with a slash
abbrev pub scheme_of : List ℕ → List ℕ
scheme_of name = if nat_eq (get_or name 0 0) 47 then codes "\"file://" else codes "\""

unfoldable pub uri_of : List ℕ → List ℕ
uri_of name = scheme_of name ++ (flat_map in_uri name ++ codes "\"")

-- ---- a result
unfoldable pub sarif_message : Report → Issue → List ℕ
sarif_message report issue =
    code_text issue.told.code
    ++ (and_record (record_of report.finding) ++ (and_times issue.count ++ and_hint report.name.now (hint_on issue.told.code report.hint)))

-- where a file is, in what follows a message
unfoldable pub location : List ℕ → List ℕ
location name = codes ",\"locations\":[{\"physicalLocation\":{\"artifactLocation\":{\"uri\":" ++ (uri_of name ++ codes "}")

unfoldable pub region_start : Spot → List ℕ
region_start spot = codes "\"startLine\":" ++ (decimal spot.line ++ (codes ",\"startColumn\":" ++ (decimal spot.column ++ codes ",")))

abbrev pub region_start_of : Option Spot → List ℕ
region_start_of (Some spot) = region_start spot
region_start_of None = []

unfoldable pub region : Option Spot → ℕ → List ℕ
region spot place = codes ",\"region\":{" ++ (region_start_of spot ++ (codes "\"byteOffset\":" ++ (decimal place ++ codes ",\"byteLength\":0}")))

unfoldable pub logical_location : List PathStep → List ℕ
logical_location steps = codes ",\"logicalLocations\":[{\"fullyQualifiedName\":\"" ++ (path_text steps ++ codes "\"}]")

abbrev pub logical_location_of : Option Path → List ℕ
logical_location_of (Some path) = logical_location (steps_of path)
logical_location_of None = []

unfoldable pub sarif_result : Report → Issue → List ℕ
sarif_result report issue =
    codes "{\"ruleId\":\""
    ++ (code_name issue.told.code
    ++ (codes "\",\"level\":\""
    ++ (level_of issue.is_failure
    ++ (codes "\",\"message\":{\"text\":"
    ++ (in_json (sarif_message report issue)
    ++ (codes "}"
    ++ (location report.name.now
    ++ (if_placed issue.told.code (region (spot_of report issue.told.place) issue.told.place)
    ++ (codes "}" ++ (logical_location_of (path_of report issue.told) ++ codes "}]}"))))))))))

-- ---- a file that could not be opened or read

unfoldable pub sarif_unread : List ℕ → List ℕ → List ℕ
sarif_unread name reason = codes "{\"level\":\"error\",\"message\":{\"text\":" ++ (reason ++ (codes "}" ++ (location name ++ codes "}}]}")))

-- after those before it
abbrev pub next_unread : List ℕ → List ℕ → List ℕ → List ℕ
next_unread before name reason = break_unless (is_nothing before) ++ sarif_unread name reason

-- ---- what comes before the results, and after them

unfoldable pub name_and_text : Code → List ℕ
name_and_text code = code_name code ++ (codes ": " ++ code_text code)

unfoldable pub explained : Code → List ℕ
explained code = name_and_text code ++ (codes " (geolint-files --explain " ++ (code_name code ++ codes ")\""))

-- the section of docs/rules.md
abbrev pub section_of : Code → List ℕ
section_of Code.NotValid = codes "what geolint says\""
section_of code = explained code

-- the section itself, for GitHub
unfoldable pub manual_member : Code → List ℕ
manual_member code = codes ",\"markdown\":" ++ in_json (manual_of code)

abbrev pub markdown_of : Code → List ℕ
markdown_of Code.NotValid = []
markdown_of code = manual_member code

-- the level of what is reported under a code
abbrev pub code_level : Code → List ℕ
code_level (Code.Kind kind) = codes "warning"
code_level code = codes "error"

unfoldable pub sarif_rule : Code → List ℕ
sarif_rule code =
    codes "{\"id\":\""
    ++ (code_name code
    ++ (codes "\",\"shortDescription\":{\"text\":\""
    ++ (code_text code
    ++ (codes "\"},\"help\":{\"text\":\"docs/rules.md, "
    ++ (section_of code ++ (markdown_of code ++ (codes "},\"defaultConfiguration\":{\"level\":\"" ++ (code_level code ++ codes "\"}}"))))))))

abbrev pub rule_and_break : Code → List ℕ
rule_and_break code = sarif_rule code ++ codes ",\n"

unfoldable pub sarif_rules : List ℕ
sarif_rules = flat_map rule_and_break ALL

-- the head of a log: the form, its version and the program
abbrev pub sarif_head : List ℕ
sarif_head =
    codes "{\"$schema\":\"https://json.schemastore.org/sarif-2.1.0.json\",\"version\":\"2.1.0\",\"runs\":[{\"columnKind\":\"unicodeCodePoints\","
    ++ codes "\"tool\":{\"driver\":{\"name\":\"geolint-files\",\"version\":\"0.1.0\",\"rules\":[\n"

-- what comes before the first result: the head and the rules of the program
unfoldable pub sarif_begin : List ℕ
sarif_begin = sarif_head ++ (sarif_rules ++ (sarif_rule Code.NotValid ++ codes "]}},\"results\":[\n"))

-- what comes after the last: whether each file was read, and those that were not
unfoldable pub sarif_end : List ℕ → List ℕ
sarif_end unread =
    codes "],\"invocations\":[{\"executionSuccessful\":"
    ++ (truth (is_nothing unread) ++ (codes ",\"toolExecutionNotifications\":[" ++ (unread ++ codes "]}]}]}\n")))

-- ---- a feature or a record

unfoldable pub sarif_place : Entry → List ℕ
sarif_place entry =
    location entry.name.now
    ++ (region (spot_at entry.mark) entry.note.told.place ++ (codes "}" ++ (logical_location_of (path_at entry.mark) ++ codes "}]")))

unfoldable pub sarif_properties : List ℕ → Entry → List ℕ
sarif_properties id entry = codes ",\"properties\":{" ++ (item_members entry.note.item entry.id.now id ++ codes "}}")

unfoldable pub sarif_text : Entry → List ℕ
sarif_text entry = code_text entry.note.told.code ++ (codes ", " ++ (item_text entry.note.item ++ codes "\"}"))

-- the `id` is spelled so
unfoldable pub sarif_entry : List ℕ → List ℕ → Entry → List ℕ
sarif_entry level id entry =
    codes "{\"ruleId\":\""
    ++ (code_name entry.note.told.code
    ++ (codes "\",\"level\":\""
    ++ (level ++ (codes "\",\"message\":{\"text\":\"" ++ (sarif_text entry ++ (sarif_place entry ++ sarif_properties id entry))))))

unfoldable pub sarif_more : List ℕ → ℕ → List ℕ
sarif_more name count = codes "{\"level\":\"note\",\"message\":{\"text\":\"" ++ (and_more count ++ (codes "\"}" ++ (location name ++ codes "}}]}")))
