-- The form `json`: the object of a file, on a line of its own.
use Rattle.std.specs.Prelude.{◌≡◌, ℕ, Bool, List, [], ◌∷◌, ◌++◌, Option, Some, None, codes, if◌then◌else◌}
use Rattle.std.specs.Fmt.{decimal}
use Rattle.std.specs.List.{flat_map}
use Rattle.gj_coords.specs.declared.kind.Kind.{Kind}
use Rattle.gj_coords.specs.declared.warnings.Warnings.{Warnings}
use Rattle.gj_coords.specs.Warnings.{kinds}
use Rattle.gj_hints.specs.declared.kind.Hint.{Hint}
use Rattle.gj_json.specs.declared.path.Path.{Path}
use Rattle.gj_json.specs.declared.path.PathStep.{PathStep}
use Rattle.gj_json.specs.Path.{steps_of}
use Rattle.geolint_report.specs.declared.every.listing.Item.{Item}
use Rattle.geolint_report.specs.declared.judge.Finding.{Finding}
use Rattle.geolint_report.specs.declared.found.Found.{Found}
use Rattle.geolint_report.specs.declared.report.Report.{Report}
use Rattle.geolint_report.specs.declared.report.Told.{Told}
use Rattle.geolint_report.specs.declared.sites.Spot.{Spot}
use Rattle.geolint_report.specs.Finding.{word_of, record_of, records_of, fault_of, warnings_of}
use Rattle.geolint_report.specs.Line.{optional_number, truth}
use Rattle.geolint_report.specs.Found.{found_bytes}
use Rattle.gj_places.specs.Strings.{SpellsString}
use Rattle.geolint_report.specs.Report.{warning_of, spot_of, path_of}
use Rattle.geolint_report.specs.Texts.{code_name, code_text}
use Rattle.report_forms.specs.declared.every.Entry.{Entry}
use Rattle.report_forms.specs.Forms.Features.{is_nothing, path_at, spot_at}
use Rattle.report_forms.specs.Forms.Hints.{hint_text}
use Rattle.report_forms.specs.Forms.Messages.{path_text}
use Rattle.report_forms.specs.Forms.Pointers.{pointer_or_null}
use Rattle.report_forms.specs.Names.{in_json}

abbrev pub json_spot : Option Spot → List ℕ
json_spot (Some spot) = codes ",\"line\":" ++ (decimal spot.line ++ (codes ",\"column\":" ++ decimal spot.column))
json_spot None = codes ",\"line\":null,\"column\":null"

unfoldable pub json_path_string : List PathStep → List ℕ
json_path_string steps = codes ",\"json_path\":\"" ++ (path_text steps ++ (codes "\",\"pointer\":" ++ pointer_or_null steps))

abbrev pub json_path : Option Path → List ℕ
json_path (Some path) = json_path_string (steps_of path)
json_path None = codes ",\"json_path\":null,\"pointer\":null"

-- the members for a fault or a kind of warning at a place
unfoldable pub json_told : Told → Option Spot → Option Path → List ℕ
json_told told spot path =
    codes ",\"rule\":\""
    ++ (code_name told.code
    ++ (codes "\",\"text\":\"" ++ (code_text told.code ++ (codes "\",\"offset\":" ++ (decimal told.place ++ (json_spot spot ++ json_path path))))))

-- the members for the file; the first has its name as a string
unfoldable pub json_head : List ℕ → Finding → Bool → List ℕ
json_head name finding passes =
    codes "{\"path\":"
    ++ (name ++ (codes ",\"verdict\":\"" ++ (word_of finding ++ (codes "\",\"passes\":" ++ (truth passes
    ++ (codes ",\"record\":" ++ (optional_number (record_of finding) ++ (codes ",\"records\":" ++ optional_number (records_of finding)))))))))

-- where no rule is broken
unfoldable pub json_nothing : List ℕ
json_nothing = codes ",\"rule\":null,\"text\":null,\"offset\":null,\"line\":null,\"column\":null,\"json_path\":null,\"pointer\":null"

abbrev pub json_placed : Report → Told → List ℕ
json_placed report told = json_told told (spot_of report told.place) (path_of report told)

abbrev pub json_fault : Report → Option Told → List ℕ
json_fault report (Some told) = json_placed report told
json_fault report None = json_nothing

-- what stands at the place, as text in a JSON string
abbrev pub IsJsonFound : Option Found → List ℕ → Type 0
IsJsonFound (Some found) bytes = (text : List ℕ) × SpellsString (found_bytes found) text × (bytes ≡ codes ",\"found\":" ++ text)
IsJsonFound None bytes = bytes ≡ codes ",\"found\":null"

unfoldable pub json_hint_text : List ℕ → List ℕ
json_hint_text text = codes ",\"hint\":" ++ in_json text

-- what the file looks like
abbrev pub json_hint : List ℕ → Option Hint → List ℕ
json_hint name (Some hint) = json_hint_text (hint_text name hint)
json_hint name None = codes ",\"hint\":null"

-- the object of a kind of warning, which is given so often
unfoldable pub json_object : Report → Told → ℕ → List ℕ
json_object report told count = codes "{\"count\":" ++ (decimal count ++ (json_placed report told ++ codes "}"))

-- the objects of a kind: one, or none where there is no warning of it
abbrev pub json_objects : Report → Option (Told × ℕ) → List (List ℕ)
json_objects report (Some warning) = json_object report warning.0 warning.1 ∷ []
json_objects report None = []

abbrev pub json_kind : Report → Warnings → Kind → List (List ℕ)
json_kind report warnings kind = json_objects report (warning_of kind warnings)

-- each after a comma
abbrev pub behind_commas : List (List ℕ) → List ℕ
behind_commas items = flat_map (λ item. 44 ∷ item) items

-- with a comma between two
abbrev pub with_commas : List (List ℕ) → List ℕ
with_commas [] = []
with_commas (first ∷ more) = first ++ behind_commas more

unfoldable pub json_warnings : Report → Warnings → List ℕ
json_warnings report warnings = with_commas (flat_map (json_kind report warnings) kinds)

abbrev pub json_warnings_of : Report → Option Warnings → List ℕ
json_warnings_of report (Some warnings) = json_warnings report warnings
json_warnings_of report None = []

-- the line of a file, whose name is spelled so, and so what stands at the place
unfoldable pub json_line : List ℕ → List ℕ → Report → List ℕ
json_line name found report =
    json_head name report.finding report.passes
    ++ (json_fault report (fault_of report.finding)
    ++ (found ++ (json_hint report.name.now report.hint ++ (codes ",\"warnings\":[" ++ (json_warnings_of report (warnings_of report.finding) ++ codes "]}\n")))))

-- the line of a file that could not be opened or read
unfoldable pub json_unread : List ℕ → List ℕ → List ℕ
json_unread name reason =
    codes "{\"path\":"
    ++ (name ++ (codes ",\"verdict\":\"not read\",\"passes\":false,\"record\":null,\"records\":null,\"rule\":null,\"text\":"
    ++ (reason ++ codes ",\"offset\":null,\"line\":null,\"column\":null,\"json_path\":null,\"pointer\":null,\"found\":null,\"hint\":null,\"warnings\":[]}\n")))

-- ---- a feature or a record

abbrev pub id_or_null : List ℕ → List ℕ → List ℕ
id_or_null id spelled = if is_nothing id then codes "null" else spelled

-- the members for a feature or a record; the first `id` is as it is written, and the second spelled as a string
unfoldable pub feature_members : ℕ → List ℕ → List ℕ → List ℕ
feature_members index id spelled = codes "\"feature\":" ++ (decimal index ++ (codes ",\"id\":" ++ id_or_null id spelled))

unfoldable pub record_member : ℕ → List ℕ
record_member number = codes "\"record\":" ++ decimal number

abbrev pub item_members : Item → List ℕ → List ℕ → List ℕ
item_members (Item.Feature index place) id spelled = feature_members index id spelled
item_members (Item.Record number) id spelled = record_member number

-- the name and the `id` are spelled so
unfoldable pub json_entry : List ℕ → List ℕ → Entry → List ℕ
json_entry name id entry =
    codes "{\"path\":"
    ++ (name
    ++ (codes ","
    ++ (item_members entry.note.item entry.id.now id ++ (json_told entry.note.told (spot_at entry.mark) (path_at entry.mark) ++ codes "}\n"))))

unfoldable pub json_more : List ℕ → ℕ → List ℕ
json_more name count = codes "{\"path\":" ++ (name ++ (codes ",\"more\":" ++ (decimal count ++ codes "}\n")))
