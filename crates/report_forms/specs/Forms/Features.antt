-- What the forms have in common of the lines about the features or the records of a file.
use Rattle.std.specs.Prelude.{ℕ, Bool, true, if◌then◌else◌, List, ◌++◌, [], Option, Some, None, codes}
use Rattle.std.specs.Fmt.{decimal}
use Rattle.gj_json.specs.declared.path.Path.{Path}
use Rattle.geolint_report.specs.declared.every.cursor.Mark.{Mark}
use Rattle.geolint_report.specs.declared.every.listing.Item.{Item}
use Rattle.geolint_report.specs.declared.sites.Spot.{Spot}
use Rattle.geolint_report.specs.declared.texts.Code.{Code}
use Rattle.geolint_report.specs.Items.{item_number, item_word}
use Rattle.geolint_report.specs.Texts.{code_text}
use Rattle.report_forms.specs.declared.every.Entry.{Entry}
use Rattle.report_forms.specs.declared.options.Strictness.{Strictness}
use Rattle.report_forms.specs.Forms.Messages.{and_path, level_of}
use Rattle.report_forms.specs.Names.{shown_name}
use Rattle.report_forms.specs.Passing.{fails}
pub use Rattle.gj_rules.specs.Records.{are_none as is_nothing}

unfoldable pub item_text : Item → List ℕ
item_text item = item_word item ++ (codes " " ++ decimal (item_number item))

unfoldable pub and_more : ℕ → List ℕ
and_more count = codes "and " ++ (decimal count ++ codes " more")

abbrev pub spot_at : Option Mark → Option Spot
spot_at (Some mark) = Some mark.spot
spot_at None = None

abbrev pub path_at : Option Mark → Option Path
path_at (Some mark) = mark.path
path_at None = None

abbrev pub note_word : Code → List ℕ
note_word (Code.Kind kind) = codes "warning"
note_word (Code.Cause cause) = codes "not JSON"
note_word code = codes "broken"

-- what is reported fails a file
abbrev pub note_fails : Strictness → Code → Bool
note_fails strictness (Code.Kind kind) = fails strictness kind
note_fails strictness code = true

-- the level of what is reported
abbrev pub level_in : Strictness → Entry → List ℕ
level_in strictness entry = level_of (note_fails strictness entry.note.told.code)

-- an `id` after these bytes, where there is one
unfoldable pub some_id : List ℕ → List ℕ → List ℕ
some_id before id = before ++ shown_name id

abbrev pub id_behind : List ℕ → List ℕ → List ℕ
id_behind before id = if is_nothing id then [] else some_id before id

unfoldable pub and_byte : ℕ → List ℕ
and_byte place = codes ", at byte " ++ decimal place

-- what a message says, as it is read
unfoldable pub entry_text : Entry → List ℕ
entry_text entry =
    code_text entry.note.told.code
    ++ (codes ", "
    ++ (item_text entry.note.item
    ++ (id_behind (codes ", id ") entry.id.now ++ (and_byte entry.note.told.place ++ and_path (path_at entry.mark)))))
