use Rattle.std.proofs.Common.{◌≡◌, ◌++◌, List, ℕ, codes, append_assoc}
use Rattle.std.specs.Fmt.{decimal}
use Rattle.json.specs.Print.{escape_byte, quoted}
use Rattle.serde_json.specs.Written.{compact_text}
use Rattle.geolint_report.specs.Items.{item_number}
use Rattle.geolint_report.specs.Texts.{code_name}
use Rattle.part_lines.specs.LineText.{object_of, place_in_file, note_members}
use Rattle.part_lines.proofs.WrittenItems.{then, ends}
use Rattle.part_lines.proofs.writing.put_note.Goals as goal

grouped : (a b c d e f g : List ℕ) → (((((a ++ b) ++ c) ++ d) ++ e) ++ f) ++ g ≡ a ++ (b ++ (c ++ (d ++ (e ++ (f ++ g)))))
grouped a b c d e f g = simp append_assoc

pub returns : goal.returns
unfolding note_members escape_byte
returns c =
    let s : List ℕ = c.args.out.now.items in
    let number : List ℕ = decimal (item_number c.args.note.now.item) in
    let code : List ℕ = quoted (code_name c.args.note.now.told.code) in
    let at : List ℕ = compact_text (place_in_file c.args.begin c.args.note.now.told.place) in
    ends c.put-4.result s _ _ _ (codes "}") (compact_text (object_of (note_members c.args.begin c.args.note.now)))
    (then s _ _ _ at (then s _ _ _ (codes ",\"at\":") (then s _ _ _ code (then s _ _ _ (codes ",\"code\":")
    (then s _ _ (codes "{\"record\":") number c.in_ok-put.ensures c.in_ok-put_item.ensures) c.in_ok-put-2.ensures) c.in_ok-put_code.ensures)
    c.in_ok-put-3.ensures) c.in_ok-put_place.ensures) c.put-4.ensures
    (grouped (codes "{\"record\":") number (codes ",\"code\":") code (codes ",\"at\":") at (codes "}"))
