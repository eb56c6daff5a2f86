use Rattle.std.proofs.Common.{List, ℕ, append_assoc, append-nil}
use Rattle.json.specs.Print.{escape_byte}
use Rattle.serde_json.specs.Written.{compact_text}
use Rattle.part_lines.specs.LineText.{object_of, warning_members}
use Rattle.part_lines.proofs.WrittenItems.{then, ends}
use Rattle.part_lines.proofs.writing.put_warning.Goals as goal

pub returns : goal.returns
unfolding warning_members escape_byte
returns c =
    let s : List ℕ = c.args.out.now.items in
    ends c.put-4.result s _ _ _ _ (compact_text (object_of (warning_members c.args.begin c.args.kind c.args.count c.args.place))) (then s _ _ _ _
    (then s _ _ _ _ (then s _ _ _ _ (then s _ _ _ _ (then s _ _ _ _ c.in_ok-put.ensures c.in_ok-put_code.ensures) c.in_ok-put-2.ensures)
    c.in_ok-put_number.ensures) c.in_ok-put-3.ensures) c.in_ok-put_place.ensures) c.put-4.ensures (simp (append_assoc, append-nil))
