use Rattle.std.proofs.Common.{List, ℕ, append_assoc, append-nil}
use Rattle.json.specs.Print.{escape_byte}
use Rattle.part_lines.specs.LineText.{file_members, more_text}
use Rattle.part_lines.proofs.WrittenItems.{then, ends}
use Rattle.part_lines.proofs.writing.put_file.Goals as goal

pub returns : goal.returns
unfolding file_members escape_byte
returns c =
    let s : List ℕ = c.args.out.now.items in
    ends c.put_string-2.result s _ _ _ _ (more_text (file_members c.args.file.now)) (then s _ _ _ _ (then s _ _ _ _ (then s _ _ _ _ (then s _ _ _ _
    c.in_ok-put.ensures c.in_ok-put_string.ensures) c.in_ok-put-2.ensures) c.in_ok-put_number.ensures) c.in_ok-put-3.ensures) c.put_string-2.ensures
    (simp (append_assoc, append-nil))
