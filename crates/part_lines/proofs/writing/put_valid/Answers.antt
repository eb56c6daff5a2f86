use Rattle.std.proofs.Common.{List, ℕ, append_assoc, append-nil}
use Rattle.json.specs.Print.{escape_byte}
use Rattle.part_lines.specs.LineText.{valid_members, more_text}
use Rattle.part_lines.proofs.WrittenItems.{then, ends}
use Rattle.part_lines.proofs.writing.put_valid.Goals as goal

pub returns : goal.returns
unfolding valid_members escape_byte
returns c =
    let s : List ℕ = c.args.out.now.items in
    ends c.put_warnings.result s _ _ _ _ (more_text (valid_members c.args.begin c.args.records c.args.warnings.now)) (then s _ _ _ _ (then s _ _ _ _
    c.in_ok-put.ensures c.in_ok-put_number.ensures) c.in_ok-put-2.ensures) c.put_warnings.ensures (simp (append_assoc, append-nil))
