use Rattle.std.proofs.Common.{List, ℕ, append_assoc, append-nil}
use Rattle.json.specs.Print.{escape_byte}
use Rattle.part_lines.specs.LineText.{fault_members, more_text}
use Rattle.part_lines.proofs.WrittenItems.{then, ends}
use Rattle.part_lines.proofs.writing.put_fault.Goals as goal

pub returns : goal.returns
unfolding fault_members escape_byte
returns c =
    let s : List ℕ = c.args.out.now.items in
    ends c.put_place.result s _ _ _ _ (more_text (fault_members c.args.begin c.args.code c.args.place)) (then s _ _ _ _ (then s _ _ _ _
    c.in_ok-put.ensures c.in_ok-put_code.ensures) c.in_ok-put-2.ensures) c.put_place.ensures (simp (append_assoc, append-nil))
