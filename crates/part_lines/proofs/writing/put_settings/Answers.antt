use Rattle.std.proofs.Common.{List, ℕ, append_assoc, append-nil}
use Rattle.json.specs.Print.{escape_byte}
use Rattle.part_lines.specs.LineText.{settings_members, more_text}
use Rattle.part_lines.proofs.WrittenItems.{then, ends, truth-text}
use Rattle.part_lines.proofs.writing.put_settings.Goals as goal

pub returns : goal.returns
unfolding settings_members escape_byte
returns c =
    let s : List ℕ = c.args.out.now.items in
    ends c.put_kinds-2.result s _ _ _ _ (more_text (settings_members c.args.settings.now)) (then s _ _ _ _ (then s _ _ _ _ (then s _ _ _ _ (then s _ _
    _ _ (then s _ _ _ _ (then s _ _ _ _ (then s _ _ _ _ (then s _ _ _ _ c.in_ok-put.ensures c.in_ok-put_framing.ensures) c.in_ok-put-2.ensures)
    c.in_ok-put_limit.ensures) c.in_ok-put-3.ensures) c.in_ok-put_truth.ensures) c.in_ok-put-4.ensures) c.in_ok-put_kinds.ensures) c.in_ok-put-5.ensures)
    c.put_kinds-2.ensures (simp (append_assoc, append-nil, truth-text))
