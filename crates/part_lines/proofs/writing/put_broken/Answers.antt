use Rattle.std.proofs.Common.{List, ℕ, ◌∷◌, codes, refl}
use Rattle.std.specs.Fmt.{decimal}
use Rattle.json.specs.Print.{escape_byte}
use Rattle.part_lines.specs.LineText.{num, record_members, more_text}
use Rattle.part_lines.proofs.WrittenItems.{then, ends}
use Rattle.part_lines.proofs.writing.put_broken.Goals as goal

pub returns : goal.returns
unfolding escape_byte
returns c =
    let s : List ℕ = c.args.out.now.items in
    let rest : List ℕ = more_text (record_members c.args.begin c.args.verdict.now) in
    ends c.put_record.result s _ _ _ rest (more_text ((codes "record", num c.args.number) ∷ record_members c.args.begin c.args.verdict.now))
    (then s _ _ (codes ",\"record\":") (decimal c.args.number) c.in_ok-put.ensures c.in_ok-put_number.ensures) c.put_record.ensures refl
