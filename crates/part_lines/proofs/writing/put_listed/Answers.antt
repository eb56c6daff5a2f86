use Rattle.std.proofs.Common.{◌≡◌, ◌∙◌, ◌++◌, [], ◌∷◌, List, ℕ, codes, ap, sym, subst, append_assoc, append-nil}
use Rattle.std.specs.Prelude.{OnOk}
use Rattle.std.specs.Fmt.{decimal}
use Rattle.json.specs.Print.{escape_byte, quoted}
use Rattle.serde_json.specs.Written.{compact_text}
use Rattle.geolint_report.specs.declared.every.listing.Note.{Note}
use Rattle.part_lines.specs.LineText.{Named, num, array_of, note_items, tally_members, listed_members, more_text}
use Rattle.part_lines.specs.Lines.{every_word}
use Rattle.part_lines.proofs.WrittenItems.{then, ends, more-append}
use Rattle.part_lines.proofs.writing.put_listed.Goals as goal

grouped : (a b c d e f g h i : List ℕ)
    → (((((((a ++ b) ++ c) ++ d) ++ e) ++ f) ++ g) ++ h) ++ i ≡ (a ++ b) ++ ((c ++ d) ++ (e ++ ((f ++ g) ++ ((h ++ i) ++ []))))
grouped a b c d e f g h i = simp (append_assoc, append-nil)

pub returns : goal.returns
unfolding listed_members escape_byte
returns c =
    let s : List ℕ = c.args.out.now.items in
    let every : List ℕ = quoted (every_word c.args.listed.now.asked.with_warnings) in
    let most : List ℕ = decimal c.args.listed.now.asked.room in
    let tally : List Named = tally_members c.args.listed.now.notes.tally in
    let count : List ℕ = decimal c.args.listed.now.notes.count in
    let items = array_of (note_items c.args.begin c.args.listed.now.notes.notes.items) in
    let listed : List ℕ = compact_text items in
    let rest : List Named = (codes "findings", num c.args.listed.now.notes.count) ∷ (codes "listed", items) ∷ [] in
    let last : OnOk c.put_notes.result (c.put_notes.new.out.items ≡ c.put-4.new.line.items ++ listed) =
    subst (λ (notes : List Note). OnOk c.put_notes.result (c.put_notes.new.out.items ≡ c.put-4.new.line.items
    ++ compact_text (array_of (note_items c.args.begin notes)))) c.as_slice.ensures.value c.put_notes.ensures in
    ends c.put_notes.result s _ _ _ listed (more_text (listed_members c.args.begin c.args.listed.now))
    (then s _ _ _ (codes ",\"listed\":") (then s _ _ _ count (then s _ _ _ (codes ",\"findings\":") (then s _ _ _ (more_text tally)
    (then s _ _ _ most (then s _ _ _ (codes ",\"most\":") (then s _ _ (codes ",\"every\":") every c.in_ok-put.ensures c.in_ok-put_every.ensures)
    c.in_ok-put-2.ensures) c.in_ok-put_number.ensures) c.in_ok-put_tally.ensures) c.in_ok-put-3.ensures) c.in_ok-put_number-2.ensures)
    c.in_ok-put-4.ensures) last
    (grouped (codes ",\"every\":") every (codes ",\"most\":") most (more_text tally) (codes ",\"findings\":") count (codes ",\"listed\":") listed
    ∙ ap (λ (l : List ℕ). (codes ",\"every\":" ++ every) ++ ((codes ",\"most\":" ++ most) ++ l)) (sym (more-append tally rest)))
