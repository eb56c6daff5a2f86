use Rattle.part_lines.proofs.Common.{◌+◌, ◌++◌, ◌∷◌, [], List, take, sym, subst, map, Note, Data, view, AreNotes}
use Rattle.part_lines.proofs.ReadItems.{seen-more, seen-all, notes-more}
use Rattle.part_lines.proofs.reading.read_each_note.Goals as goal

pub loop-one-init : goal.loop-one-init
loop-one-init c = c.new-notes.ensures.items

pub loop-one-preserved : goal.loop-one-preserved
loop-one-preserved c =
    let (number, is) = c.in-Some.ensures in
    subst (λ (notes : List Note). AreNotes c.args.begin (take (c.loop-one.one-index + 1) (map view c.args.found.now)) notes) (sym c.in-Ok.ensures.items)
    (subst (λ (items : List Data). AreNotes c.args.begin items (c.loop-one.notes.items ++ c.in-Some.note ∷ []))
    (sym (seen-more c.args.found.now c.loop-one.one-index c.one-item.result c.loop-one-test.true c.one-item.is))
    (notes-more c.args.begin _ c.loop-one.notes.items _ c.in-Some.note number c.loop-one.invariant is))

pub returns : goal.returns
returns c =
    subst (λ (items : List Data). AreNotes c.args.begin items c.loop-one.notes.items)
    (seen-all c.args.found.now c.loop-one.one-index c.loop-one-test.false) c.loop-one.invariant
