use Rattle.std.proofs.Common.{arith, ◌+◌, ℕ, List, map, subst, sym}
use Rattle.std.proofs.lemmas.List.{length-map}
use Rattle.part_lines.proofs.LinesOfParts.{is_there, next_part}
use Rattle.part_lines.specs.Internal.Places.{ArePlaced}
use Rattle.part_lines.specs.Lines.{ArePartsTo, part_number}
use Rattle.file_parts.specs.declared.checked.CheckedPart.{CheckedPart}
use Rattle.part_lines.proofs.joining.parts_in.Goals as goal

pub returns-in_default-clause-complete : goal.returns-in_default-clause-complete
returns-in_default-clause-complete c = λ all.
    let numbers = map part_number c.args.lines.now in
    let long = length-map c.args.lines.now part_number in
    let placed = subst (λ (n : ℕ). ArePlaced numbers n c.args.order.now) (sym long) c.requires.placed in
    let there = is_there numbers c.args.order.now c.loop-index.index-index placed all c.loop-index-test.true in
    omega (arith, there, long, c.in_default.ensures.lookup.3)

pub loop-index-preserved : goal.loop-index-preserved
loop-index-preserved c =
    let found = c.in-Some.ensures.lookup.3 in
    subst (λ (l : List CheckedPart). ArePartsTo c.args.lines.now (c.loop-index.index-index + 1) l) (sym c.in-Ok.ensures.items)
    (next_part c.args.lines.now c.args.order.now c.loop-index.index-index c.loop-index.parts.items c.in-Some.line.now c.requires.placed c.loop-index.invariant
    c.loop-index-test.true found.0 (found.1 c.in-Some.line.now))
