use Rattle.std.proofs.Common.{arith, ◌≡◌, ◌<◌, ◌*◌, ◌^◌, ◌∙◌, ap, ℕ, List, length, subst, sym}
use Rattle.std.specs.List.{All}
use Rattle.file_parts.specs.Checked.{IsPartOf, AreAllParts, HasAtMost}
use Rattle.file_parts.specs.declared.checked.CheckedPart.{CheckedPart}
use Rattle.part_lines.proofs.LinesOfParts.{all_parts, parts_hold, first_size}
use Rattle.part_lines.proofs.joining.join_lines.Goals as goal

pub returns-in-Ok-join_parts-clause-whole : goal.returns-in-Ok-join_parts-clause-whole
returns-in-Ok-join_parts-clause-whole c = λ framing limits text all.
    let lines = c.args.lines.now in
    let parts = parts_hold (IsPartOf framing limits text) lines _ c.in-Ok.ensures.parts (λ k none less. (all k none less).part) in
    c.in-Ok-join_parts.ensures.whole framing limits text (first_size text lines c.in-Some.first.now c.in-Some.ensures.value (λ k none less. (all k none less).size))
    (subst (All (IsPartOf framing limits text)) (sym c.as_slice.ensures.value) parts)

pub returns-in-Err-NotInOrder-clause-complete : goal.returns-in-Err-NotInOrder-clause-complete
returns-in-Err-NotInOrder-clause-complete c = λ framing limits text all.
    let lines = c.args.lines.now in
    let slice : List CheckedPart = c.as_slice.result.now in
    let parts : AreAllParts framing limits text slice = subst (AreAllParts framing limits text) (sym c.as_slice.ensures.value)
    (all_parts framing limits text lines _ c.in-Ok.ensures.parts all) in
    let long : length slice ≡ length lines = ap length c.as_slice.ensures.value ∙ c.in-Ok.ensures.parts.long in
    c.join_parts.ensures.complete framing limits text
    (first_size text lines c.in-Some.first.now c.in-Some.ensures.value (λ k none less. (all.each k none less).size))
    (omega (arith, all.some, long)) parts (cc (c.in-Err-NotInOrder.is, c.in-Err-NotInOrder.field-0-is))

pub returns-clause-few : goal.returns-clause-few
returns-clause-few c = λ most few each _.
    let slice : List CheckedPart = c.as_slice.result.now in
    let parts : All (HasAtMost most) slice = subst (All (HasAtMost most)) (sym c.as_slice.ensures.value)
    (parts_hold (HasAtMost most) c.args.lines.now _ c.in-Ok.ensures.parts each) in
    let long : length slice ≡ length c.args.lines.now = ap length c.as_slice.ensures.value ∙ c.in-Ok.ensures.parts.long in
    c.join_parts.ensures.few most (subst (λ (n : ℕ). n * most < 2 ^ 64) (sym long) few) parts (cc (c.in-Err-TooMany.is, c.in-Err-TooMany.field-0-is))
