use Rattle.part_lines.proofs.Common.{arith, ◌≡◌, ◌+◌, ◌∙◌, ◌++◌, List, ℕ, ap, sym, length, map, take, Note}
use Rattle.std.proofs.Common.{◌-◌}
use Rattle.std.proofs.lemmas.List.{take-map, take_all}
use Rattle.std.proofs.Math.Seq.{take-append-add}
use Rattle.file_parts.specs.JoinedNotes.{moved_note}
use Rattle.part_lines.proofs.notes.add_notes.Goals as goal

pub returns-clause-notes : goal.returns-clause-notes
returns-clause-notes c = λ few.
    let old = c.args.all.now.items in
    let more = c.args.more.now in
    let m = moved_note c.args.records c.args.begin in
    let left = c.args.room - length old in
    let fits : c.first_of-fitting.result.now ≡ take left more = c.first_of-fitting.ensures
    ∙ ap (λ (n : ℕ). take n more) (omega (arith, c.saturating_sub.ensures, c.len.ensures)) in
    let both : length old + left ≡ c.args.room = omega (arith, few) in
    c.loop-note.invariant
    ∙ (ap (λ (l : List Note). old ++ map m l) (take_all c.loop-note.note-index c.first_of-fitting.result.now c.loop-note-test.false ∙ fits)
    ∙ (ap (λ (l : List Note). old ++ l) (sym (take-map m left more))
    ∙ (sym (take-append-add old (map m more) left) ∙ ap (λ (n : ℕ). take n (old ++ map m more)) both)))
