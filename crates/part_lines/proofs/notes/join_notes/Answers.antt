use Rattle.std.proofs.Common.{◌≤◌, ◌∙◌, sym, subst, vec_len}
use Rattle.part_lines.proofs.JoinedNotes.{all-notes}
use Rattle.part_lines.proofs.LinesOfParts.{first_size, line_there}
use Rattle.part_lines.specs.Internal.NotesSoFar.{AreNotesTo}
use Rattle.part_lines.specs.Lines.{IsListedLineOf}
use Rattle.part_lines.specs.declared.notes.SoFar.{SoFar}
use Rattle.part_lines.proofs.notes.join_notes.Goals as goal
use Rattle.part_lines.proofs.notes.join_notes.Goals.{in-Some-get+in_ok-listed+in_ok-add, in_default-get}

pub loop-place-init : goal.loop-place-init
loop-place-init c = record {
  room = c.none-all.ensures.room c.args.asked.room;
  notes = λ framing limits text none all. c.none-all.ensures.notes framing limits c.args.asked text;
}

pub loop-place-preserved : goal.loop-place-preserved
loop-place-preserved c = record {
  room = elim c.match-get.branch [
    | in-Some-get+in_ok-listed+in_ok-add w ↦ subst (λ (a : SoFar). vec_len a.notes.notes ≤ c.args.asked.room) (sym w.all-is)
        (w.in_ok-add.ensures.room c.loop-place.invariant.room)
    | in_default-get w ↦ subst (λ (a : SoFar). vec_len a.notes.notes ≤ c.args.asked.room) (sym w.all-is) c.loop-place.invariant.room
  ];
  notes = λ framing limits text none all.
      let before = c.loop-place.invariant.notes framing limits text none all in
      elim c.match-get.branch [
        | in-Some-get+in_ok-listed+in_ok-add w ↦
            let line = w.in-Some-get.line.now in
            let is_line = line_there (IsListedLineOf framing limits text) c.args.lines.now _ line w.in-Some-get.ensures.lookup.3.0
            (w.in-Some-get.ensures.lookup.3.1 line) all in
            let listed = w.in_ok-listed.listed.now in
            subst (λ (a : SoFar). AreNotesTo framing limits c.args.asked text a) (sym w.all-is)
            (w.in_ok-add.ensures.notes framing limits text none w.in_ok-listed.ensures.1 is_line.line_of.part
            (is_line.notes_of listed w.in_ok-listed.ensures.0) before)
        | in_default-get w ↦ subst (λ (a : SoFar). AreNotesTo framing limits c.args.asked text a) (sym w.all-is) before
      ];
}

pub returns-then-all-first-clause-whole : goal.returns-then-all-first-clause-whole
returns-then-all-first-clause-whole c = λ framing limits text none all.
    let lines = c.args.lines.now in
    let long = first_size text lines c.in-Some.first.now c.in-Some.ensures.value (λ k none less. (all k none less).line_of.size) in
    all-notes framing limits c.args.asked text c.loop-place.all (long ∙ sym c.if-all-first.true) (c.loop-place.invariant.notes framing limits text none all)
