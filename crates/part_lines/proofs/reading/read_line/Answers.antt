use Rattle.part_lines.proofs.Common.{◌∙◌}
use Rattle.part_lines.proofs.LinesBack.{read-back}
use Rattle.part_lines.proofs.reading.read_line.Goals as goal

pub returns-in-Some-clause-written : goal.returns-in-Some-clause-written
returns-in-Some-clause-written c =
    let object_is = rw (c.in-Some.is) at c.in_ok-object.ensures.object in
    read-back c.args.text.now c.as_slice.result.now c.read_object.result (c.as_slice.ensures.value ∙ object_is) c.read_object.ensures.line
    c.written_lines_are_read.ensures c.members_say_one_line.ensures
