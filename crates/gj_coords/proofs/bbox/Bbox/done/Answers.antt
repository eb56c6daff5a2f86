use Rattle.gj_coords.specs.Bbox.{StandsFor}
use Rattle.gj_coords.specs.Internal.BoxElements.{box_answer, box_machine}
use Rattle.gj_coords.proofs.Readers.RestsOfValues.{reads_on_ended}
use Rattle.gj_coords.proofs.bbox.Bbox.done.Goals as goal

pub returns : goal.returns
unfolding StandsFor
returns c = record {
  at_the_end = λ value events rest stands joined room.
      rw c.done.ensures (reads_on_ended box_machine box_answer c.args.self.now value events rest stands joined room);
}
