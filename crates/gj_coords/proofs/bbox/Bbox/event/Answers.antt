use Rattle.gj_coords.specs.Bbox.{StandsFor}
use Rattle.gj_coords.specs.Internal.BoxElements.{box_answer, box_machine}
use Rattle.gj_coords.proofs.Readers.RestsOfValues.{reads_on_more}
use Rattle.gj_coords.proofs.bbox.Bbox.event.Goals as goal

pub returns : goal.returns
unfolding StandsFor
returns c = record {
  stands = λ events stands. rw (c.event.ensures, c.take.ensures) (reads_on_more box_machine box_answer c.args.self.now events c.args.event stands);
}
