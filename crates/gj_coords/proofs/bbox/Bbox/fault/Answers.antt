use Rattle.gj_coords.proofs.Common.{ap, ◌∙◌}
use Rattle.gj_coords.specs.Bbox.{StandsFor}
use Rattle.gj_coords.specs.Internal.BoxElements.{box_answer, box_machine}
use Rattle.gj_coords.proofs.Readers.BboxLaws.{box_least}
use Rattle.gj_coords.proofs.Readers.RestsOfValues.{reads_on_answers}
use Rattle.gj_coords.proofs.bbox.Bbox.fault.Goals as goal

pub returns : goal.returns
unfolding StandsFor
returns c = record {
  least = λ value stands room.
      c.fault_in.ensures ∙ (ap (λ a. a.fault) (reads_on_answers box_machine box_answer c.args.self.now value stands room) ∙ box_least value);
}
