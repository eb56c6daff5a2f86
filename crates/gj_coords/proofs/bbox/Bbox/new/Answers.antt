use Rattle.gj_coords.specs.Bbox.{StandsFor}
use Rattle.gj_coords.specs.Internal.BoxElements.{box_answer, box_machine}
use Rattle.gj_coords.proofs.Readers.BboxLaws.{box_leads}
use Rattle.gj_coords.proofs.Readers.RestsOfValues.{reads_on_none}
use Rattle.gj_coords.proofs.bbox.Bbox.new.Goals as goal

pub returns : goal.returns
unfolding StandsFor
returns c = record { stands = reads_on_none box_machine box_answer _ (rw (c.new.ensures, c.none.ensures) box_leads) }
