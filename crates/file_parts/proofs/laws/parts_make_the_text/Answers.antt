use Rattle.file_parts.proofs.WholeText.{parts_are_text}
use Rattle.file_parts.proofs.laws.parts_make_the_text.Goals as goal

pub returns : goal.returns
returns c = λ framing limits text parts begin end some are. parts_are_text framing limits text parts some begin end are
