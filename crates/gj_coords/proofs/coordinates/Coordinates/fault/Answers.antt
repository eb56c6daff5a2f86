use Rattle.gj_coords.proofs.Common.{◌∙◌}
use Rattle.gj_coords.proofs.Walks.AnswersOfWalks.{walk_least, whole_least}
use Rattle.gj_coords.proofs.coordinates.Coordinates.fault.Goals as goal

pub returns-in-Whole : goal.returns-in-Whole
returns-in-Whole c = record {
  least = λ value stands room. c.held_fault.ensures ∙ whole_least c.args.simple c.args.self.now value c.in-Whole.is stands room;
}

pub returns-in_default : goal.returns-in_default
returns-in_default c = record {
  least = λ value stands room. c.fault.ensures ∙ walk_least c.args.simple c.args.self.now value c.in_default.not-Whole stands room;
}
