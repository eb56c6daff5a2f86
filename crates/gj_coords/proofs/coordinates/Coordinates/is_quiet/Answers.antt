use Rattle.gj_coords.proofs.Common.{sym, ◌∙◌}
use Rattle.gj_coords.proofs.Walks.AnswersOfWalks.{walk_quiet, whole_quiet}
use Rattle.gj_coords.proofs.coordinates.Coordinates.is_quiet.Goals as goal

pub returns-in-Whole : goal.returns-in-Whole
returns-in-Whole c = record {
  none = λ value simple stands room quiet.
      whole_quiet simple c.args.self.now value (sym c.is_nothing.ensures.exact ∙ quiet) c.in-Whole.is stands room;
}

pub returns-in_default : goal.returns-in_default
returns-in_default c = record {
  none = λ value simple stands room quiet. walk_quiet simple c.args.self.now value (sym c.is_quiet.ensures ∙ quiet) c.in_default.not-Whole stands room;
}
