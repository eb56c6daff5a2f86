use Rattle.gj_coords.proofs.Common.{all_in, ap, ◌∙◌}
use Rattle.gj_coords.proofs.Walks.AnswersOfWalks.{walk_kept, whole_kept}
use Rattle.gj_coords.proofs.coordinates.Coordinates.warned.Goals as goal

pub returns-in-Whole : goal.returns-in-Whole
returns-in-Whole c = λ value stands room.
    ap all_in c.held_warned.ensures ∙ whole_kept c.args.simple c.args.self.now value c.in-Whole.is stands room

pub returns-in_default : goal.returns-in_default
returns-in_default c = λ value stands room.
    ap all_in c.warned.ensures ∙ walk_kept c.args.simple c.args.self.now value c.in_default.not-Whole stands room
