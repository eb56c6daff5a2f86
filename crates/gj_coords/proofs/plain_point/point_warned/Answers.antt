use Rattle.gj_coords.proofs.Common.{ap, flat_position, sound_noted, ◌∙◌}
use Rattle.gj_coords.proofs.Walks.PlainPoints.{point_with}
use Rattle.gj_coords.proofs.plain_point.point_warned.Goals as goal

pub returns : goal.returns
returns c =
    let f = c.args.flat.now in
    point_with f c.judge.new.warned (c.judge.ensures.warned ∙ ap (λ w. sound_noted w (flat_position f)) c.none-warned.ensures.exact)
