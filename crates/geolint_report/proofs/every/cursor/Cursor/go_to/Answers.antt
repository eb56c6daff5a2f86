use Rattle.std.proofs.Common.{◌∙◌}
use Rattle.geolint_report.proofs.CursorPlaces.{IsMarkBy-kept}
use Rattle.geolint_report.proofs.every.cursor.Cursor.go_to.Goals as goal

pub returns-clause-mark : goal.returns-clause-mark
returns-clause-mark g c = λ begun.
    let text = g.S.Source.text c.args.source.now in
    IsMarkBy-kept c.args.self.now.text_path.framing text c.args.place c.reach.new.self c.mark_of.result
    (c.reach.ensures.framing ∙ c.begin_before.ensures.framing) c.mark_of.ensures (c.reach.ensures.stands (c.begin_before.ensures.stands text begun))
