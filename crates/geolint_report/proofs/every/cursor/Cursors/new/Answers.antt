use Rattle.geolint_report.proofs.CursorPlaces.{StandsBy-new}
use Rattle.geolint_report.proofs.every.cursor.Cursors.new.Goals as goal

pub returns : goal.returns
returns c = λ text. (
  (c.new.ensures.framing, c.new-2.ensures.framing),
  StandsBy-new c.new.result (λ text. c.new.ensures.stands text) text,
  StandsBy-new c.new-2.result (λ text. c.new-2.ensures.stands text) text,
)
