use Rattle.geolint_report.proofs.CursorPlaces.{StandsBy-new}
use Rattle.geolint_report.proofs.every.cursor.Cursor.begin_before.Goals as goal

pub returns-then-is_behind-clause-stands : goal.returns-then-is_behind-clause-stands
returns-then-is_behind-clause-stands c = λ text begun. StandsBy-new c.begin.result (λ text. c.begin.ensures.stands text) text
