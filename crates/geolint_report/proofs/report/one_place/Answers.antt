use Rattle.geolint_report.proofs.report.one_place.Goals as goal

pub returns-clause-right : goal.returns-clause-right
returns-clause-right c = λ text. c.seek.ensures.right text (c.none-sites.ensures.right text)

pub returns-clause-paths : goal.returns-clause-paths
returns-clause-paths c = λ framing text. c.seek.ensures.paths framing text (c.none-sites.ensures.paths framing text)

pub returns-clause-unfound : goal.returns-clause-unfound
returns-clause-unfound c = c.seek.ensures.unfound c.none-sites.ensures.unfound

pub returns-clause-unread : goal.returns-clause-unread
returns-clause-unread c = c.seek.ensures.unread c.none-sites.ensures.unread
