use Rattle.geolint_report.proofs.every.cursor.Cursor.pass.Goals as goal

pub returns-clause-passed : goal.returns-clause-passed
returns-clause-passed c = λ front passed. record {
  lines = c.feed.ensures front passed.lines;
  follows = c.feed-2.ensures.stands front passed.follows;
}
