use Rattle.std.proofs.Common.{◌++◌}
use Rattle.geolint_report.proofs.feeds.QuickTextsFeedsLinter.feed.Goals as goal

pub returns-then-doomed-clause-decided : goal.returns-then-doomed-clause-decided
returns-then-doomed-clause-decided c same bytes stands =
    c.doomed.ensures.sound (bytes ++ c.args.piece.now) (c.feed.ensures.stands bytes stands) c.if-doomed.true
