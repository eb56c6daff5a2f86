use Rattle.std.proofs.Common.{arith, get_or}
use Rattle.geolint_report.proofs.ReportedSites.{find-first, find-none, found-here}
use Rattle.geolint_report.specs.Sites.{is_found_at}
use Rattle.geolint_report.proofs.sites.Sites.at.Goals as goal

pub returns-then-site-place-clause-first : goal.returns-then-site-place-clause-first
returns-then-site-place-clause-first c =
    find-first (is_found_at c.args.place) c.args.self.now.sites c.loop-site.site-index c.site-item.result c.loop-site.invariant.none
    (omega (arith, c.loop-site-test.true))
    (found-here c.args.place (get_or c.args.self.now.sites c.loop-site.site-index c.site-item.result) c.if-site.true c.if-site-place.true)

pub returns-clause-first : goal.returns-clause-first
returns-clause-first c =
    find-none (is_found_at c.args.place) c.args.self.now.sites c.loop-site.site-index c.loop-site.invariant.none (omega (arith, c.loop-site-test.false))
