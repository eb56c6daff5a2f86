use Rattle.std.proofs.Common.{arith}
use Rattle.geolint_report.proofs.SoughtPlaces.{sought-more}
use Rattle.geolint_report.proofs.FoundSites.{right-sought}
use Rattle.geolint_report.proofs.ToldPaths.{unfound-set}
use Rattle.geolint_report.proofs.sites.Sites.seek.Goals as goal

pub returns-then-self-lt-MOST_PLACES-clause-right : goal.returns-then-self-lt-MOST_PLACES-clause-right
returns-then-self-lt-MOST_PLACES-clause-right c = λ text right. right-sought text c.args.self.now.sites c.args.self.now.count c.of.result right c.of.ensures.1

pub returns-then-self-lt-MOST_PLACES-clause-sought : goal.returns-then-self-lt-MOST_PLACES-clause-sought
returns-then-self-lt-MOST_PLACES-clause-sought c =
    λ room. sought-more c.args.self.now c.of.result c.args.place (omega (arith, c.if-self-lt-MOST_PLACES.true)) c.of.ensures.0

pub returns-then-self-lt-MOST_PLACES-clause-unfound : goal.returns-then-self-lt-MOST_PLACES-clause-unfound
returns-then-self-lt-MOST_PLACES-clause-unfound c = λ none. unfound-set c.args.self.now.sites c.args.self.now.count c.of.result none c.of.ensures.1
