use Rattle.std.proofs.Common.{refl}
use Rattle.geolint_report.proofs.SoughtPlaces.{Settles-set}
use Rattle.geolint_report.proofs.sites.Sites.settle.Goals as goal

pub returns-clause-settles : goal.returns-clause-settles
returns-clause-settles c = Settles-set c.args.self.now c.args.i _ c.index-self-i.result refl refl
