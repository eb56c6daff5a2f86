use Rattle.geolint_report.proofs.Common.{ℕ, List, sym, subst, Contains, Framing}
use Rattle.std.specs.Prelude.{Option}
use Rattle.geolint_report.specs.Held.{AreHeldIn}
use Rattle.geolint_report.proofs.every.spots.Spots.sites.Goals as goal

pub returns : goal.returns
returns c = (
  record {
    all = λ place told small. subst (λ (places : List ℕ). Contains places place) (sym c.recall.ensures.sought) (c.places-sites.ensures.all place told small);
    only = λ place contains. c.places-sites.ensures.only place (subst (λ (places : List ℕ). Contains places place) c.recall.ensures.sought contains);
  },
  λ bytes are. subst (λ (framing : Option Framing). AreHeldIn c.args.limits framing bytes c.recall.new.self) c.framing.ensures
      (c.recall.ensures.held bytes are.0 are.1 c.places-sites.ensures.unfound c.places-sites.ensures.unread c.places-sites.ensures.ordered),
)
