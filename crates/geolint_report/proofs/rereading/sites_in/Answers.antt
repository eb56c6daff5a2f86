use Rattle.geolint_report.proofs.Common.{[], List, ℕ, sym, subst, Contains}
use Rattle.geolint_report.proofs.rereading.sites_in.Goals as goal

pub returns-clause-sites : goal.returns-clause-sites
returns-clause-sites g c =
    let unfound = c.places-sites.ensures.unfound in
    let right = c.places-sites.ensures.right [] in
    let ordered = c.places-sites.ensures.ordered in
    record {
      right = c.find.ensures.right right;
      paths = c.find.ensures.paths right (c.places-sites.ensures.paths c.args.framing []);
      told = c.find.ensures.told unfound;
      texts = c.find.ensures.texts unfound;
      found = c.in_ok-find.ensures.found right ordered;
      excerpt = c.in_ok-find.ensures.excerpt c.places-sites.ensures.unread right ordered;
    }

pub returns-clause-places : goal.returns-clause-places
returns-clause-places g c = record {
  all = λ place told small. subst (λ (places : List ℕ). Contains places place) (sym c.find.ensures.sought) (c.places-sites.ensures.all place told small);
  only = λ place contains. c.places-sites.ensures.only place (subst (λ (places : List ℕ). Contains places place) c.find.ensures.sought contains);
}
