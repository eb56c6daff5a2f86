use Rattle.std.proofs.Common.{◌≡◌, take, false}
use Rattle.std.specs.List.{list_any}
use Rattle.geolint_report.specs.Sites.{is_found_at}
use Rattle.geolint_report.proofs.sites.Sites.at.Given as goal

-- none of the sites before this one is the place's
abbrev pub invariant-loop-site : goal.invariant-loop-site
invariant-loop-site l = record {
  none : list_any (is_found_at l.place) (take l.site-index l.self.sites) ≡ false;
}
