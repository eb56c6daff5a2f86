use Rattle.geolint_report.proofs.Common.{ℕ, List, take, ◌≡◌, Option, Framing}
use Rattle.std.specs.List.{filter}
use Rattle.geolint_report.specs.Internal.SoughtPlaces.{is_sought}
use Rattle.geolint_report.specs.Sites.{AreRight, ArePaths, NoneFound, IsUnread, sought}
use Rattle.geolint_report.proofs.report.sites_at.Given as goal

-- the places before this one are sought
abbrev pub invariant-loop-place : goal.invariant-loop-place
invariant-loop-place l = record {
  right : (text : List ℕ) → AreRight text l.sites.sites;
  paths : (framing : Option Framing) (text : List ℕ) → ArePaths framing text l.sites.sites;
  unfound : NoneFound l.sites.sites;
  unread : IsUnread l.sites;
  sought : sought l.sites ≡ filter is_sought (take l.place-index l.places);
}
