use Rattle.geolint_report.proofs.Common.{arith, ap, sym, subst, ◌∙◌, ◌≡◌, ◌<◌, ◌++◌, ◌∷◌, [], ℕ, List, length, take, get_or, take_all, sought}
use Rattle.std.specs.List.{filter}
use Rattle.std.proofs.lemmas.List.Elements.{filter_more}
use Rattle.geolint_report.specs.Internal.SoughtPlaces.{is_sought}
use Rattle.geolint_report.proofs.PlacesInOrder.{filter-short}
use Rattle.geolint_report.proofs.report.sites_at.Goals as goal

pub loop-place-preserved : goal.loop-place-preserved
loop-place-preserved c =
    let places = c.args.places.now in
    let i = c.loop-place.place-index in
    let short = filter-short is_sought places i in
    let few : length (sought c.loop-place.sites) < 10 =
    omega (arith, short, ap (λ (ys : List ℕ). length ys) c.loop-place.invariant.sought, c.loop-place-test.true, c.requires) in
    record {
      right = λ text. c.seek_if.ensures.right text (c.loop-place.invariant.right text);
      paths = λ framing text. c.seek_if.ensures.paths framing text (c.loop-place.invariant.paths framing text);
      unfound = c.seek_if.ensures.unfound c.loop-place.invariant.unfound;
      unread = c.seek_if.ensures.unread c.loop-place.invariant.unread;
      sought = c.seek_if.ensures.sought few
          ∙ (ap (λ (ys : List ℕ). ys ++ filter is_sought (get_or places i 0 ∷ [])) c.loop-place.invariant.sought
          ∙ sym (filter_more is_sought places i 0 c.loop-place-test.true));
    }

pub returns-clause-sought : goal.returns-clause-sought
returns-clause-sought c =
    let all : take c.loop-place.place-index c.args.places.now ≡ c.args.places.now =
    take_all c.loop-place.place-index c.args.places.now c.loop-place-test.false in
    subst (λ (places : List ℕ). sought c.loop-place.sites ≡ filter is_sought places) all c.loop-place.invariant.sought
