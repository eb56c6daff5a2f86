use Rattle.geolint_report.proofs.Common.{arith, ◌≡◌, ◌≤◌, ◌<◌, ◌+◌, ◌-◌, ◌++◌, ℕ, List, length, take, drop, get_or, ap, sym, ◌∙◌, subst, append_assoc}
use Rattle.geolint_report.proofs.Common.{length-append, inl, inr, refl, Option, [], StandsFor, Framing, Allowed}
use Rattle.std.proofs.Common.{length-take-le, IfSome}
use Rattle.std.proofs.lemmas.List.{take-append-drop}
use Rattle.gj_places.specs.declared.lines.Lines.{Lines}
use Rattle.gj_json.specs.declared.path.Path.{Path}
use Rattle.gj_places.specs.Keeping.{Keeps as KeepsLine}
use Rattle.gj_places.specs.declared.excerpt.Excerpt.{Excerpt}
use Rattle.geolint_report.specs.Sites.{IsSpot, LeadsTo, IsPathOf, IsTold, IsUnderWay, text_of}
use Rattle.geolint_report.proofs.FoundSites.{Spot-is, take-joined}
use Rattle.geolint_report.specs.Internal.SecondReading.{Settles}
use Rattle.geolint_report.specs.Internal.TextPaths.{StandsIn, KeepsIn}
use Rattle.geolint_report.proofs.FollowedPaths.{LeadsTo-here}
use Rattle.geolint_report.proofs.ToldPaths.{IsTold-here}
use Rattle.geolint_report.proofs.KeptExcerpts.{Shows-settled}
use Rattle.geolint_report.proofs.SoughtPlaces.{Seeks-settled, Seeks-passed, sought-at, sought-first, sought-settled}
use Rattle.geolint_report.proofs.sites.Sites.reach.Goals as goal

pub returns-clause-reaches : goal.returns-clause-reaches
returns-clause-reaches c = λ text reaches.
    let finder = c.args.finder.now in
    let piece = c.args.piece.now in
    let site = get_or c.args.self.now.sites finder.next c.index-self-i.result in
    let at = site.place - finder.offset in
    let offset = reaches.offset in
    let exact : finder.offset ≡ length text = omega (arith, offset, c.saturating_add-end.ensures, c.if-place-finder.false, c.if-end-place.false) in
    let behind : finder.offset ≤ site.place = c.if-place-finder.false in
    let before : site.place < c.saturating_add-end.result = c.if-end-place.false in
    let within : at < length piece = omega (arith, offset, c.saturating_add-end.ensures, behind, before) in
    let here : site.place ≡ length text + at = omega (arith, exact, behind) in
    let open_place : finder.next < c.args.self.now.count = c.if-i-self.false in
    let fed = c.feed.ensures (text ++ take finder.counted piece) (reaches.lines open_place) in
    let joined = append_assoc text (take finder.counted piece) _
    ∙ ap (λ (ys : List ℕ). text ++ ys) (take-joined finder.counted at piece c.if-at-finder.false) in
    let stands : StandsFor c.feed.new.self (text ++ take at piece) = subst (StandsFor c.feed.new.self) joined fed in
    let lines = c.locate_to.ensures.same.lines in
    let after = subst (λ (l : Lines). StandsFor l (text ++ take at piece)) (sym lines) stands in
    let spot = Spot-is text (take at piece) at site.place c.locate_to.new.self.lines c.spot.result (drop at piece)
    (length-take-le at piece (omega (arith, within))) here after c.spot.ensures.0 c.spot.ensures.1 in
    let whole : (text ++ take at piece) ++ drop at piece ≡ text ++ piece =
    append_assoc text (take at piece) (drop at piece) ∙ ap (λ (ys : List ℕ). text ++ ys) (take-append-drop at piece) in
    let is : IsSpot (text ++ piece) site.place c.spot.result = subst (λ (bytes : List ℕ). IsSpot bytes site.place c.spot.result) whole spot in
    record {
      offset = c.locate_to.ensures.same.offset ∙ reaches.offset;
      counted = omega (arith, within, c.locate_to.ensures.same.counted);
      lines = λ fewer. subst (λ (k : ℕ). StandsFor c.locate_to.new.self.lines (text ++ take k piece)) (sym c.locate_to.ensures.same.counted) after;
      right = c.settle.ensures.right (text ++ piece) c.index-self-i.result reaches.right is;
    }

pub returns-clause-follows : goal.returns-clause-follows
returns-clause-follows c = λ framing text reaches follows.
    let finder = c.args.finder.now in
    let piece = c.args.piece.now in
    let site = get_or c.args.self.now.sites finder.next c.index-self-i.result in
    let at = site.place - finder.offset in
    let offset = reaches.offset in
    let here : site.place ≡ length text + at = omega (arith, offset, c.saturating_add-end.ensures, c.if-place-finder.false, c.if-end-place.false) in
    let within : at < length piece = omega (arith, offset, c.saturating_add-end.ensures, c.if-place-finder.false, c.if-end-place.false) in
    let near_place = follows.near in
    let near : finder.located ≤ at + 1 = omega (arith, near_place, c.if-at-finder.false) in
    let stands : StandsIn c.locate_to.new.self.text_path (text ++ take (at + 1) piece) =
    c.locate_to.ensures.stands text near (omega (arith, within)) (follows.stands c.if-i-self.false) in
    let located : c.locate_to.new.self.located ≡ at + 1 = c.locate_to.ensures.located near (omega (arith, within)) in
    let kind : c.locate_to.new.self.text_path.framing ≡ framing = c.locate_to.ensures.same.kind ∙ follows.kind in
    let path = subst (λ (b : Option Framing). IfSome c.path.result (λ (p : Path). IsPathOf (text_of b (text ++ take (at + 1) piece)) p)) kind
    (c.path.ensures.is (text ++ take (at + 1) piece) stands) in
    let leads : LeadsTo framing (text ++ piece) site.place c.path.result = LeadsTo-here framing text piece at site.place c.path.result within here path in
    record {
      kind = kind;
      located = omega (arith, within, located);
      near = omega (arith, located, c.locate_to.ensures.same.counted);
      stands = λ fewer. subst (λ (n : ℕ). StandsIn c.locate_to.new.self.text_path (text ++ take n piece)) (sym located) stands;
      paths = c.settle.ensures.paths framing (text ++ piece) c.index-self-i.result follows.paths leads;
    }

pub returns-clause-tells : goal.returns-clause-tells
returns-clause-tells c = λ limits framing text reaches follows tells.
    let finder = c.args.finder.now in
    let after = c.locate_to.new.self in
    let piece = c.args.piece.now in
    let site = get_or c.args.self.now.sites finder.next c.index-self-i.result in
    let at = site.place - finder.offset in
    let offset = reaches.offset in
    let here : site.place ≡ length text + at = omega (arith, offset, c.saturating_add-end.ensures, c.if-place-finder.false, c.if-end-place.false) in
    let within : at < length piece = omega (arith, offset, c.saturating_add-end.ensures, c.if-place-finder.false, c.if-end-place.false) in
    let near_place = follows.near in
    let near : finder.located ≤ at + 1 = omega (arith, near_place, c.if-at-finder.false) in
    let front = text ++ take (at + 1) piece in
    let keeps : KeepsIn after.text_path front =
    c.locate_to.ensures.keeps text near (omega (arith, within)) (follows.stands c.if-i-self.false) (tells.keeps c.if-i-self.false) in
    let located : after.located ≡ at + 1 = c.locate_to.ensures.located near (omega (arith, within)) in
    let kind : after.text_path.framing ≡ framing = c.locate_to.ensures.same.kind ∙ follows.kind in
    let under : after.text_path.limits ≡ limits = c.locate_to.ensures.same.limits ∙ tells.under in
    let told : IsTold limits framing (text ++ piece) site.place c.path.result = IsTold-here limits framing text piece at site.place c.path.result within here
    (λ goes. c.path.ensures.told
    (keeps (subst (λ (l : Allowed). IsUnderWay l after.text_path.framing front) (sym under)
    (subst (λ (b : Option Framing). IsUnderWay limits b front) (sym kind) goes))).0) in
    record {
      under = under;
      keeps = λ fewer. subst (λ (n : ℕ). KeepsIn after.text_path (text ++ take n piece)) (sym located) keeps;
      within = c.settle.ensures.within (text ++ piece) c.index-self-i.result tells.within (omega (arith, here, within, length-append text piece));
      told = c.settle.ensures.told limits framing (text ++ piece) c.index-self-i.result tells.told told;
    }

-- what the excerpt takes changes no place
before-excerpt : (c : goal.After-finder-2-1) → Settles c.args.self.now c.settle.new.self c.args.finder.now.next
before-excerpt c =
    record {
      count = c.settle.ensures.settles.count;
      places = c.settle.ensures.settles.places;
      here = c.settle.ensures.settles.here;
      kept =
          c.settle.ensures.settles.kept;
    }

pub returns-clause-shows : goal.returns-clause-shows
returns-clause-shows c = λ text reaches shows.
    let finder = c.args.finder.now in
    let piece = c.args.piece.now in
    let sites = c.args.self.now in
    let new = c.settle.new.self in
    let site = get_or sites.sites finder.next c.index-self-i.result in
    let at = site.place - finder.offset in
    let offset = reaches.offset in
    let here : site.place ≡ length text + at = omega (arith, offset, c.saturating_add-end.ensures, c.if-place-finder.false, c.if-end-place.false) in
    let within : at < length piece = omega (arith, offset, c.saturating_add-end.ensures, c.if-place-finder.false, c.if-end-place.false) in
    let counted : c.locate_to.new.self.counted ≡ at = c.locate_to.ensures.same.counted in
    let joined = append_assoc text (take finder.counted piece) _
    ∙ ap (λ (ys : List ℕ). text ++ ys) (take-joined finder.counted at piece c.if-at-finder.false) in
    let kept : KeepsLine c.feed_before.new.self (text ++ take at piece) [] =
    subst (λ (bytes : List ℕ). KeepsLine c.feed_before.new.self bytes []) joined
    (c.feed_before.ensures (text ++ take finder.counted piece) (shows.before c.if-i-self.false)) in
    let keeps : KeepsLine new.excerpt (text ++ take c.locate_to.new.self.counted piece) [] =
    subst (λ (n : ℕ). KeepsLine new.excerpt (text ++ take n piece) []) (sym counted)
    (subst (λ (e : Excerpt). KeepsLine e (text ++ take at piece) []) (sym c.settle.ensures.excerpt) kept) in
    let place : site.place ≡ length (text ++ take c.locate_to.new.self.counted piece) =
    omega (
      arith,
      here,
      length-append text (take c.locate_to.new.self.counted piece),
      length-take-le c.locate_to.new.self.counted piece
          (omega (arith, counted, within)),
      counted,
    ) in
    Shows-settled finder _ sites new text piece c.index-self-i.result shows (before-excerpt c) refl c.if-i-self.false place keeps

pub returns-clause-reached : goal.returns-clause-reached
returns-clause-reached c = λ yes text reaches ordered seeks.
    let finder = c.args.finder.now in
    let sites = c.args.self.now in
    let settles : Settles sites c.settle.new.self finder.next = before-excerpt c in
    let offset = reaches.offset in
    let site = get_or sites.sites finder.next c.index-self-i.result in
    let here : site.place ≡ length text + c.locate_to.new.self.counted =
    omega (arith, offset, c.saturating_add-end.ensures, c.if-place-finder.false, c.if-end-place.false, c.locate_to.ensures.same.counted) in
    Seeks-settled finder _ sites c.settle.new.self (length text + finder.counted) (length text + c.locate_to.new.self.counted) seeks settles refl
    (λ k e later within.
    let (counted, stored) = sought-first sites finder.next k (omega (arith, later)) within in
    omega (arith, here, sought-at sites finder.next e c.index-self-i.result counted stored, ordered finder.next k e (omega (arith, later)) within))

pub returns-clause-sought : goal.returns-clause-sought
returns-clause-sought c = sought-settled c.args.self.now c.settle.new.self c.args.finder.now.next (before-excerpt c)

pub returns-then-place-finder-clause-passed : goal.returns-then-place-finder-clause-passed
returns-then-place-finder-clause-passed c = λ no text reaches ordered seeks.
    let finder = c.args.finder.now in
    let offset = reaches.offset in
    let end = c.saturating_add-end.ensures in
    Seeks-passed finder c.args.self.now (length text + finder.counted) (length text + length c.args.piece.now) c.index-self-i.result ordered seeks
    (λ small behind. elim c.then-place-finder.either [
      | inl before ↦ absurd (omega (arith, small, behind, before, offset))
      | inr after ↦ omega (arith, small, behind, after.1, offset, end)
    ])

pub returns-then-at-finder-clause-passed : goal.returns-then-at-finder-clause-passed
returns-then-at-finder-clause-passed c = λ no text reaches ordered seeks.
    let finder = c.args.finder.now in
    let offset = reaches.offset in
    let end = c.saturating_add-end.ensures in
    let small = c.if-end-place.false in
    let begun = c.if-place-finder.false in
    Seeks-passed finder c.args.self.now (length text + finder.counted) (length text + length c.args.piece.now) c.index-self-i.result ordered seeks
    (λ less behind. absurd (omega (arith, behind, offset, begun, c.if-at-finder.true)))
