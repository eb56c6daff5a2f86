use Rattle.std.proofs.Common.{arith, refl, ◌≡◌, ◌++◌, [], ℕ, List, take, ap, sym, ◌∙◌, subst, append_assoc, append-nil, length-append, get_or, ◌-◌, length}
use Rattle.std.proofs.lemmas.List.{take-append-drop, take_all}
use Rattle.gj_places.specs.Counting.{StandsFor}
use Rattle.gj_places.specs.Keeping.{Keeps as KeepsLine}
use Rattle.geolint_report.specs.Sites.{AreRight, ArePaths, AreTold}
use Rattle.geolint_report.specs.Internal.SecondReading.{AreWithin, IsAt}
use Rattle.geolint_report.specs.Internal.TextPaths.{StandsIn, KeepsIn}
use Rattle.geolint_report.proofs.KeptExcerpts.{IsAt-more}
use Rattle.geolint_report.proofs.sites.Sites.pass.Goals as goal
use Rattle.geolint_report.proofs.sites.Sites.pass.Goals.{then-finder-self, else-finder-self}

pub returns-clause-reaches : goal.returns-clause-reaches
returns-clause-reaches c = λ text reaches.
    let piece = c.args.piece.now in
    let counted = c.args.finder.now.counted in
    let longer = length-append text piece in
    let offset = reaches.offset in
    let right = subst (λ (bytes : List ℕ). AreRight bytes c.args.self.now.sites) (sym (append-nil (text ++ piece))) reaches.right in
    let end = c.saturating_add-finder.ensures in
    elim c.if-finder-self.branch [
      | then-finder-self w ↦ let sum = rw (w.finder-is) at end in rw (w.self-is, w.finder-is) (record {
        offset = omega (arith, longer, offset, sum);
        counted = omega arith;
        lines = λ fewer. absurd (omega (arith, fewer, w.if-finder-self.true));
        right = right;
      })
      | else-finder-self w ↦ let sum = rw (w.finder-is) at end in rw (w.self-is, w.finder-is) (record {
        offset = omega (arith, longer, offset, sum, w.locate_to.ensures.same.offset);
        counted = omega arith;
        lines = λ fewer.
            let here = w.feed.ensures (text ++ take counted piece) (reaches.lines w.if-finder-self.false) in
            let all : (text ++ take counted piece) ++ c.rest_of-rest.result.now ≡ (text ++ piece) ++ [] =
            append_assoc text (take counted piece) _
            ∙ ap (λ (ys : List ℕ). text ++ ys) (ap (λ (ys : List ℕ). take counted piece ++ ys) c.rest_of-rest.ensures ∙ take-append-drop counted piece)
            ∙ sym (append-nil (text ++ piece)) in
            let fed = subst (StandsFor w.feed.new.self) all here in
            rw (w.locate_to.ensures.same.lines) fed;
        right = right;
      })
    ]

pub returns-clause-follows : goal.returns-clause-follows
returns-clause-follows c = λ framing text follows.
    let piece = c.args.piece.now in
    let paths = subst (λ (bytes : List ℕ). ArePaths framing bytes c.args.self.now.sites) (sym (append-nil (text ++ piece))) follows.paths in
    elim c.if-finder-self.branch [
      | then-finder-self w ↦ rw (w.self-is, w.finder-is) (record {
        kind = follows.kind;
        located = omega arith;
        near = omega arith;
        stands = λ fewer. absurd (omega (arith, fewer, w.if-finder-self.true));
        paths = paths;
      })
      | else-finder-self w ↦ rw (w.self-is, w.finder-is) (record {
        kind = w.locate_to.ensures.same.kind ∙ follows.kind;
        located = omega arith;
        near = omega arith;
        stands = λ fewer.
            let all : text ++ take (length piece) piece ≡ (text ++ piece) ++ [] =
            ap (λ (ys : List ℕ). text ++ ys) (take_all (length piece) piece (omega arith)) ∙ sym (append-nil (text ++ piece)) in
            subst (StandsIn w.locate_to.new.self.text_path) all (w.locate_to.ensures.stands text follows.located (omega arith) (follows.stands w.if-finder-self.false));
        paths = paths;
      })
    ]

pub returns-clause-tells : goal.returns-clause-tells
returns-clause-tells c = λ limits framing text follows tells.
    let piece = c.args.piece.now in
    let sites = c.args.self.now.sites in
    let within = subst (λ (bytes : List ℕ). AreWithin bytes sites) (sym (append-nil (text ++ piece))) tells.within in
    let told = subst (λ (bytes : List ℕ). AreTold limits framing bytes sites) (sym (append-nil (text ++ piece))) tells.told in
    elim c.if-finder-self.branch [
      | then-finder-self w ↦ rw (w.self-is, w.finder-is) (record {
        under = tells.under;
        keeps = λ fewer. absurd (omega (arith, fewer, w.if-finder-self.true));
        within = within;
        told = told;
      })
      | else-finder-self w ↦ rw (w.self-is, w.finder-is) (record {
        under = w.locate_to.ensures.same.limits ∙ tells.under;
        keeps = λ fewer.
            let all : text ++ take (length piece) piece ≡ (text ++ piece) ++ [] =
            ap (λ (ys : List ℕ). text ++ ys) (take_all (length piece) piece (omega arith)) ∙ sym (append-nil (text ++ piece)) in
            subst (KeepsIn w.locate_to.new.self.text_path) all
            (w.locate_to.ensures.keeps text follows.located (omega arith) (follows.stands w.if-finder-self.false) (tells.keeps w.if-finder-self.false));
        within = within;
        told = told;
      })
    ]

pub returns-clause-shows : goal.returns-clause-shows
returns-clause-shows c = λ text shows.
    let piece = c.args.piece.now in
    let counted = c.args.finder.now.counted in
    let sites = c.args.self.now in
    let all : (text ++ take counted piece) ++ c.rest_of-rest.result.now ≡ (text ++ piece) ++ [] =
    append_assoc text (take counted piece) _
    ∙ ap (λ (ys : List ℕ). text ++ ys) (ap (λ (ys : List ℕ). take counted piece ++ ys) c.rest_of-rest.ensures ∙ take-append-drop counted piece)
    ∙ sym (append-nil (text ++ piece)) in
    elim c.if-finder-self.branch [
      | then-finder-self w ↦ rw (w.self-is, w.finder-is) (record {
        stored = shows.stored;
        before = λ fewer. absurd (omega (arith, fewer, w.if-finder-self.true));
        behind = λ other some reached.
            subst (λ (bytes : List ℕ). IsAt w.feed_after.new.self (get_or sites.sites (sites.count - 1) other).place bytes) all
            (IsAt-more sites.excerpt w.feed_after.new.self _ (text ++ take counted piece) c.rest_of-rest.result.now
            (shows.behind other some w.if-finder-self.true) w.feed_after.ensures);
      })
      | else-finder-self w ↦ rw (w.self-is, w.finder-is) (record {
        stored = shows.stored;
        before = λ fewer. subst (λ (bytes : List ℕ). KeepsLine w.feed_before.new.self bytes []) all
            (w.feed_before.ensures (text ++ take counted piece) (shows.before w.if-finder-self.false));
        behind = λ other some reached. absurd (omega (arith, reached, w.locate_to.ensures.same.next, w.if-finder-self.false));
      })
    ]

pub returns-clause-seeks : goal.returns-clause-seeks
returns-clause-seeks c = λ passed seeks. elim c.if-finder-self.branch [
  | then-finder-self w ↦ rw (w.self-is, w.finder-is) (record { found = seeks.found; ahead = seeks.ahead })
  | else-finder-self w ↦ rw (w.self-is, w.finder-is) (record {
    found = λ k other before within. seeks.found k other (omega (arith, before, w.locate_to.ensures.same.next)) within;
    ahead = λ k e after within small. seeks.ahead k e (omega (arith, after, w.locate_to.ensures.same.next)) within small;
  })
]

pub returns-clause-sought : goal.returns-clause-sought
returns-clause-sought c = elim c.if-finder-self.branch [
  | then-finder-self w ↦ rw (w.self-is) refl
  | else-finder-self w ↦ rw (w.self-is) refl
]
