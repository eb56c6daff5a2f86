use Rattle.geolint_report.proofs.Common.{arith, ◌≡◌, ◌+◌, ◌∙◌, ◌++◌, ℕ, List, length, sym, subst, length-append, IsNonDecreasing, Seeks}
use Rattle.geolint_report.proofs.FollowedPaths.{Follows-piece}
use Rattle.geolint_report.proofs.ToldPaths.{Tells-piece}
use Rattle.geolint_report.proofs.KeptExcerpts.{Shows-piece}
use Rattle.geolint_report.proofs.FoundSites.{Reaches-piece}
use Rattle.geolint_report.proofs.sites.Sites.take.Goals as goal

pub returns : goal.returns
returns c = record {
  reaches = λ text begun. c.pass.ensures.reaches text
      (c.reach.ensures.reaches text (c.loop.invariant.reaches text (Reaches-piece c.args.finder.now c.args.self.now text c.args.piece.now begun)));
  follows = λ framing text begun follows.
      let here = Reaches-piece c.args.finder.now c.args.self.now text c.args.piece.now begun in
      c.pass.ensures.follows framing text (c.reach.ensures.follows framing text (c.loop.invariant.reaches text here)
      (c.loop.invariant.follows framing text here (Follows-piece framing c.args.finder.now c.args.self.now text c.args.piece.now follows)));
  tells = λ limits framing text begun follows tells.
      let located = follows.located in
      let here = Reaches-piece c.args.finder.now c.args.self.now text c.args.piece.now begun in
      let near = Follows-piece framing c.args.finder.now c.args.self.now text c.args.piece.now follows in
      let reaches = c.loop.invariant.reaches text here in
      let after = c.loop.invariant.follows framing text here near in
      c.pass.ensures.tells limits framing text (c.reach.ensures.follows framing text reaches after)
      (c.reach.ensures.tells limits framing text reaches after
      (c.loop.invariant.tells limits framing text here near
      (Tells-piece limits framing c.args.finder.now c.args.self.now text c.args.piece.now (omega (arith, located)) tells)));
  seeks = λ text begun ordered seeks.
      let none = begun.counted in
      let start : length text ≡ length text + c.args.finder.now.counted = omega (arith, none) in
      let here = Reaches-piece c.args.finder.now c.args.self.now text c.args.piece.now begun in
      let reached = c.loop.invariant.seeks text here ordered (subst (λ (n : ℕ). Seeks c.args.finder.now c.args.self.now n) start seeks) in
      let passed = c.reach.ensures.passed c.loop-test.false text (c.loop.invariant.reaches text here)
      (subst (λ (places : List ℕ). IsNonDecreasing places) (sym c.loop.invariant.sought) ordered) reached in
      c.pass.ensures.seeks (length (text ++ c.args.piece.now))
      (subst (λ (n : ℕ). Seeks c.reach.new.finder c.reach.new.self n) (sym (length-append text c.args.piece.now)) passed);
  shows = λ text begun shows.
      let none = begun.counted in
      let here = Reaches-piece c.args.finder.now c.args.self.now text c.args.piece.now begun in
      c.pass.ensures.shows text (c.reach.ensures.shows text (c.loop.invariant.reaches text here)
      (c.loop.invariant.shows text here (Shows-piece c.args.finder.now c.args.self.now text c.args.piece.now (omega (arith, none)) shows)));
  sought = c.pass.ensures.sought ∙ (c.reach.ensures.sought ∙ c.loop.invariant.sought);
}

pub loop-preserved : goal.loop-preserved
loop-preserved c = record {
  reaches = λ text begun. c.reach.ensures.reaches text (c.loop.invariant.reaches text begun);
  follows = λ framing text begun follows. c.reach.ensures.follows framing text (c.loop.invariant.reaches text begun)
      (c.loop.invariant.follows framing text begun follows);
  tells = λ limits framing text begun follows tells. c.reach.ensures.tells limits framing text (c.loop.invariant.reaches text begun)
      (c.loop.invariant.follows framing text begun follows)
      (c.loop.invariant.tells limits framing text begun follows tells);
  seeks = λ text begun ordered seeks. c.reach.ensures.reached c.loop-test.true text (c.loop.invariant.reaches text begun)
      (subst (λ (places : List ℕ). IsNonDecreasing places) (sym c.loop.invariant.sought) ordered) (c.loop.invariant.seeks text begun ordered seeks);
  shows = λ text begun shows. c.reach.ensures.shows text (c.loop.invariant.reaches text begun) (c.loop.invariant.shows text begun shows);
  sought = c.reach.ensures.sought ∙ c.loop.invariant.sought;
}
