use Rattle.std.proofs.Common.{◌++◌, ◌≡◌, ◌∙◌, List, ℕ, take, drop, ap, refl, subst, append_assoc}
use Rattle.std.proofs.lemmas.List.{take-append-drop}
use Rattle.gj_places.specs.Recalling.{Recalls}
use Rattle.gj_places.specs.declared.recent.Recent.{Recent}
use Rattle.gj_places.specs.declared.recent.TheConstants.{PIECE}
use Rattle.gj_places.proofs.recent.Recent.feed.Goals as goal

-- bytes in three rows
recalled-with : (recent : Recent) (bytes taken few all : List ℕ) → taken ++ few ≡ all → Recalls recent ((bytes ++ taken) ++ few)
    → Recalls recent (bytes ++ all)
recalled-with recent bytes taken few all are recalls =
    subst (Recalls recent) (append_assoc bytes taken few ∙ ap (λ (ys : List ℕ). bytes ++ ys) are) recalls

halves : (few more all : List ℕ) (n : ℕ) → few ≡ take n all → more ≡ drop n all → few ++ more ≡ all
halves few more all n front back = rw front (rw back (take-append-drop n all))

-- src/recent.rt:100:9
pub loop-rest-preserved : goal.loop-rest-preserved
loop-rest-preserved c =
    let kept = c.loop-rest.invariant in
    let few = c.split_at.result.0.now in record {
      taken = kept.taken ++ few;
      all = append_assoc kept.taken few c.split_at.result.1.now
          ∙ ap (λ (ys : List ℕ). kept.taken ++ ys)
          (halves few c.split_at.result.1.now c.loop-rest.rest.now PIECE c.split_at.ensures.front c.split_at.ensures.back)
          ∙ kept.all;
      recalls = λ bytes recalls.
          recalled-with c.feed_few.new.self bytes kept.taken few (kept.taken ++ few) refl
          (c.feed_few.ensures.recalls (bytes ++ kept.taken) (kept.recalls bytes recalls));
      most = λ most. c.feed_few.ensures.most (kept.most most);
    }

-- src/recent.rt:95:5
pub returns-clause-recalls : goal.returns-clause-recalls
returns-clause-recalls c = λ bytes recalls.
    let kept = c.loop-rest.invariant in
    recalled-with c.feed_few-2.new.self bytes kept.taken c.loop-rest.rest.now c.args.piece.now kept.all
    (c.feed_few-2.ensures.recalls (bytes ++ kept.taken) (kept.recalls bytes recalls))
