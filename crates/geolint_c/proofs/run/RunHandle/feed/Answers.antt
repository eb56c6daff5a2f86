-- The linter takes the bytes, and what they show is told by its number.
use Rattle.std.proofs.Common.{◌≡◌, ◌++◌, Option, Some, None, IsSomeAnd, sym, subst, ◌∙◌}
use Rattle.gj_json.specs.Limits.{Allowed}
use Rattle.gj_rules.specs.Linter.{Answers}
use Rattle.gj_join.specs.Runs.{stand_at}
use Rattle.geolint_c.proofs.run.RunHandle.feed.Goals as goal

pub returns-in-Some : goal.returns-in-Some
returns-in-Some c = record {
  stands = λ limits begin bytes s. (let j = rw c.in-Some.is at s in (c.feed.ensures.stands begin bytes j.0, c.feed.ensures.limits ∙ j.1));
  answer = λ limits begin bytes s.
      let j = rw c.in-Some.is at s in (
        c.feed.result,
        subst (λ (l : Allowed). Answers l (stand_at begin ++ (bytes ++ c.args.piece.now)) c.feed.result) j.1 (c.feed.ensures.answer begin bytes j.0),
        c.status_of.ensures,
      );
  ended = λ e. (let f : None ≡ Some c.in-Some.run' = sym e ∙ c.in-Some.is in cc);
}
