-- The linter takes the piece, and its sink says whether a feature ends with it.
use Rattle.std.proofs.Common.{◌≡◌, ◌++◌, true, false, sym, ap, subst, ◌∙◌}
use Rattle.gj_rules.specs.FeatureLinter.{limits_of as linter_limits}
use Rattle.gj_rules.specs.Linter.{refusal_in}
use Rattle.gj_join.specs.Joiner.{Joins, refusal_of}
use Rattle.gj_join.specs.Internal.PassedRuns.{Joined}
use Rattle.gj_join.proofs.JoinedRuns.{answers_on, fed, fed_none, fed_some}
use Rattle.gj_join.proofs.LastEnds.{ends_by}
use Rattle.gj_join.proofs.joiner.Joiner.feed.Goals as goal
use Rattle.gj_join.proofs.joiner.Joiner.feed.Goals.{in-Open, in-Open-2, in-Refused}

pub returns-clause-joins : goal.returns-clause-joins
unfolding Joins
returns-clause-joins c = λ bytes h.
    let old = c.args.self.now in
    let new = c.feed-progress.new.self in
    let piece = c.args.piece.now in
    let told = c.feed-progress.ensures in
    let is = c.match-progress.self in
    let limits = linter_limits new in
    let stands = told.stands h.0 h.1 in
    let was = subst (λ l. Joined l (refusal_of old) old.warnings old.is_after h.0 bytes) (sym told.limits) h.2 in (
      h.0 ++ piece,
      stands,
      fed piece was
          (elim c.match-progress.branch [
            | in-Open w ↦ (
              λ o. fed_none limits (refusal_of old) old.is_after is h.0 piece c.feed-progress.result w.if-is_empty.ensures (λ fault e. (told.again fault e).1)
                  w.in-Open.is w.self-is,
              λ t. told.refusal ∙ ap refusal_in w.in-Open.is,
            )
            | in-Open-2 w ↦ (
              λ o.
                  (let ends = ends_by new (h.0 ++ piece) w.sink.result.now w.offset.result w.sink.ensures.value w.offset.ensures.value o stands
                  (λ rest text x few. w.sink.ensures.told (h.0 ++ piece) rest text stands x few) in
                  fed_some limits (refusal_of old) old.is_after is h.0 piece w.if-is_empty.ensures
                  (λ t. ends.0 (w.is_at-self.ensures.0 (sym w.self-is ∙ t)), λ e. w.self-is ∙ w.is_at-self.ensures.1 (ends.1 e))),
              λ t. told.refusal ∙ ap refusal_in w.in-Open-2.is,
            )
            | in-Refused w ↦ (
              λ o. absurd (let f = sym (told.refusal ∙ ap refusal_in w.in-Refused.is) ∙ o in cc),
              λ t. absurd (let f : false ≡ true = sym w.self-is ∙ t in cc),
            )
          ]),
    )

pub returns-clause-answer : goal.returns-clause-answer
unfolding Joins
returns-clause-answer c = λ bytes h. answers_on c.args.piece.now c.feed-progress.result h.2 (c.feed-progress.ensures.answer h.0 h.1)
