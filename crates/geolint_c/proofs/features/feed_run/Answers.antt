-- The linter takes the bytes, and keeps the features that end in them.
use Rattle.std.proofs.Common.{◌≤◌, ◌++◌, length, refl, sym, subst, ◌∙◌}
use Rattle.gj_json.specs.Limits.{Allowed}
use Rattle.gj_rules.specs.Linter.{Answers}
use Rattle.geolint_c.proofs.PulledFeatures.{room_on}
use Rattle.geolint_c.proofs.features.feed_run.Goals as goal

pub returns-clause-judges : goal.returns-clause-judges
returns-clause-judges c = λ pulled limits bytes j more.
    let old = c.args.linter.now in
    let new = c.feed-shown.new.self in
    let run = c.args.run.now in
    let stands = c.feed-shown.ensures.stands bytes j.stands in
    record {
      stands = stands;
      under = c.feed-shown.ensures.limits ∙ j.under;
      room = room_on c.features_in_time.ensures c.features_by_commas.ensures old new pulled limits bytes run c.feed-shown.ensures.on
          (subst (λ n. n ≤ length bytes) c.offset-from.ensures.value (c.offset-from.ensures.within bytes j.stands))
          (subst (λ n. n ≤ length (bytes ++ run)) c.offset-to.ensures.value (c.offset-to.ensures.within (bytes ++ run) stands))
          (λ e. sym c.offset-from.ensures.value ∙ c.offset-from.ensures.taken bytes j.stands e)
          (λ fault e. (c.feed-shown.ensures.again fault e).0)
          j.room more;
    }

pub returns-clause-answer : goal.returns-clause-answer
returns-clause-answer c = λ pulled limits bytes j. (
  c.feed-shown.result,
  subst (λ (l : Allowed). Answers l (bytes ++ c.args.run.now) c.feed-shown.result) j.under (c.feed-shown.ensures.answer bytes j.stands),
  refl,
  c.feed-shown.ensures.refusal,
)
