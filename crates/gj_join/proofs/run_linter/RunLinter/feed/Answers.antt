-- The bytes after the stand are those of the run.
use Rattle.std.proofs.Common.{◌++◌, List, ℕ, arith, append_assoc, subst}
use Rattle.gj_rules.specs.FeatureLinter.{StandsFor as LinterStandsFor}
use Rattle.gj_rules.specs.Linter.{Answers}
use Rattle.gj_join.specs.RunLinter.{StandsFor, limits_of}
use Rattle.gj_join.specs.Runs.{stand_at}
use Rattle.gj_join.specs.Internal.Totals.{IsTotalOf}
use Rattle.gj_join.proofs.OverRuns.{over_refused}
use Rattle.gj_join.proofs.run_linter.RunLinter.feed.Goals as goal

pub returns-clause-stands : goal.returns-clause-stands
unfolding StandsFor
returns-clause-stands c = λ begin bytes h. (
  h.0,
  h.1,
  omega (arith, h.2, c.feed.ensures.on),
  subst (LinterStandsFor IsTotalOf c.feed.new.self) (append_assoc (stand_at begin) bytes c.args.piece.now)
      (c.feed.ensures.stands (stand_at begin ++ bytes) h.3),
)

pub returns-clause-answer : goal.returns-clause-answer
unfolding StandsFor
returns-clause-answer c = λ begin bytes h.
    let P : List ℕ → Type 0 = λ all. Answers (limits_of c.args.self.now) all c.feed.result in
    subst P (append_assoc (stand_at begin) bytes c.args.piece.now) (c.feed.ensures.answer (stand_at begin ++ bytes) h.3)

pub returns-clause-over : goal.returns-clause-over
returns-clause-over c = λ begin bytes h refused.
    over_refused (limits_of c.args.self.now) begin (bytes ++ c.args.piece.now) c.feed.result refused (returns-clause-answer c begin bytes h)
