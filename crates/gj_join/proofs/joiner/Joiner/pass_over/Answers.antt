-- Where a feature has ended, space may follow.
use Rattle.std.proofs.Common.{◌≡◌, ◌-◌, ◌++◌, length, sym, ap, subst, ◌∙◌, arith}
use Rattle.std.proofs.lemmas.List.{length-append, length-replicate}
use Rattle.gj_json.specs.Bytes.{space}
use Rattle.gj_rules.specs.FeatureLinter.{StandsFor}
use Rattle.gj_join.specs.Joiner.{Joins}
use Rattle.gj_join.specs.Internal.PassedRuns.{Tells}
use Rattle.gj_join.specs.Runs.{spaces}
use Rattle.gj_join.proofs.JoinedRuns.{passed, space_may_follow}
use Rattle.gj_join.proofs.LastEnds.{live}
use Rattle.gj_join.proofs.joiner.Joiner.pass_over.Goals as goal
use Rattle.gj_join.proofs.joiner.Joiner.pass_over.Goals.{then-not-is_at-via-then-not-is_at, then-not-is_at-via-else-not-is_at+then-not-take_spaces}

pub returns-then-not-is_at-clause-taken : goal.returns-then-not-is_at-clause-taken
unfolding Joins
returns-then-not-is_at-clause-taken c = λ bytes h fine ended begins some room.
    let is = h.2.always fine ended in
    let l = live c.args.self.now.linter h.0 fine h.1 in
    let k = space_may_follow h.0 (h.2.here is).2 in
    elim c.then-not-is_at.branch [
      | then-not-is_at-via-then-not-is_at w ↦ sym w.if-not-is_at.true ∙ c.is_at.ensures.1 (is, l.at ∙ h.2.long ∙ sym begins, some)
      | then-not-is_at-via-else-not-is_at+then-not-take_spaces w ↦
          sym w.if-not-take_spaces.true
          ∙ w.take_spaces.ensures.taken h.0 k.broken h.1 fine k.spelled_so k.between (omega (arith, room, begins, h.2.long, some))
    ]

pub returns-clause-only : goal.returns-clause-only
unfolding Joins
returns-clause-only c = λ bytes t h.
    let new = c.take_spaces.new.self in
    let spaced = c.take_spaces.ensures in
    let sum = c.args.sum.now in
    let gap = spaces (sum.end - sum.begin) in
    let is = c.is_at.ensures.0 c.if-not-is_at.false in
    let (fine, ended, element) = h.2.here is.0 in
    let l = live c.args.self.now.linter h.0 fine h.1 in
    let m = live new (h.0 ++ gap) (spaced.refusal ∙ fine) (spaced.stands h.0 c.if-not-take_spaces.false h.1) in (
      fine,
      ended,
      sym is.1 ∙ l.at ∙ h.2.long,
      is.2,
      omega (arith, m.within, ap (λ l. l.bytes) spaced.limits, l.at, is.1, is.2, length-append h.0 gap, length-replicate (sum.end - sum.begin) space),
    )

pub returns-clause-joins : goal.returns-clause-joins
unfolding Joins
returns-clause-joins c = λ bytes run t h s.
    let new = c.take_spaces.new.self in
    let spaced = c.take_spaces.ensures in
    let sum = c.args.sum.now in
    let (fine, ended, begins, some, fits) = returns-clause-only c bytes t h in
    let count : sum.end - sum.begin ≡ length run = omega (arith, s.end) in (
      h.0 ++ spaces (length run),
      subst (λ n. StandsFor Tells new (h.0 ++ spaces n)) count (spaced.stands h.0 c.if-not-take_spaces.false h.1),
      rw (spaced.limits, spaced.refusal, c.join-self.ensures.exact)
          (passed run sum h.2 (c.is_at.ensures.0 c.if-not-is_at.false).0 (sym begins) s (omega (arith, fits, begins, s.end, length-append bytes run))),
    )
