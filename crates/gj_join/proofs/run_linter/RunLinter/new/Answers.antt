-- The stand is taken as it is fed.
use Rattle.std.proofs.Common.{◌≡◌, ◌-◌, ◌≤◌, ◌++◌, [], codes, false, None, IsTrue, arith, append_assoc, append-nil, refl, sym, ap, subst, ◌∙◌}
use Rattle.gj_json.specs.Broken.{begun}
use Rattle.gj_json.specs.Limits.{Allowed}
use Rattle.gj_json.proofs.Readers.ReadBytes.{well_of}
use Rattle.gj_rules.specs.FeatureLinter.{StandsFor as LinterStandsFor, limits_of as linter_limits, refusal_of}
use Rattle.gj_rules.specs.Linter.{Answers, refusal_in}
use Rattle.gj_join.specs.RunLinter.{StandsFor}
use Rattle.gj_join.specs.Runs.{spaces, stand_at}
use Rattle.gj_join.specs.Internal.Totals.{IsTotalOf}
use Rattle.gj_join.proofs.RunsRead.{opened, opening, stand_length}
use Rattle.gj_join.proofs.StandsRead.{not_refused, opening_spelled, opening_viable, stand_viable}
use Rattle.gj_join.proofs.run_linter.RunLinter.new.Goals as goal

pub returns-clause-stands : goal.returns-clause-stands
unfolding StandsFor LinterStandsFor
returns-clause-stands c =
    let limits = c.args.limits in
    let begin = c.args.begin in
    let white = spaces (begin - 15) in
    let room : 15 ≤ begin = omega arith in
    let within : begin ≤ limits.bytes = omega (arith, c.bytes.ensures.value) in
    let deep : 3 ≤ limits.depth = omega (arith, c.depth.ensures.value) in
    let long = stand_length begin room in
    -- the opening
    let first : LinterStandsFor IsTotalOf c.new-linter.result [] = c.new-linter.ensures.stands c.new.ensures in
    let after : LinterStandsFor IsTotalOf c.feed.new.self opening = c.feed.ensures.stands [] first in
    let answer : Answers limits opening c.feed.result = rw (← c.new-linter.ensures.limits) (c.feed.ensures.answer [] first) in
    let live : refusal_of c.feed.new.self ≡ None =
    c.feed.ensures.refusal ∙ ap refusal_in (not_refused limits opening c.feed.result (opening_viable limits.depth deep) (omega arith) answer) in
    let same : linter_limits c.feed.new.self ≡ limits = c.feed.ensures.limits ∙ c.new-linter.ensures.limits in
    -- the spaces
    let most : limits.bytes ≡ (linter_limits c.feed.new.self).bytes = ap (λ (l : Allowed). l.bytes) (sym same) in
    let taken : IsTrue c.take_spaces.result =
    c.take_spaces.ensures.taken opening (begun false opened) after live opening_spelled tt (omega (arith, most)) in
    let spaced : LinterStandsFor IsTotalOf c.take_spaces.new.self (opening ++ white) = c.take_spaces.ensures.stands opening taken after in
    -- the element
    let e : (opening ++ white) ++ codes "{}" ≡ stand_at begin = append_assoc opening white (codes "{}") in
    let last = subst (LinterStandsFor IsTotalOf c.feed-2.new.self) e (c.feed-2.ensures.stands (opening ++ white) spaced) in
    let ended = subst (λ bytes. Answers (linter_limits c.take_spaces.new.self) bytes c.feed-2.result) e (c.feed-2.ensures.answer (opening ++ white) spaced) in
    let answered : Answers limits (stand_at begin) c.feed-2.result = rw (← (c.take_spaces.ensures.limits ∙ same)) ended in
    let open_still : refusal_of c.feed-2.new.self ≡ None =
    c.feed-2.ensures.refusal ∙ ap refusal_in (not_refused limits (stand_at begin) c.feed-2.result (stand_viable limits.depth begin deep)
    (omega (arith, long)) answered) in
    let at = (well_of c.feed-2.new.self.reader (stand_at begin) open_still last.0).at in
    (refl, room, omega (arith, at, long), subst (LinterStandsFor IsTotalOf c.feed-2.new.self) (sym (append-nil (stand_at begin))) last)
