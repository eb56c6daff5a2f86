-- The states of the bytes so far, and how the number ends.
use Rattle.gj_number.proofs.Common.{List, None, Some, ap, arith, false, get_or, length, next_of, subst, sym, take, take_rest, true, ℕ, ◌+◌, ◌<◌, ◌∙◌, ◌≡◌}
use Rattle.gj_number.specs.Internal.NumberMachine.{class_of, state_after}
use Rattle.gj_number.proofs.Shorts.PiecePrefixes.{more_within}
use Rattle.gj_number.proofs.Shorts.WholeNumbers.{after_one, after_run, none_shorter, whole_here, whole_ends}
use Rattle.gj_number.proofs.short.unsigned.any_run.Goals as goal

pub returns-then-may_end-clause-number : goal.returns-then-may_end-clause-number
returns-then-may_end-clause-number c = λ some.
    let state = c.loop-at.state in
    let stops : next_of state (class_of (get_or c.args.piece.now c.loop-at.at 0)) ≡ None =
    ap (next_of state) (sym c.of.ensures) ∙ sym c.next.ensures ∙ c.in-None.is in
    whole_here c.args.piece.now c.loop-at.at state c.loop-at.invariant.reached c.loop-at-test.true stops (sym c.may_end.ensures ∙ c.if-may_end.true)

pub returns-else-may_end-clause-taken : goal.returns-else-may_end-clause-taken
returns-else-may_end-clause-taken c = λ n whole.
    let state = c.loop-at.state in
    let stops : next_of state (class_of (get_or c.args.piece.now c.loop-at.at 0)) ≡ None =
    ap (next_of state) (sym c.of.ensures) ∙ sym c.next.ensures ∙ c.in-None.is in
    let ends = whole_ends c.args.piece.now c.loop-at.at state c.loop-at.invariant.reached c.loop-at-test.true stops n whole in
    let e : true ≡ false = sym ends ∙ sym c.may_end.ensures ∙ c.if-may_end.false in absurd cc

pub loop-at-preserved : goal.loop-at-preserved
loop-at-preserved c =
    let piece = c.args.piece.now in
    let at = c.loop-at.at in
    let state = c.loop-at.state in
    let n = c.pass_digits-at.result in
    let less : at < length piece = c.loop-at-test.true in
    let goes : next_of state (class_of (get_or piece at 0)) ≡ Some c.in-Some.next =
    ap (next_of state) (sym c.of.ensures) ∙ sym c.next.ensures ∙ c.in-Some.is in
    let P : List ℕ → Type 0 = λ xs. state_after (Some c.in-Some.next) (take n xs) ≡ Some c.in-Some.next in
    record {
      within = more_within piece (at + 1) n (omega arith) c.pass_digits-at.ensures.length;
      reached = after_run piece (at + 1) n c.in-Some.next (after_one piece at state less c.loop-at.invariant.reached ∙ goes)
          (subst P (take_rest piece (at + 1)) c.pass_digits-at.ensures.same);
    }

pub returns-clause-taken : goal.returns-clause-taken
returns-clause-taken c = λ n whole.
    let within = whole.within in
    absurd (none_shorter c.args.piece.now c.loop-at.at c.loop-at.state c.loop-at.invariant.reached n whole (omega (arith, c.loop-at-test.false)))
