-- A prefix of the piece, byte by byte, and runs that change nothing.
use Rattle.gj_number.proofs.Common.{BeginsNumber, List, arith, length, subst, sym, take, take_more, ℕ, ◌++◌, ◌+◌, ◌≤◌}
use Rattle.gj_number.specs.Literal.{StandsFor}
use Rattle.gj_number.proofs.Literals.LiteralPieces.{one_more, run_stands, stands_begin}
use Rattle.gj_number.proofs.literal.Literal.push_piece.Goals as goal
use Rattle.gj_number.proofs.Shorts.PiecePrefixes.{more_within}

pub loop-at-preserved : goal.loop-at-preserved
loop-at-preserved c =
    let piece = c.args.piece.now in
    let i = c.loop-at.at in
    let n = c.pass_run-at.result in
    let less : i + 1 ≤ length piece = omega (arith, c.loop-at-test.true) in
    record {
      length = more_within piece (i + 1) n less c.pass_run-at.ensures.length;
      stands = (λ bytes h.
          let One : List ℕ → Type 0 = λ xs. StandsFor c.push.new.self xs in
          let one = subst One (one_more bytes piece i (take_more piece i 0 c.loop-at-test.true))
          (c.push.ensures.stands (bytes ++ take i piece) (c.loop-at.invariant.stands bytes h) c.in-Goes.is) in
          run_stands bytes piece (i + 1) n c.push.new.self c.push.new.self c.pass_run-at.ensures.stands one);
    }

pub returns-in-Ends-clause-begins : goal.returns-in-Ends-clause-begins
returns-in-Ends-clause-begins c = λ bytes h. stands_begin c.push.new.self bytes h

pub returns-in-Ends-clause-all : goal.returns-in-Ends-clause-all
returns-in-Ends-clause-all c = λ bytes h below begins.
    let piece = c.args.piece.now in
    let at = c.loop-at.at in
    let P : List ℕ → Type 0 = λ xs. BeginsNumber xs in
    c.push.ensures.refused (bytes ++ take at piece) (c.loop-at.invariant.stands bytes h) c.in-Ends.is
    (subst P (sym (one_more bytes piece at (take_more piece at 0 below))) begins)

pub returns-clause-begins : goal.returns-clause-begins
returns-clause-begins c = λ bytes h. stands_begin c.loop-at.self bytes h
