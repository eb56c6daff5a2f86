-- The characters of the first bytes are those of the piece.
use Rattle.gj_json.proofs.Common.{AreCharacters, List, arith, length-take-le, subst, sym, take-take, ℕ}
use Rattle.gj_json.proofs.characters.near_run.Goals as goal

pub slice_bounds-wide_run-end : goal.slice_bounds-wide_run-end
slice_bounds-wide_run-end c = sym (length-take-le 256 c.args.piece.now (omega (arith, c.requires)))

pub returns-clause-within : goal.returns-clause-within
returns-clause-within c = omega (arith, c.wide_run.ensures.within, length-take-le 256 c.args.piece.now (omega (arith, c.requires)))

pub returns-clause-characters : goal.returns-clause-characters
returns-clause-characters c =
    let P : List ℕ → Type 0 = λ ys. AreCharacters ys in
    let room = length-take-le 256 c.args.piece.now (omega (arith, c.requires)) in
    subst P (take-take c.wide_run.result 256 c.args.piece.now (omega (arith, c.wide_run.ensures.within, room)))
    c.wide_run.ensures.characters
