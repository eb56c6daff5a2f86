-- White space, a number and white space.
use Rattle.gj_json.proofs.Common.{Exact, IsValued, List, Short, StartsWithNumber, arith, cut, drop, exact_of, length, refl, sym, ℕ, ◌+◌, ◌-◌, ◌<◌}
use Rattle.std.proofs.Common.{take, length-drop}
use Rattle.std.proofs.lemmas.List.{length-take}
use Rattle.gj_json.proofs.Pieces.PieceCuts.{cut_front}
use Rattle.gj_json.proofs.Grammar.SpelledFlats.{item_cut}
use Rattle.gj_json.proofs.Grammar.SpelledPairs.{none_cut}
use Rattle.gj_json.proofs.flats.read_item.Goals as goal

-- the number that is read ends within the piece
within : (piece : List ℕ) (first n : ℕ) (e : Exact) → StartsWithNumber (take (length piece - first) (drop first piece)) e n → first + n < length piece
within piece first n e read =
    let w = read.within in
    omega (arith, length-take (length piece - first) (drop first piece), length-drop first piece)

-- and has this value
valued : (piece : List ℕ) (first n : ℕ) (value : Short) → StartsWithNumber (take (length piece - first) (drop first piece)) (exact_of value) n
    → IsValued value (cut piece first (first + n))
valued piece first n value read =
    let there : IsValued value (take n (take (length piece - first) (drop first piece))) = record { number = read.number; valued = sym read.value } in
    rw (cut_front piece first n) there

pub bounds-piece-end : goal.bounds-piece-end
bounds-piece-end c = within c.args.piece.now c.white_end-first.result c.read_short-count.result _ (c.read_short-count.ensures.number (omega arith))

pub returns-then-piece-end-gt32-clause-within : goal.returns-then-piece-end-gt32-clause-within
returns-then-piece-end-gt32-clause-within c = let w =
    within c.args.piece.now c.white_end-first.result c.read_short-count.result _ (c.read_short-count.ensures.number (omega arith)) in omega arith

pub returns-then-piece-end-gt32-clause-item : goal.returns-then-piece-end-gt32-clause-item
returns-then-piece-end-gt32-clause-item c = λ some.
    let piece = c.args.piece.now in
    let first = c.white_end-first.result in
    let end = first + c.read_short-count.result in
    let w = within c.args.piece.now c.white_end-first.result c.read_short-count.result _ (c.read_short-count.ensures.number (omega arith)) in
    item_cut piece c.args.start _ c.args.at first end end c.white_end-first.ensures.on (omega arith) (omega arith)
    (omega arith) c.white_end-first.ensures.white refl (valued piece first c.read_short-count.result _ (c.read_short-count.ensures.number (omega arith)))
    (none_cut piece end)

pub returns-clause-item : goal.returns-clause-item
returns-clause-item c = λ some.
    let piece = c.args.piece.now in
    let first = c.white_end-first.result in
    let end = first + c.read_short-count.result in
    item_cut piece c.args.start _ c.args.at first end c.white_end-end.result c.white_end-first.ensures.on
    (omega arith) c.white_end-end.ensures.on c.white_end-end.ensures.within c.white_end-first.ensures.white refl
    (valued piece first c.read_short-count.result _ (c.read_short-count.ensures.number (omega arith))) c.white_end-end.ensures.white
