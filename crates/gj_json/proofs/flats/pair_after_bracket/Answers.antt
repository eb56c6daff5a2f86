use Rattle.gj_json.proofs.Common.{List, exact_of, subst, ℕ}
use Rattle.std.specs.Prelude.{IfSome}
use Rattle.gj_number.specs.Short.{StartsWithPair}
use Rattle.gj_json.proofs.Pieces.PieceRests.{rest_of}
use Rattle.gj_json.proofs.flats.pair_after_bracket.Goals as goal

pub returns-then-piece-lt-PAIR_ROOM : goal.returns-then-piece-lt-PAIR_ROOM
returns-then-piece-lt-PAIR_ROOM c =
    let P : List ℕ → Type 0 =
    λ xs. IfSome c.read_last_pair.result
    (λ pair. StartsWithPair xs (exact_of c.read_last_pair.new.first) (exact_of c.read_last_pair.new.second) pair.comma pair.second pair.end) in
    subst P (rest_of c.args.piece.now 1) c.read_last_pair.ensures.numbers

pub returns : goal.returns
returns c =
    let P : List ℕ → Type 0 =
    λ xs. IfSome c.read_pair.result
    (λ pair. StartsWithPair xs (exact_of c.read_pair.new.first) (exact_of c.read_pair.new.second) pair.comma pair.second pair.end) in
    subst P (rest_of c.args.piece.now 1) c.read_pair.ensures.numbers
