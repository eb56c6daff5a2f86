-- White space up to the first byte that is none.
use Rattle.gj_json.proofs.Common.{IsWhite, List, arith, drop, is_white, length, prefix_len-le-length, ℕ, ◌+◌, ◌-◌, ◌≤◌}
use Rattle.std.proofs.Common.{take}
use Rattle.gj_json.proofs.Pieces.PieceCuts.{cut_front}
use Rattle.gj_json.proofs.Pieces.QuietModes.{all_run, white_is}
use Rattle.gj_json.proofs.Pieces.PieceRests.{more_within}
use Rattle.gj_json.proofs.flats.white_end.Goals as goal

within : (c : goal.After-white_run) → c.args.at + c.white_run.result ≤ length c.args.piece.now
within c =
    let rest : List ℕ = take (length c.args.piece.now - c.args.at) (drop c.args.at c.args.piece.now) in
    more_within c.args.piece.now c.args.at c.white_run.result c.requires (rw (c.white_run.ensures) (prefix_len-le-length is_white rest))

pub overflow_add-result : goal.overflow_add-result
overflow_add-result c = let w = within c in omega (arith, w)

pub returns-clause-within : goal.returns-clause-within
returns-clause-within c = within c

pub returns-clause-white : goal.returns-clause-white
returns-clause-white c =
    let rest : List ℕ = take (length c.args.piece.now - c.args.at) (drop c.args.at c.args.piece.now) in
    rw (cut_front c.args.piece.now c.args.at c.white_run.result, c.white_run.ensures) (all_run is_white IsWhite white_is rest)
