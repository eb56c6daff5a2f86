-- The whole piece, or what is allowed of it.
use Rattle.gj_json.proofs.Common.{IsLongestUtf8, arith, min, plain_run_of, subst, ℕ, ◌-◌}
use Rattle.std.proofs.Common.{take}
use Rattle.gj_json.proofs.Grammar.Utf8Characters.{longest_all, longest_upto}
use Rattle.gj_json.proofs.reader.Reader.allowed_characters.Goals as goal

pub returns-then-piece-room-clause-longest : goal.returns-then-piece-room-clause-longest
returns-then-piece-room-clause-longest c =
    longest_all (c.args.self.now.limits.bytes - c.args.self.now.offset) c.whole_characters.result c.args.piece.now
    (omega (arith, c.if-piece-room.true, c.bytes.ensures.value)) c.whole_characters.ensures

pub returns-else-piece-room-clause-longest : goal.returns-else-piece-room-clause-longest
returns-else-piece-room-clause-longest c =
    let k = c.whole_characters-else-piece-room.result in
    let P : ℕ → Type 0 = λ n. IsLongestUtf8 (take (min (plain_run_of c.args.piece.now) (n - c.args.self.now.offset)) c.args.piece.now) k in
    subst P c.bytes.ensures.value (longest_upto (c.bytes.result - c.args.self.now.offset) k c.args.piece.now c.whole_characters-else-piece-room.ensures)
