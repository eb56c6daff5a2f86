-- The quotes, and plain characters between them.
use Rattle.gj_json.proofs.Common.{IsString, arith, drop, length, subst, ℕ, ◌+◌, ◌-◌, ◌≡◌}
use Rattle.std.proofs.Common.{take}
use Rattle.std.proofs.lemmas.Bool.{eqb-true}
use Rattle.gj_json.proofs.Grammar.SpelledCharacters.{few_plain_characters}
use Rattle.gj_json.proofs.Pieces.TokensInLevels.{quoted_is}
use Rattle.gj_json.proofs.tokens.begins_quoted.Goals as goal

pub returns-then-begins_run : goal.returns-then-begins_run
returns-then-begins_run c = λ h.
    let piece = c.args.piece.now in
    let n = c.args.count in
    let e : 1 + n + 1 ≡ n + 2 = omega arith in
    let P : ℕ → Type 0 = λ k. IsString (take k piece) in
    subst P e
    (quoted_is piece n (omega arith) c.requires.quote
    (few_plain_characters (take (length piece - 1) (drop 1 piece)) n (c.begins_run.ensures c.if-begins_run.true)) (omega arith) (eqb-true _ _ h))
