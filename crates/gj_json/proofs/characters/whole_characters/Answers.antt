-- The run, or the prefix of it that is UTF-8.
use Rattle.gj_json.proofs.Common.{IsLongestUtf8, is_unescaped, length, subst, sym, ℕ, ◌≡◌}
use Rattle.std.proofs.Common.{take}
use Rattle.std.proofs.lemmas.List.Folds.{length-prefix_len}
use Rattle.std.specs.Str.{IsValidUpTo}
use Rattle.gj_json.proofs.Grammar.Utf8Characters.{up_to_fault, all_utf8}
use Rattle.gj_json.proofs.characters.whole_characters.Goals as goal

pub returns-in-Ok : goal.returns-in-Ok
returns-in-Ok c =
    let P : ℕ → Type 0 = λ n. IsLongestUtf8 (take n c.args.piece.now) c.plain_run-count.result in
    let e : c.plain_run-count.result ≡ length (take c.plain_run-count.result c.args.piece.now) = let Q : ℕ → Type 0 =
    λ n. n ≡ length (take n c.args.piece.now) in subst Q (sym c.plain_run-count.ensures) (sym (length-prefix_len is_unescaped c.args.piece.now)) in
    subst P c.plain_run-count.ensures (all_utf8 _ c.plain_run-count.result e c.in-Ok.ensures.cases.1)

pub returns-in-Err : goal.returns-in-Err
returns-in-Err c =
    let P : ℕ → Type 0 = λ n. IsLongestUtf8 (take n c.args.piece.now) c.valid_up_to.result in
    subst P c.plain_run-count.ensures
    (up_to_fault _ c.valid_up_to.result
    (subst (λ (n : ℕ). IsValidUpTo (take c.plain_run-count.result c.args.piece.now) n) (sym c.valid_up_to.ensures) c.in-Err.ensures.cases.1))
