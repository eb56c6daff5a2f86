-- How many commas the first blocks of a piece have.
use Rattle.std.proofs.Common.{◌≡◌, ℕ, ◌+◌, ◌*◌, ◌<◌, ◌≤◌, List, [], length, take, drop, get_or, ap, sym, ◌∙◌, arith, take-add}
use Rattle.std.proofs.lemmas.List.Sums.{sum_by-append, sum_by-take-le, sum_by-take-drop, count_by-le-length}
use Rattle.std.specs.Simd.{first_chunks}
use Rattle.gj_rules.specs.FeatureFindings.{is_comma, commas}
use Rattle.gj_rules.proofs.Features.FeaturesByCommas.{one_if}
use Rattle.gj_places.proofs.Blocks.{block_at}

pub one_block_more : (piece : List ℕ) (index k : ℕ) (blocks : List (List ℕ)) → blocks ≡ first_chunks 64 k piece → index < k
    → commas (take ((index + 1) * 64) piece) ≡ commas (take (index * 64) piece) + commas (get_or blocks index [])
one_block_more piece index k blocks same less =
    let e : (index + 1) * 64 ≡ index * 64 + 64 = omega arith in
    let it : get_or blocks index [] ≡ take 64 (drop (index * 64) piece) = ap (λ bs. get_or bs index []) same ∙ block_at 64 k index piece less in
    ap (λ n. commas (take n piece)) e ∙ ap commas (take-add (index * 64) 64 piece)
    ∙ sum_by-append one_if (take (index * 64) piece) (take 64 (drop (index * 64) piece))
    ∙ ap (λ bs. commas (take (index * 64) piece) + commas bs) (sym it)

-- in all of it are no more than in its first bytes, and as many as bytes are left
pub with_rest : (piece : List ℕ) (n : ℕ) → commas (take (length piece) piece) ≤ commas (take n piece) + length (drop n piece)
with_rest piece n =
    omega (arith, sum_by-take-le one_if piece (length piece), sum_by-take-drop one_if piece n, count_by-le-length is_comma (drop n piece))
