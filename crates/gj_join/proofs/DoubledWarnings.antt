-- So many warnings, by halves.
use Rattle.std.proofs.Common.{◌≡◌, ◌+◌, ℕ, ap, subst, ◌∙◌, List, [], ◌∷◌, ◌++◌, replicate}
use Rattle.std.proofs.lemmas.List.{replicate_more, replicate-append-replicate}
use Rattle.gj_coords.specs.Warnings.{Warning}
use Rattle.gj_coords.specs.declared.warnings.Warnings.{Warnings}
use Rattle.gj_coords.specs.WarningsStand.{StandsFor}

pub even_many : (all : Warnings) (warning : Warning) (half count : ℕ) → half + half ≡ count
    → StandsFor all (replicate half warning ++ replicate half warning)
    → StandsFor all (replicate count warning)
even_many all warning half count is stands =
    let both : replicate half warning ++ replicate half warning ≡ replicate (half + half) warning = replicate-append-replicate half half warning in
    let many : replicate (half + half) warning ≡ replicate count warning = ap (λ (n : ℕ). replicate n warning) is in
    subst (λ (l : List Warning). StandsFor all l) (both ∙ many) stands

pub odd_many : (all : Warnings) (warning : Warning) (half count : ℕ) → half + half + 1 ≡ count
    → StandsFor all ((replicate half warning ++ replicate half warning) ++ warning ∷ [])
    → StandsFor all (replicate count warning)
odd_many all warning half count is stands =
    let both : (replicate half warning ++ replicate half warning) ++ warning ∷ [] ≡ replicate (half + half) warning ++ warning ∷ [] =
    ap (λ (l : List Warning). l ++ warning ∷ []) (replicate-append-replicate half half warning) in
    let more : replicate (half + half) warning ++ warning ∷ [] ≡ replicate (half + half + 1) warning = replicate_more (half + half) warning in
    let many : replicate (half + half + 1) warning ≡ replicate count warning = ap (λ (n : ℕ). replicate n warning) is in
    subst (λ (l : List Warning). StandsFor all l) (both ∙ (more ∙ many)) stands
