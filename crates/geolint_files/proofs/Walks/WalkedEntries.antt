-- The entries of a folder, put on the walk one by one from the last one on.
use Rattle.std.proofs.Common.{◌≡◌, ◌++◌, ◌∷◌, [], ◌+◌, ◌-◌, ◌<◌, ◌∙◌, ℕ, List, Vec, Global, reverse, length, drop, get_or, Bool, false, ap, arith, append-nil}
use Rattle.std.proofs.Common.{append_assoc}
use Rattle.std.proofs.lemmas.List.{drop_all, drop_more, reverse-append}
use Rattle.geolint_files.specs.Walk.{entries_in, entry_name}

pub entries_step : (folder : List ℕ) (entries : List (Vec ℕ Global)) (i : ℕ) (d : Vec ℕ Global) → i < length entries
    → reverse (entries_in folder (drop (length entries - (i + 1)) entries))
    ≡ reverse (entries_in folder (drop (length entries - i) entries)) ++ (entry_name folder (get_or entries (length entries - (i + 1)) d).items, false) ∷ []
entries_step folder entries i d within =
    let at = length entries - (i + 1) in
    let inside : at < length entries = omega (arith, within) in
    let next : at + 1 ≡ length entries - i = omega (arith, within) in
    ap (λ left. reverse (entries_in folder left)) (drop_more entries at d inside)
    ∙ reverse-append ((entry_name folder (get_or entries at d).items, false) ∷ []) (entries_in folder (drop (at + 1) entries))
    ∙ ap (λ from. reverse (entries_in folder (drop from entries)) ++ (entry_name folder (get_or entries at d).items, false) ∷ []) next

pub no_entries : (before : List (List ℕ × Bool)) (folder : List ℕ) (entries : List (Vec ℕ Global))
    → before ++ reverse (entries_in folder (drop (length entries - 0) entries)) ≡ before
no_entries before folder entries =
    ap (λ left. before ++ reverse (entries_in folder left)) (drop_all (length entries - 0) entries (omega arith)) ∙ append-nil before

-- a name more, behind those that are there
pub joined : (now before more : List (List ℕ × Bool)) (name wanted : List ℕ) → now ≡ before ++ more → name ≡ wanted
    → now ++ (name, false) ∷ [] ≡ before ++ (more ++ (wanted, false) ∷ [])
joined now before more name wanted is same =
    ap (λ all. all ++ (name, false) ∷ []) is ∙ append_assoc before more _ ∙ ap (λ last. before ++ (more ++ (last, false) ∷ [])) same
