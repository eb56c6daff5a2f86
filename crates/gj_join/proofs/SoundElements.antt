-- Elements of `features` that break no rule: without them the faults are the same, and the warnings but theirs.
use Rattle.std.proofs.Common.{◌≡◌, ℕ, ◌+◌, List, [], ◌∷◌, ◌++◌, None, refl, sym, ap, ◌∙◌}
use Rattle.std.specs.List.{AllByRecursion, flat_map}
use Rattle.std.proofs.lemmas.Grind.{flat_map-append}
use Rattle.gj_json.specs.Tree.{Tree}
use Rattle.gj_coords.specs.Fault.{lesser, least}
use Rattle.gj_coords.specs.Internal.KeptWarnings.{warnings_of, joined}
use Rattle.gj_coords.specs.Internal.WarningLaws.{joined_assoc, joined_comm, warnings_of-append}
use Rattle.gj_coords.specs.Warnings.{Warning}
use Rattle.gj_rules.specs.declared.role.Role.{Role}
use Rattle.gj_rules.specs.Faults.{faults}
use Rattle.gj_rules.specs.FeatureFindings.{findings_from, least_found, unless_broken, warnings_found}
use Rattle.gj_rules.specs.TextWarnings.{warnings}

abbrev pub Sound : List Tree → Type 0
Sound vs = AllByRecursion (λ v. least (faults Role.Feature v) ≡ None) vs

pub sound_trees : (i : ℕ) (vs : List Tree) → AllByRecursion (λ finding. finding.fault ≡ None) (findings_from i vs) → Sound vs
sound_trees i [] h = tt
sound_trees i (v ∷ vs) h = (h.0, sound_trees (i + 1) vs h.1)

least_from : (i j : ℕ) (vs : List Tree) → least_found (findings_from i vs) ≡ least_found (findings_from j vs)
least_from i j [] = refl
least_from i j (v ∷ vs) = ap (λ o. lesser (least (faults Role.Feature v)) o) (least_from (i + 1) (j + 1) vs)

least_rest : (i j : ℕ) (vs ys : List Tree) → Sound vs → least_found (findings_from i (vs ++ ys)) ≡ least_found (findings_from j ys)
least_rest i j [] ys s = least_from i j ys
least_rest i j (v ∷ vs) ys s = ap (λ o. lesser o (least_found (findings_from (i + 1) (vs ++ ys)))) s.0 ∙ least_rest (i + 1) j vs ys s.1

pub least_without : (i j : ℕ) (xs vs ys : List Tree) → Sound vs → least_found (findings_from i (xs ++ (vs ++ ys))) ≡ least_found (findings_from j (xs ++ ys))
least_without i j [] vs ys s = least_rest i j vs ys s
least_without i j (x ∷ xs) vs ys s = ap (λ o. lesser (least (faults Role.Feature x)) o) (least_without (i + 1) (j + 1) xs vs ys s)

-- ---- warnings

abbrev pub warned : List Tree → List Warning
warned vs = flat_map (λ v. unless_broken (least (faults Role.Feature v)) (warnings Role.Feature v)) vs

pub warned_trees : (i : ℕ) (vs : List Tree) → warnings_found (findings_from i vs) ≡ warned vs
warned_trees i [] = refl
warned_trees i (v ∷ vs) = ap (λ xs. unless_broken (least (faults Role.Feature v)) (warnings Role.Feature v) ++ xs) (warned_trees (i + 1) vs)

pub warned_between : (own : List Warning) (xs vs ys : List Tree)
    → warnings_of (own ++ warned (xs ++ (vs ++ ys))) ≡ joined (warnings_of (own ++ warned (xs ++ ys))) (warnings_of (warned vs))
warned_between own xs vs ys =
    let f = λ (v : Tree). unless_broken (least (faults Role.Feature v)) (warnings Role.Feature v) in
    let o = warnings_of own in
    let x = warnings_of (warned xs) in
    let v = warnings_of (warned vs) in
    let y = warnings_of (warned ys) in
    let all : warned (xs ++ (vs ++ ys)) ≡ warned xs ++ (warned vs ++ warned ys) = flat_map-append f xs (vs ++ ys) ∙ ap (λ zs. warned xs ++ zs) (flat_map-append f vs ys) in
    let left : warnings_of (own ++ warned (xs ++ (vs ++ ys))) ≡ joined o (joined x (joined v y)) =
    ap (λ zs. warnings_of (own ++ zs)) all ∙ warnings_of-append own (warned xs ++ (warned vs ++ warned ys))
    ∙ ap (joined o) (warnings_of-append (warned xs) (warned vs ++ warned ys) ∙ ap (joined x) (warnings_of-append (warned vs) (warned ys))) in
    let right : warnings_of (own ++ warned (xs ++ ys)) ≡ joined o (joined x y) =
    ap (λ zs. warnings_of (own ++ zs)) (flat_map-append f xs ys) ∙ warnings_of-append own (warned xs ++ warned ys)
    ∙ ap (joined o) (warnings_of-append (warned xs) (warned ys)) in
    left ∙ ap (λ z. joined o (joined x z)) (joined_comm v y) ∙ ap (joined o) (sym (joined_assoc x y v)) ∙ sym (joined_assoc o (joined x y) v)
    ∙ ap (λ z. joined z v) (sym right)
