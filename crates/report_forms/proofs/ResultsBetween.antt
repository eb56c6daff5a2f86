-- Lemmas on results that are written with a comma between two, some at a time.
use Rattle.std.proofs.Common.{◌≡◌, ◌&&◌, ◌+◌, ◌<◌, ℕ, Bool, false, List, [], ◌∷◌, ◌++◌, map, length, take, get_or, refl, ap, sym, ◌∙◌}
use Rattle.std.proofs.Common.{add-one, append_assoc, append-nil, arith, codes}
use Rattle.std.proofs.lemmas.List.{map-append, take_more}
use Rattle.std.proofs.lemmas.List.Concat.{flat_map-append}
use Rattle.std.proofs.Math.Bool.{and-false, and-true}
use Rattle.report_forms.specs.Forms.Issues.{break_unless, behind_breaks, next_results}
use Rattle.report_forms.specs.Internal.WrittenCommas.{is_none_yet}

next-behind : (ys : List (List ℕ)) → next_results false ys ≡ behind_breaks ys
next-behind [] = refl
next-behind (y ∷ ys) = sym (append_assoc (codes ",\n") y (behind_breaks ys))

pub results-more : (is_first : Bool) (xs ys : List (List ℕ))
    → next_results is_first (xs ++ ys) ≡ next_results is_first xs ++ next_results (is_first && is_none_yet xs) ys
results-more is_first [] ys = ap (λ (b : Bool). next_results b ys) (sym (and-true is_first))
results-more is_first (x ∷ xs) ys =
    ap (λ (bytes : List ℕ). break_unless is_first ++ (x ++ bytes)) (flat_map-append (λ (item : List ℕ). codes ",\n" ++ item) xs ys)
    ∙ (ap (λ (bytes : List ℕ). break_unless is_first ++ bytes) (sym (append_assoc x (behind_breaks xs) (behind_breaks ys)))
    ∙ (sym (append_assoc (break_unless is_first) (x ++ behind_breaks xs) (behind_breaks ys))
    ∙ ap (λ (bytes : List ℕ). (break_unless is_first ++ (x ++ behind_breaks xs)) ++ bytes)
    (sym (next-behind ys) ∙ ap (λ (b : Bool). next_results b ys) (sym (and-false is_first)))))

none-map : {A : Type 0} (result : A → List ℕ) (xs : List A) → is_none_yet (map result xs) ≡ is_none_yet xs
none-map result [] = refl
none-map result (x ∷ xs) = refl

-- the result of one element more
pub one-result-more : {A : Type 0} (result : A → List ℕ) (xs : List A) (i : ℕ) (d : A) (was first : Bool) (start middle new : List ℕ) → i < length xs
    → middle ≡ start ++ next_results was (map result (take i xs)) → first ≡ (was && is_none_yet (take i xs))
    → new ≡ middle ++ (break_unless first ++ result (get_or xs i d)) → new ≡ start ++ next_results was (map result (take (i + 1) xs))
one-result-more {A = A} result xs i d was first start middle new within before first_is is =
    let here = result (get_or xs i d) in
    let done : List (List ℕ) = map result (take i xs) in
    let more : map result (take (i + 1) xs) ≡ done ++ here ∷ [] =
    ap (λ (ys : List A). map result ys) (take_more xs i d within) ∙ map-append result (take i xs) (get_or xs i d ∷ []) in
    let now : first ≡ (was && is_none_yet done) = first_is ∙ ap (λ (b : Bool). was && b) (sym (none-map result (take i xs))) in
    is ∙ (ap (λ (ys : List ℕ). ys ++ (break_unless first ++ here)) before
    ∙ (append_assoc start (next_results was done) (break_unless first ++ here)
    ∙ ap (λ (ys : List ℕ). start ++ ys) (ap (λ (b : Bool). next_results was done ++ (break_unless b ++ here)) now
    ∙ (ap (λ (ys : List ℕ). next_results was done ++ (break_unless (was && is_none_yet done) ++ ys)) (sym (append-nil here))
    ∙ (sym (results-more was done (here ∷ [])) ∙ ap (λ (items : List (List ℕ)). next_results was items) (sym more))))))

-- after it there is one
pub none-left : {A : Type 0} (was : Bool) (xs : List A) (i : ℕ) → i < length xs → false ≡ (was && is_none_yet (take (i + 1) xs))
none-left was [] i within = absurd (omega arith)
none-left was (x ∷ xs) i within = rw add-one (sym (and-false was))
