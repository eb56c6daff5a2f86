-- Lemmas on the details in parentheses, put one at a time.
use Rattle.std.proofs.Common.{◌≡◌, ◌||◌, ℕ, Bool, true, false, List, [], ◌∷◌, ◌++◌, refl, ap, sym, ◌∙◌, append_assoc, codes}
use Rattle.std.proofs.lemmas.List.Concat.{flat_map-append}
use Rattle.std.proofs.Math.Bool.{or-true, or-false}
use Rattle.report_forms.specs.Forms.Lines.{more_details, in_parentheses}
use Rattle.report_forms.specs.Internal.WrittenDetails.{has_details, separator, next_details, end}

next-open : (ys : List (List ℕ)) → next_details true ys ≡ more_details ys
next-open [] = refl
next-open (y ∷ ys) = sym (append_assoc (codes ", ") y (more_details ys))

details-more : (is_open : Bool) (xs ys : List (List ℕ))
    → next_details is_open (xs ++ ys) ≡ next_details is_open xs ++ next_details (is_open || has_details xs) ys
details-more is_open [] ys = ap (λ (b : Bool). next_details b ys) (sym (or-false is_open))
details-more is_open (x ∷ xs) ys =
    ap (λ (bytes : List ℕ). separator is_open ++ (x ++ bytes)) (flat_map-append (λ (item : List ℕ). codes ", " ++ item) xs ys)
    ∙ (ap (λ (bytes : List ℕ). separator is_open ++ bytes) (sym (append_assoc x (more_details xs) (more_details ys)))
    ∙ (sym (append_assoc (separator is_open) (x ++ more_details xs) (more_details ys))
    ∙ ap (λ (bytes : List ℕ). (separator is_open ++ (x ++ more_details xs)) ++ bytes)
    (sym (next-open ys) ∙ ap (λ (b : Bool). next_details b ys) (sym (or-true is_open)))))

has-more : (xs ys : List (List ℕ)) → has_details (xs ++ ys) ≡ (has_details xs || has_details ys)
has-more [] ys = refl
has-more (x ∷ xs) ys = refl

all-closed : (items : List (List ℕ)) → next_details false items ++ end (has_details items) ≡ in_parentheses items
all-closed [] = refl
all-closed (x ∷ xs) =
    append_assoc (codes " (") (x ++ more_details xs) (codes ")") ∙ ap (λ (bytes : List ℕ). codes " (" ++ bytes) (append_assoc x (more_details xs) (codes ")"))

or-has : (is_open : Bool) (xs ys : List (List ℕ)) → (is_open || has_details (xs ++ ys)) ≡ ((is_open || has_details xs) || has_details ys)
or-has true xs ys = refl
or-has false xs ys = has-more xs ys

closed-more : (is_open : Bool) (xs ys : List (List ℕ)) → next_details is_open (xs ++ ys) ++ end (is_open || has_details (xs ++ ys))
    ≡ next_details is_open xs ++ (next_details (is_open || has_details xs) ys ++ end ((is_open || has_details xs) || has_details ys))
closed-more is_open xs ys =
    ap (λ (bytes : List ℕ). bytes ++ end (is_open || has_details (xs ++ ys))) (details-more is_open xs ys)
    ∙ (append_assoc (next_details is_open xs) (next_details (is_open || has_details xs) ys) (end (is_open || has_details (xs ++ ys)))
    ∙ ap (λ (b : Bool). next_details is_open xs ++ (next_details (is_open || has_details xs) ys ++ end b)) (or-has is_open xs ys))

-- four kinds of details, one behind the other
pub four_details : (ws xs ys zs : List (List ℕ)) (a b c d : Bool) → a ≡ has_details ws → b ≡ (a || has_details xs) → c ≡ (b || has_details ys)
    → d ≡ (c || has_details zs)
    → in_parentheses (ws ++ (xs ++ (ys ++ zs))) ≡ next_details false ws ++ (next_details a xs ++ (next_details b ys ++ (next_details c zs ++ end d)))
four_details ws xs ys zs a b c d is-a is-b is-c is-d =
    let all-b = is-b ∙ ap (λ (x : Bool). x || has_details xs) is-a in
    let all-c = is-c ∙ ap (λ (x : Bool). x || has_details ys) all-b in
    let all-d = is-d ∙ ap (λ (x : Bool). x || has_details zs) all-c in
    let by-a = sym is-a in
    let by-b = sym all-b in
    let by-c = sym all-c in
    let by-d = sym all-d in
    sym (all-closed (ws ++ (xs ++ (ys ++ zs))))
    ∙ (closed-more false ws (xs ++ (ys ++ zs))
    ∙ (ap (λ (bytes : List ℕ). next_details false ws ++ bytes) (closed-more (has_details ws) xs (ys ++ zs)
    ∙ ap (λ (bytes : List ℕ). next_details (has_details ws) xs ++ bytes) (closed-more (has_details ws || has_details xs) ys zs))
    ∙ (λ i. next_details false ws ++ (next_details (by-a i) xs ++ (next_details (by-b i) ys ++ (next_details (by-c i) zs ++ end (by-d i)))))))
