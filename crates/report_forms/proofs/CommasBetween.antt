-- Lemmas on a list that is written with commas, some items at a time.
use Rattle.std.proofs.Common.{◌≡◌, ◌&&◌, ℕ, List, [], ◌∷◌, ◌++◌, refl, ap, sym, ◌∙◌, append_assoc}
use Rattle.std.proofs.lemmas.List.Concat.{flat_map-append}
use Rattle.report_forms.specs.Forms.Json.{with_commas, behind_commas}
use Rattle.report_forms.specs.Internal.WrittenCommas.{is_none_yet, next_items}

pub commas-more : (xs ys : List (List ℕ)) → with_commas (xs ++ ys) ≡ with_commas xs ++ next_items (is_none_yet xs) ys
commas-more [] ys = refl
commas-more (x ∷ xs) ys =
    ap (λ (bytes : List ℕ). x ++ bytes) (flat_map-append (λ (item : List ℕ). 44 ∷ item) xs ys) ∙ sym (append_assoc x (behind_commas xs) (behind_commas ys))

pub none-more : (xs ys : List (List ℕ)) → is_none_yet (xs ++ ys) ≡ (is_none_yet xs && is_none_yet ys)
none-more [] ys = refl
none-more (x ∷ xs) ys = refl
