-- The byte after those that a reader took: refused for its cause, or not.
use Rattle.std.proofs.Common.{◌≡◌, ℕ, ◌<◌, ◌⊎◌, ◌↔◌, true, false, List, [], ◌∷◌, ◌++◌, length, inl, inr, refl, sym, ap, subst, ◌∙◌, append_assoc, length-append, arith, IsTrue}
use Rattle.std.proofs.lemmas.List.{append-nil}
use Rattle.gj_json.specs.Limits.{Allowed}
use Rattle.gj_json.specs.Refusal.{RefusedFor}
use Rattle.gj_json.specs.Text.{IsViable, IsViableWithin}
use Rattle.gj_json.specs.declared.fault.Cause.{Cause}
use Rattle.gj_json.specs.declared.fault.Cause.TheVariants.{Syntax, Truncated, Depth, Length}
use Rattle.gj_hints.specs.Expected.{allows}

none_left : (xs ys : List ℕ) → [] ≡ xs ++ ys → ys ≡ []
none_left [] ys e = sym e
none_left (x ∷ xs) ys e = cc

-- a list and one byte more, cut in two: after that byte, or in the list
cut : (xs : List ℕ) (b : ℕ) (ys zs : List ℕ) → xs ++ b ∷ [] ≡ ys ++ zs → (zs ≡ []) ⊎ ((more : List ℕ) × (xs ≡ ys ++ more))
cut xs b [] zs e = inr (xs, refl)
cut [] b (y ∷ ys) zs e = let tail : [] ≡ ys ++ zs = cc in inl (none_left ys zs tail)
cut (x ∷ xs) b (y ∷ ys) zs e =
    let tail : xs ++ b ∷ [] ≡ ys ++ zs = cc in
    elim (cut xs b ys zs tail) [ inl h ↦ inl h | inr h ↦ (let same : xs ≡ ys ++ h.0 = h.1 in inr (h.0, cc)) ]

-- what viable bytes begin with is viable too
pub record Fronts : Type 0 where
  pub front : (bytes more : List ℕ) → IsViable (bytes ++ more) → IsViable bytes
  pub front_within : (levels : ℕ) (bytes more : List ℕ) → IsViableWithin levels (bytes ++ more) → IsViableWithin levels bytes
  pub without_limit : (levels : ℕ) (bytes : List ℕ) → IsViableWithin levels bytes → IsViable bytes

pub allowed_follows : (limits : Allowed) (bytes : List ℕ) (byte : ℕ) (cause : Cause) (place : ℕ) → Fronts → IsViableWithin limits.depth bytes
    → length bytes < limits.bytes → RefusedFor cause limits (bytes ++ byte ∷ []) place → (IsTrue (allows cause)) ↔ IsViable (bytes ++ byte ∷ [])
allowed_follows limits bytes byte Syntax place fronts viable few h =
    let good : List ℕ = h.0.good in
    let taken : List ℕ = good ++ h.0.byte ∷ [] in
    let e : bytes ++ byte ∷ [] ≡ taken ++ h.0.rest = h.0.split ∙ sym (append_assoc good (h.0.byte ∷ []) h.0.rest) in (
      λ (never : false ≡ true). let no : ⊥ = cc in absurd no,
      λ follows. absurd (h.2 (fronts.front taken h.0.rest (let P : List ℕ → Type 0 = λ xs. IsViable xs in subst P e follows))),
    )
allowed_follows limits bytes byte Truncated place fronts viable few h = (λ _. fronts.without_limit limits.depth (bytes ++ byte ∷ []) h.2, λ _. refl)
allowed_follows limits bytes byte Depth place fronts viable few h =
    let good : List ℕ = h.0.good in
    let taken : List ℕ = good ++ h.0.byte ∷ [] in
    let e : bytes ++ byte ∷ [] ≡ taken ++ h.0.rest = h.0.split ∙ sym (append_assoc good (h.0.byte ∷ []) h.0.rest) in
    let P : List ℕ → Type 0 = λ xs. IsViable xs in
    let Within : List ℕ → Type 0 = λ xs. IsViableWithin limits.depth xs in
    let follows : IsViable (bytes ++ byte ∷ []) =
    elim (cut bytes byte taken h.0.rest e) [
      | inl none ↦ (let whole : taken ++ h.0.rest ≡ taken = ap (λ (z : List ℕ). taken ++ z) none ∙ append-nil taken in subst P (sym (e ∙ whole)) h.2)
      | inr front ↦ absurd (h.3 (fronts.front_within limits.depth taken front.0 (subst Within front.1 viable)))
    ] in
    (λ _. follows, λ _. refl)
allowed_follows limits bytes byte Length place fronts viable few h =
    let never : ⊥ = omega (arith, simp length-append at (ap length h.0.split), h.0.at, h.1) in (λ _. absurd never, λ _. refl)
