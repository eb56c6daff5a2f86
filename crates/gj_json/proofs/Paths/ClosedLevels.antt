-- Events that close the innermost level: whichever they are, the steps around it are left, with one element more.
use Rattle.gj_json.proofs.Common.{Event, Index, Leaves, List, PathStep, What, advanced, ap, arith, drop, outer_steps, refl, subst, suc, sym, zero, ℕ}
use Rattle.gj_json.proofs.Common.{[], ◌+◌, ◌-◌, ◌∙◌, ◌∷◌, ◌≡◌}
use Rattle.gj_json.specs.Ignored.{levels_behind}
use Rattle.gj_json.specs.Internal.PathTrail.{with_inner, IsSmall, followed, HasRoom, Follows}

outer_dropped : (s : List PathStep) → outer_steps s ≡ drop 1 s
outer_dropped [] = refl
outer_dropped (x ∷ s) = refl

deeper_dropped : (k : ℕ) (s : List PathStep) → drop (suc k) (outer_steps s) ≡ drop (suc (suc k)) s
deeper_dropped k [] = refl
deeper_dropped k (x ∷ s) = refl

advanced_dropped : (k : ℕ) (s : List PathStep) → drop (suc k) (advanced s) ≡ drop (suc k) s
advanced_dropped k [] = refl
advanced_dropped k (Index i ∷ s) = refl
advanced_dropped k (PathStep.Member known ∷ s) = refl

named_dropped : (k : ℕ) (x : PathStep) (s : List PathStep) → drop (suc k) (with_inner x s) ≡ drop (suc k) s
named_dropped k x [] = refl
named_dropped k x (y ∷ s) = refl

module _ (last around : List PathStep) (is : IsSmall (advanced around) → last ≡ advanced around) where
  -- they lead there from all steps of which these stand around the levels that are left to close
  abbrev Closes : List Event → Type 0
  Closes es = (k : ℕ) (s : List PathStep) → drop (suc k) s ≡ around → Leaves (suc k) es 0 → Follows last es s

  closed : (es : List Event) → Closes es → (k : ℕ) (s : List PathStep) → drop (suc k) s ≡ around → Leaves (suc k - 1) es 0 → IsSmall (advanced (outer_steps s))
      → Follows last es (advanced (outer_steps s))
  closed [] rest zero s d l room =
      let e : outer_steps s ≡ around = outer_dropped s ∙ d in
      let P : List PathStep → Type 0 = λ t. IsSmall (advanced t) in
      is (subst P e room) ∙ sym (ap advanced e)
  closed (e ∷ es) rest zero s d l room = absurd l
  closed es rest (suc k) s d l room =
      let n : suc (suc k) - 1 ≡ suc k = omega arith in
      let P : ℕ → Type 0 = λ m. Leaves m es 0 in
      rest k (advanced (outer_steps s)) (advanced_dropped k (outer_steps s) ∙ (deeper_dropped k s ∙ d)) (subst P n l)

  opened : (es : List Event) → Closes es → (k : ℕ) (s : List PathStep) → drop (suc k) s ≡ around → Leaves (suc k + 1) es 0 → Follows last es (Index 0 ∷ s)
  opened es rest k s d l =
      let n : suc k + 1 ≡ suc (suc k) = omega arith in
      let P : ℕ → Type 0 = λ m. Leaves m es 0 in
      rest (suc k) (Index 0 ∷ s) d (subst P n l)

  after : (what : What) (es : List Event) → Closes es → (k : ℕ) (s : List PathStep) → drop (suc k) s ≡ around → Leaves (levels_behind what (suc k)) es 0
      → HasRoom what s → Follows last es (followed what s)
  after What.OpenArray es rest k s d l room = opened es rest k s d l
  after What.OpenObject es rest k s d l room = opened es rest k s d l
  after What.CloseArray es rest k s d l room = closed es rest k s d l room
  after What.CloseObject es rest k s d l room = closed es rest k s d l room
  after (What.Name known) es rest k s d l room = rest k (with_inner (PathStep.Member known) s) (named_dropped k (PathStep.Member known) s ∙ d) l
  after other es rest k s d l room = rest k (advanced s) (advanced_dropped k s ∙ d) l

  pub closes : (es : List Event) → Closes es
  closes [] k s d l = absurd (omega (arith, l))
  closes (e ∷ es) k s d l = after e.what es (closes es) k s d l

-- none of them has to be reported
pub follows_closed : (p closed last : List PathStep) → closed ≡ outer_steps p → (IsSmall (advanced closed) → last ≡ advanced closed) → (t : List PathStep)
    → p ≡ t → (inner : List Event) → Leaves 1 inner 0 → Follows last inner t
follows_closed p closed last c a t e inner l =
    closes last closed a inner 0 t (let P : List PathStep → Type 0 = λ s. drop 1 s ≡ closed in subst P e (sym (outer_dropped p) ∙ sym c)) l
