-- Positions agree exactly where their first values are the same.
use Rattle.gj_coords.proofs.Common.{Tree, ap, ◌&&◌}
use Rattle.std.proofs.Common.{◌≡◌, ◌↔◌, ◌==◌, Option, Some, None, refl, IsTrue, Decides}
use Rattle.std.specs.Bool.{beq}
use Rattle.std.specs.Cmp.{booleans_Decides}
use Rattle.std.specs.Option.{option_eq}
use Rattle.std.specs.Ordering.{int_eq}
use Rattle.std.proofs.lemmas.Bool.Decides.{Decides-and, Decides-eqb, Decides-int_eq}
use Rattle.std.proofs.lemmas.Slice.Eq.{slice_eq-Decides}
use Rattle.gj_number.specs.Exact.{Exact, same_parts}
use Rattle.gj_coords.specs.Ring.{agree, first_values}
use Rattle.gj_number.proofs.Value.OneDenotation.{same_exact}

-- the test on the parts decides each of them
parts_decide : (a b : Exact) → Decides (same_parts a b) ((a.negative ≡ b.negative) × ((a.digits ≡ b.digits) × (a.power ≡ b.power)))
parts_decide a b =
    let d = Decides-and (beq a.negative b.negative) (a.digits == b.digits && int_eq a.power b.power) (booleans_Decides a.negative b.negative)
    (Decides-and (a.digits == b.digits) (int_eq a.power b.power) (Decides-eqb a.digits b.digits) (Decides-int_eq a.power b.power)) in
    (λ t. d.0 t, λ p. d.1 p)

exact_decides : (a b : Exact) → Decides (same_parts a b) (a ≡ b)
exact_decides a b =
    let d = parts_decide a b in
    (λ t. let p = d.0 t in same_exact a b p.0 p.1.0 p.1.1, λ e. d.1 (ap (λ x. x.negative) e, (ap (λ x. x.digits) e, ap (λ x. x.power) e)))

pub option_decides : (a b : Option Exact) → Decides (option_eq same_parts a b) (a ≡ b)
option_decides None None = (λ _. refl, λ _. refl)
option_decides None (Some b) = (λ t. cc, λ e. cc)
option_decides (Some a) None = (λ t. cc, λ e. cc)
option_decides (Some a) (Some b) = let d = exact_decides a b in (λ t. ap Some (d.0 t), λ e. d.1 (let same : a ≡ b = cc in same))

pub agree_is : (a b : Tree) → IsTrue (agree a b) ↔ (first_values a ≡ first_values b)
agree_is a b = slice_eq-Decides option_decides (first_values a) (first_values b) (agree a b) refl
