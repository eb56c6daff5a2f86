-- The steps of a path, the innermost first.
use Rattle.gj_json.proofs.Common.{Index, List, PathStep, ap, append_assoc, arith, get_or, length, outer_steps, refl, suc, sym, take_more, zero, ℕ, []}
use Rattle.gj_json.proofs.Common.{◌++◌, ◌+◌, ◌-◌, ◌<◌, ◌∙◌, ◌∷◌, ◌≡◌, ◌≢◌, ◌≤◌}
use Rattle.std.proofs.Common.{take, set, add-one}
use Rattle.std.proofs.lemmas.List.{get_or-set_same, get_or-set_other}
use Rattle.std.specs.Prelude.{slice_set}
use Rattle.gj_json.specs.Internal.PathTrail.{steps_back, with_inner}

set_above : (xs : List PathStep) (n m : ℕ) (x : PathStep) → n ≤ m → steps_back n (set xs m x) ≡ steps_back n xs
set_above xs zero m x l = refl
set_above xs (suc n) m x l =
    let d : n ≢ m = omega arith in
    rw (get_or-set_other xs m n x (Index 0) d) (ap (λ ss. get_or xs n (Index 0) ∷ ss) (set_above xs n m x (omega arith)))

pub steps_pushed : (xs : List PathStep) (n : ℕ) (x : PathStep) → n < length xs → steps_back (n + 1) (slice_set xs n x) ≡ x ∷ steps_back n xs
steps_pushed xs n x l = rw (add-one, get_or-set_same xs n x (Index 0) l) (ap (λ ss. x ∷ ss) (set_above xs n n x (omega arith)))

pub steps_set : (xs : List PathStep) (n : ℕ) (x : PathStep) → n - 1 < length xs → 0 < n → steps_back n (slice_set xs (n - 1) x) ≡ with_inner x (steps_back n xs)
steps_set xs zero x l p = absurd (omega arith)
steps_set xs (suc n) x l p =
    let k : suc n - 1 ≡ n = omega arith in
    let m : n < length xs = omega (arith, k) in
    rw (k, get_or-set_same xs n x (Index 0) m) (ap (λ ss. x ∷ ss) (set_above xs n n x (omega arith)))

-- ---- from the root

-- these steps, turned round, before those
abbrev pub outward : List PathStep → List PathStep → List PathStep
outward [] more = more
outward (step ∷ steps) more = outward steps (step ∷ more)

pub from_back : (xs : List PathStep) (n : ℕ) (more : List PathStep) → n ≤ length xs → outward (steps_back n xs) more ≡ take n xs ++ more
from_back xs zero more l = refl
from_back xs (suc n) more l =
    let m : n < length xs = omega arith in
    let e : take (suc n) xs ≡ take n xs ++ get_or xs n (Index 0) ∷ [] = rw (← add-one n) (take_more xs n (Index 0) m) in
    from_back xs n (get_or xs n (Index 0) ∷ more) (omega arith) ∙ rw e (sym (append_assoc (take n xs) (get_or xs n (Index 0) ∷ []) more))

pub steps_closed : (xs : List PathStep) (n : ℕ) (x : PathStep) → steps_back (n - 1) (slice_set xs (n - 1) x) ≡ outer_steps (steps_back n xs)
steps_closed xs zero x = refl
steps_closed xs (suc n) x =
    let k : suc n - 1 ≡ n = omega arith in
    rw (k) (set_above xs n n x (omega arith))
