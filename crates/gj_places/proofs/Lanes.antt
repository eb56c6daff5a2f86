-- Line feeds that are counted by the lanes of a vector.
use Rattle.std.proofs.Common.{◌≡◌, ℕ, zero, suc, ◌+◌, ◌<◌, ◌≤◌, ◌%◌, Bool, true, false, cond, eqb, List, [], ◌∷◌, length, map, replicate}
use Rattle.std.proofs.Common.{ap, ap₂, ◌∙◌, refl, arith, Fits}
use mir.Syntax.{w16}
use Rattle.std.proofs.lemmas.List.{length-map}
use lib.Lanes.{zip2, sel_l, sum_l, fold_l, top, Each1}
use Rattle.gj_places.specs.Lines.{line_feeds, counted_byte}

-- ---- the lanes of one vector

-- what two vectors that are compared hold at a lane
abbrev equal : ℕ → ℕ → ℕ
equal a b = cond (eqb a b) 255 0

top_c : (s : Bool) → top 7 (cond s 255 0) ≡ s
top_c true = refl
top_c false = refl

-- 1 is chosen where the byte is LF, and 0 elsewhere
pub chosen : (n : ℕ) (bytes : List ℕ) → length bytes ≡ n
    → sel_l (map (top 7) (zip2 equal bytes (replicate n 10))) (replicate n 1) (replicate n 0) ≡ map counted_byte bytes
chosen zero [] long = refl
chosen (suc n) (byte ∷ bytes) long = ap₂ (λ x xs. x ∷ xs) (ap (λ t. cond t 1 0) (top_c (eqb byte 10))) (chosen n bytes (omega arith))
chosen _ _ long = absurd (omega arith)

one_at_most : (b : Bool) → cond b 1 0 ≤ 1
one_at_most true = omega arith
one_at_most false = omega arith

-- each lane is 1 at most, and their sum counts the line feeds
ones : (bytes : List ℕ) → Each1 (λ a. a ≤ 1) (map counted_byte bytes)
ones [] = tt
ones (byte ∷ bytes) = (one_at_most (eqb byte 10), ones bytes)

sum_is : (bytes : List ℕ) → sum_l (map counted_byte bytes) ≡ line_feeds bytes
sum_is [] = refl
sum_is (byte ∷ bytes) = ap (λ n. counted_byte byte + n) (sum_is bytes)

-- ---- one vector more

-- what the sum of two vectors holds at a lane
abbrev added : ℕ → ℕ → ℕ
added a b = (a + b) % 256

-- of lanes up to k, which still have room for 1
one_more : (k : ℕ) (lanes ends : List ℕ) → k < 255 → length lanes ≡ length ends → Each1 (λ a. a ≤ k) lanes → Each1 (λ a. a ≤ 1) ends
    → (sum_l (zip2 added lanes ends) ≡ sum_l lanes + sum_l ends) × Each1 (λ a. a ≤ k + 1) (zip2 added lanes ends)
one_more k [] [] few same most ends_most = (omega arith, tt)
one_more k (a ∷ lanes) (b ∷ ends) few same most ends_most =
    let rest = one_more k lanes ends few (omega arith) most.1 ends_most.1 in
    let sum = rest.0 in
    let here : a ≤ k = most.0 in
    let end : b ≤ 1 = ends_most.0 in
    (omega arith, (omega arith, rest.1))
one_more k [] (b ∷ ends) few same most ends_most = absurd (omega arith)
one_more k (a ∷ lanes) [] few same most ends_most = absurd (omega arith)

pub counted_more : (k : ℕ) (lanes bytes ends : List ℕ) → ends ≡ map counted_byte bytes → k < 255 → length lanes ≡ length bytes
    → Each1 (λ a. a ≤ k) lanes
    → (sum_l (zip2 added lanes ends) ≡ sum_l lanes + line_feeds bytes) × Each1 (λ a. a ≤ k + 1) (zip2 added lanes ends)
counted_more k lanes bytes ends are few same most =
    let long : length ends ≡ length bytes = ap length are ∙ length-map bytes counted_byte in
    let more = one_more k lanes ends few (omega arith) most (rw are (ones bytes)) in
    (more.0 ∙ ap (λ n. sum_l lanes + n) (ap sum_l are ∙ sum_is bytes), more.1)

-- ---- the sum of the lanes

-- it is made in sixteen bits, which hold each partial sum
abbrev reduced : ℕ → List ℕ → ℕ
reduced a lanes = fold_l (λ s x. (s + x) % 65536) a (map (λ x. x) lanes)

reduced_is : (a : ℕ) (lanes : List ℕ) → a + sum_l lanes < 65536 → reduced a lanes ≡ a + sum_l lanes
reduced_is a [] few = omega arith
reduced_is a (x ∷ lanes) few =
    let here : (a + x) % 65536 ≡ a + x = omega arith in
    ap (λ s. reduced s lanes) here ∙ reduced_is (a + x) lanes (omega arith) ∙ omega arith

-- with what the bytes after the vectors add
pub total : (lanes : List ℕ) (more all : ℕ) → sum_l lanes + more ≡ all → all < 65536 → reduced 0 lanes + more ≡ all
total lanes more all same few = let sum = reduced_is 0 lanes (omega arith) in omega arith

pub total_fits : (lanes : List ℕ) (more all : ℕ) → sum_l lanes + more ≡ all → all < 65536 → Fits w16 (reduced 0 lanes + more)
total_fits lanes more all same few = let sum = total lanes more all same few in omega arith
