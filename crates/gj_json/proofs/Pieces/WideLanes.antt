-- Lanes that are looked at with those before and after them, by tables.
use Rattle.gj_json.proofs.Common.{Bool, Each1, List, agree_below_at, ap, ap₂, arith, bit_and, cond, ends_at, eqb, false, get_or, leb, length, ltb}
use Rattle.gj_json.proofs.Common.{map, mask_l, mask_l-mod, not, refl, suc, sym, true, w8, zero, zip2, ℕ, [], ◌%◌, ◌&&◌, ◌/◌, ◌<◌, ◌^◌, ◌∙◌, ◌∷◌, ◌≡◌}
use Rattle.gj_json.proofs.Common.{◌≤◌}
use Rattle.std.proofs.Common.{◌||◌, Fits}
use Rattle.std.proofs.Common.{replicate, bit_or, eqb-true}
use lib.Lanes.{sel_l, top}
use Rattle.gj_json.specs.declared.wide.TheConstants.{BEFORE}
use Rattle.gj_json.specs.Internal.WideCharacters.{is_tail, is_stop, lower_of, upper_of, kind_at, kinds_of, ends_of}
use Rattle.gj_json.proofs.Pieces.LaneTests.{differs, top_c}

abbrev pub at_most : ℕ → ℕ → ℕ
at_most a b = cond (leb a b) 255 0

-- ---- the kinds

abbrev kind_of : ℕ → ℕ
kind_of a = bit_and (lower_of a) (upper_of a)

selected : (n : ℕ) (ps hs : List ℕ) → length ps ≡ n → length hs ≡ n
    → sel_l (map (top 7) (zip2 at_most (replicate n 224) ps))
    (zip2 bit_or (zip2 bit_and (zip2 bit_and (map lower_of hs) (map upper_of hs)) (replicate n 127)) (replicate n 64))
    (zip2 bit_and (map lower_of hs) (map upper_of hs)) ≡ kinds_of ps hs
selected zero [] [] h k = refl
selected (suc n) (p ∷ ps) (a ∷ hs) h k =
    ap₂ (λ x xs. x ∷ xs) (ap (λ t. cond t (bit_or (bit_and (kind_of a) 127) 64) (kind_of a)) (top_c (leb 224 p))) (selected n ps hs (omega arith) (omega arith))
selected _ _ _ h k = absurd (omega arith)

pub kinds_are : (ps hs : List ℕ) → length ps ≡ 16 → length hs ≡ 16 → {xs ys : List ℕ} → xs ≡ map lower_of hs → ys ≡ map upper_of hs
    → sel_l (map (top 7) (zip2 at_most (replicate 16 224) ps)) (zip2 bit_or (zip2 bit_and (zip2 bit_and xs ys) (replicate 16 127)) (replicate 16 64))
    (zip2 bit_and xs ys) ≡ kinds_of ps hs
kinds_are ps hs h k x y =
    ap (λ ks. sel_l (map (top 7) (zip2 at_most (replicate 16 224) ps)) (zip2 bit_or (zip2 bit_and ks (replicate 16 127)) (replicate 16 64)) ks)
    (ap₂ (zip2 bit_and) x y)
    ∙ selected 16 ps hs h k

-- ---- one lane, with the next byte

abbrev pub ending_of : ℕ → ℕ
ending_of b = get_or BEFORE (b / 16) 0

-- by whether the next byte is a tail, and one below A0
abbrev ending : Bool → Bool → ℕ
ending false l = 79
ending true true = 159
ending true false = 175

ending_is : (b : ℕ) → b < 256 → ending_of b ≡ ending (is_tail b) (ltb b 160)
ending_is b h = eqb-true _ _ (agree_below_at (λ b. eqb (ending_of b) (ending (is_tail b) (ltb b 160))) (λ b. true) 256 b refl h)

other_side : (b : ℕ) → b < 256 → leb 160 b ≡ not (ltb b 160)
other_side b h = agree_below_at (λ b. leb 160 b) (λ b. not (ltb b 160)) 256 b refl h

abbrev said : Bool → Bool → Bool → ℕ → Bool
said m t l a = is_stop a || ((leb 194 a || m) && not t || not (leb 194 a || m) && t) || (eqb a 224 && l || eqb a 237 && not l)

abbrev seen : Bool → Bool → Bool → ℕ → Bool
seen m t l a = not (eqb (bit_and (cond m (bit_or (bit_and (kind_of a) 127) 64) (kind_of a)) (ending t l)) 0)

agree : (m t l : Bool) (a : ℕ) → a < 256 → seen m t l a ≡ said m t l a
agree true true true a h = agree_below_at (seen true true true) (said true true true) 256 a refl h
agree true true false a h = agree_below_at (seen true true false) (said true true false) 256 a refl h
agree true false true a h = agree_below_at (seen true false true) (said true false true) 256 a refl h
agree true false false a h = agree_below_at (seen true false false) (said true false false) 256 a refl h
agree false true true a h = agree_below_at (seen false true true) (said false true true) 256 a refl h
agree false true false a h = agree_below_at (seen false true false) (said false true false) 256 a refl h
agree false false true a h = agree_below_at (seen false false true) (said false false true) 256 a refl h
agree false false false a h = agree_below_at (seen false false false) (said false false false) 256 a refl h

one : (p a b : ℕ) → a < 256 → b < 256 → top 7 (differs (bit_and (kind_at p a) (ending_of b)) 0) ≡ ends_at p a b
one p a b h k =
    top_c (not (eqb (bit_and (kind_at p a) (ending_of b)) 0))
    ∙ ap (λ e. not (eqb (bit_and (kind_at p a) e) 0)) (ending_is b k)
    ∙ agree (leb 224 p) (is_tail b) (ltb b 160) a h
    ∙ ap (λ x. is_stop a || ((leb 194 a || leb 224 p) && not (is_tail b) || not (leb 194 a || leb 224 p) && is_tail b) ||
    (eqb a 224 && ltb b 160 || eqb a 237 && x)) (sym (other_side b k))

-- ---- all lanes

lanes : (n : ℕ) (ps hs ns : List ℕ) → length ps ≡ n → length hs ≡ n → length ns ≡ n → Each1 (Fits w8) hs → Each1 (Fits w8) ns
    → map (top 7) (zip2 differs (zip2 bit_and (kinds_of ps hs) (map ending_of ns)) (replicate n 0)) ≡ ends_of ps hs ns
lanes zero [] [] [] h k l f g = refl
lanes (suc n) (p ∷ ps) (a ∷ hs) (b ∷ ns) h k l f g =
    ap₂ (λ x xs. x ∷ xs) (one p a b f.0.fits g.0.fits) (lanes n ps hs ns (omega arith) (omega arith) (omega arith) f.1 g.1)
lanes _ _ _ _ h k l f g = absurd (omega arith)

few : (ps hs ns : List ℕ) → length (ends_of ps hs ns) ≤ length hs
few (p ∷ ps) (a ∷ hs) (b ∷ ns) = let k = few ps hs ns in omega arith
few other another third = omega arith

pub ends_are : (ps hs ns : List ℕ) → length ps ≡ 16 → length hs ≡ 16 → length ns ≡ 16 → Each1 (Fits w8) hs → Each1 (Fits w8) ns → {ks es : List ℕ}
    → ks ≡ kinds_of ps hs → es ≡ map ending_of ns
    → mask_l (map (top 7) (zip2 differs (zip2 bit_and ks es) (replicate 16 0))) % 2 ^ 64 ≡ mask_l (ends_of ps hs ns)
ends_are ps hs ns h k l f g x y =
    ap (λ v. mask_l (map (top 7) (zip2 differs v (replicate 16 0))) % 2 ^ 64) (ap₂ (zip2 bit_and) x y)
    ∙ ap (λ ms. mask_l ms % 2 ^ 64) (lanes 16 ps hs ns h k l f g) ∙ mask_l-mod (ends_of ps hs ns) 64 (omega (arith, few ps hs ns))
