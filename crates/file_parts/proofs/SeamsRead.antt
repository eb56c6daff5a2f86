-- Which seams a search of some bytes finds, and where there are none.
use Rattle.std.proofs.Common.{◌≡◌, ℕ, zero, suc, ◌+◌, ◌-◌, ◌<◌, ◌≤◌, ◌&&◌, Bool, true, false, nat_eq, if◌then◌else◌, List, [], ◌∷◌, ◌++◌, length, take, drop, Option, Some, None, refl, sym, ap, ◌∙◌, arith}
use Rattle.std.specs.Prelude.{option_map}
use Rattle.std.specs.Char.{is_ascii_whitespace}
use Rattle.std.specs.List.{AllByRecursion}
use Rattle.std.proofs.lemmas.Bool.Decides.{nat_tests}
use Rattle.std.proofs.lemmas.List.{drop-append-le, length-drop, take-append-drop, take-append-le}
use Rattle.gj_json.specs.Bytes.{comma, open_brace, close_brace, quote}
use Rattle.gj_join.specs.Seams.{after_byte, begin_with, begins_object, is_seam, seam}

-- ---- bytes that follow

after_longer : (byte : ℕ) (xs zs ys : List ℕ) → after_byte byte xs ≡ Some ys → after_byte byte (xs ++ zs) ≡ Some (ys ++ zs)
after_longer byte [] zs ys e = cc
after_longer byte (x ∷ xs) zs ys e = go (nat_eq x byte) (is_ascii_whitespace x) (after_longer byte xs zs ys) e
  where
    go : (b w : Bool) → (after_byte byte xs ≡ Some ys → after_byte byte (xs ++ zs) ≡ Some (ys ++ zs))
        → (if b then Some xs else (if w then after_byte byte xs else None)) ≡ Some ys
        → (if b then Some (xs ++ zs) else (if w then after_byte byte (xs ++ zs) else None)) ≡ Some (ys ++ zs)
    go true w h e = ap (option_map (λ l. l ++ zs)) e
    go false true h e = h e
    go false false h e = cc

begin_longer : (signs xs zs : List ℕ) → begin_with signs (Some xs) ≡ true → begin_with signs (Some (xs ++ zs)) ≡ true
begin_longer [] xs zs e = refl
begin_longer (sign ∷ more) xs zs e = go (λ ys. begin_longer more ys zs) (after_byte sign xs) refl e
  where
    go : ((ys : List ℕ) → begin_with more (Some ys) ≡ true → begin_with more (Some (ys ++ zs)) ≡ true) → (o : Option (List ℕ))
        → after_byte sign xs ≡ o → begin_with more o ≡ true → begin_with more (after_byte sign (xs ++ zs)) ≡ true
    go h None f e = cc
    go h (Some ys) f e = rw (after_longer sign xs zs ys f) (h ys e)

abbrev object : List ℕ
object = comma ∷ open_brace ∷ quote ∷ []

pub seam_longer : (xs zs : List ℕ) → is_seam xs ≡ true → is_seam (xs ++ zs) ≡ true
seam_longer [] zs e = cc
seam_longer (x ∷ xs) zs e = go (nat_eq x close_brace) e
  where
    go : (b : Bool) → (b && begins_object xs) ≡ true → (b && begins_object (xs ++ zs)) ≡ true
    go true e = begin_longer object xs zs e
    go false e = cc

-- ---- no brace among white space and signs

none_more : (x : ℕ) (xs : List ℕ) → nat_eq x close_brace ≡ false → seam xs ≡ None → seam (x ∷ xs) ≡ None
none_more x xs e none = rw e (ap (option_map suc) none)

white_no_brace : (x : ℕ) → is_ascii_whitespace x ≡ true → nat_eq x close_brace ≡ false
white_no_brace x e = go (nat_eq x close_brace) refl
  where
    go : (b : Bool) → nat_eq x close_brace ≡ b → b ≡ false
    go false f = refl
    go true f = (let same : x ≡ close_brace = grind (arith, nat_tests) in let g : is_ascii_whitespace close_brace ≡ true = ap is_ascii_whitespace (sym same) ∙ e in cc)

sign_no_brace : (x sign : ℕ) → nat_eq sign close_brace ≡ false → nat_eq x sign ≡ true → nat_eq x close_brace ≡ false
sign_no_brace x sign e f = (let same : x ≡ sign = grind (arith, nat_tests) in rw same e)

none_before : (sign : ℕ) (xs ys : List ℕ) → nat_eq sign close_brace ≡ false → after_byte sign xs ≡ Some ys → seam ys ≡ None → seam xs ≡ None
none_before sign [] ys k e none = refl
none_before sign (x ∷ xs) ys k e none =
    go (nat_eq x sign) (is_ascii_whitespace x) refl refl (λ f. none_before sign xs ys k f none) e
  where
    go : (b w : Bool) → nat_eq x sign ≡ b → is_ascii_whitespace x ≡ w → (after_byte sign xs ≡ Some ys → seam xs ≡ None)
        → (if b then Some xs else (if w then after_byte sign xs else None)) ≡ Some ys → seam (x ∷ xs) ≡ None
    go true w f g h e = none_more x xs (sign_no_brace x sign k f) (let same : xs ≡ ys = cc in rw same none)
    go false true f g h e = none_more x xs (white_no_brace x g) (h e)
    go false false f g h e = cc

none_short : (sign : ℕ) (xs zs ys : List ℕ) → after_byte sign xs ≡ None → after_byte sign (xs ++ zs) ≡ Some ys → seam xs ≡ None
none_short sign [] zs ys e l = refl
none_short sign (x ∷ xs) zs ys e l = go (nat_eq x sign) (is_ascii_whitespace x) refl (none_short sign xs zs ys) e l
  where
    go : (b w : Bool) → is_ascii_whitespace x ≡ w → (after_byte sign xs ≡ None → after_byte sign (xs ++ zs) ≡ Some ys → seam xs ≡ None)
        → (if b then Some xs else (if w then after_byte sign xs else None)) ≡ None
        → (if b then Some (xs ++ zs) else (if w then after_byte sign (xs ++ zs) else None)) ≡ Some ys → seam (x ∷ xs) ≡ None
    go true w g h e l = cc
    go false true g h e l = none_more x xs (white_no_brace x g) (h e l)
    go false false g h e l = cc

abbrev NoBraces : List ℕ → Type 0
NoBraces signs = AllByRecursion (λ sign. nat_eq sign close_brace ≡ false) signs

-- bytes that lack only what follows them have no seam
begin_short : (signs xs zs : List ℕ) → NoBraces signs → begin_with signs (Some xs) ≡ false → begin_with signs (Some (xs ++ zs)) ≡ true → seam xs ≡ None
begin_short [] xs zs k e l = cc
begin_short (sign ∷ more) xs zs k e l = go (λ ys. begin_short more ys zs k.1) (after_byte sign xs) refl e l
  where
    some : (o : Option (List ℕ)) → after_byte sign xs ≡ None → after_byte sign (xs ++ zs) ≡ o → begin_with more o ≡ true → seam xs ≡ None
    some None f g l = cc
    some (Some ys) f g l = none_short sign xs zs ys f g

    go : ((ys : List ℕ) → begin_with more (Some ys) ≡ false → begin_with more (Some (ys ++ zs)) ≡ true → seam ys ≡ None) → (o : Option (List ℕ))
        → after_byte sign xs ≡ o → begin_with more o ≡ false → begin_with more (after_byte sign (xs ++ zs)) ≡ true → seam xs ≡ None
    go h None f e l = some (after_byte sign (xs ++ zs)) f refl l
    go h (Some ys) f e l = none_before sign xs ys k.0 f (h ys e (rw (after_longer sign xs zs ys f) at l))

-- ---- a search

abbrev Sought : List ℕ → ℕ → Type 0
Sought xs i = (0 < i) × (i ≤ length xs) × (is_seam (drop (i - 1) xs) ≡ true)

one_more : (x i : ℕ) (xs : List ℕ) → Sought xs i → Sought (x ∷ xs) (suc i)
one_more x i xs s = (omega arith, omega (arith, s.1), (let e : suc i - 1 ≡ suc (i - 1) = omega (arith, s.0) in rw e s.2))

-- what it finds
pub seam_found : (xs : List ℕ) (i : ℕ) → seam xs ≡ Some i → Sought xs i
seam_found [] i e = cc
seam_found (x ∷ xs) i e = go (is_seam (x ∷ xs)) refl (seam xs) refl (seam_found xs) e
  where
    go : (b : Bool) → is_seam (x ∷ xs) ≡ b → (o : Option ℕ) → seam xs ≡ o → ((k : ℕ) → seam xs ≡ Some k → Sought xs k)
        → (if b then Some 1 else option_map suc o) ≡ Some i → Sought (x ∷ xs) i
    go true s o f h e = let one : 1 ≡ i = cc in rw (← one) (omega arith, omega arith, s)
    go false s None f h e = cc
    go false s (Some k) f h e = let same : suc k ≡ i = cc in rw (← same) (one_more x k xs (h k f))

-- it is the first, however the bytes go on
pub seam_first : (xs zs : List ℕ) (i j : ℕ) → seam xs ≡ Some i → suc j < i → is_seam (drop j (xs ++ zs)) ≡ true → ⊥
seam_first [] zs i j e l s = cc
seam_first (x ∷ xs) zs i j e l s = go (is_seam (x ∷ xs)) refl (seam xs) refl (seam_first xs zs) j l s e
  where
    first : (b : Bool) → nat_eq x close_brace ≡ b → (b && begins_object xs) ≡ false → (b && begins_object (xs ++ zs)) ≡ true → seam xs ≡ None
    first true f e l = begin_short object xs zs (refl, (refl, (refl, tt))) e l
    first false f e l = cc

    go : (b : Bool) → is_seam (x ∷ xs) ≡ b → (o : Option ℕ) → seam xs ≡ o
        → ((k j : ℕ) → seam xs ≡ Some k → suc j < k → is_seam (drop j (xs ++ zs)) ≡ true → ⊥)
        → (j : ℕ) → suc j < i → is_seam (drop j (x ∷ (xs ++ zs))) ≡ true → (if b then Some 1 else option_map suc o) ≡ Some i → ⊥
    go true t o f h j l s e = let one : 1 ≡ i = cc in absurd (omega (arith, one, l))
    go false t None f h j l s e = cc
    go false t (Some k) f h zero l s e = let none : Some k ≡ None = sym f ∙ first (nat_eq x close_brace) refl t s in cc
    go false t (Some k) f h (suc j) l s e = let same : suc k ≡ i = cc in h k j f (omega (arith, same, l)) s

-- where it finds none there is none
pub none_at : (xs : List ℕ) (j : ℕ) → seam xs ≡ None → is_seam (drop j xs) ≡ true → ⊥
none_at [] zero e s = cc
none_at [] (suc j) e s = cc
none_at (x ∷ xs) j e s = go (is_seam (x ∷ xs)) refl (seam xs) refl (none_at xs) j s e
  where
    go : (b : Bool) → is_seam (x ∷ xs) ≡ b → (o : Option ℕ) → seam xs ≡ o → ((j : ℕ) → seam xs ≡ None → is_seam (drop j xs) ≡ true → ⊥)
        → (j : ℕ) → is_seam (drop j (x ∷ xs)) ≡ true → (if b then Some 1 else option_map suc o) ≡ None → ⊥
    go true t o f h j s e = cc
    go false t (Some k) f h j s e = cc
    go false t None f h zero s e = let bad : true ≡ false = sym s ∙ t in cc
    go false t None f h (suc j) s e = h j f s

pub none_among : (xs zs : List ℕ) (j n : ℕ) → seam xs ≡ None → j + n ≤ length xs → is_seam (take n (drop j (xs ++ zs))) ≡ true → ⊥
none_among xs zs j n none l s =
    let e : take n (drop j (xs ++ zs)) ≡ take n (drop j xs) =
    ap (take n) (drop-append-le j xs zs (omega (arith, l))) ∙ take-append-le n (drop j xs) zs (omega (arith, l, length-drop j xs)) in
    let k : is_seam (take n (drop j xs) ++ drop n (drop j xs)) ≡ true = seam_longer (take n (drop j xs)) (drop n (drop j xs)) (sym (ap is_seam e) ∙ s) in
    none_at xs j none (ap is_seam (sym (take-append-drop n (drop j xs))) ∙ k)
