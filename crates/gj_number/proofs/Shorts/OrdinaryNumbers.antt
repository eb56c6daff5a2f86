-- How an ordinary number lies at the start of a piece: its runs of digits, and what stands after each.
use Rattle.gj_number.proofs.Common.{All-from_recursion, Bool, IsDigit, IsDigits, IsNatural, IsNumberByte, IsPointed, IsRun, List, SpellsFraction}
use Rattle.gj_number.proofs.Common.{SpellsSign, StartsOrdinary, StartsSigned, StartsUsual, ap, append_assoc, arith, bool_byte, decimal_point, drop}
use Rattle.gj_number.proofs.Common.{drop-cons, drop-drop, false, get_or, get_or-drop, inl, inr, length, length-take-le, minus_sign, nat_tests, refl}
use Rattle.gj_number.proofs.Common.{subst, suc, sym, take, take-append-drop, take-append_seam, take_rest, true, zero_digit, ℕ, [], ◌++◌, ◌+◌, ◌-◌}
use Rattle.gj_number.proofs.Common.{◌<◌, ◌==◌, ◌∙◌, ◌∷◌, ◌≡◌, ◌≤◌, ◌⊎◌}
use Rattle.std.proofs.Common.{All}
use Rattle.std.proofs.Common.{length-append}
use Rattle.std.proofs.Math.Seq.{drop-append_seam}
use Rattle.std.proofs.lemmas.List.{get_or-append-add}
use Rattle.gj_number.proofs.Grammar.FoundParts.{natural_digits, all_digits}

-- the digits before the point from `first` on, those after it, and the byte after the number
pub record IsLaid (piece : List ℕ) (first natural fraction : ℕ) : Type 0 where
  pub digits : IsRun (drop first piece) natural
  pub some : 0 < natural
  pub one : get_or (drop first piece) 0 0 ≡ zero_digit → natural ≡ 1
  pub few : natural + fraction ≤ 18
  pub rest : (IsNumberByte (get_or (drop first piece) natural 0) → ⊥)
      ⊎ ((get_or (drop first piece) natural 0 ≡ decimal_point) × (0 < fraction) × IsRun (drop (natural + 1) (drop first piece)) fraction
      × (IsNumberByte (get_or (drop (natural + 1) (drop first piece)) fraction 0) → ⊥))
  pub point : 0 < fraction → get_or (drop first piece) natural 0 ≡ decimal_point

pub after_all : (xs ys : List ℕ) → get_or (xs ++ ys) (length xs) 0 ≡ get_or ys 0 0
after_all xs ys = let z : length xs ≡ length xs + 0 = omega arith in ap (λ k. get_or (xs ++ ys) k 0) z ∙ get_or-append-add xs ys 0 0

pub run_of : (xs ys : List ℕ) → All IsDigit xs → 0 < length ys → (IsDigit (get_or ys 0 0) → ⊥) → IsRun (xs ++ ys) (length xs)
run_of xs ys all some none = record {
  within = omega (arith, length-append xs ys);
  digits = (let P : List ℕ → Type 0 = λ zs. All IsDigit zs in subst P (sym (take-append_seam xs ys)) all);
  ends = λ d. none (let e : get_or (xs ++ ys) (length xs) 0 ≡ get_or ys 0 0 = after_all xs ys in let P : ℕ → Type 0 = λ b. IsDigit b in subst P e d);
}

one_zero : (natural ys : List ℕ) → IsNatural natural → get_or (natural ++ ys) 0 0 ≡ zero_digit → length natural ≡ 1
one_zero [] ys h e = absurd h
one_zero (b ∷ xs) ys h e = elim h [ inl z ↦ rw (z.1) refl | inr n ↦ (let l = n.0.0 in absurd (omega arith)) ]

some_digit : (natural : List ℕ) → IsNatural natural → 0 < length natural
some_digit [] h = absurd h
some_digit (b ∷ xs) h = omega arith

pub some_digits : (digits : List ℕ) → IsDigits digits → 0 < length digits
some_digits [] h = absurd h
some_digits (b ∷ xs) h = omega arith

no_digit : (b : ℕ) → (IsNumberByte b → ⊥) → IsDigit b → ⊥
no_digit b n d = n (inl d)

pub point_no_digit : (b : ℕ) → b ≡ decimal_point → IsDigit b → ⊥
point_no_digit b e d = let l = d.0 in omega arith

-- the bytes after the sign
laid_after : (natural fraction after more : List ℕ) (b : ℕ) → IsNatural natural → SpellsFraction fraction after → length natural + length fraction ≤ 18
    → (IsNumberByte b → ⊥) → IsLaid (natural ++ (after ++ (b ∷ more))) 0 (length natural) (length fraction)
laid_after natural fraction after more b n f few none = elim f [
  | inl e ↦ rw (e.0) (
      let ys : List ℕ = b ∷ more in
      let k = run_of natural ys (All-from_recursion IsDigit natural (natural_digits natural n)) (omega arith) (no_digit b none) in
      let at : get_or (natural ++ ys) (length natural) 0 ≡ b = after_all natural ys in
      let P : ℕ → Type 0 = λ x. IsNumberByte x → ⊥ in
      record {
        digits = k;
        some = some_digit natural n;
        one = one_zero natural ys n;
        few = few;
        rest = inl (subst P (sym at) none);
        point =
            λ h. absurd (omega (arith, ap length e.1));
      })
  | inr e ↦ rw (e.0) (
      let zs : List ℕ = fraction ++ (b ∷ more) in
      let ys : List ℕ = decimal_point ∷ zs in
      let k = run_of natural ys (All-from_recursion IsDigit natural (natural_digits natural n)) (omega arith) (point_no_digit decimal_point refl) in
      let m = run_of fraction (b ∷ more) (All-from_recursion IsDigit fraction (all_digits fraction e.1)) (omega arith) (no_digit b none) in
      let d : drop (length natural + 1) (natural ++ ys) ≡ zs = sym (drop-drop 1 (length natural) (natural ++ ys)) ∙ ap (drop 1) (drop-append_seam natural ys) in
      let last : get_or zs (length fraction) 0 ≡ b = after_all fraction (b ∷ more) in
      let P : ℕ → Type 0 = λ x. IsNumberByte x → ⊥ in
      let Q : List ℕ → Type 0 = λ xs. IsRun xs (length fraction) in
      let R : List ℕ → Type 0 = λ xs. IsNumberByte (get_or xs (length fraction) 0) → ⊥ in
      record {
        digits = k;
        some = some_digit natural n;
        one = one_zero natural ys n;
        few = few;
        rest = inr (after_all natural ys, some_digits fraction e.1, subst Q (sym d) m, subst R (sym d) (subst P (sym last) none));
        point = λ h. after_all natural ys;
      })
]

-- the sign, and what stands after it
sign_of : (negative minus : Bool) (sign rest : List ℕ) → SpellsSign minus sign → (get_or (sign ++ rest) 0 0 == minus_sign) ≡ negative
    → (get_or rest 0 0 ≡ minus_sign → ⊥) → drop (bool_byte negative) (sign ++ rest) ≡ rest
sign_of negative true sign rest s e n = let t : negative ≡ true = sym e ∙ rw s refl in rw (s, t) refl
sign_of true false sign rest s e n = absurd (n (let f : (get_or rest 0 0 == minus_sign) ≡ true = rw s at e in grind (arith, nat_tests)))
sign_of false false sign rest s e n = rw s refl

pub first_digit : (natural ys : List ℕ) → IsNatural natural → get_or (natural ++ ys) 0 0 ≡ minus_sign → ⊥
first_digit [] ys h e = absurd h
first_digit (b ∷ xs) ys h e = let k = natural_digits (b ∷ xs) h in let l = k.0.0 in omega arith

pub laid : (piece : List ℕ) (negative : Bool) (n : ℕ) → StartsSigned piece negative → (o : StartsOrdinary piece n)
    → IsLaid piece (bool_byte negative) (length o.ordinary.natural) (length o.ordinary.fraction)
laid piece negative n s o =
    let x = o.ordinary in
    let rest : List ℕ = x.natural ++ (x.after_natural ++ (get_or piece n 0 ∷ drop (suc n) piece)) in
    let whole : piece ≡ x.sign ++ rest = sym (take-append-drop n piece) ∙ (λ i. x.joined i ++ drop-cons piece n 0 o.within i) ∙ simp append_assoc in
    let e : (get_or (x.sign ++ rest) 0 0 == minus_sign) ≡ negative = ap (λ xs. get_or xs 0 0 == minus_sign) (sym whole) ∙ s in
    let d : drop (bool_byte negative) piece ≡ rest =
    ap (drop (bool_byte negative)) whole ∙ sign_of negative x.negative x.sign rest x.spells_sign e (first_digit x.natural _ x.spells_natural) in
    let k = laid_after x.natural x.fraction x.after_natural (drop (suc n) piece) (get_or piece n 0) x.spells_natural x.spells_fraction x.few o.after in
    record {
      digits = rw d k.digits;
      some = k.some;
      one = rw d k.one;
      few = k.few;
      rest = rw d k.rest;
      point = rw d k.point;
    }

pub sign_size : (negative minus : Bool) (sign rest : List ℕ) → SpellsSign minus sign → (get_or (sign ++ rest) 0 0 == minus_sign) ≡ negative
    → (get_or rest 0 0 ≡ minus_sign → ⊥) → length sign ≡ bool_byte negative
sign_size negative true sign rest s e n = let t : negative ≡ true = sym e ∙ rw s refl in rw (s, t) refl
sign_size true false sign rest s e n = absurd (n (let f : (get_or rest 0 0 == minus_sign) ≡ true = rw s at e in grind (arith, nat_tests)))
sign_size false false sign rest s e n = rw s refl

-- how many bytes it has
laid_size : (piece : List ℕ) (negative : Bool) (n : ℕ) → StartsSigned piece negative → (o : StartsOrdinary piece n)
    → n ≡ bool_byte negative + (length o.ordinary.natural + length o.ordinary.after_natural)
laid_size piece negative n s o =
    let x = o.ordinary in
    let rest : List ℕ = x.natural ++ (x.after_natural ++ (get_or piece n 0 ∷ drop (suc n) piece)) in
    let whole : piece ≡ x.sign ++ rest = sym (take-append-drop n piece) ∙ (λ i. x.joined i ++ drop-cons piece n 0 o.within i) ∙ simp append_assoc in
    let e : (get_or (x.sign ++ rest) 0 0 == minus_sign) ≡ negative = ap (λ xs. get_or xs 0 0 == minus_sign) (sym whole) ∙ s in
    let size = sign_size negative x.negative x.sign rest x.spells_sign e (first_digit x.natural _ x.spells_natural) in
    let w = o.within in
    let all : length (x.sign ++ (x.natural ++ x.after_natural)) ≡ n = ap length (sym x.joined) ∙ length-take-le n piece (omega arith) in
    omega (arith, length-append x.sign (x.natural ++ x.after_natural), length-append x.natural x.after_natural)

-- with a point
pub laid_length : (piece : List ℕ) (negative : Bool) (n : ℕ) → StartsSigned piece negative → (o : StartsOrdinary piece n) → 0 < length o.ordinary.fraction
    → n ≡ bool_byte negative + (length o.ordinary.natural + 1 + length o.ordinary.fraction)
laid_length piece negative n s o some =
    let x = o.ordinary in
    let last : length x.after_natural ≡ 1 + length x.fraction =
    elim x.spells_fraction [ inl h ↦ absurd (omega (arith, ap length h.1)) | inr h ↦ (ap length h.0 ∙ omega arith) ] in
    omega (arith, laid_size piece negative n s o)

-- ---- what the code meets

-- a usual number after its sign
pub pointed : (piece : List ℕ) (negative : Bool) (n behind : ℕ) → StartsSigned piece negative → (u : StartsUsual piece n behind)
    → IsPointed (drop (bool_byte negative) piece) (length u.number.ordinary.natural) (length u.number.ordinary.fraction)
pointed piece negative n behind s u =
    let l = laid piece negative n s u.number in
    let a = u.few in
    let b = u.few_after in
    let c = u.some_after in
    let point = l.point u.some_after in
    record {
      digits = l.digits;
      some = l.some;
      few = u.few;
      point = point;
      more = elim l.rest [ inl h ↦ absurd (h (inr (inr (inr (inl point))))) | inr h ↦ h.2 ];
      some_more = u.some_after;
      fits = omega arith;
    }

pub run_rest : (piece : List ℕ) (i count : ℕ) → IsRun (drop i piece) count → IsRun (take (length piece - i) (drop i piece)) count
run_rest piece i count h = rw (take_rest piece i) h

-- so many digits are found, and then these bytes
module _ (piece : List ℕ) (first natural fraction : ℕ) (l : IsLaid piece first natural fraction) (n : ℕ) (e : n ≡ natural) where
  at_rest : (i : ℕ) → get_or (drop first piece) i 0 ≡ get_or piece (first + i) 0
  at_rest i = get_or-drop first piece i 0

  pub natural_allowed : (0 < n) × (get_or piece first 0 ≡ zero_digit → n ≡ 1)
  natural_allowed =
      let s = l.some in
      let z : first + 0 ≡ first = omega arith in
      (omega arith, (λ h. e ∙ l.one (at_rest 0 ∙ ap (λ k. get_or piece k 0) z ∙ h)))

  pub whole_ends : (get_or piece (first + n) 0 ≡ decimal_point → ⊥) → IsNumberByte (get_or piece (first + n) 0) → ⊥
  whole_ends none byte =
      let here : get_or (drop first piece) natural 0 ≡ get_or piece (first + n) 0 = at_rest natural ∙ ap (λ k. get_or piece (first + k) 0) (sym e) in
      let P : ℕ → Type 0 = λ b. IsNumberByte b in
      elim l.rest [ inl h ↦ h (subst P (sym here) byte) | inr h ↦ none (sym here ∙ h.0) ]

  pub point_goes_on : get_or piece (first + n) 0 ≡ decimal_point → (0 < fraction) × IsRun (drop (first + n + 1) piece) fraction
      × (IsNumberByte (get_or piece (first + n + 1 + fraction) 0) → ⊥)
  point_goes_on point =
      let here : get_or (drop first piece) natural 0 ≡ get_or piece (first + n) 0 = at_rest natural ∙ ap (λ k. get_or piece (first + k) 0) (sym e) in
      let k : first + (natural + 1) ≡ first + n + 1 = omega arith in
      let d : drop (natural + 1) (drop first piece) ≡ drop (first + n + 1) piece = drop-drop (natural + 1) first piece ∙ ap (λ i. drop i piece) k in
      let b : get_or (drop (natural + 1) (drop first piece)) fraction 0 ≡ get_or piece (first + n + 1 + fraction) 0 =
      ap (λ xs. get_or xs fraction 0) d ∙ get_or-drop (first + n + 1) piece fraction 0 in
      let P : ℕ → Type 0 = λ x. IsNumberByte x in
      let Q : List ℕ → Type 0 = λ xs. IsRun xs fraction in
      elim l.rest [
        | inl h ↦ absurd (h (inr (inr (inr (inl (here ∙ point))))))
        | inr h ↦ (h.1, subst Q d h.2, (λ x. h.3 (subst P (sym b) x)))
      ]
