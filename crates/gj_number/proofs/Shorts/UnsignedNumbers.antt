-- A number without a sign is found whole, up to its exponent.
use Rattle.gj_number.proofs.Common.{All-from_recursion, Fits, IsDigit, IsFirstDigit, IsFraction, IsNatural, IsNumberByte, IsRun, List, SpellsUnsigned}
use Rattle.gj_number.proofs.Common.{ap, append-nil, append_assoc}
use Rattle.gj_number.proofs.Common.{arith, cases_lt, count_trailing_zeros, decimal_point, drop, drop-cons, drop-drop, get_or, get_or-drop, inl, inr}
use Rattle.gj_number.proofs.Common.{lane_of, leading, leb, length, length-drop, length-take-le, map, mask_l, refl, subst, suc, sym, take}
use Rattle.gj_number.proofs.Common.{take-append-drop, w8, ℕ, [], ◌++◌, ◌+◌, ◌-◌, ◌/◌, ◌<◌, ◌^◌, ◌∙◌, ◌∷◌, ◌≡◌, ◌≤◌, ◌⊎◌}
use Rattle.std.proofs.Common.{All}
use Rattle.std.proofs.Common.{length-append}
use Rattle.std.proofs.Math.Seq.{drop-append_seam}
use Rattle.std.proofs.lemmas.Simd.{leading_from_mask_l}
use Rattle.gj_number.specs.Short.{StartsUnsigned}
use Rattle.gj_number.proofs.Grammar.FoundParts.{natural_digits, all_digits}
use Rattle.gj_number.proofs.Shorts.OrdinaryNumbers.{IsLaid, after_all, run_of, some_digits, point_no_digit}
use Rattle.gj_number.proofs.Shorts.RunEnds.{digit_at, run_found}
use Rattle.gj_number.proofs.Shorts.SixteenLanes.{lanes_long, leading_none, first_spell, first_other, next_other, next_small}
use Rattle.gj_number.proofs.Shorts.SixteenLanes.{mask_after, lane_ends, lanes_end, two_spell}

-- ---- its runs of digits

-- the digits before the point, and those after it
pub record HasRuns (piece : List ℕ) (n : ℕ) : Type 0 where
  pub natural : ℕ
  pub fraction : ℕ
  pub digits : IsRun piece natural
  pub first : (natural ≡ 1) ⊎ IsFirstDigit (get_or piece 0 0)
  pub rest : ((n ≡ natural) × (get_or piece natural 0 ≡ decimal_point → ⊥))
      ⊎ ((n ≡ natural + 1 + fraction) × (get_or piece natural 0 ≡ decimal_point) × (0 < fraction) × IsRun (drop (natural + 1) piece) fraction)

first_of : (natural ys : List ℕ) → IsNatural natural → (length natural ≡ 1) ⊎ IsFirstDigit (get_or (natural ++ ys) 0 0)
first_of [] ys h = absurd h
first_of (b ∷ xs) ys h = elim h [ inl z ↦ inl (rw (z.1) refl) | inr f ↦ inr f.0 ]

runs_before : (natural fraction more : List ℕ) (b : ℕ) → IsNatural natural → IsFraction fraction → (IsDigit b → ⊥)
    → (fraction ≡ [] → b ≡ decimal_point → ⊥) → HasRuns (natural ++ (fraction ++ (b ∷ more))) (length (natural ++ fraction))
runs_before natural fraction more b n f none point = elim f [
  | inl e ↦ rw e (
      let ys : List ℕ = b ∷ more in
      let at : get_or (natural ++ ys) (length natural) 0 ≡ b = after_all natural ys in
      record {
        natural = length natural;
        fraction = 0;
        digits = run_of natural ys (All-from_recursion IsDigit natural (natural_digits natural n)) (omega arith) none;
        first = first_of natural ys n;
        rest = inl (ap length (append-nil natural), (λ h. point e (sym at ∙ h)));
      })
  | inr d ↦ rw (d.1) (
      let digits : List ℕ = d.0 in
      let zs : List ℕ = digits ++ (b ∷ more) in
      let ys : List ℕ = decimal_point ∷ zs in
      let m = run_of digits (b ∷ more) (All-from_recursion IsDigit digits (all_digits digits d.2)) (omega arith) none in
      let k : drop (length natural + 1) (natural ++ ys) ≡ zs =
      sym (drop-drop 1 (length natural) (natural ++ ys)) ∙ ap (drop 1) (drop-append_seam natural ys) in
      let Q : List ℕ → Type 0 = λ xs. IsRun xs (length digits) in
      record {
        natural = length natural;
        fraction = length digits;
        digits = run_of natural ys (All-from_recursion IsDigit natural (natural_digits natural n)) (omega arith) (point_no_digit decimal_point refl);
        first = first_of natural ys n;
        rest = inr (omega (arith, length-append natural (decimal_point ∷ digits)), after_all natural ys, some_digits digits d.2, subst Q (sym k) m);
      })
]

runs_of : (piece : List ℕ) (n : ℕ) → StartsUnsigned piece n → HasRuns piece n
runs_of piece n u =
    let rest : List ℕ = u.fraction ++ (get_or piece n 0 ∷ drop (suc n) piece) in
    let whole : piece ≡ u.natural ++ rest =
    sym (take-append-drop n piece) ∙ (λ i. u.joined i ++ drop-cons piece n 0 u.within i) ∙ simp append_assoc in
    let within = u.within in
    let size : length (u.natural ++ u.fraction) ≡ n = ap length (sym u.joined) ∙ length-take-le n piece (omega arith) in
    let k = runs_before u.natural u.fraction (drop (suc n) piece) (get_or piece n 0) u.is_natural u.is_fraction u.no_digit u.no_point in
    let P : ℕ → Type 0 = λ m. HasRuns (u.natural ++ rest) m in
    let Q : List ℕ → Type 0 = λ xs. HasRuns xs n in
    subst Q (sym whole) (subst P size k)

-- ---- what the code finds, by the bits of the lanes that are no digits

module _ (piece lanes : List ℕ) (long : 16 ≤ length piece) (fits : (k : ℕ) → Fits w8 (get_or piece k 0)) (e : lanes ≡ map lane_of (take 16 piece)) (mask : ℕ)
    (m : mask ≡ mask_l (map (leb 10) lanes)) (n : ℕ) (few : n < 16) (u : StartsUnsigned piece n) where
  runs : HasRuns piece n
  runs = runs_of piece n u

  runs_few : runs.natural < 16
  runs_few = elim runs.rest [ inl h ↦ (let k = h.0 in omega arith) | inr h ↦ (let k = h.0 in omega arith) ]

  pub some_other : mask ≡ 0 → ⊥
  some_other none =
      let c : 16 ≡ leading lanes = leading_none lanes mask (lanes_long piece lanes long fits e) m none in
      let k = first_spell piece lanes 16 _ long fits e c (omega arith) refl in
      runs.digits.ends (digit_at piece 16 runs.natural runs_few long k.digits)

  module _ (some : mask ≡ 0 → ⊥) where
    abbrev before : ℕ
    before = count_trailing_zeros 64 mask

    abbrev after : ℕ
    after = count_trailing_zeros 64 (mask / 2 ^ (before + 1))

    found : (before ≡ leading lanes) × (before < 16)
    found = first_other lanes mask (lanes_long piece lanes long fits e) m some

    before_is : before ≡ runs.natural
    before_is =
        let l = found.1 in
        let k = first_spell piece lanes before _ long fits e found.0 (omega arith) refl in
        run_found piece before runs.natural (omega arith) k.digits (λ h. lane_ends piece before long (found.0 ∙ ap leading e) found.1) runs.digits

    pub first_allowed : (before ≡ 1) ⊎ IsFirstDigit (get_or piece 0 0)
    first_allowed = elim runs.first [ inl h ↦ inl (before_is ∙ h) | inr h ↦ inr h ]

    there : get_or piece before 0 ≡ get_or piece runs.natural 0
    there = ap (λ i. get_or piece i 0) before_is

    pub whole_is : (get_or piece before 0 ≡ decimal_point → ⊥) → before ≡ n
    whole_is none = elim runs.rest [ inl h ↦ before_is ∙ sym h.0 | inr h ↦ absurd (none (there ∙ h.1)) ]

    module _ (point : get_or piece before 0 ≡ decimal_point) where
      goes_on : (n ≡ before + 1 + runs.fraction) × (0 < runs.fraction) × IsRun (drop (before + 1) piece) runs.fraction
      goes_on =
          let P : ℕ → Type 0 = λ i. IsRun (drop (i + 1) piece) runs.fraction in
          let is = before_is in
          elim runs.rest [
            | inl h ↦ absurd (h.1 (sym there ∙ point))
            | inr h ↦ (let k = h.0 in (omega arith, h.2, subst P (sym before_is) h.3))
          ]

      -- the lanes below ten after the point are those of digits
      digits_after : (f : ℕ) → f ≡ leading (drop (before + 1) lanes) → before + 1 + f ≤ 16 → 0 < f → All IsDigit (take f (drop (before + 1) piece))
      digits_after f c fit positive =
          let k = two_spell piece lanes long fits e before f _ (before + 1 + f) found.0 found.1 fit (next_small lanes (before + 1) f c) refl
          (inr (positive, point, refl)) in
          k.fraction_digits

      pub rest_some : mask / 2 ^ (before + 1) ≡ 0 → ⊥
      rest_some none =
          let on = goes_on in
          let t = on.0 in
          let is : mask / 2 ^ (before + 1) ≡ mask_l (map (leb 10) (drop (before + 1) lanes)) =
          ap (λ k. k / 2 ^ (before + 1)) m ∙ mask_after lanes (before + 1) in
          let l = lanes_long piece lanes long fits e in
          let c : 16 - (before + 1) ≡ leading (drop (before + 1) lanes) =
          omega (arith, leading_from_mask_l (leb 10) (drop (before + 1) lanes) (sym is ∙ none), length-drop (before + 1) lanes) in
          let k = digits_after (16 - (before + 1)) c (omega arith) (omega arith) in
          on.2.ends (digit_at (drop (before + 1) piece) (16 - (before + 1)) runs.fraction (omega arith) (omega (arith, length-drop (before + 1) piece)) k)

      module _ (more : mask / 2 ^ (before + 1) ≡ 0 → ⊥) where
        next : (after ≡ leading (drop (before + 1) lanes)) × (before + 1 + after < 16)
        next = let l = found.1 in next_other lanes mask (before + 1) (lanes_long piece lanes long fits e) (omega arith) m more

        after_ends : IsDigit (get_or (drop (before + 1) piece) after 0) → ⊥
        after_ends d =
            let P : ℕ → Type 0 = λ b. IsDigit b in
            lanes_end piece lanes long fits e mask m (before + 1) after next.1 next.0 (subst P (get_or-drop (before + 1) piece after 0) d)

        after_least : runs.fraction ≤ after
        after_least =
            let on = goes_on in
            let w = on.2.within in
            elim (cases_lt after runs.fraction) [
              | inl l ↦ absurd (after_ends (digit_at (drop (before + 1) piece) runs.fraction after l (omega arith) on.2.digits))
              | inr h ↦ omega arith
            ]

        pub after_some : after ≡ 0 → ⊥
        after_some none = let l = after_least in let s = goes_on.1 in omega arith

        pub both_is : before + 1 + after ≡ n
        both_is =
            let on = goes_on in
            let t = on.0 in
            let s = on.1 in
            let l = after_least in
            let b = next.1 in
            let k = digits_after after next.0 (omega arith) (omega arith) in
            let is : after ≡ runs.fraction =
            run_found (drop (before + 1) piece) after runs.fraction (omega (arith, length-drop (before + 1) piece)) k (λ h. after_ends) on.2 in
            omega arith

-- ---- an ordinary number is found whole

pub unsigned_ends : (piece : List ℕ) (first natural fraction : ℕ) → IsLaid piece first natural fraction → (n m bytes value : ℕ)
    → SpellsUnsigned (drop first piece) n m bytes value → (IsDigit (get_or (drop first piece) n 0) → ⊥) → (IsDigit (get_or (drop first piece) bytes 0) → ⊥)
    → (m ≡ 0 → get_or (drop first piece) n 0 ≡ decimal_point → ⊥) → bytes ≤ length (drop first piece) → IsNumberByte (get_or piece (first + bytes) 0) → ⊥
unsigned_ends piece first natural fraction l n m bytes value k ends last point within found =
    let xs : List ℕ = drop first piece in
    let B : ℕ → Type 0 = λ b. IsNumberByte b in
    let byte : IsNumberByte (get_or xs bytes 0) = subst B (sym (get_or-drop first piece bytes 0)) found in
    let some : n ≤ length xs = elim k.shape [ inl s ↦ (let e = s.1 in omega arith) | inr s ↦ (let e = s.2 in omega arith) ] in
    let is : n ≡ natural = run_found xs n natural some k.natural_digits (λ h. ends) l.digits in
    let at : get_or xs n 0 ≡ get_or xs natural 0 = ap (λ i. get_or xs i 0) is in
    elim l.rest [
      | inl h ↦ elim k.shape [
        | inl s ↦ h (subst B (ap (λ i. get_or xs i 0) s.1 ∙ at) byte)
        | inr s ↦ h (inr (inr (inr (inl (sym at ∙ s.1)))))
      ]
      | inr h ↦ elim k.shape [
        | inl s ↦ point s.0 (at ∙ h.0)
        | inr s ↦
            let e = s.2 in
            let Q : ℕ → Type 0 = λ i. IsRun (drop (i + 1) xs) fraction in
            let D : ℕ → Type 0 = λ b. IsDigit b in
            let here : get_or (drop (n + 1) xs) m 0 ≡ get_or xs bytes 0 = get_or-drop (n + 1) xs m 0 ∙ ap (λ i. get_or xs i 0) (sym e) in
            let f : m ≡ fraction =
            run_found (drop (n + 1) xs) m fraction (omega (arith, length-drop (n + 1) xs)) k.fraction_digits (λ h. λ d. last (subst D here d)) (subst Q (sym is) h.2) in
            let end : natural + 1 + fraction ≡ bytes = omega arith in
            h.3 (subst B (sym (get_or-drop (natural + 1) xs fraction 0 ∙ ap (λ i. get_or xs i 0) end)) byte)
      ]
    ]
