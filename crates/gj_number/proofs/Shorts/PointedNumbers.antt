-- A number with a point is found.
use Rattle.gj_number.proofs.Common.{Bool, Fits, IsDigit, IsPointed, List, SpellsUnsigned, StartsSigned, StartsUsual, ap, arith, bool_byte, cases_lt}
use Rattle.gj_number.proofs.Common.{count_trailing_zeros, decimal_point, drop, false, get_or, get_or-drop, inl, inr, lane_of, leading, leb, length}
use Rattle.gj_number.proofs.Common.{length-drop, map, mask_l, nat_tests, not, refl, replicate, space, subst, sym, take, take_rest, true, w8}
use Rattle.gj_number.proofs.Common.{with_value, zero_digit, ℕ, [], ◌++◌, ◌+◌, ◌-◌, ◌/◌, ◌<◌, ◌==◌, ◌^◌, ◌∙◌, ◌∷◌, ◌≡◌, ◌≤◌, ◌⊎◌}
use Rattle.std.proofs.Common.{fold}
use Rattle.std.proofs.Common.{All}
use lib.Lanes.{Each1}
use Rattle.std.proofs.lemmas.List.{drop-append-le, length-append}
use Rattle.std.proofs.lemmas.List.Sums.{prefix_len-le-length}
use Rattle.std.proofs.lemmas.Simd.{trailing_mask_l}
use Rattle.gj_number.proofs.Shorts.RunEnds.{digit_at, run_found}
use Rattle.gj_number.proofs.Shorts.OrdinaryNumbers.{laid, laid_length, natural_allowed, pointed}
use Rattle.gj_number.proofs.Shorts.SixteenLanes.{lanes_long, leading_le, lane_ends, lanes_end, first_spell, mask_after, leading_ended, ended_some, next_small}
use Rattle.gj_number.proofs.Shorts.SixteenLanes.{two_moved_small, two_spell}

-- the parts as the code finds them, by the bits of the lanes that are no digits, and one after them
module _ (piece lanes : List ℕ) (long : 16 ≤ length piece) (fits : (k : ℕ) → Fits w8 (get_or piece k 0)) (e : lanes ≡ map lane_of (take 16 piece)) (mask : ℕ)
    (m : mask ≡ mask_l (map (leb 10) (lanes ++ 10 ∷ []))) where
  abbrev before : ℕ
  before = count_trailing_zeros 64 mask

  abbrev after : ℕ
  after = count_trailing_zeros 64 (mask / 2 ^ (before + 1))

  count : length (lanes ++ 10 ∷ []) ≡ 17
  count = let l = lanes_long piece lanes long fits e in omega (arith, length-append lanes (10 ∷ []))

  before_is : before ≡ leading lanes
  before_is = let l = count in ap (count_trailing_zeros 64) m ∙ trailing_mask_l (leb 10) 64 (lanes ++ 10 ∷ []) (omega arith) (ended_some lanes)
      ∙ leading_ended lanes

  before_few : before ≤ 16
  before_few = let l = leading_le lanes (lanes_long piece lanes long fits e) in let b = before_is in omega arith

  pub before_ends : before < 16 → IsDigit (get_or piece before 0) → ⊥
  before_ends few = lane_ends piece before long (before_is ∙ ap leading e) few

  pub before_found : (n f : ℕ) → IsPointed piece n f → before ≡ n
  before_found n f p =
      let few = p.few in
      let l = before_few in
      let spelled = first_spell piece lanes before _ long fits e before_is l refl in
      run_found piece before n (omega arith) spelled.digits (λ k. before_ends (omega arith)) p.digits

  module _ (few : before < 16) where
    after_is : after ≡ leading (drop (before + 1) lanes)
    after_is =
        let l = lanes_long piece lanes long fits e in
        let rest : drop (before + 1) (lanes ++ 10 ∷ []) ≡ drop (before + 1) lanes ++ 10 ∷ [] = drop-append-le (before + 1) lanes (10 ∷ []) (omega arith) in
        let f : mask / 2 ^ (before + 1) ≡ mask_l (map (leb 10) (drop (before + 1) lanes ++ 10 ∷ [])) =
        ap (λ n. n / 2 ^ (before + 1)) m ∙ mask_after (lanes ++ 10 ∷ []) (before + 1) ∙ ap (λ xs. mask_l (map (leb 10) xs)) rest in
        let w : length (drop (before + 1) lanes ++ 10 ∷ []) ≤ 64 =
        omega (arith, length-append (drop (before + 1) lanes) (10 ∷ []), length-drop (before + 1) lanes) in
        ap (count_trailing_zeros 64) f ∙ trailing_mask_l (leb 10) 64 (drop (before + 1) lanes ++ 10 ∷ []) w (ended_some (drop (before + 1) lanes))
        ∙ leading_ended (drop (before + 1) lanes)

    pub both_fit : before + 1 + after ≤ 16
    both_fit =
        let l = lanes_long piece lanes long fits e in
        let a = after_is in
        omega (arith, prefix_len-le-length (λ x. not (leb 10 x)) (drop (before + 1) lanes), length-drop (before + 1) lanes)

    after_small : Each1 (λ x. x < 10) (take after (drop (before + 1) lanes))
    after_small = next_small lanes (before + 1) after after_is

    pub pointed_small : Each1 (λ x. x < 10)
        (replicate (16 - (before + after)) 0 ++ take (before + after) (take before lanes ++ (drop (before + 1) lanes ++ 0 ∷ [])))
    pointed_small = two_moved_small piece lanes long fits e before after before_is few both_fit after_small

    pub pointed_spell : (value : ℕ)
        → value ≡ fold with_value 0 (replicate (16 - (before + after)) 0 ++ take (before + after) (take before lanes ++ (drop (before + 1) lanes ++ 0 ∷ [])))
        → get_or piece before 0 ≡ decimal_point → (after ≡ 0 → ⊥)
        → SpellsUnsigned piece before after (before + 1 + after) value
    pointed_spell value v point some =
        two_spell piece lanes long fits e before after value (before + 1 + after) before_is few both_fit after_small v (inr (omega arith, point, refl))

    pub after_ends : before + 1 + after < 16 → IsDigit (get_or piece (before + 1 + after) 0) → ⊥
    after_ends l = lanes_end piece lanes long fits e (mask_l (map (leb 10) lanes)) refl (before + 1) after l after_is

    pub after_some : (n f : ℕ) → IsPointed piece n f → after ≡ 0 → ⊥
    after_some n f p none =
        let is = before_found n f p in
        let w = p.more.within in
        let fit = p.fits in
        let d = digit_at (drop (n + 1) piece) f 0 p.some_more (omega arith) p.more.digits in
        let there : get_or (drop (n + 1) piece) 0 0 ≡ get_or piece (before + 1 + after) 0 =
        get_or-drop (n + 1) piece 0 0 ∙ ap (λ i. get_or piece i 0) {y = before + 1 + after} (omega arith) in
        let P : ℕ → Type 0 = λ b. IsDigit b in
        after_ends (omega (arith, p.some_more)) (subst P there d)

-- ---- a usual number is found whole

pub found_is : (xs : List ℕ) (n f natural fraction bytes value : ℕ) → SpellsUnsigned xs natural fraction bytes value → (IsDigit (get_or xs natural 0) → ⊥)
    → (natural + 1 + fraction < 16 → IsDigit (get_or xs (natural + 1 + fraction) 0) → ⊥) → natural + 1 + fraction ≤ 16 → 16 ≤ length xs → IsPointed xs n f
    → (natural ≡ n) × (fraction ≡ f)
found_is xs n f natural fraction bytes value k point ends few long p =
    let is : natural ≡ n = run_found xs natural n (omega arith) k.natural_digits (λ l. point) p.digits in
    let P : ℕ → Type 0 = λ i. All IsDigit (take fraction (drop (i + 1) xs)) in
    let there : get_or (drop (n + 1) xs) fraction 0 ≡ get_or xs (natural + 1 + fraction) 0 =
    get_or-drop (n + 1) xs fraction 0 ∙ ap (λ i. get_or xs (i + 1 + fraction) 0) (sym is) in
    let Q : ℕ → Type 0 = λ b. IsDigit b in (
      is,
      run_found (drop (n + 1) xs) fraction f (omega (arith, length-drop (n + 1) xs)) (subst P is k.fraction_digits)
          (λ l d. ends (let fit = p.fits in omega arith) (subst Q there d)) p.more,
    )

module _ (piece : List ℕ) (negative : Bool) (n behind : ℕ) (s : StartsSigned piece negative) (u : StartsUsual piece n behind) where
  abbrev slice : List ℕ
  slice = take (length piece - bool_byte negative) (drop (bool_byte negative) piece)

  pub slice_pointed : IsPointed slice (length u.number.ordinary.natural) (length u.number.ordinary.fraction)
  slice_pointed = let P : List ℕ
      → Type 0 = λ xs. IsPointed xs (length u.number.ordinary.natural) (length u.number.ordinary.fraction) in
      subst P (sym (take_rest piece (bool_byte negative))) (pointed piece negative n behind s u)

  module _ (natural fraction bytes value : ℕ) (k : SpellsUnsigned slice natural fraction bytes value) (point : IsDigit (get_or slice natural 0) → ⊥)
      (ends : natural + 1 + fraction < 16 → IsDigit (get_or slice (natural + 1 + fraction) 0) → ⊥) (few : natural + 1 + fraction ≤ 16)
      (long : 16 ≤ length slice) where
    is : (natural ≡ length u.number.ordinary.natural) × (fraction ≡ length u.number.ordinary.fraction)
    is = found_is slice _ _ natural fraction bytes value k point ends few long slice_pointed

    pub usual_length : bool_byte negative + (natural + 1 + fraction) ≡ n
    usual_length = let e = is in let a = e.0 in let b = e.1 in let t = laid_length piece negative n s u.number u.some_after in omega arith

    pub usual_one : get_or piece (bool_byte negative) 0 ≡ zero_digit → natural ≡ 1
    usual_one = (natural_allowed piece (bool_byte negative) _ _ (laid piece negative n s u.number) natural is.0).1

-- ---- a point after the first digit

pub one_before_point : (piece : List ℕ) (first natural : ℕ) → natural ≤ length (drop first piece) → All IsDigit (take natural (drop first piece))
    → get_or piece (first + 1) 0 ≡ decimal_point → natural ≤ 1
one_before_point piece first natural within digits point = elim (cases_lt 1 natural) [
  | inl l ↦
      let there : get_or (drop first piece) 1 0 ≡ get_or piece (first + 1) 0 = get_or-drop first piece 1 0 in
      let d = digit_at (drop first piece) natural 1 l within digits in
      let low = d.0 in
      absurd (omega arith)
  | inr m ↦ omega arith
]

pub point_after_one : (piece : List ℕ) (first natural fraction value : ℕ) → SpellsUnsigned (drop first piece) natural fraction (natural + 1 + fraction) value
    → natural ≡ 1 → get_or piece (first + 1) 0 ≡ decimal_point
point_after_one piece first natural fraction value k one = elim k.shape [
  | inl s ↦ (let e = s.1 in absurd (omega arith))
  | inr s ↦ ap (λ i. get_or piece (first + i) 0) (sym one) ∙ sym (get_or-drop first piece natural 0) ∙ s.1
]

-- ---- where the second number begins

usual_start : (xs : List ℕ) (n behind : ℕ) → StartsUsual xs n behind → get_or xs 0 0 ≡ space → ⊥
usual_start xs n behind u e =
    let s : StartsSigned xs false = rw e refl in
    let l = laid xs false n s u.number in
    let w = l.digits.within in
    let d = digit_at xs (length u.number.ordinary.natural) 0 l.some (omega arith) l.digits.digits in
    let low = d.0 in
    omega arith

no_space : (b k : ℕ) (t : Bool) → (b == space) ≡ t → (b ≡ space → ⊥) → k + bool_byte t ≡ k
no_space b k false e none = omega arith
no_space b k true e none = absurd (none (grind (arith, nat_tests)))

pub second_is : (piece : List ℕ) (comma_at second_at n behind : ℕ) → (second_at ≡ comma_at + 1)
    ⊎ ((second_at ≡ comma_at + 2) × (get_or piece (comma_at + 1) 0 ≡ space)) → StartsUsual (drop second_at piece) n behind
    → comma_at + 1 + bool_byte (get_or piece (comma_at + 1) 0 == space) ≡ second_at
second_is piece comma_at second_at n behind (inl e) u =
    let there : get_or (drop second_at piece) 0 0 ≡ get_or piece (comma_at + 1) 0 =
    get_or-drop second_at piece 0 0 ∙ ap (λ i. get_or piece i 0) {y = comma_at + 1} (omega arith) in
    no_space (get_or piece (comma_at + 1) 0) (comma_at + 1) (get_or piece (comma_at + 1) 0 == space) refl
    (λ h. usual_start (drop second_at piece) n behind u (there ∙ h)) ∙ sym e
second_is piece comma_at second_at n behind (inr h) u = rw (h.1) (let e = h.0 in omega arith)
