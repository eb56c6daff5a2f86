-- Unescaped characters of up to three bytes, by what is seen at each byte.
use Rattle.gj_json.proofs.Common.{Bool, List, NoneEnds, ap, ap₂, arith, cases_lt, drop, ends_at, false, get_or, get_or-drop, inl, inr}
use Rattle.gj_json.proofs.Common.{leading_from_mask_l, length, length-take-le, map, map-id, mask_l, not, prefix_len, prefix_len-le-length, refl, suc}
use Rattle.gj_json.proofs.Common.{sym, trailing_mask_l, true, zero, ℕ, [], ◌+◌, ◌-◌, ◌<◌, ◌∙◌, ◌∷◌, ◌≡◌, ◌≤◌}
use Rattle.std.proofs.Common.{take}
use Rattle.std.proofs.lemmas.List.{get_or-take, length-drop}
use Rattle.std.proofs.lemmas.List.Sums.{prefix_len_passes, prefix_len_stops}
use lib.Count.{count_trailing_zeros}
use Rattle.gj_json.specs.Internal.WideCharacters.{ends_of, EndsThere}

-- ---- one look

length_of : (ps hs ns : List ℕ) → length ps ≡ length hs → length hs ≡ length ns → length (ends_of ps hs ns) ≡ length hs
length_of [] [] [] h k = refl
length_of (p ∷ ps) (a ∷ hs) (b ∷ ns) h k = let e = length_of ps hs ns (omega arith) (omega arith) in omega arith
length_of _ _ _ h k = absurd (omega arith)

at_of : (ps hs ns : List ℕ) (i : ℕ) → i < length ps → i < length hs → i < length ns
    → get_or (ends_of ps hs ns) i true ≡ ends_at (get_or ps i 0) (get_or hs i 0) (get_or ns i 0)
at_of (p ∷ ps) (a ∷ hs) (b ∷ ns) zero h k l = refl
at_of (p ∷ ps) (a ∷ hs) (b ∷ ns) (suc i) h k l = at_of ps hs ns i (omega arith) (omega arith) (omega arith)
at_of other another third i h k l = absurd (omega arith)

-- sixteen bytes from a place on
abbrev pub sixteen : List ℕ → ℕ → List ℕ
sixteen piece k = take 16 (drop k piece)

pub sixteen_long : (piece : List ℕ) (k : ℕ) → k + 16 ≤ length piece → length (sixteen piece k) ≡ 16
sixteen_long piece k h = length-take-le 16 (drop k piece) (omega (arith, length-drop k piece))

pub sixteen_at : (piece : List ℕ) (k i : ℕ) → i < 16 → get_or (sixteen piece k) i 0 ≡ get_or piece (k + i) 0
sixteen_at piece k i h = get_or-take 16 (drop k piece) i 0 h ∙ get_or-drop k piece i 0

-- where a bit is set, a lane stops
one_stops : (ms : List Bool) → 0 < mask_l ms → prefix_len (λ x. not x) ms < length ms
one_stops [] h = absurd (omega arith)
one_stops (true ∷ ms) h = omega arith
one_stops (false ∷ ms) h = let more = one_stops ms (omega arith) in omega arith

module _ (piece : List ℕ) (at : ℕ) (behind : 0 < at) (room : at + 16 < length piece) where
  abbrev looks : List Bool
  looks = ends_of (sixteen piece (at - 1)) (sixteen piece at) (sixteen piece (at + 1))

  before_long : length (sixteen piece (at - 1)) ≡ 16
  before_long = sixteen_long piece (at - 1) (omega arith)

  here_long : length (sixteen piece at) ≡ 16
  here_long = sixteen_long piece at (omega arith)

  next_long : length (sixteen piece (at + 1)) ≡ 16
  next_long = sixteen_long piece (at + 1) (omega arith)

  pub looks_long : length (ends_of (sixteen piece (at - 1)) (sixteen piece at) (sixteen piece (at + 1))) ≡ 16
  looks_long = length_of (sixteen piece (at - 1)) (sixteen piece at) (sixteen piece (at + 1)) (omega (arith, before_long, here_long))
      (omega (arith, here_long, next_long)) ∙ here_long

  -- what is seen at a lane
  lane : (i j : ℕ) → i < 16 → j + 1 ≡ at + i
      → get_or (ends_of (sixteen piece (at - 1)) (sixteen piece at) (sixteen piece (at + 1))) i true ≡ ends_at (get_or piece j 0) (get_or piece (j + 1) 0)
      (get_or piece (j + 2) 0)
  lane i j within e =
      let is = at_of (sixteen piece (at - 1)) (sixteen piece at) (sixteen piece (at + 1)) i (omega (arith, before_long)) (omega (arith, here_long))
      (omega (arith, next_long)) in
      let p : get_or (sixteen piece (at - 1)) i 0 ≡ get_or piece j 0 = sixteen_at piece (at - 1) i within ∙ ap (λ k. get_or piece k 0) (omega arith) in
      let a : get_or (sixteen piece at) i 0 ≡ get_or piece (j + 1) 0 = sixteen_at piece at i within ∙ ap (λ k. get_or piece k 0) (omega arith) in
      let b : get_or (sixteen piece (at + 1)) i 0 ≡ get_or piece (j + 2) 0 = sixteen_at piece (at + 1) i within ∙ ap (λ k. get_or piece k 0) (omega arith) in
      rw (p, a, b) at is

  -- the bytes before the first lane that stops
  on : (n : ℕ) → n ≡ prefix_len (λ x. not x) (ends_of (sixteen piece (at - 1)) (sixteen piece at) (sixteen piece (at + 1))) → NoneEnds piece at
      → NoneEnds piece (at + n)
  on n e none j h = elim (cases_lt (j + 1) at) [
    | inl l ↦ none j l
    | inr m ↦ (
        let i = j + 1 - at in
        let few : i < n = omega arith in
        let most = prefix_len-le-length (λ x. not x) (ends_of (sixteen piece (at - 1)) (sixteen piece at) (sixteen piece (at + 1))) in
        let within : i < 16 = omega (arith, e, most, looks_long) in
        let passes = prefix_len_passes (λ x. not x) (ends_of (sixteen piece (at - 1)) (sixteen piece at) (sixteen piece (at + 1))) i true (omega (arith, e)) in
        sym (lane i j within (omega arith)) ∙ no _ passes
        )
  ]
    where
      no : (t : Bool) → not t ≡ true → t ≡ false
      no true h = cc
      no false h = refl

  pub stops_on : (mask : ℕ) → mask ≡ mask_l (ends_of (sixteen piece (at - 1)) (sixteen piece at) (sixteen piece (at + 1))) → 0 < mask → NoneEnds piece at
      → NoneEnds piece (at + count_trailing_zeros 64 mask) × (count_trailing_zeros 64 mask < 16) × EndsThere piece (at + count_trailing_zeros 64 mask)
  stops_on mask e some none =
      let ms = ends_of (sixteen piece (at - 1)) (sixteen piece at) (sixteen piece (at + 1)) in
      let same : mask_l (map (λ x. x) ms) ≡ mask = ap mask_l (map-id ms) ∙ sym e in
      let first : count_trailing_zeros 64 mask ≡ prefix_len (λ x. not x) ms =
      ap (count_trailing_zeros 64) (sym same) ∙ trailing_mask_l (λ x. x) 64 ms (omega (arith, looks_long)) (omega (arith, same, some)) in
      let n = count_trailing_zeros 64 mask in
      let some_lane : prefix_len (λ x. not x) ms < length ms = one_stops ms (omega (arith, some, e)) in
      let few : n < 16 = omega (arith, first, looks_long, some_lane) in
      let set : get_or ms n true ≡ true = rw first (yes _ (prefix_len_stops (λ x. not x) ms true some_lane)) in
      let there = lane n (at + n - 1) few (omega arith) in (
        on n first none,
        few,
        ap₂ (λ k l. ends_at (get_or piece (at + n - 1) 0) (get_or piece k 0) (get_or piece l 0)) (omega arith) (omega arith) ∙ sym there
            ∙ set,
      )
    where
      yes : (t : Bool) → not t ≡ false → t ≡ true
      yes true h = refl
      yes false h = cc

  pub passes_on : (mask : ℕ) → mask ≡ mask_l (ends_of (sixteen piece (at - 1)) (sixteen piece at) (sixteen piece (at + 1))) → mask ≡ 0 → NoneEnds piece at
      → NoneEnds piece (at + 16)
  passes_on mask e nothing none =
      let ms = ends_of (sixteen piece (at - 1)) (sixteen piece at) (sixteen piece (at + 1)) in
      let same : mask_l (map (λ x. x) ms) ≡ 0 = ap mask_l (map-id ms) ∙ sym e ∙ nothing in
      on 16 (sym (leading_from_mask_l (λ x. x) ms same ∙ looks_long)) none
