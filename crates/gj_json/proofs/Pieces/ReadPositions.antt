-- Positions that a piece starts with, one after another: where they end, those before the last ones, and one more.
use Rattle.gj_json.proofs.Common.{CutPosition, List, SpellsPositions, ap, arith, drop, get_or, get_or-drop, length, open_bracket, place_after}
use Rattle.gj_json.proofs.Common.{place_after_all, refl, subst, suc, sym, zero, ℕ, [], ◌++◌, ◌+◌, ◌-◌, ◌<◌, ◌∙◌, ◌∷◌, ◌≡◌, ◌≤◌}
use Rattle.std.proofs.Common.{take}
use Rattle.std.proofs.Common.{length-drop, slice_index_or}
use Rattle.std.proofs.lemmas.List.{drop-drop}
use Rattle.gj_json.specs.CutPosition.{RiseAfter, Rise}
use Rattle.gj_json.specs.Internal.SpelledPositions.{SpellsPosition}
use Rattle.gj_json.proofs.Pieces.PieceRests.{rest_of}

-- the place after one lies after its start
pub one_on : (gap : ℕ) (p : CutPosition) (start : ℕ) (piece : List ℕ) → SpellsPosition gap p start piece → start + 1 ≤ place_after gap p
one_on gap p start piece s = let e = s.close in omega arith

pub all_on : (gap : ℕ) (ps : List CutPosition) (start : ℕ) (piece : List ℕ) → SpellsPositions gap ps start piece → start ≤ place_after_all gap ps start
all_on gap [] start piece s = omega arith
all_on gap (p ∷ ps) start piece s =
    let one = one_on gap p start piece s.0 in
    let more = all_on gap ps (place_after gap p) (drop (place_after gap p - start) piece) s.1 in
    omega arith

-- from one place to a later one in two steps
pub in_two : (piece : List ℕ) (start mid end : ℕ) → start ≤ mid → mid ≤ end → drop (end - mid) (drop (mid - start) piece) ≡ drop (end - start) piece
in_two piece start mid end one other =
    let e : mid - start + (end - mid) ≡ end - start = omega arith in
    drop-drop (end - mid) (mid - start) piece ∙ ap (λ n. drop n piece) e

pub one_more : (gap : ℕ) (ps : List CutPosition) (p : CutPosition) (start : ℕ) (piece : List ℕ) → SpellsPositions gap ps start piece
    → SpellsPosition gap p (place_after_all gap ps start) (drop (place_after_all gap ps start - start) piece) → SpellsPositions gap (ps ++ p ∷ []) start piece
one_more gap [] p start piece s one =
    let none : start - start ≡ 0 = omega arith in
    let P : ℕ → Type 0 = λ n. SpellsPosition gap p start (drop n piece) in
    (subst P none one, tt)
one_more gap (q ∷ ps) p start piece s one =
    let end = place_after_all gap ps (place_after gap q) in
    let P : List ℕ → Type 0 = λ xs. SpellsPosition gap p end xs in
    let first = one_on gap q start piece s.0 in
    let more = all_on gap ps (place_after gap q) (drop (place_after gap q - start) piece) s.1 in (
      s.0,
      one_more gap ps p (place_after gap q) (drop (place_after gap q - start) piece) s.1
          (subst P (sym (in_two piece start (place_after gap q) end (omega arith) more)) one),
    )

-- those before the last ones
pub first_of : (gap : ℕ) (ps : List CutPosition) (k start : ℕ) (piece : List ℕ) → SpellsPositions gap ps start piece
    → SpellsPositions gap (take k ps) start piece
first_of gap ps zero start piece s = tt
first_of gap [] (suc k) start piece s = tt
first_of gap (p ∷ ps) (suc k) start piece s = (s.0, first_of gap ps k (place_after gap p) (drop (place_after gap p - start) piece) s.1)

-- a bracket follows
pub begins_after : (gap : ℕ) (p : CutPosition) (ps : List CutPosition) (start : ℕ) (piece : List ℕ) → SpellsPositions gap (p ∷ ps) start piece
    → (place_after_all gap (p ∷ ps) start - start < length piece) × (get_or piece (place_after_all gap (p ∷ ps) start - start) 0 ≡ open_bracket)
begins_after gap p [] start piece s =
    let w = s.0.within in
    let c = s.0.close in
    let e : place_after gap p - start ≡ s.0.count + 1 + gap = omega arith in
    (omega arith, ap (λ n. get_or piece n 0) e ∙ s.0.bracket)
begins_after gap p (q ∷ ps) start piece s =
    let mid = place_after gap p in
    let end = place_after_all gap (q ∷ ps) mid in
    let rest = drop (mid - start) piece in
    let first = one_on gap p start piece s.0 in
    let more = all_on gap (q ∷ ps) mid rest s.1 in
    let b = begins_after gap q ps mid rest s.1 in
    let less = b.0 in
    let l = length-drop (mid - start) piece in
    let e : mid - start + (end - mid) ≡ end - start = omega arith in
    (omega arith, ap (λ n. get_or piece n 0) (sym e) ∙ sym (get_or-drop (mid - start) piece (end - mid) 0) ∙ b.1)

pub after_more : (gap : ℕ) (ps : List CutPosition) (p : CutPosition) (start : ℕ) → place_after_all gap (ps ++ p ∷ []) start ≡ place_after gap p
after_more gap [] p start = refl
after_more gap (q ∷ ps) p start = after_more gap ps p (place_after gap q)

-- what is left after one begins with a bracket
pub left_begins : (gap : ℕ) (p : CutPosition) (start : ℕ) (piece : List ℕ) → SpellsPosition gap p start piece
    → (place_after gap p - start < length piece) × (get_or (drop (place_after gap p - start) piece) 0 0 ≡ open_bracket)
left_begins gap p start piece s =
    let w = s.within in
    let c = s.close in
    let e : place_after gap p - start + 0 ≡ s.count + 1 + gap = omega arith in
    (omega arith, get_or-drop (place_after gap p - start) piece 0 0 ∙ ap (λ n. get_or piece n 0) e ∙ s.bracket)

-- each stands after the one before
rise_after : (gap : ℕ) (p : CutPosition) (ps : List CutPosition) (start : ℕ) (piece : List ℕ) → SpellsPositions gap (p ∷ ps) start piece → RiseAfter p.place ps
rise_after gap p [] start piece s = tt
rise_after gap p (q ∷ ps) start piece s =
    let one = one_on gap p start piece s.0 in
    let here = s.0.at in
    let next = s.1.0.at in
    (omega arith, rise_after gap q ps (place_after gap p) (drop (place_after gap p - start) piece) s.1)

pub rising : (gap : ℕ) (ps : List CutPosition) (start : ℕ) (piece : List ℕ) → SpellsPositions gap ps start piece → Rise ps
rising gap [] start piece s = tt
rising gap (p ∷ ps) start piece s = rise_after gap p ps start piece s

-- ---- those before the last ones, up to the place after the last of them

last_after : (gap : ℕ) (ps : List CutPosition) (d : CutPosition) (k start : ℕ) → k < length ps
    → place_after_all gap (take (suc k) ps) start ≡ place_after gap (slice_index_or ps k d)
last_after gap [] d k start less = absurd (omega (arith, less))
last_after gap (p ∷ ps) d zero start less = refl
last_after gap (p ∷ ps) d (suc k) start less = last_after gap ps d k (place_after gap p) (omega (arith, less))

module _ (gap : ℕ) (ps : List CutPosition) (d : CutPosition) (k start : ℕ) (piece : List ℕ) (some : 0 < k) (few : k ≤ length ps)
    (s : SpellsPositions gap ps start piece) where
  pub end_is : place_after_all gap (take k ps) start ≡ place_after gap (slice_index_or ps (k - 1) d)
  end_is =
      let e : k ≡ suc (k - 1) = omega arith in
      ap (λ n. place_after_all gap (take n ps) start) e ∙ last_after gap ps d (k - 1) start (omega arith)

  pub end_begins : (start < place_after gap (slice_index_or ps (k - 1) d)) × (place_after gap (slice_index_or ps (k - 1) d) - start < length piece)
      × (get_or piece (place_after gap (slice_index_or ps (k - 1) d) - start) 0 ≡ open_bracket)
  end_begins = go ps k few some s end_is
    where
      go : (qs : List CutPosition) (n : ℕ) → n ≤ length qs → 0 < n → SpellsPositions gap qs start piece
          → place_after_all gap (take n qs) start ≡ place_after gap (slice_index_or ps (k - 1) d)
          → (start < place_after gap (slice_index_or ps (k - 1) d)) × (place_after gap (slice_index_or ps (k - 1) d) - start < length piece)
          × (get_or piece (place_after gap (slice_index_or ps (k - 1) d) - start) 0 ≡ open_bracket)
      go [] n less positive h e = absurd (omega (arith, less, positive))
      go (q ∷ qs) zero less positive h e = absurd (omega (arith, positive))
      go (q ∷ qs) (suc n) less positive h e =
          let t = first_of gap qs n (place_after gap q) (drop (place_after gap q - start) piece) h.1 in
          let b = begins_after gap q (take n qs) start piece (h.0, t) in
          let one = one_on gap q start piece h.0 in
          let all = all_on gap (take n qs) (place_after gap q) (drop (place_after gap q - start) piece) t in
          let within = b.0 in
          (omega (arith, e), omega (arith, e), ap (λ m. get_or piece (m - start) 0) (sym e) ∙ b.1)

-- ---- a loop over them

-- A piece starts with these positions, and this rest of it stands after them.
pub record ReadTo (gap start : ℕ) (piece : List ℕ) (before : List CutPosition) (rest : List ℕ) : Type 0 where
  pub place_is : start + length piece - length rest ≡ place_after_all gap before start
  pub rest_is : rest ≡ drop (length piece - length rest) piece
  pub bracket : get_or rest 0 0 ≡ open_bracket
  pub spelled : SpellsPositions gap before start piece

-- none, and one more
pub none_read : (gap start : ℕ) (piece : List ℕ) → get_or piece 0 0 ≡ open_bracket → ReadTo gap start piece [] piece
none_read gap start piece bracket = record {
  place_is = omega arith;
  rest_is = (let none : 0 ≡ length piece - length piece = omega arith in ap (λ n. drop n piece) none);
  bracket = bracket;
  spelled = tt;
}

module _ (gap start : ℕ) (piece : List ℕ) (before : List CutPosition) (rest : List ℕ) (within : length rest ≤ length piece)
    (read : ReadTo gap start piece before rest) (p : CutPosition) (s : SpellsPosition gap p (start + length piece - length rest) rest) where
  pub one_less : p.close_at + 2 + gap < length rest
  one_less =
      let at = s.at in
      let b = (left_begins gap p (start + length piece - length rest) rest s).0 in
      let on = one_on gap p (start + length piece - length rest) rest s in
      omega arith

  pub one_read : (more : List CutPosition) → more ≡ before ++ p ∷ []
      → ReadTo gap start piece more (take (length rest - (p.close_at + 2 + gap)) (drop (p.close_at + 2 + gap) rest))
  one_read more is =
      let place = start + length piece - length rest in
      let n = p.close_at + 2 + gap in
      let next = place_after gap p in
      let at = s.at in
      let bytes : n ≡ next - place = omega arith in
      let on = one_on gap p place rest s in
      let b = left_begins gap p place rest s in
      let less = one_less in
      let same : take (length rest - n) (drop n rest) ≡ drop n rest = rest_of rest n in
      let size : length (take (length rest - n) (drop n rest)) ≡ length rest - n = ap length same ∙ length-drop n rest in
      let P : List CutPosition → Type 0 = λ ps. SpellsPositions gap ps start piece in
      let Q : ℕ → List ℕ → Type 0 = λ m xs. SpellsPosition gap p m xs in
      let here : rest ≡ drop (place - start) piece =
      read.rest_is ∙ ap (λ k. drop k piece) {x = length piece - length rest} {y = place - start} (omega arith) in
      let there : SpellsPosition gap p (place_after_all gap before start) (drop (place_after_all gap before start - start) piece) =
      subst (λ (m : ℕ). Q m (drop (m - start) piece)) read.place_is (subst (λ (xs : List ℕ). Q place xs) here s) in
      record {
        place_is =
            (let e : start + length piece - length (take (length rest - n) (drop n rest)) ≡ next = omega arith in
            e ∙ sym (after_more gap before p start) ∙ ap (λ ps. place_after_all gap ps start) (sym is));
        rest_is =
            same ∙ ap (drop n) here ∙ ap (λ k. drop k (drop (place - start) piece)) bytes
            ∙ in_two piece start place next (omega arith) (omega arith)
            ∙ ap (λ k. drop k piece) {x = next - start} {y = length piece - length (take (length rest - n) (drop n rest))} (omega arith);
        bracket = ap (λ xs. get_or xs 0 0) same ∙ ap (λ k. get_or (drop k rest) 0 0) bytes ∙ b.1;
        spelled = subst P (sym is) (one_more gap before p start piece read.spelled there);
      }
