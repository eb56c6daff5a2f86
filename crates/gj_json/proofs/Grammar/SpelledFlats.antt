-- An array of numbers is spelled by its parts.
use Rattle.gj_json.proofs.Common.{AllByRecursion, Elements, IsItem, IsValued, IsWhite, List, Numbered, Some, Spells, SpellsNumbers, What, ap, arith}
use Rattle.gj_json.proofs.Common.{close_bracket, cut, drop, element, elements_events, end_of_array, event_at, exact_of, get_or, length, map}
use Rattle.gj_json.proofs.Common.{open_bracket, refl, subst, sym, value_of, ℕ, [], ◌++◌, ◌+◌, ◌-◌, ◌<◌, ◌∙◌, ◌∷◌, ◌≡◌, ◌≤◌}
use Rattle.std.proofs.Common.{take}
use Rattle.std.proofs.Common.{append-nil}
use Rattle.gj_json.specs.Bytes.{comma}
use Rattle.gj_json.specs.Tree.{number}
use Rattle.gj_json.specs.Grammar.{Then, White}
use Rattle.gj_json.specs.Flat.{number_event}
use Rattle.gj_json.specs.Internal.FlatParts.{IsMore}
use Rattle.gj_json.proofs.Pieces.PieceCuts.{cut_joins, cut_length, cut_byte}
use Rattle.gj_json.proofs.Grammar.SpelledForms.{joins, byte_more, left3}

-- a number between two runs of white space
pub item_is : (numbered : Numbered) (start : ℕ) (before digits behind : List ℕ) → White start before → numbered.place ≡ start + length before
    → IsValued numbered.value digits → White start behind → IsItem numbered start (before ++ (digits ++ behind))
item_is numbered start before digits behind w p v x = record {
  literal = digits;
  end = start + length before + length digits;
  spelled = joins before (digits ++ behind) refl w (joins digits behind refl (p, v.number, joins digits [] (sym (append-nil digits)) refl (refl, refl)) x);
  valued = v.valued;
}

pub no_more : (b n : ℕ) → b ≡ close_bracket → IsMore [] n n (b ∷ [])
no_more b n e = record { elements = end_of_array; spelled = (ap (λ x. x ∷ []) e, refl); flat = refl; told = refl }

-- an item, and what stands after it
behind_item : {K : ℕ → List ℕ → Type 0} (numbered : Numbered) (n : ℕ) (xs ys : List ℕ) (i : IsItem numbered n xs) → K (n + length xs) ys
    → Then White (Then (Spells (number numbered.place i.literal i.end)) (Then White K)) n (xs ++ ys)
behind_item {K} numbered n xs ys i k =
    left3 {A = White} {B = Spells (number numbered.place i.literal i.end)} {C = White} (joins xs ys refl i.spelled k)

item_told : (numbered : Numbered) (numbers : List Numbered) (literal : List ℕ) (more : Elements) → Some (exact_of numbered.value) ≡ value_of literal
    → map (λ x. x.event) (elements_events more) ≡ map number_event numbers
    → event_at numbered.place (What.Number (value_of literal)) ∷ map (λ x. x.event) (elements_events more) ≡ number_event numbered ∷ map number_event numbers
item_told numbered numbers literal more v t = rw (← v, t) refl

pub one_more : (numbered : Numbered) (numbers : List Numbered) (close b n : ℕ) (xs ys : List ℕ) → b ≡ comma → IsItem numbered (n + 1) xs
    → IsMore numbers close (n + 1 + length xs) ys → IsMore (numbered ∷ numbers) close n (b ∷ (xs ++ ys))
one_more numbered numbers close b n xs ys e i m = record {
  elements = element (number numbered.place i.literal i.end) m.elements;
  spelled = byte_more e (behind_item numbered (n + 1) xs ys i m.spelled);
  flat = omega (arith, m.flat);
  told = item_told numbered numbers i.literal m.elements i.valued m.told;
}

pub numbers_spelled : (numbered : Numbered) (numbers : List Numbered) (close b n : ℕ) (xs ys : List ℕ) → b ≡ open_bracket → IsItem numbered (n + 1) xs
    → IsMore numbers close (n + 1 + length xs) ys → SpellsNumbers n (numbered ∷ numbers) close n (b ∷ (xs ++ ys))
numbers_spelled numbered numbers close b n xs ys e i m = record {
  elements = element (number numbered.place i.literal i.end) m.elements;
  spelled = (refl, byte_more e (behind_item numbered (n + 1) xs ys i m.spelled));
  flat = omega (arith, m.flat);
  told = item_told numbered numbers i.literal m.elements i.valued m.told;
}

-- ---- the same of the bytes of a piece, which begins at the place `start`

module _ (piece : List ℕ) (start : ℕ) where
  pub item_cut : (numbered : Numbered) (at first last end : ℕ) → at ≤ first → first ≤ last → last ≤ end → end ≤ length piece
      → AllByRecursion IsWhite (cut piece at first) → numbered.place ≡ start + first → IsValued numbered.value (cut piece first last)
      → AllByRecursion IsWhite (cut piece last end) → IsItem numbered (start + at) (cut piece at end)
  item_cut numbered at first last end u v w x before p n behind =
      let e : cut piece at end ≡ cut piece at first ++ (cut piece first last ++ cut piece last end) =
      cut_joins piece at first end u (omega arith) ∙ ap (λ xs. cut piece at first ++ xs) (cut_joins piece first last end v w) in
      let l : numbered.place ≡ start + at + length (cut piece at first) = omega (arith, p, cut_length piece at first (omega arith)) in
      rw e (item_is numbered (start + at) (cut piece at first) (cut piece first last) (cut piece last end) before l n behind)

  pub end_cut : (a : ℕ) → a < length piece → get_or piece a 0 ≡ close_bracket → IsMore [] (start + a) (start + a) (cut piece a (a + 1))
  end_cut a w e =
      let z : a + 1 - (a + 1) ≡ 0 = omega arith in
      let f : cut piece a (a + 1) ≡ get_or piece a 0 ∷ [] =
      cut_byte piece a (a + 1) w (omega arith) ∙ ap (λ n. get_or piece a 0 ∷ take n (drop (a + 1) piece)) z in
      rw f (no_more (get_or piece a 0) (start + a) e)

  behind_byte : (a b c : ℕ) → a + 1 ≤ b → b ≤ c → c ≤ length piece → cut piece a c ≡ get_or piece a 0 ∷ (cut piece (a + 1) b ++ cut piece b c)
  behind_byte a b c u v w = cut_byte piece a c (omega arith) (omega arith) ∙ ap (λ xs. get_or piece a 0 ∷ xs) (cut_joins piece (a + 1) b c u v)

  there : (a b : ℕ) → a + 1 ≤ b → b ≤ length piece → start + a + 1 + length (cut piece (a + 1) b) ≡ start + b
  there a b u w = omega (arith, cut_length piece (a + 1) b w)

  pub more_cut : (numbered : Numbered) (numbers : List Numbered) (close a b c : ℕ) → get_or piece a 0 ≡ comma → a + 1 ≤ b → b ≤ c → c ≤ length piece
      → IsItem numbered (start + (a + 1)) (cut piece (a + 1) b) → IsMore numbers close (start + b) (cut piece b c)
      → IsMore (numbered ∷ numbers) close (start + a) (cut piece a c)
  more_cut numbered numbers close a b c e u v w i m =
      let P : ℕ → Type 0 = λ n. IsItem numbered n (cut piece (a + 1) b) in
      let Q : ℕ → Type 0 = λ n. IsMore numbers close n (cut piece b c) in
      rw (behind_byte a b c u v w)
      (one_more numbered numbers close (get_or piece a 0) (start + a) (cut piece (a + 1) b) (cut piece b c) e (subst P (omega arith) i)
      (subst Q (sym (there a b u (omega arith))) m))

  pub flat_cut : (numbered : Numbered) (numbers : List Numbered) (close b c : ℕ) → get_or piece 0 0 ≡ open_bracket → 1 ≤ b → b ≤ c → c ≤ length piece
      → IsItem numbered (start + 1) (cut piece 1 b) → IsMore numbers close (start + b) (cut piece b c)
      → SpellsNumbers start (numbered ∷ numbers) close start (take c piece)
  flat_cut numbered numbers close b c e u v w i m =
      let Q : ℕ → Type 0 = λ n. IsMore numbers close n (cut piece b c) in
      let l : start + 1 + length (cut piece 1 b) ≡ start + b = omega (arith, cut_length piece 1 b (omega arith)) in
      let z : c ≡ c - 0 = omega arith in
      let f : take c piece ≡ get_or piece 0 0 ∷ (cut piece 1 b ++ cut piece b c) = ap (λ n. take n piece) z ∙ behind_byte 0 b c u v w in
      rw f (numbers_spelled numbered numbers close (get_or piece 0 0) start (cut piece 1 b) (cut piece b c) e i (subst Q (sym l) m))
