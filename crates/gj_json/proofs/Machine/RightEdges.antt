-- What one byte more makes of what is due or under way at the right edge.
use Rattle.gj_json.proofs.Common.{BeginsCharacter, BeginsQuoted, Constant, Exactly, IsNumber, IsWhite, List, Null, Quoted, Spells}
use Rattle.gj_json.proofs.Common.{SpellsContent, SpellsLeaf, StringState, StringStep, ap, append_assoc, arith, first_letter, length}
use Rattle.gj_json.proofs.Common.{letters_after, letters_of, refl, string_ends, string_goes, string_next, subst, sym, ℕ, [], ◌++◌, ◌+◌, ◌∙◌, ◌∷◌, ◌≡◌}
use Rattle.gj_json.proofs.Common.{◌≢◌}
use Rattle.std.proofs.Common.{append-nil}
use Rattle.gj_json.specs.Bytes.{quote as quote_byte}
use Rattle.gj_json.specs.declared.mode.StringState.TheVariants.{Plain as plain}
use Rattle.gj_json.specs.Tree.{number}
use Rattle.gj_json.specs.Grammar.{Then, White, Ends}
use Rattle.gj_json.specs.Broken.{Frame, number_on}
use Rattle.gj_json.proofs.Grammar.SpelledForms
use Rattle.gj_json.proofs.Grammar.SpelledTexts
use Rattle.gj_json.proofs.Grammar.SpelledTexts.{Begun}
use Rattle.gj_json.proofs.Grammar.CharacterPrefixes.{content_push}
use Rattle.gj_json.proofs.Machine.TakenBytes.{Adds, then_adds, white_adds}

pub letters_spelled : (which : Constant) (b : ℕ) → b ≡ first_letter which → (letters_of which ≡ (b ∷ []) ++ letters_after which) × (letters_after which ≢ [])
letters_spelled Null b e = (rw e refl, λ f. cc)
letters_spelled other b e = (rw e refl, λ f. cc)

-- a quote, and nothing after it
pub quote_begins : {n b : ℕ} → b ≡ quote_byte → BeginsQuoted n [] plain n (b ∷ [])
quote_begins e = (refl, SpelledForms.byte_more e (SpelledForms.joins [] [] refl refl refl))

-- nothing is due or has come, with white space before it
pub nothing : {P : Type 0} {n : ℕ} → P → Then White (λ start bytes. P × (bytes ≡ [])) n []
nothing p = SpelledForms.joins [] [] refl tt (p, refl)

pub nothing_white : {P : Type 0} {n : ℕ} → Adds n [] (Then White (λ start bytes. P × (bytes ≡ []))) White
nothing_white {P} {n} = record {
  on = λ m bytes e h.
      let f : bytes ≡ h.first = h.joined ∙ ap (λ xs. h.first ++ xs) h.after.1 ∙ append-nil h.first in
      let Q : List ℕ → Type 0 = λ xs. White m xs in
      rw (append-nil bytes) (subst Q (sym f) h.before);
}

pub nothing_more : {P : Type 0} {n b : ℕ} → IsWhite b
    → Adds n (b ∷ []) (Then White (λ start bytes. P × (bytes ≡ []))) (Then White (λ start bytes. P × (bytes ≡ [])))
nothing_more {P} {n} {b} w = record {
  on = λ m bytes e h.
      let f : bytes ≡ h.first = h.joined ∙ ap (λ xs. h.first ++ xs) h.after.1 ∙ append-nil h.first in
      let Q : List ℕ → Type 0 = λ xs. White m xs in
      let whites : Adds n (b ∷ []) White White = white_adds w in
      SpelledForms.joins (bytes ++ b ∷ []) [] (sym (append-nil (bytes ++ b ∷ []))) (whites.on m bytes e (subst Q (sym f) h.before)) (h.after.0, refl);
}

-- ---- strings

-- after an opening quote, where the character under way goes on or ends
content_adds : {n b : ℕ} (so_far more : List ℕ) (state next : StringState) → string_next state b ≡ string_goes more next
    → Adds n (b ∷ []) (Then (λ here inner. SpellsContent so_far inner) (λ here inner. BeginsCharacter state inner))
    (Then (λ here inner. SpellsContent (so_far ++ more) inner) (λ here inner. BeginsCharacter next inner))
content_adds {n} {b} so_far more state next e = record {
  on = λ m bytes l h. (let P : StringStep → Type 0 = λ s. Begun h.rest b s in go more bytes m h (subst P e (SpelledTexts.begun h.rest state b h.after)));
}
  where
    go : (more bytes : List ℕ) (m : ℕ) (h : Then (λ here inner. SpellsContent so_far inner) (λ here inner. BeginsCharacter state inner) m bytes)
        → Begun h.rest b (string_goes more next)
        → Then (λ here inner. SpellsContent (so_far ++ more) inner) (λ here inner. BeginsCharacter next inner) m (bytes ++ b ∷ [])
    go [] bytes m h k =
        let P : List ℕ → Type 0 = λ c. SpellsContent c h.first in
        SpelledForms.joins h.first (h.rest ++ b ∷ []) (ap (λ xs. xs ++ b ∷ []) h.joined ∙ append_assoc h.first h.rest (b ∷ []))
        (subst P (sym (append-nil so_far)) h.before) k
    go (c ∷ []) bytes m h k =
        let Q : StringState → Type 0 = λ s. BeginsCharacter s [] in
        SpelledForms.joins (h.first ++ (h.rest ++ b ∷ [])) []
        (ap (λ xs. xs ++ b ∷ []) h.joined ∙ append_assoc h.first h.rest (b ∷ []) ∙ sym (append-nil (h.first ++ (h.rest ++ b ∷ []))))
        (content_push so_far h.first c (h.rest ++ b ∷ []) h.before k.1) (subst Q (sym k.0) refl)
    go (c ∷ d ∷ more) bytes m h k = absurd k

pub quoted_adds : {n b : ℕ} (place : ℕ) (so_far more : List ℕ) (state next : StringState) → string_next state b ≡ string_goes more next
    → Adds n (b ∷ []) (BeginsQuoted place so_far state) (BeginsQuoted place (so_far ++ more) next)
quoted_adds {n} {b} place so_far more state next e =
    let g : Adds n (b ∷ []) (Then (Exactly (quote_byte ∷ [])) (Then (λ here inner. SpellsContent so_far inner) (λ here inner. BeginsCharacter state inner)))
    (Then (Exactly (quote_byte ∷ [])) (Then (λ here inner. SpellsContent (so_far ++ more) inner) (λ here inner. BeginsCharacter next inner))) =
    then_adds (content_adds so_far more state next e) in
    record { on = λ m bytes l h. (h.0, g.on m bytes l h.1) }

content_ends : {n b : ℕ} (so_far : List ℕ) (state : StringState) → string_next state b ≡ string_ends
    → Adds n (b ∷ []) (Then (λ here inner. SpellsContent so_far inner) (λ here inner. BeginsCharacter state inner))
    (Then (λ here inner. SpellsContent so_far inner) (Then (Exactly (quote_byte ∷ [])) (Ends (n + 1))))
content_ends {n} {b} so_far state e = then_adds (record {
  on = λ m bytes l h.
      let P : StringStep → Type 0 = λ s. Begun bytes b s in
      let g = subst P e (SpelledTexts.begun bytes state b h) in
      let k : length bytes ≡ 0 = ap length g.0 in
      let j : m ≡ n = omega (arith, l, k) in
      SpelledForms.moved (Then (Exactly (quote_byte ∷ [])) (Ends (n + 1))) (sym j) (sym (ap (λ xs. xs ++ b ∷ []) g.0))
      (SpelledForms.byte_more g.1 (refl, refl));
})

pub quoted_ends : {n b : ℕ} (place : ℕ) (so_far : List ℕ) (state : StringState) → string_next state b ≡ string_ends
    → Adds n (b ∷ []) (BeginsQuoted place so_far state) (Quoted place so_far (n + 1))
quoted_ends {n} {b} place so_far state e =
    let g : Adds n (b ∷ []) (Then (Exactly (quote_byte ∷ [])) (Then (λ here inner. SpellsContent so_far inner) (λ here inner. BeginsCharacter state inner)))
    (Then (Exactly (quote_byte ∷ [])) (Then (λ here inner. SpellsContent so_far inner) (Then (Exactly (quote_byte ∷ [])) (Ends (n + 1))))) =
    then_adds (content_ends so_far state e) in
    record { on = λ m bytes l h. (h.0, g.on m bytes l h.1) }

-- a number that may end has ended
pub number_ended : {n : ℕ} (stack : List Frame) (place : ℕ) (so_far : List ℕ) → IsNumber so_far
    → Adds n [] (Then White (SpellsLeaf stack (number_on place so_far))) (Then White (Then (Spells (number place so_far n)) White))
number_ended {n} stack place so_far i = then_adds (record {
  on = λ m bytes l h.
      let spelled : Then (Exactly so_far) (Ends n) m bytes = SpelledForms.joins bytes [] (sym (append-nil bytes)) h.1 (refl, sym l) in
      rw (append-nil bytes) (SpelledForms.joins {A = Spells (number place so_far n)} {K = White} bytes [] (sym (append-nil bytes)) (h.0, i, spelled) tt);
})
