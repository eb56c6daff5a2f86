-- What was told of the features of a text, where each ends, is what is found in them.
use Rattle.gj_split.proofs.Common.{AllByRecursion, AreHeld, Constant, Counts, False, Feature, IsText, List, None, Null, Option, Scan, Some, Spells}
use Rattle.gj_split.proofs.Common.{Text, Tree, True, add-zero, ap, append_assoc, arith, array, bytes_between, constant, drop, end_of, false}
use Rattle.gj_split.proofs.Common.{features_of, if◌then◌else◌, inl, inr, is_running, length, ne_eqb, number, object, place_of, refl, scan_length}
use Rattle.gj_split.proofs.Common.{split_of, string, subst, suc, sym, true, with_feature, ℕ, [], ◌++◌, ◌+◌, ◌<◌, ◌∙◌, ◌∷◌, ◌≡◌, ◌≤◌}
use Rattle.std.proofs.Common.{◌==◌, eqb}
use Rattle.std.proofs.Common.{append-nil, length-append}
use Rattle.std.proofs.lemmas.Bool.{or_from}
use Rattle.std.proofs.Math.Seq.{drop-append_seam}
use Rattle.gj_number.specs.Bytes.{IsNumberByte}
use Rattle.gj_json.specs.Bytes.{quote, backslash, letter_u}
use Rattle.gj_json.specs.Characters.{SpellsCharacter, SpellsContent, hex_of}
use Rattle.gj_json.specs.Grammar.{letters_of}
use Rattle.gj_rules.specs.FeatureFindings.{closing_of, finding_of, findings_from, feature_findings}
use Rattle.gj_rules.specs.FeaturesTold.{SaysFinding, SayFindings}
use Rattle.gj_split.specs.Internal.ScannedValues.{ends_word, scan_next, count_after}
use Rattle.gj_split.specs.Split.{split_findings}
use Rattle.gj_split.specs.Internal.ToldFeatures.{end_told, told_bytes, told_split, is_flat, IsEndKnown, EndsKnown}
use Rattle.gj_split.specs.Internal.HeldRecords.{Holds}
use Rattle.gj_split.proofs.ElementBytes.{Follows, IsFollowed, IsElementIn, features_in}
use Rattle.gj_split.proofs.SpelledBytes.{IsHigh, high_all, number_all, value_ends, value_begins}

-- ---- bytes within a value

-- they are the value's, and another state follows
abbrev Passes : Scan → List ℕ → Scan → Type 0
Passes scan bytes next = (rest : List ℕ) → scan_length scan (bytes ++ rest) ≡ length bytes + scan_length next rest

none_pass : (scan : Scan) → Passes scan [] scan
none_pass scan rest = omega arith

running_counts : (scan : Scan) (n : ℕ) → is_running scan ≡ true → count_after scan n ≡ suc n
running_counts Scan.Start n e = refl
running_counts Scan.Word n e = refl
running_counts Scan.Text n e = refl
running_counts Scan.Escape n e = refl
running_counts other n e = cc

-- one byte, and then others
byte_passes : (scan next last : Scan) (b : ℕ) (bytes : List ℕ) → scan_next scan b ≡ next → is_running next ≡ true → Passes next bytes last
    → Passes scan (b ∷ bytes) last
byte_passes scan next last b bytes e r h = λ rest.
    ap (λ s. count_after s (scan_length s (bytes ++ rest))) e
    ∙ (running_counts next (scan_length next (bytes ++ rest)) r
    ∙ counted (length bytes) (scan_length last rest) (scan_length next (bytes ++ rest)) (h rest))
  where
    counted : (a b c : ℕ) → c ≡ a + b → suc c ≡ suc a + b
    counted a b c e = omega (arith, e)

both_pass : (scan next last : Scan) (xs ys : List ℕ) → Passes scan xs next → Passes next ys last → Passes scan (xs ++ ys) last
both_pass scan next last xs ys h k = λ rest.
    ap (λ zs. scan_length scan zs) (append_assoc xs ys rest)
    ∙ (h (ys ++ rest) ∙ counted (length xs) (length ys) (scan_length last rest) (scan_length next (ys ++ rest)) (length (xs ++ ys)) (k rest)
    (length-append xs ys))
  where
    counted : (a b c d e : ℕ) → d ≡ b + c → e ≡ a + b → a + d ≡ e + c
    counted a b c d e f g = omega (arith, f, g)

-- ---- numbers and words

number_bounds : (b : ℕ) → IsNumberByte b → (43 ≤ b) × (b ≡ 44 → ⊥) × (b ≡ 93 → ⊥)
number_bounds b (inl h) = (omega (arith, h.0), (λ e. omega (arith, h.0, e)), (λ e. omega (arith, h.1, e)))
number_bounds b (inr (inl e)) = (omega (arith, e), (λ f. omega (arith, e, f)), (λ f. omega (arith, e, f)))
number_bounds b (inr (inr (inl e))) = (omega (arith, e), (λ f. omega (arith, e, f)), (λ f. omega (arith, e, f)))
number_bounds b (inr (inr (inr (inl e)))) = (omega (arith, e), (λ f. omega (arith, e, f)), (λ f. omega (arith, e, f)))
number_bounds b (inr (inr (inr (inr (inl e))))) = (omega (arith, e), (λ f. omega (arith, e, f)), (λ f. omega (arith, e, f)))
number_bounds b (inr (inr (inr (inr (inr e))))) = (omega (arith, e), (λ f. omega (arith, e, f)), (λ f. omega (arith, e, f)))

below : (b c : ℕ) → 43 ≤ b → c < 43 → eqb b c ≡ false
below b c l m = ne_eqb b c (λ e. omega (arith, l, m, e))

-- a number's byte ends no word and begins no string
goes_on : (b : ℕ) → IsNumberByte b → ends_word b ≡ false
goes_on b h =
    let n = number_bounds b h in
    or_from _ _ (below b 32 n.0 (omega arith))
    (or_from _ _ (below b 9 n.0 (omega arith)) (or_from _ _ (below b 10 n.0 (omega arith)) (or_from _ _ (below b 13 n.0 (omega arith))
    (or_from _ _ (ne_eqb b 44 n.1) (ne_eqb b 93 n.2)))))

word_on : (b : ℕ) → IsNumberByte b → scan_next Scan.Word b ≡ Scan.Word
word_on b h = ap (λ t. if t then Scan.Past else Scan.Word) (goes_on b h)

start_on : (b : ℕ) → IsNumberByte b → scan_next Scan.Start b ≡ Scan.Word
start_on b h = ap (λ t. if t then Scan.Text else scan_next Scan.Word b) (below b 34 (number_bounds b h).0 (omega arith)) ∙ word_on b h

word_passes : (bytes : List ℕ) → AllByRecursion IsNumberByte bytes → Passes Scan.Word bytes Scan.Word
word_passes [] h = none_pass Scan.Word
word_passes (b ∷ bytes) h = byte_passes Scan.Word Scan.Word Scan.Word b bytes (word_on b h.0) refl (word_passes bytes h.1)

-- the byte after an element ends it
past_word : (b : ℕ) → Follows b → scan_next Scan.Word b ≡ Scan.Past
past_word b (inl (inl e)) = ap (scan_next Scan.Word) e
past_word b (inl (inr (inl e))) = ap (scan_next Scan.Word) e
past_word b (inl (inr (inr (inl e)))) = ap (scan_next Scan.Word) e
past_word b (inl (inr (inr (inr e)))) = ap (scan_next Scan.Word) e
past_word b (inr (inl e)) = ap (scan_next Scan.Word) e
past_word b (inr (inr e)) = ap (scan_next Scan.Word) e

word_ends : (after : List ℕ) → IsFollowed after → scan_length Scan.Word after ≡ 0
word_ends [] h = absurd h
word_ends (b ∷ after) h = ap (λ s. count_after s (scan_length s after)) (past_word b h)

start_ends : (after : List ℕ) → IsFollowed after → scan_length Scan.Start after ≡ 0
start_ends [] h = absurd h
start_ends (b ∷ after) h = ap (λ s. count_after s (scan_length s after)) (at_start b h)
  where
    at_start : (b : ℕ) → Follows b → scan_next Scan.Start b ≡ Scan.Past
    at_start b (inl (inl e)) = ap (scan_next Scan.Start) e
    at_start b (inl (inr (inl e))) = ap (scan_next Scan.Start) e
    at_start b (inl (inr (inr (inl e)))) = ap (scan_next Scan.Start) e
    at_start b (inl (inr (inr (inr e)))) = ap (scan_next Scan.Start) e
    at_start b (inr (inl e)) = ap (scan_next Scan.Start) e
    at_start b (inr (inr e)) = ap (scan_next Scan.Start) e

number_length : (literal after : List ℕ) → AllByRecursion IsNumberByte literal → IsFollowed after → scan_length Scan.Start (literal ++ after) ≡ length literal
number_length [] after h f = start_ends after f
number_length (b ∷ literal) after h f =
    byte_passes Scan.Start Scan.Word Scan.Word b literal (start_on b h.0) refl (word_passes literal h.1) after
    ∙ (ap (λ n. suc (length literal) + n) (word_ends after f) ∙ add-zero (suc (length literal)))

letters_length : (which : Constant) (after : List ℕ) → IsFollowed after → scan_length Scan.Start (letters_of which ++ after) ≡ length (letters_of which)
letters_length Null after f = ap (λ n. suc (suc (suc (suc n)))) (word_ends after f)
letters_length True after f = ap (λ n. suc (suc (suc (suc n)))) (word_ends after f)
letters_length False after f = ap (λ n. suc (suc (suc (suc (suc n))))) (word_ends after f)

-- ---- strings

text_on : (b : ℕ) → (b ≡ quote → ⊥) → (b ≡ backslash → ⊥) → scan_next Scan.Text b ≡ Scan.Text
text_on b h k =
    ap (λ t. if t then Scan.Closed else (if b == backslash then Scan.Escape else Scan.Text)) (ne_eqb b quote h)
    ∙ ap (λ t. if t then Scan.Escape else Scan.Text) (ne_eqb b backslash k)

text_passes : (bytes : List ℕ) → AllByRecursion (λ b. (b ≡ quote → ⊥) × (b ≡ backslash → ⊥)) bytes → Passes Scan.Text bytes Scan.Text
text_passes [] h = none_pass Scan.Text
text_passes (b ∷ bytes) h = byte_passes Scan.Text Scan.Text Scan.Text b bytes (text_on b h.0.0 h.0.1) refl (text_passes bytes h.1)

escape_passes : (b : ℕ) (bytes : List ℕ) → Passes Scan.Text bytes Scan.Text → Passes Scan.Text (backslash ∷ b ∷ bytes) Scan.Text
escape_passes b bytes h =
    byte_passes Scan.Text Scan.Escape Scan.Text backslash (b ∷ bytes) refl refl (byte_passes Scan.Escape Scan.Text Scan.Text b bytes refl refl h)

hex_apart : (b d : ℕ) → hex_of b ≡ Some d → (b ≡ quote → ⊥) × (b ≡ backslash → ⊥)
unfolding hex_of
hex_apart b d h =
    ((λ e. let g : hex_of 34 ≡ Some d = subst (λ x. hex_of x ≡ Some d) e h in cc), (λ e. let g : hex_of 92 ≡ Some d = subst (λ x. hex_of x ≡ Some d) e h in cc))

high_apart : (bytes : List ℕ) → AllByRecursion IsHigh bytes → AllByRecursion (λ b. (b ≡ quote → ⊥) × (b ≡ backslash → ⊥)) bytes
high_apart [] h = tt
high_apart (b ∷ bytes) h = (((λ e. omega (arith, h.0, e)), (λ e. omega (arith, h.0, e))), high_apart bytes h.1)

character_passes : (c : ℕ) (bytes : List ℕ) → SpellsCharacter c bytes → Passes Scan.Text bytes Scan.Text
character_passes c bytes (inl h) = subst (λ xs. Passes Scan.Text xs Scan.Text) (sym h.1) (text_passes (c ∷ []) ((h.0.2, h.0.3), tt))
character_passes c bytes (inr (inl h)) = subst (λ xs. Passes Scan.Text xs Scan.Text) (sym h.1) (escape_passes h.0 [] (none_pass Scan.Text))
character_passes c bytes (inr (inr (inl h))) =
    subst (λ xs. Passes Scan.Text xs Scan.Text) (sym h.8) (escape_passes letter_u (h.0 ∷ h.1 ∷ h.2 ∷ h.3 ∷ [])
    (text_passes (h.0 ∷ h.1 ∷ h.2 ∷ h.3 ∷ []) (hex_apart h.0 h.4 h.9, (hex_apart h.1 h.5 h.10, (hex_apart h.2 h.6 h.11, (hex_apart h.3 h.7 h.12, tt))))))
character_passes c bytes (inr (inr (inr h))) = text_passes bytes (high_apart bytes (high_all c bytes h))

content_passes : (content bytes : List ℕ) → SpellsContent content bytes → Passes Scan.Text bytes Scan.Text
content_passes [] bytes h = subst (λ xs. Passes Scan.Text xs Scan.Text) (sym h) (none_pass Scan.Text)
content_passes (c ∷ content) bytes h =
    subst (λ xs. Passes Scan.Text xs Scan.Text) (sym h.2)
    (both_pass Scan.Text Scan.Text Scan.Text h.0 h.1 (character_passes c h.0 h.3) (content_passes content h.1 h.4))

quoted_length : (inner after : List ℕ) → Passes Scan.Text inner Scan.Text
    → scan_length Scan.Start ((quote ∷ (inner ++ quote ∷ [])) ++ after) ≡ length (quote ∷ (inner ++ quote ∷ []))
quoted_length inner after h =
    ap suc (ap (λ xs. scan_length Scan.Text xs) (append_assoc inner (quote ∷ []) after) ∙ (h (quote ∷ after) ∙ sym (length-append inner (quote ∷ []))))

-- ---- a value that is no array and no object

scalar_length : (v : Tree) (n : ℕ) (own after : List ℕ) → Spells v n own → IsFollowed after → is_flat (own ++ after) ≡ true
    → scan_length Scan.Start (own ++ after) ≡ length own
scalar_length (constant which place) n own after h f e = rw (h.1) (letters_length which after f)
scalar_length (number place literal end) n own after h f e =
    let own_is : own ≡ literal = h.2.joined ∙ (ap (λ xs. h.2.first ++ xs) h.2.after.0 ∙ (append-nil h.2.first ∙ h.2.before)) in
    rw own_is (number_length literal after (number_all literal h.1) f)
scalar_length (string place content end) n own after h f e =
    let q = h.1 in
    let inner = q.after.first in
    let last : q.after.after.rest ≡ [] = q.after.after.after.0 in
    let own_is : own ≡ quote ∷ (inner ++ quote ∷ []) =
    q.joined ∙ (ap (λ xs. xs ++ q.rest) q.before
    ∙ ap (λ xs. quote ∷ xs)
    (q.after.joined ∙ ap (λ xs. inner ++ xs)
    (q.after.after.joined ∙ (ap (λ xs. xs ++ q.after.after.rest) q.after.after.before ∙ ap (λ xs. quote ∷ xs) last)))) in
    rw own_is (quoted_length inner after (content_passes content inner q.after.before))
scalar_length (array place elements close) n own after h f e =
    let b : is_flat (own ++ after) ≡ false = rw (h.1.joined ∙ ap (λ xs. xs ++ h.1.rest) h.1.before) refl in
    let x : true ≡ false = sym e ∙ b in
    cc
scalar_length (object place members close) n own after h f e =
    let b : is_flat (own ++ after) ≡ false = rw (h.1.joined ∙ ap (λ xs. xs ++ h.1.rest) h.1.before) refl in
    let x : true ≡ false = sym e ∙ b in
    cc

-- ---- what was told and what is found

-- the byte after a closing bracket is the end
abbrev SaysEnd : Option ℕ → ℕ → Type 0
SaysEnd None end = Unit {0}
SaysEnd (Some close) end = close + 1 ≡ end

end_says : (v : Tree) → SaysEnd (closing_of v) (end_of v)
end_says (array place es close) = refl
end_says (object place ms close) = refl
end_says other = tt

-- a feature that was told ends where the feature does
end_is : (v : Tree) (bytes : List ℕ) (close : Option ℕ) → IsElementIn v 0 bytes → SaysEnd close (end_of v) → IsEndKnown (place_of v) close bytes
    → end_told (place_of v) close bytes ≡ end_of v
end_is v bytes (Some close) s e k = e
end_is v bytes None s e k =
    let t = s.stands in
    let place = value_begins v _ t.own t.spelled in
    let end = (value_ends v _ t.own t.spelled).0 in
    let rest : drop (place_of v) bytes ≡ t.own ++ t.after =
    ap (λ n. drop n bytes) (at_front place) ∙ (ap (λ xs. drop (length t.before) xs) t.joined ∙ drop-append_seam t.before (t.own ++ t.after)) in
    let flat : is_flat (t.own ++ t.after) ≡ true = subst (λ xs. is_flat xs ≡ true) rest k in
    counted (place_of v) (length t.before) (length t.own) (scan_length Scan.Start (drop (place_of v) bytes)) (end_of v) place end
    (ap (scan_length Scan.Start) rest ∙ scalar_length v _ t.own t.after t.spelled s.followed flat)
  where
    at_front : {p a : ℕ} → p ≡ 0 + a → p ≡ a
    at_front e = omega (arith, e)

    counted : (p a b s e : ℕ) → p ≡ 0 + a → e ≡ 0 + a + b → s ≡ b → p + s ≡ e
    counted p a b s e f g h = omega (arith, f, g, h)

told_own : (index : ℕ) (v : Tree) (bytes : List ℕ) (feature : Feature) → IsElementIn v 0 bytes → SaysFinding feature (finding_of index v)
    → EndsKnown bytes feature →
    told_bytes bytes feature ≡ bytes_between (place_of v) (end_of v) bytes
told_own index v bytes feature s h k =
    let place : feature.place ≡ place_of v = h.1 in
    let known : IsEndKnown (place_of v) feature.close bytes = subst (λ p. IsEndKnown p feature.close bytes) place k in
    ap (λ p. bytes_between p (end_told p feature.close bytes) bytes) place
    ∙ ap (λ e. bytes_between (place_of v) e bytes) (end_is v bytes feature.close s (subst (λ o. SaysEnd o (end_of v)) (sym h.2) (end_says v)) known)

told_from : (index : ℕ) (vs : List Tree) (bytes : List ℕ) (features : List Feature) → AllByRecursion (λ v. IsElementIn v 0 bytes) vs
    → SayFindings features (findings_from index vs) →
    AllByRecursion (EndsKnown bytes) features → told_split bytes features ≡ split_findings bytes (findings_from index vs)
told_from index [] bytes [] s h k = refl
told_from index [] bytes (f ∷ features) s h k = absurd h
told_from index (v ∷ vs) bytes [] s h k = absurd h
told_from index (v ∷ vs) bytes (f ∷ features) s h k =
    ap (λ own. with_feature f.fault own (told_split bytes features)) (told_own index v bytes f s.0 h.0 k.0)
    ∙ (ap (λ fault. with_feature fault (bytes_between (place_of v) (end_of v) bytes) (told_split bytes features)) h.0.4
    ∙ ap (λ parts. with_feature (finding_of index v).fault (bytes_between (place_of v) (end_of v) bytes) parts)
    (told_from (index + 1) vs bytes features s.1 h.1 k.1))

pub told_is : (text : Text) (bytes : List ℕ) (features : List Feature) → IsText text bytes → SayFindings features (feature_findings text)
    → AllByRecursion (EndsKnown bytes) features →
    told_split bytes features ≡ split_of bytes text
told_is text bytes features t h k = told_from 0 (features_of text.value) bytes features (features_in text bytes t) h k

-- where nothing has stopped it, the writers hold what the definition sets apart
pub held_apart : {A : Type 0} (known : Option (List ℕ)) (stop : Option A) (valid broken : Option (List ℕ)) (counts : Counts) (features : List Feature)
    (bytes : List ℕ) (text : Text) → stop ≡ None → known ≡ Some bytes
    → Holds known stop valid broken counts features → IsText text bytes → SayFindings features (feature_findings text)
    → AreHeld (split_of bytes text) valid broken counts
held_apart known None valid broken counts features bytes text e k h t s = let told =
    h bytes k in subst (λ parts. AreHeld parts valid broken counts) (told_is text bytes features t s told.ended) told.held
held_apart known (Some stop) valid broken counts features bytes text e k h t s = cc
