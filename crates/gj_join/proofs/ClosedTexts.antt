-- Texts that go on alike from the end of a feature differ in the elements before it alone.
use Rattle.std.proofs.Common.{◌≡◌, ℕ, ◌≤◌, Bool, List, [], ◌∷◌, ◌++◌, length, Some, refl, sym, ap, ◌∙◌, arith, append_assoc}
use Rattle.gj_json.specs.Broken.{Member, back_elements, back_members, value_done}
use Rattle.gj_json.specs.declared.names.Known.TheVariants.{Features}
use Rattle.gj_json.specs.Grammar.{Then, White, SpellsMoreElements, SpellsMoreMembers}
use Rattle.gj_json.specs.Internal.ReaderState.{FitsLeaf}
use Rattle.gj_json.specs.Text.{IsText, IsViable, IsViableWithin}
use Rattle.gj_json.specs.Tree.{Tree, array, object, Elements, element, end_of_array, Members, member, Text, depth, elements_depth, members_depth}
use Rattle.gj_json.proofs.Grammar.SpelledForms
use Rattle.gj_json.proofs.Machine.CompletableStates.{viable_fits, elements_joined, members_joined}
use Rattle.gj_json.proofs.Machine.Completions.{After}
use Rattle.gj_json.proofs.Machine.MachineTexts.{text_goes_on, text_from}
use Rattle.gj_coords.specs.Items.{items}
use Rattle.gj_rules.specs.FeatureFindings.{elements_if, features_of}
use Rattle.gj_rules.specs.TextWarnings.{first_value}
use Rattle.gj_join.proofs.ReachedFeatures.{Around, NoFeatures, open_in}
use Rattle.gj_join.proofs.FeatureStates.{Stands}

-- the text's object, where the array has these elements and these members follow
abbrev pub tree_of : Around → Elements → ℕ → Members → ℕ → Tree
tree_of a es close others end = object a.root (back_members a.members (member a.name_place a.name a.name_end (array a.place es close) others)) end

-- what ends the array and the object
pub record Closing (n : ℕ) (bytes : List ℕ) : Type 0 where
  pub more : Elements
  pub close : ℕ
  pub others : Members
  pub end : ℕ
  pub spelled : Then White (Then (SpellsMoreElements more close) (Then White (Then (SpellsMoreMembers others end) White))) n bytes

-- after these elements
abbrev pub closed_by : {n : ℕ} {bytes : List ℕ} → Closing n bytes → Around → List Tree → Tree → Tree
closed_by c a done v = tree_of a (back_elements done (element v c.more)) c.close c.others c.end

closing : (a : Around) (done : List Tree) (v T : Tree) (n : ℕ) (bytes : List ℕ) → After (open_in a done) v T n bytes
    → (c : Closing n bytes) × (T ≡ closed_by c a done v)
closing a done v T n bytes h =
    let k = h.2.after.after in (
      record { more = h.0; close = h.1; others = k.0; end = k.1; spelled = SpelledForms.rebuilt h.2 (SpelledForms.rebuilt k.2 k.2.after.after.0) },
      k.2.after.after.1,
    )

after_of : (a : Around) (done : List Tree) (v : Tree) (n : ℕ) (bytes : List ℕ) (c : Closing n bytes) → After (open_in a done) v (closed_by c a done v) n bytes
after_of a done v n bytes c = (c.more, c.close, SpelledForms.behind (λ m r k. (c.others, c.end, SpelledForms.behind (λ p q w. (w, refl)) k)) c.spelled)

abbrev pub text_of : {n : ℕ} {bytes : List ℕ} → Bool → Closing n bytes → Around → List Tree → Tree → Text
text_of marked c a done v = record { marked = marked; value = closed_by c a done v }

text_is : (text : Text) (marked : Bool) (v : Tree) → text.marked ≡ marked → text.value ≡ v → text ≡ record { marked = marked; value = v }
text_is text marked v e f = rw (← e, ← f) refl

-- the features of such a text
pub closed_features : (a : Around) (es : Elements) (close : ℕ) (others : Members) (end : ℕ) → features_of (tree_of a es close others end) ≡ items es
closed_features a es close others end =
    let ms = member a.name_place a.name a.name_end (array a.place es close) others in
    let e : first_value Features ms ≡ Some (array a.place es close) = rw (a.named) refl in
    ap elements_if (first_after a.members a.fresh ms ∙ e)
  where
    first_after : (ms : List Member) → NoFeatures ms → (more : Members) → first_value Features (back_members ms more) ≡ first_value Features more
    first_after [] h more = refl
    first_after (m ∷ ms) h more = first_after ms h.1 (member m.place m.name m.end m.value more) ∙ rw (h.0) refl

pub back_items : (done : List Tree) (more : Elements) → items (back_elements done more) ≡ items (back_elements done end_of_array) ++ items more
back_items [] more = refl
back_items (t ∷ done) more =
    back_items done (element t more)
    ∙ sym (ap (λ xs. xs ++ items more) (back_items done (element t end_of_array)) ∙ append_assoc (items (back_elements done end_of_array)) (t ∷ []) (items more))

module _ (marked : Bool) (a : Around) where
  pub text_closing : (bytes rest : List ℕ) (n : ℕ) → length bytes ≡ n → (s : Stands marked a bytes) (text : Text) → IsText text (bytes ++ rest)
      → (c : Closing n rest) × (text ≡ text_of marked c a s.done s.value)
  text_closing bytes rest n e s text h =
      let g = rw (s.is, e) at (text_goes_on text bytes rest h) in
      let c = closing a s.done s.value text.value n rest g.1 in
      (c.0, text_is text marked (closed_by c.0 a s.done s.value) g.0 c.1)

  pub closing_text : (bytes rest : List ℕ) (s : Stands marked a bytes) (c : Closing (length bytes) rest)
      → IsText (text_of marked c a s.done s.value) (bytes ++ rest)
  closing_text bytes rest s c = text_from (text_of marked c a s.done s.value) bytes rest
      (rw (s.is) (refl, after_of a s.done s.value (length bytes) rest c))

  -- ---- how deep they nest

  more_deep : (done : List Tree) (more : Elements) → elements_depth more ≤ elements_depth (back_elements done more)
  more_deep [] more = omega arith
  more_deep (t ∷ done) more = omega (arith, more_deep done (element t more))

  others_deep : (done : List Member) (more : Members) → members_depth more ≤ members_depth (back_members done more)
  others_deep [] more = omega arith
  others_deep (m ∷ done) more = omega (arith, others_deep done (member m.place m.name m.end m.value more))

  pub other_depth : (d n : ℕ) (bytes : List ℕ) (c : Closing n bytes) (done other : List Tree) (v w : Tree) → depth (closed_by c a done v) ≤ d
      → FitsLeaf d (open_in a other) (value_done w) → depth (closed_by c a other w) ≤ d
  other_depth d n bytes c done other v w l f =
      let es = back_elements done (element v c.more) in
      let i = others_deep a.members (member a.name_place a.name a.name_end (array a.place es c.close) c.others) in
      let j = more_deep done (element v c.more) in
      let k = elements_joined d 2 other (element w c.more) f.1.1 (omega (arith, f.0, i, j, l)) in
      let m = members_joined d 1 a.members (member a.name_place a.name a.name_end (array a.place (back_elements other (element w c.more)) c.close) c.others)
      f.1.2.1 (omega (arith, k, i, l)) in
      omega (arith, m)

  pub fits : (d : ℕ) (bytes : List ℕ) (s : Stands marked a bytes) → IsViableWithin d bytes → FitsLeaf d (open_in a s.done) (value_done s.value)
  fits d bytes s v = rw (s.is) at (viable_fits d bytes v)

  -- ---- bytes of the same length

  pub alike : (xs ys rest : List ℕ) (s : Stands marked a xs) (t : Stands marked a ys) → length xs ≡ length ys → (text : Text) → IsText text (xs ++ rest)
      → (c : Closing (length ys) rest) × (text ≡ text_of marked c a s.done s.value) × IsText (text_of marked c a t.done t.value) (ys ++ rest)
      × ((d : ℕ) → depth text.value ≤ d → IsViableWithin d ys → depth (closed_by c a t.done t.value) ≤ d)
  alike xs ys rest s t e text h =
      let g = text_closing xs rest (length ys) e s text h in
      let f : depth text.value ≡ depth (closed_by g.0 a s.done s.value) = ap (λ (x : Text). depth x.value) g.1 in (
        g.0,
        g.1,
        closing_text ys rest t g.0,
        λ d l v. other_depth d (length ys) rest g.0 s.done t.done s.value t.value (omega (arith, f, l)) (fits d ys t v),
      )

  pub within_alike : (d : ℕ) (xs ys after : List ℕ) → Stands marked a xs → Stands marked a ys → length xs ≡ length ys → IsViableWithin d ys
      → IsViableWithin d (xs ++ after) → IsViableWithin d (ys ++ after)
  within_alike d xs ys after s t e v h =
      let i : IsText h.1 (xs ++ (after ++ h.0)) = rw (append_assoc xs after h.0) at h.2.0 in
      let g = alike xs ys (after ++ h.0) s t e h.1 i in
      (h.0, text_of marked g.0 a t.done t.value, (rw (append_assoc ys after h.0) g.2, g.3 d h.2.1 v))

  pub any_alike : (xs ys after : List ℕ) → Stands marked a xs → Stands marked a ys → length xs ≡ length ys → IsViable (xs ++ after) → IsViable (ys ++ after)
  any_alike xs ys after s t e h =
      let i : IsText h.1 (xs ++ (after ++ h.0)) = rw (append_assoc xs after h.0) at h.2 in
      let g = alike xs ys (after ++ h.0) s t e h.1 i in
      (h.0, text_of marked g.0 a t.done t.value, rw (append_assoc ys after h.0) g.2)
