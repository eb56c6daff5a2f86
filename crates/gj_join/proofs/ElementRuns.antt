-- Elements of an array that follow another, up to the end of one of them: what they lead to does not depend on what came before.
use Rattle.std.proofs.Common.{◌≡◌, ◌⊎◌, ℕ, ◌+◌, ◌≤◌, inl, inr, List, [], ◌∷◌, ◌++◌, length, IsSome, refl, sym, ap, subst, ◌∙◌, arith, append_assoc}
use Rattle.std.proofs.lemmas.List.{length-append}
use Rattle.std.specs.List.{AllByRecursion}
use Rattle.gj_json.specs.Bytes.{comma}
use Rattle.gj_json.specs.Grammar.{Then, White, Spells, SpellsMoreElements}
use Rattle.gj_json.specs.Tree.{Tree, constant, number, string, array, object, Elements, end_of_array, element}
use Rattle.gj_json.specs.Broken.{Frame, in_array, Leaf, value_due, value_done}
use Rattle.gj_json.proofs.Grammar.SpelledForms
use Rattle.gj_json.proofs.Machine.ValuePaths.{Leads, at, leads_none, leads_byte, leads_on, awaiting_white, Over, over_white}
use Rattle.gj_json.proofs.Machine.ReadValues.{value_leads, comma_array}
use Rattle.gj_coords.specs.Items.{items}
use Rattle.gj_rules.specs.FeatureFindings.{end_of, closing_of}
use Rattle.gj_rules.proofs.Features.FeaturesInTime.{elements_end, members_end}
use Rattle.gj_rules.proofs.Texts.EventOrder.{then_length}

-- ---- values in brackets

abbrev pub ItEnds : ℕ → Tree → Type 0
ItEnds end v = IsSome (closing_of v) × (end_of v ≡ end)

abbrev pub OneOf : ℕ → List Tree → Type 0
OneOf end [] = ⊥
OneOf end (v ∷ vs) = ItEnds end v ⊎ OneOf end vs

-- such a value is done where it is over
pub bracket_done : (v : Tree) (n : ℕ) (leaf : Leaf) → IsSome (closing_of v) → Over v n leaf → leaf ≡ value_done v
bracket_done v n leaf c (inl e) = e
bracket_done (number place literal end) n leaf c (inr g) = cc
bracket_done (constant which place) n leaf c (inr g) = cc
bracket_done (string place content end) n leaf c (inr g) = cc
bracket_done (array place elements close) n leaf c (inr g) = let e : array place elements close ≡ number g.0 g.1 n = g.3 in cc
bracket_done (object place members close) n leaf c (inr g) = let e : object place members close ≡ number g.0 g.1 n = g.3 in cc

pub value_ends : (v : Tree) (n : ℕ) (bytes : List ℕ) → IsSome (closing_of v) → Spells v n bytes → end_of v ≡ n + length bytes
value_ends (array place es close) n bytes c h =
    omega (arith, elements_end es close _ _ h.1.after.after, then_length h.1, then_length h.1.after)
value_ends (object place ms close) n bytes c h =
    omega (arith, members_end ms close _ _ h.1.after.after, then_length h.1, then_length h.1.after)
value_ends (constant which place) n bytes c h = cc
value_ends (number place literal end) n bytes c h = cc
value_ends (string place content end) n bytes c h = cc

-- ---- the next element

pub record Next (v : Tree) (more : Elements) (close n : ℕ) (bytes : List ℕ) : Type 0 where
  pub front : List ℕ
  pub back : List ℕ
  pub joined : bytes ≡ front ++ back
  pub ends : IsSome (closing_of v) → end_of v ≡ n + length front
  pub leads : (stack : List Frame) (place : ℕ) (done : List Tree) (t : Tree) (leaf : Leaf) → Over t n leaf → (last : Leaf)
      × Leads (at (in_array place done ∷ stack) leaf) n front (at (in_array place (t ∷ done) ∷ stack) last) × Over v (n + length front) last
  pub after : Then White (SpellsMoreElements more close) (n + length front) back

next : (v : Tree) (more : Elements) (close n : ℕ) (bytes : List ℕ) → Then White (SpellsMoreElements (element v more) close) n bytes → Next v more close n bytes
next v more close n bytes h =
    let c = h.after in
    let e : c.first ≡ comma ∷ [] = c.before in
    let g = c.after in
    let i = g.after in
    let front = h.first ++ (c.first ++ (g.first ++ i.first)) in
    let l : length front ≡ length h.first + (length c.first + (length g.first + length i.first)) = simp length-append in
    record {
      front = front;
      back = i.rest;
      joined = h.joined ∙ ap (λ xs. h.first ++ xs) (c.joined ∙ ap (λ xs. c.first ++ xs) (g.joined ∙ ap (λ xs. g.first ++ xs) i.joined)) ∙ simp append_assoc;
      ends = λ k. omega (arith, l, value_ends v _ i.first k i.before);
      leads = λ stack place done t leaf o.
          (let x = over_white (in_array place done ∷ stack) t leaf h.first n o h.before in
          let due = at (in_array place (t ∷ done) ∷ stack) value_due in
          let y : Leads (at (in_array place done ∷ stack) x.0) (n + length h.first) (comma ∷ []) due =
          leads_byte {t = due} (comma_array stack place done t (n + length h.first) x.0 x.2) (leads_none due (n + length h.first + 1)) in
          let z = subst (λ xs. Leads (at (in_array place done ∷ stack) x.0) (n + length h.first) xs due) (sym e) y in
          let w = awaiting_white (in_array place (t ∷ done) ∷ stack) g.first (n + length h.first + length c.first) g.before in
          let u = value_leads v (in_array place (t ∷ done) ∷ stack) (n + length h.first + length c.first + length g.first) i.first i.before in (
            u.0,
            leads_on h.first (c.first ++ (g.first ++ i.first)) refl x.1
                (leads_on c.first (g.first ++ i.first) refl z (leads_on g.first i.first refl w u.1)),
            subst (λ m. Over v m u.0) (omega (arith, l)) u.2,
          ));
      after = SpelledForms.moved (Then White (SpellsMoreElements more close)) (omega (arith, l)) refl i.after;
    }

-- ---- the elements up to one that ends at a place

abbrev pub and_more : List Tree → Elements → Elements
and_more [] later = later
and_more (v ∷ vs) later = element v (and_more vs later)

pub and_more_items : (vs : List Tree) (later : Elements) → items (and_more vs later) ≡ vs ++ items later
and_more_items [] later = refl
and_more_items (v ∷ vs) later = ap (λ xs. v ∷ xs) (and_more_items vs later)

-- what has ended before the last of them, and the last of them, after the element t
abbrev pub done_after : List Tree → Tree → List Tree → List Tree
done_after done t [] = done
done_after done t (v ∷ vs) = done_after (t ∷ done) v vs

abbrev pub last_of : Tree → List Tree → Tree
last_of t [] = t
last_of t (v ∷ vs) = last_of v vs

-- the elements up to that one
abbrev pub up_to : (end : ℕ) (vs : List Tree) → OneOf end vs → List Tree
up_to end [] h = absurd h
up_to end (v ∷ vs) (inl i) = v ∷ []
up_to end (v ∷ vs) (inr later) = v ∷ up_to end vs later

-- those of them that have a bracket end no later
abbrev pub Within : ℕ → List Tree → Type 0
Within end vs = AllByRecursion (λ v. IsSome (closing_of v) → end_of v ≤ end) vs

pub record Chain (end : ℕ) (more : Elements) (close n : ℕ) (bytes : List ℕ) (one : OneOf end (items more)) : Type 0 where
  pub found : List Tree
  pub found_is : found ≡ up_to end (items more) one
  pub within : Within end found
  pub later : Elements
  pub split : more ≡ and_more found later
  pub front : List ℕ
  pub back : List ℕ
  pub joined : bytes ≡ front ++ back
  pub ends : n + length front ≡ end
  pub after : Then White (SpellsMoreElements later close) end back
  pub last : (t : Tree) → ItEnds end (last_of t found)
  pub leads : (stack : List Frame) (place : ℕ) (done : List Tree) (t : Tree) (leaf : Leaf) → Over t n leaf
      → Leads (at (in_array place done ∷ stack) leaf) n front (at (in_array place (done_after done t found) ∷ stack) (value_done (last_of t found)))

pub chain : (end : ℕ) (more : Elements) (close n : ℕ) (bytes : List ℕ) → Then White (SpellsMoreElements more close) n bytes → (one : OneOf end (items more))
    → Chain end more close n bytes one
chain end end_of_array close n bytes h one = absurd one
chain end (element v more) close n bytes h (inl i) =
    let x = next v more close n bytes h in
    let e : n + length x.front ≡ end = sym (x.ends i.0) ∙ i.1 in
    record {
      found = v ∷ [];
      found_is = refl;
      within = ((λ k. omega (arith, i.1)), tt);
      later = more;
      split = refl;
      front = x.front;
      back = x.back;
      joined = x.joined;
      ends = e;
      after = SpelledForms.moved (Then White (SpellsMoreElements more close)) e refl x.after;
      last = λ t. i;
      leads = λ stack place done t leaf o.
          (let g = x.leads stack place done t leaf o in
          let P : Leaf → Type 0 = λ last. Leads (at (in_array place done ∷ stack) leaf) n x.front (at (in_array place (t ∷ done) ∷ stack) last) in
          subst P (bracket_done v (n + length x.front) g.0 i.0 g.2) g.1);
    }
chain end (element v more) close n bytes h (inr one) =
    let x = next v more close n bytes h in
    let r = chain end more close (n + length x.front) x.back x.after one in
    record {
      found = v ∷ r.found;
      found_is = ap (λ vs. v ∷ vs) r.found_is;
      within = ((λ k. omega (arith, x.ends k, r.ends)), r.within);
      later = r.later;
      split = ap (λ es. element v es) r.split;
      front = x.front ++ r.front;
      back = r.back;
      joined = x.joined ∙ ap (λ xs. x.front ++ xs) r.joined ∙ sym (append_assoc x.front r.front r.back);
      ends = omega (arith, r.ends, length-append x.front r.front);
      after = r.after;
      last = λ t. r.last v;
      leads = λ stack place done t leaf o.
          (let g = x.leads stack place done t leaf o in
          leads_on x.front r.front refl g.1 (r.leads stack place (t ∷ done) v g.0 g.2));
    }
