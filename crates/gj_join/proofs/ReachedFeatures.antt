-- The bytes of a text up to the end of a feature lead the machine to a state after an element of the array `features`.
use Rattle.std.proofs.Common.{◌≡◌, ℕ, ◌+◌, inl, inr, Bool, true, false, if◌then◌else◌, List, [], ◌∷◌, ◌++◌, length, Some, refl, sym, ap, subst, ◌∙◌, arith, append_assoc}
use Rattle.std.proofs.lemmas.List.{length-append}
use Rattle.std.specs.List.{AllByRecursion}
use Rattle.gj_json.specs.Bytes.{colon as colon_byte}
use Rattle.gj_json.specs.declared.class.Class.TheVariants.{Colon as colon}
use Rattle.gj_json.specs.declared.names.Known.TheVariants.{Features}
use Rattle.gj_json.specs.Grammar.{Then, White, Exactly, Quoted, Spells, SpellsElements, SpellsMoreMembers}
use Rattle.gj_json.specs.Names.{known_of}
use Rattle.gj_json.specs.Tree.{Tree, constant, number, string, array, object, Elements, end_of_array, element, Members, end_of_object, member}
use Rattle.gj_json.specs.Broken.{Member, Frame, in_array, in_object, Leaf, value_due, value_done, Partial}
use Rattle.gj_json.specs.Internal.TextMachine.{step_leaf}
use Rattle.gj_json.proofs.Grammar.ClassOfBytes.{class_is}
use Rattle.gj_json.proofs.Grammar.SpelledForms
use Rattle.gj_json.proofs.Machine.ValuePaths.{Leads, at, leads_none, leads_byte, leads_on, awaiting, awaiting_white, Over, over_white}
use Rattle.gj_json.proofs.Machine.ReadValues.{naming, naming_white, colon_stays, quoted_leads, value_leads, opens_array, opens_object, comma_object, behind_comma}
use Rattle.gj_coords.specs.Items.{items, elements_of}
use Rattle.gj_rules.specs.Members.{same}
use Rattle.gj_rules.specs.TextWarnings.{first_value}
use Rattle.gj_rules.specs.FeatureFindings.{elements_if, features_of}
use Rattle.gj_join.proofs.ElementRuns.{ItEnds, OneOf, bracket_done, value_ends, done_after, last_of, chain}

-- ---- states and what leads to them

abbrev pub NoFeatures : List Member → Type 0
NoFeatures members = AllByRecursion (λ m. same Features (known_of m.name) ≡ false) members

-- what is open around a feature: the array, and the text's object, in which no member before it has the name
pub record Around : Type 0 where
  pub place : ℕ
  pub root : ℕ
  pub members : List Member
  pub name_place : ℕ
  pub name : List ℕ
  pub name_end : ℕ
  pub named : same Features (known_of name) ≡ true
  pub fresh : NoFeatures members

abbrev pub open_in : Around → List Tree → List Frame
open_in a done = in_array a.place done ∷ in_object a.root a.members a.name_place a.name a.name_end ∷ []

abbrev pub after_feature : Around → List Tree → Tree → Partial
after_feature a done v = at (open_in a done) (value_done v)

-- some first bytes lead there, and end at the place
pub record Reach (end : ℕ) (from : Partial) (n : ℕ) (bytes : List ℕ) : Type 0 where
  pub front : List ℕ
  pub back : List ℕ
  pub joined : bytes ≡ front ++ back
  pub ends : n + length front ≡ end
  pub around : Around
  pub done : List Tree
  pub value : Tree
  pub last : ItEnds end value
  pub leads : Leads from n front (after_feature around done value)

reach_on : {s t : Partial} {n end : ℕ} {bytes : List ℕ} (first rest : List ℕ) → bytes ≡ first ++ rest → Leads s n first t → Reach end t (n + length first) rest
    → Reach end s n bytes
reach_on {n = n} first rest e l r = record {
  front = first ++ r.front;
  back = r.back;
  joined = e ∙ ap (λ xs. first ++ xs) r.joined ∙ sym (append_assoc first r.front r.back);
  ends = omega (arith, r.ends, length-append first r.front);
  around = r.around;
  done = r.done;
  value = r.value;
  last = r.last;
  leads = leads_on first r.front refl l r.leads;
}

pub then_reach : {A K : ℕ → List ℕ → Type 0} {s t : Partial} {n end : ℕ} {bytes : List ℕ} → (h : Then A K n bytes) → Leads s n h.first t
    → Reach end t (n + length h.first) h.rest → Reach end s n bytes
then_reach h l r = reach_on h.first h.rest h.joined l r

byte_reach : {K : ℕ → List ℕ → Type 0} {s t : Partial} {n a end : ℕ} {bytes : List ℕ} → (h : Then (Exactly (a ∷ [])) K n bytes)
    → step_leaf s.stack s.leaf n a ≡ Some t → ((rest : List ℕ) → K (n + 1) rest → Reach end t (n + 1) rest) → Reach end s n bytes
byte_reach {K} {s} {t} {n} {a} {end} {bytes} h e k =
    let f : h.first ≡ a ∷ [] = h.before in
    let l : length h.first ≡ 1 = ap length f in
    reach_on (a ∷ []) h.rest (h.joined ∙ ap (λ xs. xs ++ h.rest) f) (leads_byte e (leads_none t (n + 1)))
    (k h.rest (SpelledForms.moved K (omega (arith, l)) refl h.after))

-- it is among the first of the bytes
pub within : {s : Partial} {n end : ℕ} {bytes : List ℕ} (first rest : List ℕ) → bytes ≡ first ++ rest → Reach end s n first → Reach end s n bytes
within first rest e r = record {
  front = r.front;
  back = r.back ++ rest;
  joined = e ∙ ap (λ xs. xs ++ rest) r.joined ∙ append_assoc r.front r.back rest;
  ends = r.ends;
  around = r.around;
  done = r.done;
  value = r.value;
  last = r.last;
  leads = r.leads;
}

-- ---- the elements

module _ (root : ℕ) (members : List Member) (np : ℕ) (name : List ℕ) (ne : ℕ) (named : same Features (known_of name) ≡ true) (fresh : NoFeatures members)
    (end : ℕ) where
  abbrev Root : List Frame
  Root = in_object root members np name ne ∷ []

  around : ℕ → Around
  around place = record { place = place; root = root; members = members; name_place = np; name = name; name_end = ne; named = named; fresh = fresh }

  elements_reach : (es : Elements) (place close n : ℕ) (bytes : List ℕ) → SpellsElements es close n bytes → OneOf end (items es)
      → Reach end (awaiting (in_array place [] ∷ Root)) n bytes
  unfolding around
  elements_reach end_of_array place close n bytes h one = absurd one
  elements_reach (element v more) place close n bytes h (inl i) =
      let g = value_leads v (in_array place [] ∷ Root) n h.first h.before in
      let P : Leaf → Type 0 = λ leaf. Leads (awaiting (in_array place [] ∷ Root)) n h.first (at (in_array place [] ∷ Root) leaf) in
      record {
        front = h.first;
        back = h.rest;
        joined = h.joined;
        ends = sym (value_ends v n h.first i.0 h.before) ∙ i.1;
        around = around place;
        done = [];
        value = v;
        last = i;
        leads = subst P (bracket_done v (n + length h.first) g.0 i.0 g.2) g.1;
      }
  elements_reach (element v more) place close n bytes h (inr later) =
      let g = value_leads v (in_array place [] ∷ Root) n h.first h.before in
      let r = chain end more close (n + length h.first) h.rest h.after later in
      record {
        front = h.first ++ r.front;
        back = r.back;
        joined = h.joined ∙ ap (λ xs. h.first ++ xs) r.joined ∙ sym (append_assoc h.first r.front r.back);
        ends = omega (arith, r.ends, length-append h.first r.front);
        around = around place;
        done = done_after [] v r.found;
        value = last_of v r.found;
        last = r.last v;
        leads = leads_on h.first r.front refl g.1 (r.leads Root place [] v g.0 g.2);
      }

  -- in the value of the member
  value_reach : (v : Tree) (n : ℕ) (bytes : List ℕ) → Spells v n bytes → OneOf end (elements_of v) → Reach end (awaiting Root) n bytes
  value_reach (array place es close) n bytes h one =
      byte_reach h.1 (opens_array Root n)
      (λ rest k. then_reach k (awaiting_white (in_array n [] ∷ Root) k.first _ k.before) (elements_reach es n close _ k.rest k.after one))
  value_reach (constant which place) n bytes h one = absurd one
  value_reach (number place literal last) n bytes h one = absurd one
  value_reach (string place content last) n bytes h one = absurd one
  value_reach (object place ms close) n bytes h one = absurd one

-- ---- members

abbrev Member_ : ℕ → List ℕ → ℕ → Tree → Members → ℕ → ℕ → List ℕ → Type 0
Member_ np name ne v more close n bytes =
    Then (Quoted np name ne)
    (Then White (Then (Exactly (colon_byte ∷ [])) (Then White (Then (Spells v) (Then White (SpellsMoreMembers more close)))))) n bytes

abbrev Others : ℕ → Members → ℕ → Type 0
Others end more close = (root : ℕ) (done : List Member) (np : ℕ) (name : List ℕ) (ne : ℕ) (t : Tree) (n : ℕ) (bytes : List ℕ) (leaf : Leaf)
    → NoFeatures done → same Features (known_of name) ≡ false → Over t n leaf
    → Then White (SpellsMoreMembers more close) n bytes → OneOf end (elements_if (first_value Features more))
    → Reach end (at (in_object root done np name ne ∷ []) leaf) n bytes

member_reach : (end root : ℕ) (done : List Member) (np : ℕ) (name : List ℕ) (ne : ℕ) (v : Tree) (more : Members) (close n : ℕ) (bytes : List ℕ)
    → NoFeatures done → Others end more close → Member_ np name ne v more close n bytes
    → OneOf end (elements_if (if same Features (known_of name) then Some v else first_value Features more)) → Reach end (at [] (naming root done)) n bytes
member_reach end root done np name ne v more close n bytes fresh others h one =
    then_reach h (quoted_leads [] root done np name ne n h.first h.before)
    (then_reach h.after (colon_stays [] root done np name ne h.after.first _ h.after.before)
    (byte_reach {t = at (in_object root done np name ne ∷ []) value_due} h.after.after (rw (class_is colon colon_byte refl (λ e. cc)) refl)
    (λ rest j. then_reach j (awaiting_white (in_object root done np name ne ∷ []) j.first _ j.before)
    (by_name (same Features (known_of name)) refl j.rest j.after one))))
  where
    by_name : (b : Bool) → same Features (known_of name) ≡ b → {m : ℕ} (rest : List ℕ) → Then (Spells v) (Then White (SpellsMoreMembers more close)) m rest
        → OneOf end (elements_if (if b then Some v else first_value Features more)) → Reach end (awaiting (in_object root done np name ne ∷ [])) m rest
    by_name true e rest k one = within k.first k.rest k.joined (value_reach root done np name ne e fresh end v _ k.first k.before one)
    by_name false e rest k one =
        let g = value_leads v (in_object root done np name ne ∷ []) _ k.first k.before in
        then_reach k g.1 (others root done np name ne v _ k.rest g.0 fresh e g.2 k.after one)

more_members_reach : (end : ℕ) (more : Members) (close : ℕ) → Others end more close
more_members_reach end end_of_object close root done np name ne t n bytes leaf fresh other o h one = absurd one
more_members_reach end (member mp mname me v more) close root done np name ne t n bytes leaf fresh other o h one =
    let w = over_white (in_object root done np name ne ∷ []) t leaf h.first n o h.before in
    then_reach h w.1 (byte_reach h.after (comma_object [] root done np name ne t _ w.0 w.2)
    (λ rest k. then_reach k (naming_white [] root (behind_comma done np name ne t) k.first _ k.before)
    (member_reach end root (behind_comma done np name ne t) mp mname me v more close _ k.rest (other, fresh) (more_members_reach end more close) k.after one)))

-- in the text's object
pub root_reach : (end : ℕ) (v : Tree) (n : ℕ) (bytes : List ℕ) → Spells v n bytes → OneOf end (features_of v) → Reach end (awaiting []) n bytes
root_reach end (object place (member mp mname me v more) close) n bytes h one =
    byte_reach h.1 (opens_object [] n)
    (λ rest k. then_reach k (naming_white [] n [] k.first _ k.before)
    (member_reach end n [] mp mname me v more close _ k.rest tt (more_members_reach end more close) k.after one))
root_reach end (object place end_of_object close) n bytes h one = absurd one
root_reach end (array place es close) n bytes h one = absurd one
root_reach end (constant which place) n bytes h one = absurd one
root_reach end (number place literal last) n bytes h one = absurd one
root_reach end (string place content last) n bytes h one = absurd one
