-- Where the elements of an array stand in a text, and what follows each.
use Rattle.gj_split.proofs.Common.{AllByRecursion, Bool, Exactly, IsText, IsWhite, List, Members, Option, Some, Spells, SpellsElements, SpellsMembers}
use Rattle.gj_split.proofs.Common.{SpellsMoreElements, SpellsMoreMembers, Text, Then, Tree, White, add-zero, ap, append_assoc, arith, array}
use Rattle.gj_split.proofs.Common.{close_bracket, constant, depth, element, end_of_array, end_of_object, false, features_of, if◌then◌else◌, inl, inr}
use Rattle.gj_split.proofs.Common.{length, member, number, object, refl, string, subst, sym, true, ℕ, [], ◌++◌, ◌+◌, ◌∙◌, ◌∷◌, ◌≡◌, ◌≤◌, ◌⊎◌}
use Rattle.std.proofs.Common.{max}
use Rattle.std.proofs.Math.Nat.{le-max_left, le-max_right}
use Rattle.std.proofs.lemmas.List.{length-append, append-nil}
use Rattle.gj_json.specs.declared.names.Known.TheVariants.{Features}
use Rattle.gj_json.specs.Bytes.{comma, colon}
use Rattle.gj_json.specs.Names.{known_of}
use Rattle.gj_json.specs.Tree as Tree
use Rattle.gj_json.specs.Tree.{elements_depth, members_depth}
use Rattle.gj_coords.specs.Items.{items, elements_of}
use Rattle.gj_rules.specs.Members.{same}
use Rattle.gj_rules.specs.TextWarnings.{first_value}
use Rattle.gj_rules.specs.FeatureFindings.{elements_if}

-- ---- values in bytes

-- the byte after an element
abbrev pub Follows : ℕ → Type 0
Follows b = IsWhite b ⊎ (b ≡ comma) ⊎ (b ≡ close_bracket)

abbrev pub IsFollowed : List ℕ → Type 0
IsFollowed [] = ⊥
IsFollowed (b ∷ more) = Follows b

-- a value stands in bytes of which the first has this place
pub record StandsIn (v : Tree) (n : ℕ) (bytes : List ℕ) : Type 0 where
  pub before : List ℕ
  pub own : List ℕ
  pub after : List ℕ
  pub joined : bytes ≡ before ++ (own ++ after)
  pub spelled : Spells v (n + length before) own

-- and an element too
pub record IsElementIn (v : Tree) (n : ℕ) (bytes : List ℕ) : Type 0 where
  pub stands : StandsIn v n bytes
  pub followed : IsFollowed stands.after

still_followed : (xs ys : List ℕ) → IsFollowed xs → IsFollowed (xs ++ ys)
still_followed [] ys h = absurd h
still_followed (b ∷ xs) ys h = h

regrouped : (a b c d e : List ℕ) → a ++ ((b ++ (c ++ d)) ++ e) ≡ (a ++ b) ++ (c ++ (d ++ e))
regrouped a b c d e = simp append_assoc refl

-- in a part of the bytes
in_part : (v : Tree) (n : ℕ) (bytes first part last : List ℕ) → bytes ≡ first ++ (part ++ last) → StandsIn v (n + length first) part → StandsIn v n bytes
in_part v n bytes first part last e s = record {
  before = first ++ s.before;
  own = s.own;
  after = s.after ++ last;
  joined = e ∙ (ap (λ xs. first ++ (xs ++ last)) s.joined ∙ regrouped first s.before s.own s.after last);
  spelled = subst (λ m. Spells v m s.own) (counted n (length first) (length s.before) (length (first ++ s.before)) (length-append first s.before)) s.spelled;
}
  where
    counted : (n a b c : ℕ) → c ≡ a + b → n + a + b ≡ n + c
    counted n a b c e = omega (arith, e)

element_in_part : (v : Tree) (n : ℕ) (bytes first part last : List ℕ) → bytes ≡ first ++ (part ++ last) → IsElementIn v (n + length first) part
    → IsElementIn v n bytes
unfolding in_part
element_in_part v n bytes first part last e s =
    record { stands = in_part v n bytes first part last e s.stands; followed = still_followed s.stands.after last s.followed }

-- in the bytes after some
element_after : (v : Tree) (n : ℕ) (bytes first rest : List ℕ) → bytes ≡ first ++ rest → IsElementIn v (n + length first) rest → IsElementIn v n bytes
element_after v n bytes first rest e s = element_in_part v n bytes first rest [] (e ∙ ap (λ xs. first ++ xs) (sym (append-nil rest))) s

-- ---- all of some values

pub each : (P Q : Tree → Type 0) → ((v : Tree) → P v → Q v) → (vs : List Tree) → AllByRecursion P vs → AllByRecursion Q vs
each P Q f [] h = tt
each P Q f (v ∷ vs) h = (f v h.0, each P Q f vs h.1)

abbrev AreElementsIn : List Tree → ℕ → List ℕ → Type 0
AreElementsIn vs n bytes = AllByRecursion (λ v. IsElementIn v n bytes) vs

elements_after : (vs : List Tree) (n : ℕ) (bytes first rest : List ℕ) → bytes ≡ first ++ rest → AreElementsIn vs (n + length first) rest
    → AreElementsIn vs n bytes
elements_after vs n bytes first rest e h =
    each (λ v. IsElementIn v (n + length first) rest) (λ v. IsElementIn v n bytes) (λ v s. element_after v n bytes first rest e s) vs h

-- ---- the elements of an array

more_follow : (es : Tree.Elements) (close n : ℕ) (bytes : List ℕ) → SpellsMoreElements es close n bytes → IsFollowed bytes
more_follow end_of_array close n bytes h = subst IsFollowed (sym h.0) (inr (inr refl))
more_follow (element v more) close n bytes h = subst IsFollowed (sym (h.joined ∙ ap (λ xs. xs ++ h.rest) h.before)) (inr (inl refl))

white_follow : (es : Tree.Elements) (close n : ℕ) (bytes : List ℕ) → Then White (SpellsMoreElements es close) n bytes → IsFollowed bytes
white_follow es close n bytes h = go h.first h.joined h.before
  where
    go : (ws : List ℕ) → bytes ≡ ws ++ h.rest → White n ws → IsFollowed bytes
    go [] e w = subst IsFollowed (sym e) (more_follow es close (n + length h.first) h.rest h.after)
    go (b ∷ ws) e w = subst IsFollowed (sym e) (inl w.0)

-- an element at the front
front_element : (v : Tree) (es : Tree.Elements) (close n : ℕ) (bytes : List ℕ) → Then (Spells v) (Then White (SpellsMoreElements es close)) n bytes
    → IsElementIn v n bytes
front_element v es close n bytes h = record {
  stands = record { before = []; own = h.first; after = h.rest; joined = h.joined; spelled = subst (λ m. Spells v m h.first) (sym (add-zero n)) h.before };
  followed = white_follow es close (n + length h.first) h.rest h.after;
}

mutual
  elements_in : (es : Tree.Elements) (close n : ℕ) (bytes : List ℕ) → SpellsElements es close n bytes → AreElementsIn (items es) n bytes
  elements_in end_of_array close n bytes h = tt
  elements_in (element v more) close n bytes h = (
    front_element v more close n bytes h,
    elements_after (items more) n bytes h.first h.rest h.joined
        (elements_after (items more) (n + length h.first) h.rest h.after.first h.after.rest h.after.joined
        (more_elements_in more close _ h.after.rest h.after.after)),
  )

  more_elements_in : (es : Tree.Elements) (close n : ℕ) (bytes : List ℕ) → SpellsMoreElements es close n bytes → AreElementsIn (items es) n bytes
  more_elements_in end_of_array close n bytes h = tt
  more_elements_in (element v more) close n bytes h =
      elements_after (v ∷ items more) n bytes h.first h.rest h.joined
      (elements_after (v ∷ items more) (n + length h.first) h.rest h.after.first h.after.rest h.after.joined (
        front_element v more close _ h.after.rest h.after.after,
        elements_after (items more) _ h.after.rest h.after.after.first h.after.after.rest h.after.after.joined
            (elements_after (items more) _ h.after.after.rest h.after.after.after.first h.after.after.after.rest h.after.after.after.joined
            (more_elements_in more close _ h.after.after.after.rest h.after.after.after.after)),
      ))

array_in : (place : ℕ) (es : Tree.Elements) (close n : ℕ) (bytes : List ℕ) → Spells (array place es close) n bytes → AreElementsIn (items es) n bytes
array_in place es close n bytes h =
    elements_after (items es) n bytes h.1.first h.1.rest h.1.joined
    (elements_after (items es) (n + length h.1.first) h.1.rest h.1.after.first h.1.after.rest h.1.after.joined
    (elements_in es close _ h.1.after.rest h.1.after.after))

value_in : (v : Tree) (n : ℕ) (bytes : List ℕ) → Spells v n bytes → AreElementsIn (elements_of v) n bytes
value_in (array place es close) n bytes h = array_in place es close n bytes h
value_in other n bytes h = tt

-- ---- the features

-- the elements of the value of `features`, where it stands among members
abbrev AreFeaturesIn : Option Tree → ℕ → List ℕ → Type 0
AreFeaturesIn found n bytes = AreElementsIn (elements_if found) n bytes

features_after : (found : Option Tree) (n : ℕ) (bytes first rest : List ℕ) → bytes ≡ first ++ rest → AreFeaturesIn found (n + length first) rest
    → AreFeaturesIn found n bytes
features_after found n bytes first rest e h = elements_after (elements_if found) n bytes first rest e h

front_value : (v : Tree) (B : ℕ → List ℕ → Type 0) (n : ℕ) (bytes : List ℕ) → Then (Spells v) B n bytes → AreElementsIn (elements_of v) n bytes
front_value v B n bytes h =
    each (λ w. IsElementIn w n h.first) (λ w. IsElementIn w n bytes)
    (λ w s. element_in_part w n bytes [] h.first h.rest h.joined (subst (λ m. IsElementIn w m h.first) (sym (add-zero n)) s)) (elements_of v)
    (value_in v n h.first h.before)

either : (t : Bool) (v : Tree) (o : Option Tree) (n : ℕ) (bytes : List ℕ) → AreElementsIn (elements_of v) n bytes → AreFeaturesIn o n bytes
    → AreFeaturesIn (if t then Some v else o) n bytes
either true v o n bytes h k = h
either false v o n bytes h k = k

-- after the name of a member
member_in : (name : List ℕ) (v : Tree) (more : Members) (close n : ℕ) (bytes first rest : List ℕ)
    → ((m : ℕ) (b : List ℕ) → SpellsMoreMembers more close m b → AreFeaturesIn (first_value Features more) m b) → bytes ≡ first ++ rest
    → Then White (Then (Exactly (colon ∷ [])) (Then White (Then (Spells v) (Then White (SpellsMoreMembers more close))))) (n + length first) rest
    → AreFeaturesIn (if same Features (known_of name) then Some v else first_value Features more) n bytes
member_in name v more close n bytes first rest others e h =
    let found = if same Features (known_of name) then Some v else first_value Features more in
    features_after found n bytes first rest e
    (features_after found _ rest h.first h.rest h.joined
    (features_after found _ h.rest h.after.first h.after.rest h.after.joined
    (features_after found _ h.after.rest h.after.after.first h.after.after.rest h.after.after.joined
    (either (same Features (known_of name)) v (first_value Features more) _ h.after.after.rest
    (front_value v (Then White (SpellsMoreMembers more close)) _ h.after.after.rest h.after.after.after)
    (features_after (first_value Features more) _ h.after.after.rest h.after.after.after.first h.after.after.after.rest h.after.after.after.joined
    (features_after (first_value Features more) _ h.after.after.after.rest h.after.after.after.after.first h.after.after.after.after.rest
    h.after.after.after.after.joined
    (others _ h.after.after.after.after.rest h.after.after.after.after.after)))))))

mutual
  members_in : (ms : Members) (close n : ℕ) (bytes : List ℕ) → SpellsMembers ms close n bytes → AreFeaturesIn (first_value Features ms) n bytes
  members_in end_of_object close n bytes h = tt
  members_in (member place name end v more) close n bytes h =
      member_in name v more close n bytes h.first h.rest (λ m b. more_members_in more close m b) h.joined h.after

  more_members_in : (ms : Members) (close n : ℕ) (bytes : List ℕ) → SpellsMoreMembers ms close n bytes → AreFeaturesIn (first_value Features ms) n bytes
  more_members_in end_of_object close n bytes h = tt
  more_members_in (member place name end v more) close n bytes h =
      features_after (first_value Features (member place name end v more)) n bytes h.first h.rest h.joined
      (features_after (first_value Features (member place name end v more)) (n + length h.first) h.rest h.after.first h.after.rest h.after.joined
      (member_in name v more close _ h.after.rest h.after.after.first h.after.after.rest
      (λ m b. more_members_in more close m b) h.after.after.joined h.after.after.after))

root_in : (v : Tree) (n : ℕ) (bytes : List ℕ) → Spells v n bytes → AreElementsIn (features_of v) n bytes
root_in (object place members close) n bytes h =
    features_after (first_value Features members) n bytes h.1.first h.1.rest h.1.joined
    (features_after (first_value Features members) (n + length h.1.first) h.1.rest h.1.after.first h.1.after.rest h.1.after.joined
    (members_in members close _ h.1.after.rest h.1.after.after))
root_in other n bytes h = tt

-- each feature of a text stands in its bytes
pub features_in : (text : Text) (bytes : List ℕ) → IsText text bytes → AllByRecursion (λ v. IsElementIn v 0 bytes) (features_of text.value)
features_in text bytes h =
    let k = h.after.after in
    let vs = features_of text.value in
    elements_after vs 0 bytes h.first h.rest h.joined
    (elements_after vs (0 + length h.first) h.rest h.after.first h.after.rest h.after.joined
    (each (λ w. IsElementIn w _ k.first) (λ w. IsElementIn w _ h.after.rest)
    (λ w s. element_in_part w _ h.after.rest [] k.first k.rest k.joined (subst (λ m. IsElementIn w m k.first) (sym (add-zero _)) s)) vs
    (root_in text.value _ k.first k.before)))

-- ---- depths

abbrev pub AreWithin : List Tree → ℕ → Type 0
AreWithin vs levels = AllByRecursion (λ v. depth v ≤ levels) vs

deeper : (vs : List Tree) (m n : ℕ) → m ≤ n → AreWithin vs m → AreWithin vs n
deeper vs m n l h = each (λ v. depth v ≤ m) (λ v. depth v ≤ n) (λ v k. omega (arith, k, l)) vs h

items_within : (es : Tree.Elements) → AreWithin (items es) (elements_depth es)
items_within end_of_array = tt
items_within (element v more) = (
  le-max_left (depth v) (elements_depth more),
  deeper (items more) (elements_depth more) _ (le-max_right (depth v) (elements_depth more)) (items_within more),
)

elements_within : (v : Tree) → AreWithin (elements_of v) (depth v)
elements_within (array place es close) = deeper (items es) (elements_depth es) _ (omega arith) (items_within es)
elements_within other = tt

found_within : (ms : Members) → AreWithin (elements_if (first_value Features ms)) (members_depth ms)
found_within end_of_object = tt
found_within (member place name end v more) =
    by_test (same Features (known_of name)) (deeper (elements_of v) (depth v) _ (le-max_left (depth v) (members_depth more)) (elements_within v))
    (deeper (elements_if (first_value Features more)) (members_depth more) _ (le-max_right (depth v) (members_depth more)) (found_within more))
  where
    by_test : (t : Bool) → AreWithin (elements_of v) (max (depth v) (members_depth more))
        → AreWithin (elements_if (first_value Features more)) (max (depth v) (members_depth more)) →
        AreWithin (elements_if (if t then Some v else first_value Features more)) (max (depth v) (members_depth more))
    by_test true h k = h
    by_test false h k = k

pub features_within : (v : Tree) → AllByRecursion (λ w. depth w ≤ depth v) (features_of v)
features_within (object place members close) =
    deeper (elements_if (first_value Features members)) (members_depth members) _ (omega arith) (found_within members)
features_within other = tt
