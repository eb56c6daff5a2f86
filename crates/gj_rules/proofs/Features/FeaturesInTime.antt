-- At most one feature of a text is complete with each of its bytes.
use Rattle.gj_rules.proofs.Common.{Bool, Features, IsText, List, Members, Spells, SpellsElements, SpellsMembers, SpellsMoreElements}
use Rattle.gj_rules.proofs.Common.{SpellsMoreMembers, Text, Tree, ap, arith, array, complete_at, complete_in, constant, element, elements_if}
use Rattle.gj_rules.proofs.Common.{elements_of, end_of_array, end_of_object, false, features_of, findings_by, findings_from, first_value}
use Rattle.gj_rules.proofs.Common.{if◌then◌else◌, items, length, member, nat_le, nat_tests, number, object, refl, same, string, suc, true, [], ◌+◌}
use Rattle.gj_rules.proofs.Common.{◌-◌, ◌<◌, ◌∷◌, ◌≤◌}
use Rattle.std.proofs.Common.{◌≡◌, ℕ, Option, Some}
use Rattle.gj_json.specs.Grammar.{letters_of}
use Rattle.gj_json.specs.Names.{known_of}
use Rattle.gj_json.specs.Tree as Tree
use Rattle.gj_rules.proofs.Texts.EventOrder.{then_length, ends_at, quoted_ends, closed_at}
use Rattle.gj_json.proofs.Events.EventTimes.{constant_long}

-- ---- each of some values is complete later than the one before it

abbrev Rising : ℕ → List Tree → Type 0
Rising m [] = Unit {0}
Rising m (v ∷ vs) = (m < complete_at v) × Rising (complete_at v) vs

rising_from : (k m : ℕ) (vs : List Tree) → k ≤ m → Rising m vs → Rising k vs
rising_from k m [] l h = tt
rising_from k m (v ∷ vs) l h = (omega (arith, h.0, l), h.1)

-- where what is spelled closes
mutual
  pub elements_end : (es : Tree.Elements) (close n : ℕ) (bytes : List ℕ) → SpellsElements es close n bytes → close + 1 ≡ n + length bytes
  elements_end end_of_array close n bytes h = closed_at h
  elements_end (element v more) close n bytes h = omega (arith, more_elements_end more close _ _ h.after.after, then_length h, then_length h.after)

  more_elements_end : (es : Tree.Elements) (close n : ℕ) (bytes : List ℕ) → SpellsMoreElements es close n bytes → close + 1 ≡ n + length bytes
  more_elements_end end_of_array close n bytes h = closed_at h
  more_elements_end (element v more) close n bytes h =
      let k = h.after.after in
      omega (arith, more_elements_end more close _ _ k.after.after, then_length h, then_length h.after, then_length k, then_length k.after)

mutual
  pub members_end : (ms : Members) (close n : ℕ) (bytes : List ℕ) → SpellsMembers ms close n bytes → close + 1 ≡ n + length bytes
  members_end end_of_object close n bytes h = closed_at h
  members_end (member place name end v more) close n bytes h =
      let k = h.after.after in
      let i = k.after.after in
      omega (
        arith,
        more_members_end more close _ _ i.after.after,
        then_length h,
        then_length h.after,
        then_length k,
        then_length k.after,
        then_length i,
        then_length i.after,
      )

  more_members_end : (ms : Members) (close n : ℕ) (bytes : List ℕ) → SpellsMoreMembers ms close n bytes → close + 1 ≡ n + length bytes
  more_members_end end_of_object close n bytes h = closed_at h
  more_members_end (member place name end v more) close n bytes h =
      let j = h.after.after in
      let k = j.after.after in
      let i = k.after.after in
      omega (
        arith,
        more_members_end more close _ _ i.after.after,
        then_length h,
        then_length h.after,
        then_length j,
        then_length j.after,
        then_length k,
        then_length k.after,
        then_length i,
        then_length i.after,
      )

-- where a value is complete that is spelled
pub complete_within : (v : Tree) (n : ℕ) (bytes : List ℕ) → Spells v n bytes → (n < complete_at v) × (complete_at v ≤ n + length bytes + 1)
complete_within (constant which place) n bytes h =
    let e : length bytes ≡ length (letters_of which) = ap length h.1 in
    (omega (arith, h.0, constant_long which), omega (arith, h.0, e))
complete_within (number place literal end) n bytes h = let e = ends_at h.2 in (omega (arith, e), omega (arith, e))
complete_within (string place content end) n bytes h = let e = quoted_ends place content end h in (omega (arith, e.1), omega (arith, e.0))
complete_within (array place es close) n bytes h =
    let e = elements_end es close _ _ h.1.after.after in
    let one : length h.1.first ≡ 1 = ap length h.1.before in
    (omega (arith, e, one), omega (arith, e, then_length h.1, then_length h.1.after))
complete_within (object place ms close) n bytes h =
    let e = members_end ms close _ _ h.1.after.after in
    let one : length h.1.first ≡ 1 = ap length h.1.before in
    (omega (arith, e, one), omega (arith, e, then_length h.1, then_length h.1.after))

rising_more : (es : Tree.Elements) (close n m : ℕ) (bytes : List ℕ) → m ≤ n + 1 → SpellsMoreElements es close n bytes → Rising m (items es)
rising_more end_of_array close n m bytes l h = tt
rising_more (element v more) close n m bytes l h =
    let k = h.after.after in
    let one : length h.first ≡ 1 = ap length h.before in
    let w = complete_within v _ k.first k.before in
    (omega (arith, l, one, w.0), rising_more more close _ (complete_at v) _ (omega (arith, w.1)) k.after.after)

rising_elements : (es : Tree.Elements) (close n : ℕ) (bytes : List ℕ) → SpellsElements es close n bytes → Rising n (items es)
rising_elements end_of_array close n bytes h = tt
rising_elements (element v more) close n bytes h =
    let w = complete_within v n h.first h.before in
    (w.0, rising_more more close _ (complete_at v) _ (omega (arith, w.1)) h.after.after)

rising_value : (v : Tree) (n : ℕ) (bytes : List ℕ) → Spells v n bytes → Rising 0 (elements_of v)
rising_value (array place es close) n bytes h = rising_from 0 _ (items es) (omega arith) (rising_elements es close _ _ h.1.after.after)
rising_value other n bytes h = tt

rising_first : (b : Bool) (v : Tree) (o : Option Tree) → Rising 0 (elements_of v) → Rising 0 (elements_if o) → Rising 0 (elements_if (if b then Some v else o))
rising_first true v o h k = h
rising_first false v o h k = k

rising_more_members : (ms : Members) (close n : ℕ) (bytes : List ℕ) → SpellsMoreMembers ms close n bytes → Rising 0 (elements_if (first_value Features ms))
rising_more_members end_of_object close n bytes h = tt
rising_more_members (member place name end v more) close n bytes h =
    let i = h.after.after.after.after.after.after in
    rising_first (same Features (known_of name)) v (first_value Features more) (rising_value v _ i.first i.before)
    (rising_more_members more close _ _ i.after.after)

rising_members : (ms : Members) (close n : ℕ) (bytes : List ℕ) → SpellsMembers ms close n bytes → Rising 0 (elements_if (first_value Features ms))
rising_members end_of_object close n bytes h = tt
rising_members (member place name end v more) close n bytes h =
    let i = h.after.after.after.after in
    rising_first (same Features (known_of name)) v (first_value Features more) (rising_value v _ i.first i.before)
    (rising_more_members more close _ _ i.after.after)

rising_features : (v : Tree) (n : ℕ) (bytes : List ℕ) → Spells v n bytes → Rising 0 (features_of v)
rising_features (object place ms close) n bytes h = rising_members ms close _ _ h.1.after.after
rising_features other n bytes h = tt

-- ---- how many are complete

few_later : (b n : ℕ) (vs : List Tree) → Rising b vs → length (complete_in n vs) ≤ n - b
few_later b n [] h = omega arith
few_later b n (v ∷ vs) h = cut (nat_le (complete_at v) n) refl (few_later (complete_at v) n vs h.1)
  where
    cut : (t : Bool) → nat_le (complete_at v) n ≡ t → length (complete_in n vs) ≤ n - complete_at v → length (if t then v ∷ complete_in n vs else []) ≤ n - b
    cut true e on = let l : complete_at v ≤ n = grind (arith, nat_tests) in omega (arith, l, on, h.0)
    cut false e on = omega arith

few_more : (b m n : ℕ) (vs : List Tree) → m ≤ n → Rising b vs → length (complete_in n vs) ≤ length (complete_in m vs) + (n - m)
few_more b m n [] l h = omega arith
few_more b m n (v ∷ vs) l h = cut (nat_le (complete_at v) m) refl (few_more (complete_at v) m n vs l h.1)
  where
    cut : (t : Bool) → nat_le (complete_at v) m ≡ t → length (complete_in n vs) ≤ length (complete_in m vs) + (n - m)
        → length (complete_in n (v ∷ vs)) ≤ length (if t then v ∷ complete_in m vs else []) + (n - m)
    cut true e on =
        let i : complete_at v ≤ m = grind (arith, nat_tests) in
        let j : nat_le (complete_at v) n ≡ true = grind (arith, nat_tests) in
        rw j (omega (arith, on))
    cut false e on =
        let i : m < complete_at v = grind (arith, nat_tests) in
        let k : length (complete_in n (v ∷ vs)) ≤ n - m = few_later m n (v ∷ vs) (i, h.1) in
        omega (arith, k)

pub as_many : (i : ℕ) (vs : List Tree) → length (findings_from i vs) ≡ length vs
as_many i [] = refl
as_many i (v ∷ vs) = ap suc (as_many (i + 1) vs)

pub few_in_time : (text : Text) (bytes : List ℕ) (m n : ℕ) → IsText text bytes → m ≤ n → length (findings_by n text) ≤ length (findings_by m text) + (n - m)
few_in_time text bytes m n t l =
    let r = rising_features text.value _ _ t.after.after.before in
    let k = few_more 0 m n (features_of text.value) l r in
    omega (arith, k, as_many 0 (complete_in n (features_of text.value)), as_many 0 (complete_in m (features_of text.value)))

pub few_by : (text : Text) (bytes : List ℕ) (n : ℕ) → IsText text bytes → length (findings_by n text) ≤ n
few_by text bytes n t =
    let r = rising_features text.value _ _ t.after.after.before in
    let k = few_later 0 n (features_of text.value) r in
    omega (arith, k, as_many 0 (complete_in n (features_of text.value)))
