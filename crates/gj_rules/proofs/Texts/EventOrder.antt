-- The events of a text are complete one after the other.
use Rattle.gj_rules.proofs.Common.{AllByRecursion, Bool, IsText, List, Members, Spells, SpellsElements, SpellsMembers, SpellsMoreElements}
use Rattle.gj_rules.proofs.Common.{SpellsMoreMembers, Text, Told, Tree, ap, append_assoc, arith, array, at_of, by, constant, element, elements_told}
use Rattle.gj_rules.proofs.Common.{end_of_array, end_of_object, event_of, false, length, map, mark_told, member, members_told, nat_le, nat_tests}
use Rattle.gj_rules.proofs.Common.{number, object, plain, refl, string, subst, text_told, told, true, [], ◌++◌, ◌+◌, ◌<◌, ◌∙◌, ◌∷◌, ◌≤◌}
use Rattle.std.proofs.Common.{◌≡◌, ℕ}
use Rattle.std.proofs.lemmas.List.{length-append, append-nil}
use Rattle.gj_json.specs.declared.event.What.TheVariants as What
use Rattle.gj_json.specs.Bytes.{mark_bytes}
use Rattle.gj_json.specs.Grammar.{Then, White, Ends, Quoted, letters_of}
use Rattle.gj_json.specs.Text.{SpellsMark}
use Rattle.gj_json.specs.Tree as Tree
use Rattle.gj_rules.proofs.Texts.TimedEvents.{timed_of}
use Rattle.gj_json.proofs.Events.EventTimes.{constant_long}

-- ---- order

abbrev pub Late : ℕ → List Told → Type 0
Late n xs = AllByRecursion (λ x. n < at_of x) xs

abbrev pub InTime : ℕ → List Told → Type 0
InTime n xs = AllByRecursion (λ x. at_of x ≤ n) xs

abbrev pub After : ℕ → List Told → Type 0
After m xs = AllByRecursion (λ x. m ≤ at_of x) xs

abbrev pub InOrder : List Told → Type 0
InOrder [] = Unit {0}
InOrder (x ∷ xs) = After (at_of x) xs × InOrder xs

pub order_behind : (xs ys : List Told) → InOrder (xs ++ ys) → InOrder ys
order_behind [] ys h = h
order_behind (x ∷ xs) ys h = order_behind xs ys h.1

pub late_after : (n m : ℕ) (xs : List Told) → n < m → After m xs → Late n xs
late_after n m [] l h = tt
late_after n m (x ∷ xs) l h = (omega (arith, h.0), late_after n m xs l h.1)

after_behind : (m : ℕ) (xs ys : List Told) → After m (xs ++ ys) → After m ys
after_behind m [] ys h = h
after_behind m (x ∷ xs) ys h = after_behind m xs ys h.1

pub late_behind : (n m : ℕ) (xs ys : List Told) → n < m → After m (xs ++ ys) → Late n ys
late_behind n m xs ys l h = late_after n m ys l (after_behind m xs ys h)

pub late_front : (n : ℕ) (xs ys : List Told) → Late n (xs ++ ys) → Late n xs
late_front n [] ys h = tt
late_front n (x ∷ xs) ys h = (h.0, late_front n xs ys h.1)

pub late_back : (n : ℕ) (xs ys : List Told) → Late n (xs ++ ys) → Late n ys
late_back n [] ys h = h
late_back n (x ∷ xs) ys h = late_back n xs ys h.1

-- which events are complete in a prefix
pub by_late : (n : ℕ) (xs : List Told) → Late n xs → by n (map timed_of xs) ≡ []
by_late n [] h = refl
by_late n (x ∷ xs) h = let e : nat_le (at_of x) n ≡ false = (let l : n < at_of x = h.0 in grind (arith, nat_tests)) in rw e (by_late n xs h.1)

pub by_in_time : (n : ℕ) (x : Told) (xs : List Told) → at_of x ≤ n → by n (map timed_of (x ∷ xs)) ≡ event_of x ∷ by n (map timed_of xs)
by_in_time n x xs l = let e : nat_le (at_of x) n ≡ true = grind (arith, nat_tests) in rw e refl

-- ---- of what is spelled

-- each is complete no sooner than the one before it, the first no sooner than m
abbrev pub Chain : ℕ → List Told → Type 0
Chain m [] = Unit {0}
Chain m (x ∷ xs) = (m ≤ at_of x) × Chain (at_of x) xs

chain_from : (k m : ℕ) (xs : List Told) → k ≤ m → Chain m xs → Chain k xs
chain_from k m [] l h = tt
chain_from k m (x ∷ xs) l h = (omega (arith, h.0), h.1)

chain_after : (k m : ℕ) (xs : List Told) → k ≤ m → Chain m xs → After k xs
chain_after k m [] l h = tt
chain_after k m (x ∷ xs) l h = (omega (arith, h.0), chain_after k (at_of x) xs (omega (arith, h.0)) h.1)

pub chain_order : (m : ℕ) (xs : List Told) → Chain m xs → InOrder xs
chain_order m [] h = tt
chain_order m (x ∷ xs) h = (chain_after (at_of x) (at_of x) xs (omega arith) h.1, chain_order (at_of x) xs h.1)

pub then_length : {First Rest : ℕ → List ℕ → Type 0} {n : ℕ} {bytes : List ℕ} → (h : Then First Rest n bytes) → length bytes ≡ length h.first + length h.rest
then_length h = ap length h.joined ∙ length-append h.first h.rest

-- where what is spelled ends
pub ends_at : {A : ℕ → List ℕ → Type 0} {n end : ℕ} {bytes : List ℕ} → Then A (Ends end) n bytes → end ≡ n + length bytes
ends_at h = let l : length h.rest ≡ 0 = ap length h.after.0 in omega (arith, h.after.1, then_length h, l)

pub quoted_ends : (place : ℕ) (content : List ℕ) (end : ℕ) {n : ℕ} {bytes : List ℕ} → Quoted place content end n bytes → (end ≡ n + length bytes) × (n < end)
quoted_ends place content end {n = n} h =
    let l : length h.1.first ≡ 1 = ap length h.1.before in
    let e = ends_at h.1.after.after in
    let k : end ≡ n + length h.1.first + (length h.1.after.first + length h.1.after.rest) = omega (arith, e) in
    (omega (arith, k, then_length h.1, then_length h.1.after), omega (arith, k, l))

pub closed_at : {close start b : ℕ} {bytes : List ℕ} → (bytes ≡ b ∷ []) × (close ≡ start) → close + 1 ≡ start + length bytes
closed_at {bytes = bytes} h = let l : length bytes ≡ 1 = ap length h.0 in omega (arith, h.1, l)

mutual
  chain_value : (v : Tree) (n : ℕ) (bytes : List ℕ) → Spells v n bytes → (m : ℕ) (rest : List Told) → m ≤ n + 1 → Chain (n + length bytes + 1) rest
      → Chain m (told v ++ rest)
  chain_value (constant which place) n bytes h m rest l r =
      let e : length bytes ≡ length (letters_of which) = ap length h.1 in
      (omega (arith, h.0, constant_long which), chain_from (place + length (letters_of which)) (n + length bytes + 1) rest (omega (arith, h.0, e)) r)
  chain_value (number place literal end) n bytes h m rest l r =
      let e = ends_at h.2 in
      (omega (arith, e), chain_from (end + 1) (n + length bytes + 1) rest (omega (arith, e)) r)
  chain_value (string place content end) n bytes h m rest l r =
      let e = quoted_ends place content end h in
      (omega (arith, e.1), chain_from end (n + length bytes + 1) rest (omega (arith, e.0)) r)
  chain_value (array place es close) n bytes h m rest l r =
      let one : length h.1.first ≡ 1 = ap length h.1.before in (
        omega (arith, h.0),
        rw (append_assoc (elements_told es) (plain (close + 1) close What.CloseArray ∷ []) rest)
            (chain_elements es close _ _ h.1.after.after (place + 1) rest (omega (arith, h.0, one))
            (chain_from _ (n + length bytes + 1) rest (omega (arith, then_length h.1, then_length h.1.after)) r)),
      )
  chain_value (object place ms close) n bytes h m rest l r =
      let one : length h.1.first ≡ 1 = ap length h.1.before in (
        omega (arith, h.0),
        rw (append_assoc (members_told ms) (plain (close + 1) close What.CloseObject ∷ []) rest)
            (chain_members ms close _ _ h.1.after.after (place + 1) rest (omega (arith, h.0, one))
            (chain_from _ (n + length bytes + 1) rest (omega (arith, then_length h.1, then_length h.1.after)) r)),
      )

  chain_elements : (es : Tree.Elements) (close n : ℕ) (bytes : List ℕ) → SpellsElements es close n bytes → (m : ℕ) (rest : List Told) → m ≤ n + 1
      → Chain (n + length bytes) rest
      → Chain m (elements_told es ++ plain (close + 1) close What.CloseArray ∷ rest)
  chain_elements end_of_array close n bytes h m rest l r = (omega (arith, h.1), chain_from (close + 1) (n + length bytes) rest (omega (arith, closed_at h)) r)
  chain_elements (element v more) close n bytes h m rest l r =
      rw (append_assoc (told v) (elements_told more) (plain (close + 1) close What.CloseArray ∷ rest))
      (chain_value v n h.first h.before m _ l
      (chain_more_elements more close _ _ h.after.after (n + length h.first + 1) rest (omega arith)
      (chain_from _ (n + length bytes) rest (omega (arith, then_length h, then_length h.after)) r)))

  chain_more_elements : (es : Tree.Elements) (close n : ℕ) (bytes : List ℕ) → SpellsMoreElements es close n bytes → (m : ℕ) (rest : List Told) → m ≤ n + 1
      → Chain (n + length bytes) rest
      → Chain m (elements_told es ++ plain (close + 1) close What.CloseArray ∷ rest)
  chain_more_elements end_of_array close n bytes h m rest l r =
      (omega (arith, h.1), chain_from (close + 1) (n + length bytes) rest (omega (arith, closed_at h)) r)
  chain_more_elements (element v more) close n bytes h m rest l r =
      let k = h.after.after in
      rw (append_assoc (told v) (elements_told more) (plain (close + 1) close What.CloseArray ∷ rest))
      (chain_value v _ k.first k.before m _ (omega arith)
      (chain_more_elements more close _ _ k.after.after (n + length h.first + length h.after.first + length k.first + 1) rest (omega arith)
      (chain_from _ (n + length bytes) rest (omega (arith, then_length h, then_length h.after, then_length k, then_length k.after)) r)))

  chain_members : (ms : Members) (close n : ℕ) (bytes : List ℕ) → SpellsMembers ms close n bytes → (m : ℕ) (rest : List Told) → m ≤ n + 1
      → Chain (n + length bytes) rest
      → Chain m (members_told ms ++ plain (close + 1) close What.CloseObject ∷ rest)
  chain_members end_of_object close n bytes h m rest l r = (omega (arith, h.1), chain_from (close + 1) (n + length bytes) rest (omega (arith, closed_at h)) r)
  chain_members (member place name end v more) close n bytes h m rest l r =
      let q = quoted_ends place name end h.before in
      let k = h.after.after in
      let i = k.after.after in (
        omega (arith, q.1),
        rw (append_assoc (told v) (members_told more) (plain (close + 1) close What.CloseObject ∷ rest))
            (chain_value v _ i.first i.before end _ (omega (arith, q.0))
            (chain_more_members more close _ _ i.after.after _ rest (omega arith)
            (chain_from _ (n + length bytes) rest
            (omega (arith, then_length h, then_length h.after, then_length k, then_length k.after, then_length i, then_length i.after)) r))),
      )

  chain_more_members : (ms : Members) (close n : ℕ) (bytes : List ℕ) → SpellsMoreMembers ms close n bytes → (m : ℕ) (rest : List Told) → m ≤ n + 1
      → Chain (n + length bytes) rest
      → Chain m (members_told ms ++ plain (close + 1) close What.CloseObject ∷ rest)
  chain_more_members end_of_object close n bytes h m rest l r =
      (omega (arith, h.1), chain_from (close + 1) (n + length bytes) rest (omega (arith, closed_at h)) r)
  chain_more_members (member place name end v more) close n bytes h m rest l r =
      let j = h.after.after in
      let q = quoted_ends place name end j.before in
      let k = j.after.after in
      let i = k.after.after in (
        omega (arith, q.1),
        rw (append_assoc (told v) (members_told more) (plain (close + 1) close What.CloseObject ∷ rest))
            (chain_value v _ i.first i.before end _ (omega (arith, q.0))
            (chain_more_members more close _ _ i.after.after _ rest (omega arith)
            (chain_from _ (n + length bytes) rest
            (omega (
              arith,
              then_length h,
              then_length h.after,
              then_length j,
              then_length j.after,
              then_length k,
              then_length k.after,
              then_length i,
              then_length i.after,
            )) r))),
      )

chain_told : (v : Tree) (n : ℕ) (bytes : List ℕ) (m : ℕ) → Spells v n bytes → m ≤ n + 1 → Chain m (told v)
chain_told v n bytes m h l = subst (λ (xs : List Told). Chain m xs) (append-nil (told v)) (chain_value v n bytes h m [] l tt)

chain_marked : (marked : Bool) (v : Tree) (bytes : List ℕ) → Then (SpellsMark marked) (Then White (Then (Spells v) White)) 0 bytes
    → Chain 0 (mark_told marked ++ told v)
chain_marked true v bytes h =
    let e : length h.first ≡ length mark_bytes = ap length h.before in
    (omega arith, chain_told v _ _ (length mark_bytes) h.after.after.before (omega (arith, e)))
chain_marked false v bytes h = chain_told v _ _ 0 h.after.after.before (omega arith)

pub in_order : (text : Text) (bytes : List ℕ) → IsText text bytes → InOrder (text_told text)
in_order text bytes h = chain_order 0 (text_told text) (chain_marked text.marked text.value bytes h)
