-- Each event of a text has a byte of its own.
use Rattle.gj_json.proofs.Common.{Bool, Constant, Elements, IsNumber, IsText, List, Members, Null, Spells, SpellsElements, SpellsMark}
use Rattle.gj_json.proofs.Common.{SpellsMembers, SpellsMoreElements, SpellsMoreMembers, Text, Timed, Tree, all_events, ap, arith, array}
use Rattle.gj_json.proofs.Common.{constant, element, elements_events, end_of_array, end_of_object, events, false, inl, inr, length, length-map}
use Rattle.gj_json.proofs.Common.{letters_of, mark_events, member, members_events, object, string, text_events, timed, true, ℕ, [], ◌++◌, ◌+◌, ◌∷◌}
use Rattle.gj_json.proofs.Common.{◌≡◌, ◌≤◌}
use Rattle.std.proofs.Common.{length-append}
use Rattle.gj_number.specs.Grammar.{IsUnsigned, IsNatural}
use Rattle.gj_json.specs.declared.event.What.TheVariants as What
use Rattle.gj_json.specs.Tree.{number}
use Rattle.gj_json.specs.Grammar.{Then}

-- what stands after something is no longer than both
rest_fits : {First Rest : ℕ → List ℕ → Type 0} {start : ℕ} {bytes : List ℕ} (h : Then First Rest start bytes) → length h.first + length h.rest ≤ length bytes
rest_fits h = rw (h.joined, length-append h.first h.rest) (omega arith)

-- and one byte shorter after a byte
behind_byte : {Rest : ℕ → List ℕ → Type 0} {start : ℕ} {bytes : List ℕ} (b : ℕ) (h : Then (λ n xs. xs ≡ b ∷ []) Rest start bytes)
    → length h.rest + 1 ≤ length bytes
behind_byte b h = let e : length h.first ≡ 1 = ap length h.before in let f = rest_fits h in omega arith

constant_few : (which : Constant) → 1 ≤ length (letters_of which)
constant_few Null = omega arith
constant_few other = omega arith

natural_few : (xs ys : List ℕ) → IsNatural xs → 1 ≤ length (xs ++ ys)
natural_few [] ys h = absurd h
natural_few (x ∷ xs) ys h = omega arith

unsigned_few : (bytes : List ℕ) → IsUnsigned bytes → 1 ≤ length bytes
unsigned_few bytes h = rw h.3 (natural_few h.0 (h.1 ++ h.2) h.4)

number_few : (bytes : List ℕ) → IsNumber bytes → 1 ≤ length bytes
number_few bytes (inl h) = unsigned_few bytes h
number_few bytes (inr h) = rw h.1 (omega arith)

closed_few : (xs : List Timed) (x : Timed) (n : ℕ) → length xs + 1 ≤ n → length (xs ++ x ∷ []) ≤ n
closed_few xs x n h = rw (length-append xs (x ∷ [])) h

both_few : (xs ys : List Timed) (m n total : ℕ) → length xs ≤ m → length ys + 1 ≤ n → m + n ≤ total → length (xs ++ ys) + 1 ≤ total
both_few xs ys m n total h k l = rw (length-append xs ys) (omega arith)

opened_few : (xs : List Timed) (x : Timed) (n total : ℕ) → length xs + 1 ≤ n → n + 1 ≤ total → length (xs ++ x ∷ []) + 1 ≤ total
opened_few xs x n total h k = let l = closed_few xs x n h in omega arith

mutual
  few : (t : Tree) (n : ℕ) (bytes : List ℕ) → Spells t n bytes → length (events t) ≤ length bytes
  few (constant which place) n bytes h = rw h.1 (constant_few which)
  few (number place literal end) n bytes h =
      let e : length h.2.first ≡ length literal = ap length h.2.before in
      let f = rest_fits h.2 in
      let g = number_few literal h.1 in
      omega arith
  few (string place content end) n bytes h = let f = behind_byte _ h.1 in omega arith
  few (array place elements close) n bytes h =
      let e = behind_byte _ h.1 in
      let f = rest_fits h.1.after in
      let g = few_elements elements close _ _ h.1.after.after in
      let k = opened_few (elements_events elements) (timed (close + 1) close What.CloseArray) (length h.1.after.rest) (length bytes) g (omega arith) in
      omega arith
  few (object place members close) n bytes h =
      let e = behind_byte _ h.1 in
      let f = rest_fits h.1.after in
      let g = few_members members close _ _ h.1.after.after in
      let k = opened_few (members_events members) (timed (close + 1) close What.CloseObject) (length h.1.after.rest) (length bytes) g (omega arith) in
      omega arith

  few_elements : (elements : Elements) (close n : ℕ) (bytes : List ℕ) → SpellsElements elements close n bytes
      → length (elements_events elements) + 1 ≤ length bytes
  few_elements end_of_array close n bytes h = rw h.0 (omega arith)
  few_elements (element v more) close n bytes h =
      let e = rest_fits h in
      let f = rest_fits h.after in
      both_few (events v) (elements_events more) (length h.first) (length h.after.rest) (length bytes) (few v _ _ h.before)
      (few_more_elements more close _ _ h.after.after) (omega arith)

  few_more_elements : (elements : Elements) (close n : ℕ) (bytes : List ℕ) → SpellsMoreElements elements close n bytes
      → length (elements_events elements) + 1 ≤ length bytes
  few_more_elements end_of_array close n bytes h = rw h.0 (omega arith)
  few_more_elements (element v more) close n bytes h =
      let e = rest_fits h in
      let f = rest_fits h.after in
      let g = rest_fits h.after.after in
      let k = rest_fits h.after.after.after in
      both_few (events v) (elements_events more) (length h.after.after.first) (length h.after.after.after.rest) (length bytes)
      (few v _ _ h.after.after.before) (few_more_elements more close _ _ h.after.after.after.after) (omega arith)

  few_members : (members : Members) (close n : ℕ) (bytes : List ℕ) → SpellsMembers members close n bytes → length (members_events members) + 1 ≤ length bytes
  few_members end_of_object close n bytes h = rw h.0 (omega arith)
  few_members (member place name end v more) close n bytes h =
      let a = behind_byte _ h.before.1 in
      let e = rest_fits h in
      let f = rest_fits h.after in
      let g = rest_fits h.after.after in
      let k = rest_fits h.after.after.after in
      let l = rest_fits h.after.after.after.after in
      let m = rest_fits h.after.after.after.after.after in
      let s = both_few (events v) (members_events more) (length h.after.after.after.after.first) (length h.after.after.after.after.after.rest)
      (length h.after.after.after.rest)
      (few v _ _ h.after.after.after.after.before) (few_more_members more close _ _ h.after.after.after.after.after.after) (omega arith) in
      omega arith

  few_more_members : (members : Members) (close n : ℕ) (bytes : List ℕ) → SpellsMoreMembers members close n bytes
      → length (members_events members) + 1 ≤ length bytes
  few_more_members end_of_object close n bytes h = rw h.0 (omega arith)
  few_more_members (member place name end v more) close n bytes h =
      let a = behind_byte _ h.after.after.before.1 in
      let e = rest_fits h in
      let f = rest_fits h.after in
      let g = rest_fits h.after.after in
      let k = rest_fits h.after.after.after in
      let l = rest_fits h.after.after.after.after in
      let m = rest_fits h.after.after.after.after.after in
      let p = rest_fits h.after.after.after.after.after.after in
      let q = rest_fits h.after.after.after.after.after.after.after in
      let s = both_few (events v) (members_events more) (length h.after.after.after.after.after.after.first)
      (length h.after.after.after.after.after.after.after.rest)
      (length h.after.after.after.after.after.rest) (few v _ _ h.after.after.after.after.after.after.before)
      (few_more_members more close _ _ h.after.after.after.after.after.after.after.after) (omega arith) in
      omega arith

mark_few : (marked : Bool) (n : ℕ) (bytes : List ℕ) → SpellsMark marked n bytes → length (mark_events marked) ≤ length bytes
mark_few true n bytes h = rw h (omega arith)
mark_few false n bytes h = omega arith

pub text_few : (text : Text) (bytes : List ℕ) → IsText text bytes → length (all_events text) ≤ length bytes
text_few text bytes h =
    let e = rest_fits h in
    let f = rest_fits h.after in
    let g = rest_fits h.after.after in
    let m = mark_few text.marked 0 _ h.before in
    let k = few text.value _ _ h.after.after.before in
    rw (length-map (text_events text) (λ x. x.event), length-append (mark_events text.marked) (events text.value)) (omega arith)
