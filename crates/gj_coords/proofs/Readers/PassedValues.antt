-- What is read past leads back to the levels that were open before it.
use Rattle.gj_coords.proofs.Common.{Elements, Event, Tree, What, append_assoc, arith, array, constant, depth, element, elements_sent, end_of_array}
use Rattle.gj_coords.proofs.Common.{end_of_object, event_at, member, nat_tests, object, sent, subst, sym}
use Rattle.std.proofs.Common.{◌≡◌, ℕ, suc, ◌+◌, ◌^◌, ◌<◌, ◌≤◌, ◌∷◌, ◌++◌, List, [], refl, add-one}
use Rattle.std.proofs.Math.Nat.{le-max_left, le-max_right}
use Rattle.gj_json.specs.declared.constant.Constant.TheVariants.{Null}
use Rattle.gj_json.specs.Tree.{Members, elements_depth, members_depth}
use Rattle.gj_coords.specs.Internal.ElementReader.{levels_after, one_more}
use Rattle.gj_coords.specs.Internal.SentEvents.{members_sent}

-- What holds of the events to come, where so many levels are open; where more are open than the floor, each event leads on.
pub record Passing : Type 1 where
  pub floor : ℕ
  pub Holds : ℕ → List Event → Type 0
  pub step : (n : ℕ) → floor ≤ n → (e : Event) (rest : List Event) → Holds (levels_after (suc n) e.what) rest → Holds (suc n) (e ∷ rest)

one_deeper : (n : ℕ) → n + 1 < 2 ^ 64 → one_more n ≡ suc n
one_deeper n h = grind (arith, nat_tests)

deeper : (p : Passing) (n : ℕ) (rest : List Event) → n + 1 < 2 ^ 64 → p.Holds (suc n) rest → p.Holds (one_more n) rest
deeper p n rest room = subst (λ k. p.Holds k rest) (sym (one_deeper n room))

-- what is left of a container that was opened where so many levels are open
around : (p : Passing) (n : ℕ) → p.floor ≤ n → (inside : List Event) (last : Event) → levels_after (suc n) last.what ≡ n →
    ((rest : List Event) → p.Holds (suc n) rest → p.Holds (suc n) (inside ++ rest)) →
    (rest : List Event) → p.Holds n rest → p.Holds (suc n) ((inside ++ last ∷ []) ++ rest)
around p n above inside last closes within rest h =
    rw (append_assoc inside (last ∷ []) rest) (within (last ∷ rest) (p.step n above last rest (rw closes h)))

mutual
  past : (p : Passing) (v : Tree) (n : ℕ) → p.floor ≤ n → depth v + suc n < 2 ^ 64 → (rest : List Event) → p.Holds (suc n) rest
      → p.Holds (suc n) (sent v ++ rest)
  past p (constant Null place) n above room rest h = p.step n above _ rest h
  past p (array place es close) n above room rest h =
      p.step n above _ _ (deeper p (suc n) _ (omega (arith, add-one n))
      (around p (suc n) (omega arith) (elements_sent es) (event_at close What.CloseArray) refl
      (past_elements p es (suc n) (omega arith) (omega (arith, add-one n, add-one (suc n)))) rest h))
  past p (object place ms close) n above room rest h =
      p.step n above _ _ (deeper p (suc n) _ (omega (arith, add-one n))
      (around p (suc n) (omega arith) (members_sent ms) (event_at close What.CloseObject) refl
      (past_members p ms (suc n) (omega arith) (omega (arith, add-one n, add-one (suc n)))) rest h))
  past p _ n above room rest h = p.step n above _ rest h

  past_elements : (p : Passing) (es : Elements) (n : ℕ) → p.floor ≤ n → elements_depth es + suc n < 2 ^ 64 →
      (rest : List Event) → p.Holds (suc n) rest → p.Holds (suc n) (elements_sent es ++ rest)
  past_elements p end_of_array n above room rest h = h
  past_elements p (element v more) n above room rest h =
      rw (append_assoc (sent v) (elements_sent more) rest)
      (past p v n above (omega (arith, le-max_left (depth v) (elements_depth more))) (elements_sent more ++ rest)
      (past_elements p more n above (omega (arith, le-max_right (depth v) (elements_depth more))) rest h))

  past_members : (p : Passing) (ms : Members) (n : ℕ) → p.floor ≤ n → members_depth ms + suc n < 2 ^ 64 →
      (rest : List Event) → p.Holds (suc n) rest → p.Holds (suc n) (members_sent ms ++ rest)
  past_members p end_of_object n above room rest h = h
  past_members p (member place name end v more) n above room rest h =
      p.step n above _ _ (rw (append_assoc (sent v) (members_sent more) rest)
      (past p v n above (omega (arith, le-max_left (depth v) (members_depth more))) (members_sent more ++ rest)
      (past_members p more n above (omega (arith, le-max_right (depth v) (members_depth more))) rest h)))

-- the events of an array or object after its first, where so many levels were open before
pub array_passed : (p : Passing) (es : Elements) (close n : ℕ) → p.floor ≤ n → elements_depth es + suc n < 2 ^ 64 →
    (rest : List Event) → p.Holds n rest → p.Holds (suc n) ((elements_sent es ++ event_at close What.CloseArray ∷ []) ++ rest)
array_passed p es close n above room =
    around p n above (elements_sent es) (event_at close What.CloseArray) refl (past_elements p es n above room)

pub object_passed : (p : Passing) (ms : Members) (close n : ℕ) → p.floor ≤ n → members_depth ms + suc n < 2 ^ 64 →
    (rest : List Event) → p.Holds n rest → p.Holds (suc n) ((members_sent ms ++ event_at close What.CloseObject ∷ []) ++ rest)
object_passed p ms close n above room =
    around p n above (members_sent ms) (event_at close What.CloseObject) refl (past_members p ms n above room)
