-- Which events are complete in a prefix of a text.
use Rattle.gj_json.proofs.Common.{AllByRecursion, Bool, Constant, Elements, Event, InTime, List, Members, Null, Quoted, Spells, SpellsElements}
use Rattle.gj_json.proofs.Common.{SpellsMembers, SpellsMoreElements, SpellsMoreMembers, Timed, Tree, ap, arith, array, constant, element}
use Rattle.gj_json.proofs.Common.{elements_events, end_of_array, end_of_object, events, false, if◌then◌else◌, length, letters_of, map, member}
use Rattle.gj_json.proofs.Common.{members_events, nat_le, nat_tests, object, refl, string, timed, true, ℕ, [], ◌++◌, ◌+◌, ◌<◌, ◌∷◌, ◌≡◌, ◌≤◌}
use Rattle.gj_json.specs.declared.event.What.TheVariants as What
use Rattle.gj_json.specs.Tree.{number}
use Rattle.gj_json.specs.Grammar.{Then, Ends}
use Rattle.gj_json.specs.Events.{by}

abbrev pub Late : ℕ → List Timed → Type 0
Late n xs = AllByRecursion (λ x. n < x.at) xs

abbrev pub told : List Timed → List Event
told xs = map (λ x. x.event) xs

pub by-append : (n : ℕ) (xs ys : List Timed) → by n (xs ++ ys) ≡ by n xs ++ by n ys
by-append n [] ys = refl
by-append n (x ∷ xs) ys = go (by-append n xs ys) (nat_le x.at n)
  where
    go : by n (xs ++ ys) ≡ by n xs ++ by n ys → (t : Bool)
        → (if t then x.event ∷ by n (xs ++ ys) else by n (xs ++ ys)) ≡ (if t then x.event ∷ by n xs else by n xs) ++ by n ys
    go ih true = ap (λ zs. x.event ∷ zs) ih
    go ih false = ih

pub by-in_time : (n : ℕ) (xs : List Timed) → InTime n xs → by n xs ≡ told xs
by-in_time n [] h = refl
by-in_time n (x ∷ xs) h = let e : nat_le x.at n ≡ true =
    (let l : x.at ≤ n = h.0 in grind (arith, nat_tests)) in rw e (ap (λ ys. x.event ∷ ys) (by-in_time n xs h.1))

pub by-late : (n : ℕ) (xs : List Timed) → Late n xs → by n xs ≡ []
by-late n [] h = refl
by-late n (x ∷ xs) h = let e : nat_le x.at n ≡ false = (let l : n < x.at = h.0 in grind (arith, nat_tests)) in rw e (by-late n xs h.1)

pub late-append : (n : ℕ) (xs ys : List Timed) → Late n xs → Late n ys → Late n (xs ++ ys)
late-append n [] ys h k = k
late-append n (x ∷ xs) ys h k = (h.0, late-append n xs ys h.1 k)

late-parts : (n : ℕ) (xs ys zs : List Timed) → Late n xs → Late n (ys ++ zs) → Late n ((xs ++ ys) ++ zs)
late-parts n [] ys zs h k = k
late-parts n (x ∷ xs) ys zs h k = (h.0, late-parts n xs ys zs h.1 k)

pub in_time-append : (n : ℕ) (xs ys : List Timed) → InTime n xs → InTime n ys → InTime n (xs ++ ys)
in_time-append n [] ys h k = k
in_time-append n (x ∷ xs) ys h k = (h.0, in_time-append n xs ys h.1 k)

pub later : (m n : ℕ) (xs : List Timed) → m ≤ n → Late n xs → Late m xs
later m n [] l h = tt
later m n (x ∷ xs) l h = (omega (arith, h.0), later m n xs l h.1)

pub in_time_on : (m n : ℕ) (xs : List Timed) → m ≤ n → InTime m xs → InTime n xs
in_time_on m n [] l h = tt
in_time_on m n (x ∷ xs) l h = (omega (arith, h.0), in_time_on m n xs l h.1)

-- ---- what is spelled later is complete later

pub constant_long : (which : Constant) → 0 < length (letters_of which)
constant_long Null = omega arith
constant_long other = omega arith

pub ends_after : {A : ℕ → List ℕ → Type 0} {n end : ℕ} {bytes : List ℕ} → Then A (Ends end) n bytes → n ≤ end
ends_after h = omega (arith, h.after.1)

pub quoted_after : (place : ℕ) (content : List ℕ) (end : ℕ) {n : ℕ} {bytes : List ℕ} → Quoted place content end n bytes → n < end
quoted_after place content end {n = n} h =
    let l : length h.1.first ≡ 1 = ap length h.1.before in
    omega (arith, ends_after h.1.after.after)

mutual
  pub late : (t : Tree) (n : ℕ) (bytes : List ℕ) → Spells t n bytes → Late n (events t)
  late (constant which place) n bytes h = (omega (arith, h.0, constant_long which), tt)
  late (number place literal end) n bytes h = (omega (arith, ends_after h.2), tt)
  late (string place content end) n bytes h = (quoted_after place content end h, tt)
  late (array place elements close) n bytes h = (
    omega (arith, h.0),
    later n _ (elements_events elements ++ timed (close + 1) close What.CloseArray ∷ []) (omega arith)
        (late_elements elements close _ _ h.1.after.after),
  )
  late (object place members close) n bytes h = (
    omega (arith, h.0),
    later n _ (members_events members ++ timed (close + 1) close What.CloseObject ∷ []) (omega arith)
        (late_members members close _ _ h.1.after.after),
  )

  pub late_elements : (elements : Elements) (close n : ℕ) (bytes : List ℕ) → SpellsElements elements close n bytes
      → Late n (elements_events elements ++ timed (close + 1) close What.CloseArray ∷ [])
  late_elements end_of_array close n bytes h = (omega (arith, h.1), tt)
  late_elements (element v more) close n bytes h =
      late-parts n (events v) (elements_events more) (timed (close + 1) close What.CloseArray ∷ []) (late v n _ h.before)
      (later n _ (elements_events more ++ timed (close + 1) close What.CloseArray ∷ []) (omega arith) (late_more_elements more close _ _ h.after.after))

  pub late_more_elements : (elements : Elements) (close n : ℕ) (bytes : List ℕ) → SpellsMoreElements elements close n bytes
      → Late n (elements_events elements ++ timed (close + 1) close What.CloseArray ∷ [])
  late_more_elements end_of_array close n bytes h = (omega (arith, h.1), tt)
  late_more_elements (element v more) close n bytes h =
      late-parts n (events v) (elements_events more) (timed (close + 1) close What.CloseArray ∷ [])
      (later n _ (events v) (omega arith) (late v _ _ h.after.after.before))
      (later n _ (elements_events more ++ timed (close + 1) close What.CloseArray ∷ []) (omega arith)
      (late_more_elements more close _ _ h.after.after.after.after))

  pub late_members : (members : Members) (close n : ℕ) (bytes : List ℕ) → SpellsMembers members close n bytes
      → Late n (members_events members ++ timed (close + 1) close What.CloseObject ∷ [])
  late_members end_of_object close n bytes h = (omega (arith, h.1), tt)
  late_members (member place name end v more) close n bytes h = (
    quoted_after place name end h.before,
    late-parts n (events v) (members_events more) (timed (close + 1) close What.CloseObject ∷ [])
        (later n _ (events v) (omega arith) (late v _ _ h.after.after.after.after.before))
        (later n _ (members_events more ++ timed (close + 1) close What.CloseObject ∷ []) (omega arith)
        (late_more_members more close _ _ h.after.after.after.after.after.after)),
  )

  pub late_more_members : (members : Members) (close n : ℕ) (bytes : List ℕ) → SpellsMoreMembers members close n bytes
      → Late n (members_events members ++ timed (close + 1) close What.CloseObject ∷ [])
  late_more_members end_of_object close n bytes h = (omega (arith, h.1), tt)
  late_more_members (member place name end v more) close n bytes h = (
    let q = quoted_after place name end h.after.after.before in omega (arith, q),
    late-parts n (events v) (members_events more) (timed (close + 1) close What.CloseObject ∷ [])
        (later n _ (events v) (omega arith) (late v _ _ h.after.after.after.after.after.after.before))
        (later n _ (members_events more ++ timed (close + 1) close What.CloseObject ∷ []) (omega arith)
        (late_more_members more close _ _ h.after.after.after.after.after.after.after.after)),
  )
