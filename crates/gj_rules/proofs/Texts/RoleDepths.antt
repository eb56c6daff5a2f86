-- How many of the open arrays and objects of a text can be objects with a role.
use Rattle.gj_rules.proofs.Common.{Bool, Features, Geometries, Geometry, IsText, List, Members, Role, Text, Told, Tree, arith, array, at_of, cases_lt}
use Rattle.gj_rules.proofs.Common.{constant, element, elements_told, end_of_array, end_of_object, false, if◌then◌else◌, inl, inr, judged_at}
use Rattle.gj_rules.proofs.Common.{judged_in, mark_told, member, members_told, mentions, nat_le, nat_lt, not, number, object, open_at, plain, refl}
use Rattle.gj_rules.proofs.Common.{string, told, true, [], ◌&&◌, ◌*◌, ◌++◌, ◌+◌, ◌∷◌, ◌≤◌, ◌⊎◌}
use Rattle.std.proofs.Common.{◌≡◌, ℕ}
use Rattle.gj_json.specs.declared.names.Known.{Known}
use Rattle.gj_json.specs.declared.event.What.TheVariants as What
use Rattle.gj_json.specs.Names.{known_of}
use Rattle.gj_json.specs.Open.{open_in, elements_open, members_open}
use Rattle.gj_json.specs.Tree as Tree
use Rattle.gj_rules.specs.Judged.{gives, counted, list_judged, elements_judged, members_judged}
use Rattle.gj_rules.proofs.Texts.FramesInUse.{late_elements, late_members}
use Rattle.gj_rules.proofs.Texts.EventOrder.{Late, After, InOrder, order_behind, late_after, late_behind, late_front, in_order, InTime}
use Rattle.gj_json.proofs.Events.OpenContainers.{opened, shut}

-- ---- each of them is open

at_most_one : (b : Bool) → (if b then 1 else 0) ≤ 1
at_most_one true = omega arith
at_most_one false = omega arith

counted_most : (name : Known) (b : Bool) (g gs fs most : ℕ) → g ≤ most → gs ≤ most → fs ≤ most → counted name b g gs fs ≤ most
counted_most Geometry true g gs fs most x y z = x
counted_most Geometries true g gs fs most x y z = y
counted_most Features true g gs fs most x y z = z
counted_most other another g gs fs most x y z = omega arith

mutual
  value_open : (v : Tree) (n : ℕ) (r : Role) → judged_in n r v ≤ open_in n v
  value_open (constant which place) n r = omega arith
  value_open (number place literal end) n r = omega arith
  value_open (string place content end) n r = omega arith
  value_open (array place es close) n r = omega arith
  value_open (object place ms close) n r = omega (arith, all_open ms n r [])

  list_open : (v : Tree) (n : ℕ) (r : Role) → list_judged n r v ≤ open_in n v
  list_open (constant which place) n r = omega arith
  list_open (number place literal end) n r = omega arith
  list_open (string place content end) n r = omega arith
  list_open (array place es close) n r = omega (arith, each_open es n r)
  list_open (object place ms close) n r = omega arith

  each_open : (es : Tree.Elements) (n : ℕ) (r : Role) → elements_judged n r es ≤ elements_open n es
  each_open end_of_array n r = omega arith
  each_open (element v more) n r = omega (arith, value_open v n r, each_open more n r)

  all_open : (ms : Members) (n : ℕ) (r : Role) (before : List Known) → members_judged n r before ms ≤ members_open n ms
  all_open end_of_object n r before = omega arith
  all_open (member place name end v more) n r before =
      omega (
        arith,
        all_open more n r (known_of name ∷ before),
        counted_most (known_of name) (not (mentions before (known_of name)) && gives r (known_of name)) (judged_in n Role.Geometry v)
            (list_judged n Role.Part v) (list_judged n Role.Feature v) (open_in n v)
            (value_open v n Role.Geometry) (list_open v n Role.Part) (list_open v n Role.Feature),
      )

-- ---- what is complete is not open

in_time_front : (n : ℕ) (xs ys : List Told) → InTime n (xs ++ ys) → InTime n xs
in_time_front n [] ys h = tt
in_time_front n (x ∷ xs) ys h = (h.0, in_time_front n xs ys h.1)

in_time_back : (n : ℕ) (xs ys : List Told) → InTime n (xs ++ ys) → InTime n ys
in_time_back n [] ys h = h
in_time_back n (x ∷ xs) ys h = in_time_back n xs ys h.1

mutual
  done_value : (v : Tree) (n : ℕ) (r : Role) → InTime n (told v) → judged_in n r v ≡ 0
  done_value (constant which place) n r h = refl
  done_value (number place literal end) n r h = refl
  done_value (string place content end) n r h = refl
  done_value (array place es close) n r h = refl
  done_value (object place ms close) n r h =
      let l = in_time_back n (members_told ms) (plain (close + 1) close What.CloseObject ∷ []) h.1 in
      omega (
        arith,
        shut n place close l.0,
        done_members ms n r []
            (in_time_front n (members_told ms) (plain (close + 1) close What.CloseObject ∷ []) h.1),
      )

  done_list : (v : Tree) (n : ℕ) (r : Role) → InTime n (told v) → list_judged n r v ≡ 0
  done_list (constant which place) n r h = refl
  done_list (number place literal end) n r h = refl
  done_list (string place content end) n r h = refl
  done_list (array place es close) n r h = done_elements es n r (in_time_front n (elements_told es) (plain (close + 1) close What.CloseArray ∷ []) h.1)
  done_list (object place ms close) n r h = refl

  done_elements : (es : Tree.Elements) (n : ℕ) (r : Role) → InTime n (elements_told es) → elements_judged n r es ≡ 0
  done_elements end_of_array n r h = refl
  done_elements (element v more) n r h =
      omega (arith, done_value v n r (in_time_front n (told v) (elements_told more) h), done_elements more n r (in_time_back n (told v) (elements_told more) h))

  done_members : (ms : Members) (n : ℕ) (r : Role) (before : List Known) → InTime n (members_told ms) → members_judged n r before ms ≡ 0
  done_members end_of_object n r before h = refl
  done_members (member place name end v more) n r before h =
      let l = in_time_front n (told v) (members_told more) h.1 in
      omega (
        arith,
        counted_most (known_of name) (not (mentions before (known_of name)) && gives r (known_of name)) (judged_in n Role.Geometry v)
            (list_judged n Role.Part v) (list_judged n Role.Feature v) 0
            (omega (arith, done_value v n Role.Geometry l)) (omega (arith, done_list v n Role.Part l)) (omega (arith, done_list v n Role.Feature l)),
        done_members more n r (known_of name ∷ before) (in_time_back n (told v) (members_told more) h.1),
      )

-- ---- of two values one after the other one at the most is open

one_of_two : (n : ℕ) (xs ys : List Told) → InOrder (xs ++ ys) → InTime n xs ⊎ Late n ys
one_of_two n [] ys h = inl tt
one_of_two n (x ∷ xs) ys h =
    elim (cases_lt n (at_of x)) [
      | inl l ↦ inr (late_behind n (at_of x) xs ys l h.0)
      | inr l ↦ elim (one_of_two n xs ys h.1) [ inl i ↦ inl (l, i) | inr j ↦ inr j ]
    ]

after_front : (m : ℕ) (xs ys : List Told) → After m (xs ++ ys) → After m xs
after_front m [] ys h = tt
after_front m (x ∷ xs) ys h = (h.0, after_front m xs ys h.1)

order_front : (xs ys : List Told) → InOrder (xs ++ ys) → InOrder xs
order_front [] ys h = tt
order_front (x ∷ xs) ys h = (after_front (at_of x) xs ys h.0, order_front xs ys h.1)

-- ---- at most every second one, and one

-- how much of a level the members of an object with the role may lack
abbrev pub slack : Role → ℕ
slack Role.Root = 1
slack Role.Feature = 1
slack other = 0

half_counted : (name : Known) (r : Role) (b : Bool) (g gs fs most : ℕ) → 2 * g ≤ most + 1 → 2 * gs ≤ most → 2 * fs ≤ most + 1
    → 2 * counted name (not b && gives r name) g gs fs ≤ most + slack r
half_counted Geometry r true g gs fs most x y z = omega arith
half_counted Geometry Role.Root false g gs fs most x y z = x
half_counted Geometry Role.Feature false g gs fs most x y z = x
half_counted Geometry Role.Geometry false g gs fs most x y z = omega arith
half_counted Geometry Role.Part false g gs fs most x y z = omega arith
half_counted Geometries r true g gs fs most x y z = omega arith
half_counted Geometries Role.Root false g gs fs most x y z = omega arith
half_counted Geometries Role.Feature false g gs fs most x y z = omega arith
half_counted Geometries Role.Geometry false g gs fs most x y z = omega arith
half_counted Geometries Role.Part false g gs fs most x y z = omega arith
half_counted Features r true g gs fs most x y z = omega arith
half_counted Features Role.Root false g gs fs most x y z = z
half_counted other another third g gs fs most x y z = omega arith

after_last : (m : ℕ) (xs : List Told) (y : Told) → After m (xs ++ y ∷ []) → m ≤ at_of y
after_last m [] y h = h.0
after_last m (x ∷ xs) y h = after_last m xs y h.1

in_time_before : (n : ℕ) (xs : List Told) (y : Told) → InOrder (xs ++ y ∷ []) → at_of y ≤ n → InTime n xs
in_time_before n [] y h l = tt
in_time_before n (x ∷ xs) y h l = (omega (arith, after_last (at_of x) xs y h.0), in_time_before n xs y h.1 l)

mutual
  half_value : (v : Tree) (n : ℕ) (r : Role) → InOrder (told v) → 2 * judged_in n r v ≤ open_in n v + slack r + 1
  half_value (constant which place) n r i = omega arith
  half_value (number place literal end) n r i = omega arith
  half_value (string place content end) n r i = omega arith
  half_value (array place es close) n r i = omega arith
  half_value (object place ms close) n r i =
      omega (
        arith,
        at_most_one (nat_lt place n && nat_le n close),
        half_members ms n r []
            (order_front (members_told ms) (plain (close + 1) close What.CloseObject ∷ []) i.1),
      )

  half_list : (v : Tree) (n : ℕ) (r : Role) → InOrder (told v) → 2 * list_judged n r v ≤ open_in n v + slack r
  half_list (constant which place) n r i = omega arith
  half_list (number place literal end) n r i = omega arith
  half_list (string place content end) n r i = omega arith
  half_list (object place ms close) n r i = omega arith
  half_list (array place es close) n r i =
      let last : Told = plain (close + 1) close What.CloseArray in
      elim (cases_lt n (place + 1)) [
        | inl l ↦ omega (
          arith,
          late_elements es n r
              (late_front n (elements_told es) (last ∷ []) (late_after n (place + 1) (elements_told es ++ last ∷ []) l i.0)),
        )
        | inr l ↦ elim (cases_lt n (close + 1)) [
          | inl k ↦ omega (arith, opened n place close l k, half_elements es n r (order_front (elements_told es) (last ∷ []) i.1))
          | inr k ↦ omega (arith, done_elements es n r (in_time_before n (elements_told es) last i.1 k))
        ]
      ]

  half_elements : (es : Tree.Elements) (n : ℕ) (r : Role) → InOrder (elements_told es) → 2 * elements_judged n r es ≤ elements_open n es + slack r + 1
  half_elements end_of_array n r i = omega arith
  half_elements (element v more) n r i =
      elim (one_of_two n (told v) (elements_told more) i) [
        | inl d ↦ omega (arith, done_value v n r d, half_elements more n r (order_behind (told v) (elements_told more) i))
        | inr l ↦ omega (arith, late_elements more n r l, half_value v n r (order_front (told v) (elements_told more) i))
      ]

  half_members : (ms : Members) (n : ℕ) (r : Role) (before : List Known) → InOrder (members_told ms)
      → 2 * members_judged n r before ms ≤ members_open n ms + slack r
  half_members end_of_object n r before i = omega arith
  half_members (member place name end v more) n r before i =
      let known : Known = known_of name in
      let o = order_front (told v) (members_told more) i.1 in
      elim (one_of_two n (told v) (members_told more) i.1) [
        | inl d ↦ omega (
          arith,
          half_members more n r (known ∷ before) (order_behind (told v) (members_told more) i.1),
          counted_most known (not (mentions before known) && gives r known) (judged_in n Role.Geometry v) (list_judged n Role.Part v)
              (list_judged n Role.Feature v) 0
              (omega (arith, done_value v n Role.Geometry d)) (omega (arith, done_list v n Role.Part d)) (omega (arith, done_list v n Role.Feature d)),
        )
        | inr l ↦ omega (
          arith,
          late_members more n r (known ∷ before) l,
          half_counted known r (mentions before known) (judged_in n Role.Geometry v) (list_judged n Role.Part v) (list_judged n Role.Feature v) (open_in n v)
              (omega (arith, half_value v n Role.Geometry o)) (omega (arith, half_list v n Role.Part o)) (half_list v n Role.Feature o),
        )
      ]

value_order : (marked : Bool) (v : Tree) → InOrder (mark_told marked ++ told v) → InOrder (told v)
value_order true v i = i.1
value_order false v i = i

pub judged_open : (text : Text) (n : ℕ) → judged_at n text ≤ open_at n text
judged_open text n = value_open text.value n Role.Root

pub judged_half : (text : Text) (bytes : List ℕ) (n : ℕ) → IsText text bytes → 2 * judged_at n text ≤ open_at n text + 2
judged_half text bytes n h =
    let k = half_value text.value n Role.Root (value_order text.marked text.value (in_order text bytes h)) in
    omega (arith, k)
