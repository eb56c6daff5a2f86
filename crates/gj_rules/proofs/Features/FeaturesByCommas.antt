-- A comma stands between two features of a text: in a run of its bytes at most one more is complete than it has commas.
use Rattle.gj_rules.proofs.Common.{Bool, Features, IsText, List, Members, Spells, SpellsElements, SpellsMembers, SpellsMoreElements}
use Rattle.gj_rules.proofs.Common.{SpellsMoreMembers, Text, Tree, ap, append_assoc, arith, array, complete_at, complete_in, constant, element}
use Rattle.gj_rules.proofs.Common.{elements_if, elements_of, end_of_array, end_of_object, false, features_of, findings_by, first_value, if◌then◌else◌}
use Rattle.gj_rules.proofs.Common.{items, length, member, nat_le, nat_tests, number, object, refl, same, string, subst, suc, sym, take, take_all}
use Rattle.gj_rules.proofs.Common.{true, zero, [], ◌++◌, ◌+◌, ◌-◌, ◌<◌, ◌∙◌, ◌∷◌, ◌≤◌}
use Rattle.std.proofs.Common.{◌≡◌, ℕ, cond}
use Rattle.std.proofs.Common.{Option, Some}
use Rattle.std.proofs.lemmas.List.{length-append, take-append-le}
use Rattle.std.proofs.lemmas.List.Sums.{sum_by-cons, sum_by-append}
use Rattle.gj_json.specs.Bytes.{comma}
use Rattle.gj_json.specs.Grammar.{Then, White}
use Rattle.gj_json.specs.Names.{known_of}
use Rattle.gj_json.specs.Tree as Tree
use Rattle.gj_rules.specs.FeatureFindings.{is_comma, commas}
use Rattle.gj_rules.proofs.Features.FeaturesInTime.{complete_within, as_many}

-- ---- how many commas stand in the first bytes

abbrev pub one_if : ℕ → ℕ
one_if b = cond (is_comma b) 1 0

commas_grow : (i j : ℕ) (bytes : List ℕ) → i ≤ j → commas (take i bytes) ≤ commas (take j bytes)
commas_grow zero j bytes l = omega arith
commas_grow (suc i) zero bytes l = absurd (omega (arith, l))
commas_grow (suc i) (suc j) [] l = omega arith
commas_grow (suc i) (suc j) (b ∷ bytes) l =
    omega (arith, sum_by-cons one_if b (take i bytes), sum_by-cons one_if b (take j bytes), commas_grow i j bytes (omega (arith, l)))

commas_split : (k : ℕ) (xs ys : List ℕ) → commas (take k (xs ++ ys)) ≡ commas (take k xs) + commas (take (k - length xs) ys)
commas_split zero xs ys = let e : 0 - length xs ≡ 0 = omega arith in rw e (omega arith)
commas_split (suc k) [] ys = let e : suc k - 0 ≡ suc k = omega arith in rw e (omega arith)
commas_split (suc k) (x ∷ xs) ys =
    let e : suc k - suc (length xs) ≡ k - length xs = omega arith in
    rw e (omega (arith, sum_by-cons one_if x (take k (xs ++ ys)), sum_by-cons one_if x (take k xs), commas_split k xs ys))

-- those before the place q, of bytes from the place n on
abbrev before : ℕ → ℕ → List ℕ → ℕ
before q n bytes = commas (take (q - n) bytes)

before_grows : (p q n : ℕ) (bytes : List ℕ) → p ≤ q → before p n bytes ≤ before q n bytes
before_grows p q n bytes l = commas_grow (p - n) (q - n) bytes (omega (arith, l))

before_split : (q n : ℕ) (bytes xs ys : List ℕ) → bytes ≡ xs ++ ys → before q n bytes ≡ before q n xs + before q (n + length xs) ys
before_split q n bytes xs ys e =
    let k : q - n - length xs ≡ q - (n + length xs) = omega arith in
    ap (λ bs. commas (take (q - n) bs)) e ∙ commas_split (q - n) xs ys ∙ ap (λ i. before q n xs + commas (take i ys)) k

then_split : {First Rest : ℕ → List ℕ → Type 0} {n : ℕ} {bytes : List ℕ} (q : ℕ) (h : Then First Rest n bytes)
    → before q n bytes ≡ before q n h.first + before q (n + length h.first) h.rest
then_split {n = n} {bytes = bytes} q h = before_split q n bytes h.first h.rest h.joined

none_before : (q n : ℕ) (bytes : List ℕ) → q ≤ n → before q n bytes ≡ 0
none_before q n bytes l = let e : q - n ≡ 0 = omega (arith, l) in ap (λ i. commas (take i bytes)) e

comma_before : (q n : ℕ) (rest : List ℕ) → n < q → 0 < before q n (comma ∷ rest)
comma_before q n rest l = by_count (q - n) refl
  where
    by_count : (k : ℕ) → q - n ≡ k → 0 < commas (take k (comma ∷ rest))
    by_count zero e = absurd (omega (arith, l, e))
    by_count (suc k) e = omega (arith, sum_by-cons one_if comma (take k rest))

-- ---- of some values at most one more is complete than there are commas

abbrev Spaced : ℕ → ℕ → ℕ → List ℕ → List Tree → Type 0
Spaced m q n bytes vs = length (complete_in q vs) + before m n bytes ≤ length (complete_in m vs) + before q n bytes + 1

none_spaced : (m q n : ℕ) (bytes : List ℕ) → m ≤ q → Spaced m q n bytes []
none_spaced m q n bytes l = omega (arith, before_grows m q n bytes l)

-- also where other bytes stand before and after
spaced_rest : {First Rest : ℕ → List ℕ → Type 0} {n : ℕ} {bytes : List ℕ} (m q : ℕ) (vs : List Tree) (h : Then First Rest n bytes) → m ≤ q
    → Spaced m q (n + length h.first) h.rest vs → Spaced m q n bytes vs
spaced_rest {n = n} {bytes = bytes} m q vs h l k =
    omega (arith, then_split m h, then_split q h, before_grows m q n h.first l, k)

spaced_first : {First Rest : ℕ → List ℕ → Type 0} {n : ℕ} {bytes : List ℕ} (m q : ℕ) (vs : List Tree) (h : Then First Rest n bytes) → m ≤ q
    → Spaced m q n h.first vs → Spaced m q n bytes vs
spaced_first {n = n} {bytes = bytes} m q vs h l k =
    omega (arith, then_split m h, then_split q h, before_grows m q (n + length h.first) h.rest l, k)

-- a value, and those after it, each with a comma before it
spaced_value : {Rest : ℕ → List ℕ → Type 0} {n : ℕ} {bytes : List ℕ} (m q : ℕ) (v : Tree) (vs : List Tree) (h : Then (Spells v) (Then White Rest) n bytes)
    → m ≤ q
    → length (complete_in q vs) ≤ before q (n + length h.first + length h.after.first) h.after.rest
    → Spaced m q (n + length h.first + length h.after.first) h.after.rest vs → Spaced m q n bytes (v ∷ vs)
spaced_value {n = n} {bytes = bytes} m q v vs h l few more =
    cases (nat_le (complete_at v) m) (nat_le (complete_at v) q) refl refl
    (omega (arith, then_split m h, then_split m h.after)) (omega (arith, then_split q h, then_split q h.after))
    (omega (arith, before_grows m q n h.first l, before_grows m q (n + length h.first) h.after.first l))
    (none_before m end h.after.rest)
  where
    end : ℕ
    end = n + length h.first + length h.after.first

    head : ℕ → ℕ
    head i = before i n h.first + before i (n + length h.first) h.after.first

    late : complete_at v ≤ n + length h.first + 1
    late = (complete_within v n h.first h.before).1

    cases : (s t : Bool) → nat_le (complete_at v) m ≡ s → nat_le (complete_at v) q ≡ t
        → before m n bytes ≡ head m + before m end h.after.rest → before q n bytes ≡ head q + before q end h.after.rest
        → head m ≤ head q → (m ≤ end → before m end h.after.rest ≡ 0)
        → length (if t then v ∷ complete_in q vs else []) + before m n bytes ≤ length (if s then v ∷ complete_in m vs else []) + before q n bytes + 1
    cases true true e f at_m at_q grows none = omega (arith, at_m, at_q, grows, more)
    cases true false e f at_m at_q grows none =
        let i : complete_at v ≤ m = grind (arith, nat_tests) in
        let j : q < complete_at v = grind (arith, nat_tests) in
        absurd (omega (arith, i, j, l))
    cases false true e f at_m at_q grows none =
        let i : m < complete_at v = grind (arith, nat_tests) in
        omega (arith, at_m, at_q, grows, none (omega (arith, i, late)), few)
    cases false false e f at_m at_q grows none =
        let i : m < complete_at v = grind (arith, nat_tests) in
        omega (arith, at_m, at_q, grows, none (omega (arith, i, late)))

few_more : (q : ℕ) (es : Tree.Elements) (close n : ℕ) (bytes : List ℕ) → SpellsMoreElements es close n bytes
    → length (complete_in q (items es)) ≤ before q n bytes
few_more q end_of_array close n bytes h = omega arith
few_more q (element v more) close n bytes h =
    let k = h.after.after in
    cases (nat_le (complete_at v) q) refl
    (omega (arith, then_split q h, then_split q h.after, then_split q k, then_split q k.after, few_more q more close _ _ k.after.after))
    (complete_within v _ k.first k.before).0
  where
    cases : (t : Bool) → nat_le (complete_at v) q ≡ t → before q n h.first + length (complete_in q (items more)) ≤ before q n bytes
        → n + length h.first + length h.after.first < complete_at v
        → length (if t then v ∷ complete_in q (items more) else []) ≤ before q n bytes
    cases true e on l =
        let i : complete_at v ≤ q = grind (arith, nat_tests) in
        let one : 0 < before q n h.first = subst (λ bs. 0 < before q n bs) (sym h.before) (comma_before q n [] (omega (arith, i, l))) in
        omega (arith, on, one)
    cases false e on l = omega arith

spaced_more : (m q : ℕ) (es : Tree.Elements) (close n : ℕ) (bytes : List ℕ) → m ≤ q → SpellsMoreElements es close n bytes → Spaced m q n bytes (items es)
spaced_more m q end_of_array close n bytes l h = none_spaced m q n bytes l
spaced_more m q (element v more) close n bytes l h =
    let k = h.after.after in
    spaced_rest m q (v ∷ items more) h l (spaced_rest m q (v ∷ items more) h.after l
    (spaced_value m q v (items more) k l (few_more q more close _ _ k.after.after) (spaced_more m q more close _ _ l k.after.after)))

spaced_elements : (m q : ℕ) (es : Tree.Elements) (close n : ℕ) (bytes : List ℕ) → m ≤ q → SpellsElements es close n bytes → Spaced m q n bytes (items es)
spaced_elements m q end_of_array close n bytes l h = none_spaced m q n bytes l
spaced_elements m q (element v more) close n bytes l h =
    spaced_value m q v (items more) h l (few_more q more close _ _ h.after.after) (spaced_more m q more close _ _ l h.after.after)

spaced_in_value : (m q : ℕ) (v : Tree) (n : ℕ) (bytes : List ℕ) → m ≤ q → Spells v n bytes → Spaced m q n bytes (elements_of v)
spaced_in_value m q (array place es close) n bytes l h =
    spaced_rest m q (items es) h.1 l (spaced_rest m q (items es) h.1.after l (spaced_elements m q es close _ _ l h.1.after.after))
spaced_in_value m q other n bytes l h = none_spaced m q n bytes l

spaced_if : (m q n : ℕ) (bytes : List ℕ) (b : Bool) (v : Tree) (o : Option Tree) → Spaced m q n bytes (elements_of v) → Spaced m q n bytes (elements_if o)
    → Spaced m q n bytes (elements_if (if b then Some v else o))
spaced_if m q n bytes true v o h k = h
spaced_if m q n bytes false v o h k = k

-- the first member `features`, from the value of a member on
spaced_member : (m q : ℕ) (v : Tree) (more : Members) (name : List ℕ) (close n : ℕ) (bytes : List ℕ) → m ≤ q
    → (h : Then (Spells v) (Then White (SpellsMoreMembers more close)) n bytes)
    → Spaced m q (n + length h.first + length h.after.first) h.after.rest (elements_if (first_value Features more))
    → Spaced m q n bytes (elements_if (if same Features (known_of name) then Some v else first_value Features more))
spaced_member m q v more name close n bytes l h k =
    spaced_if m q n bytes (same Features (known_of name)) v (first_value Features more)
    (spaced_first m q (elements_of v) h l (spaced_in_value m q v _ h.first l h.before))
    (spaced_rest m q (elements_if (first_value Features more)) h l (spaced_rest m q (elements_if (first_value Features more)) h.after l k))

spaced_more_members : (m q : ℕ) (ms : Members) (close n : ℕ) (bytes : List ℕ) → m ≤ q → SpellsMoreMembers ms close n bytes
    → Spaced m q n bytes (elements_if (first_value Features ms))
spaced_more_members m q end_of_object close n bytes l h = none_spaced m q n bytes l
spaced_more_members m q (member place name end v more) close n bytes l h =
    let found = elements_if (first_value Features (member place name end v more)) in
    let a = h.after in
    let b = a.after in
    let c = b.after in
    let d = c.after in
    let e = d.after in
    spaced_rest m q found h l
    (spaced_rest m q found a l (spaced_rest m q found b l (spaced_rest m q found c l (spaced_rest m q found d l (spaced_rest m q found e l
    (spaced_member m q v more name close _ _ l e.after (spaced_more_members m q more close _ _ l e.after.after.after)))))))

spaced_members : (m q : ℕ) (ms : Members) (close n : ℕ) (bytes : List ℕ) → m ≤ q → SpellsMembers ms close n bytes
    → Spaced m q n bytes (elements_if (first_value Features ms))
spaced_members m q end_of_object close n bytes l h = none_spaced m q n bytes l
spaced_members m q (member place name end v more) close n bytes l h =
    let found = elements_if (first_value Features (member place name end v more)) in
    let a = h.after in
    let b = a.after in
    let c = b.after in
    spaced_rest m q found h l (spaced_rest m q found a l (spaced_rest m q found b l (spaced_rest m q found c l
    (spaced_member m q v more name close _ _ l c.after (spaced_more_members m q more close _ _ l c.after.after.after)))))

spaced_features : (m q : ℕ) (v : Tree) (n : ℕ) (bytes : List ℕ) → m ≤ q → Spells v n bytes → Spaced m q n bytes (features_of v)
spaced_features m q (object place ms close) n bytes l h =
    let found = elements_if (first_value Features ms) in
    spaced_rest m q found h.1 l (spaced_rest m q found h.1.after l (spaced_members m q ms close _ _ l h.1.after.after))
spaced_features m q other n bytes l h = none_spaced m q n bytes l

spaced_text : (text : Text) (bytes : List ℕ) (m q : ℕ) → IsText text bytes → m ≤ q → Spaced m q 0 bytes (features_of text.value)
spaced_text text bytes m q t l =
    let found = features_of text.value in
    spaced_rest m q found t l
    (spaced_rest m q found t.after l (spaced_first m q found t.after.after l (spaced_features m q text.value _ _ l t.after.after.before)))

pub few_by_commas : (text : Text) (before run after : List ℕ) → IsText text (before ++ run ++ after)
    → length (findings_by (length before + length run) text) ≤ length (findings_by (length before) text) + commas run + 1
few_by_commas text first run after t =
    let m = length first in
    let q = length first + length run in
    let vs = features_of text.value in
    let bytes = first ++ run ++ after in
    let spaced = spaced_text text bytes m q t (omega arith) in
    let long = length-append first run in
    let e : m - 0 ≡ m = omega arith in
    let f : q - 0 ≡ q = omega arith in
    let at_m : take (m - 0) bytes ≡ first =
    rw e (ap (take m) (append_assoc first run after) ∙ (take-append-le m first (run ++ after) (omega arith) ∙ take_all m first (omega arith))) in
    let at_q : take (q - 0) bytes ≡ first ++ run =
    rw f (take-append-le q (first ++ run) after (omega (arith, long)) ∙ take_all q (first ++ run) (omega (arith, long))) in
    let both : commas (first ++ run) ≡ commas first + commas run = sum_by-append one_if first run in
    omega (arith, spaced, ap commas at_m, ap commas at_q, both, as_many 0 (complete_in q vs), as_many 0 (complete_in m vs))
