-- The records of two parts of a text sequence, one after the other.
use Rattle.gj_join.proofs.Common.{Allowed, ArePartsOf, Bool, List, Sequence, ap, arith, cases_Bool, false, false≢true, inl, inr, length}
use Rattle.gj_join.proofs.Common.{length-append, limits_after, map, nat_lt, refl, separator_last, subst, suc, sym, take, true, zero, ℕ, [], ◌++◌, ◌+◌}
use Rattle.gj_join.proofs.Common.{◌-◌, ◌<◌, ◌∙◌, ◌∷◌, ◌≡◌, ◌≤◌}
use Rattle.std.specs.Prelude.{◌&&◌, not}
use Rattle.std.proofs.lemmas.Bool.{cases_lt, lt-ltb, le-ltb}
use Rattle.std.proofs.Math.Bool.{and-false}
use Rattle.std.proofs.Math.Seq.{take-append-add}
use Rattle.std.proofs.lemmas.List.{take_all}
use Rattle.gj_rules.specs.Sequence.{is_separator, begins_with_separator, has_separator, up_to_separator, SequenceRecord, records_from, records_of, is_stray}
use Rattle.gj_join.specs.Parts.{separator_first}

-- ---- the next part begins with a separator

first_of_run : (follows is : Bool) → (is && not follows) ≡ true → (follows ≡ false) × (is ≡ true)
first_of_run true true cut = absurd (false≢true cut)
first_of_run true false cut = absurd (false≢true cut)
first_of_run false true cut = (refl, refl)
first_of_run false false cut = absurd (false≢true cut)

same_first : (bytes : List ℕ) → separator_first Sequence bytes ≡ begins_with_separator bytes
same_first [] = refl
same_first (byte ∷ more) = refl

pub first_whole : (limits : Allowed) (first second : List ℕ) → ArePartsOf Sequence limits first second → separator_last Sequence first ≡ false
first_whole limits first second parts = (first_of_run (separator_last Sequence first) (separator_first Sequence second) parts.cut).0

pub second_begins : (limits : Allowed) (first second : List ℕ) → ArePartsOf Sequence limits first second → begins_with_separator second ≡ true
second_begins limits first second parts =
    sym (same_first second) ∙ (first_of_run (separator_last Sequence first) (separator_first Sequence second) parts.cut).1

pub has_next : (bytes next : List ℕ) → begins_with_separator next ≡ true → has_separator (bytes ++ next) ≡ true
has_next [] [] begins = absurd (false≢true begins)
has_next [] (byte ∷ more) begins = rw begins refl
has_next (byte ∷ more) next begins = elim (cases_Bool (is_separator byte)) [
  | inl e ↦ rw e refl
  | inr e ↦ rw e (has_next more next begins)
]

pub up_to_next : (bytes next : List ℕ) → begins_with_separator next ≡ true → up_to_separator (bytes ++ next) ≡ up_to_separator bytes
up_to_next [] [] begins = absurd (false≢true begins)
up_to_next [] (byte ∷ more) begins = rw begins refl
up_to_next (byte ∷ more) next begins = elim (cases_Bool (is_separator byte)) [
  | inl e ↦ rw e refl
  | inr e ↦ rw e (ap (λ (l : List ℕ). byte ∷ l) (up_to_next more next begins))
]

-- ---- the records of both

abbrev record_at : ℕ → List ℕ → Bool → SequenceRecord
record_at start bytes is_cut = record { start = start; bytes = bytes; is_cut = is_cut }

both_parts : {one other : SequenceRecord} {more others : List SequenceRecord} → one ≡ other → more ≡ others → one ∷ more ≡ other ∷ others
both_parts {one} {other} {more} {others} first rest = ap (λ (r : SequenceRecord). r ∷ more) first ∙ ap (λ (l : List SequenceRecord). other ∷ l) rest

records-append : (is_cut : Bool) (place : ℕ) (bytes next : List ℕ) → separator_last Sequence bytes ≡ false → begins_with_separator next ≡ true
    → records_from is_cut place (bytes ++ next) ≡ records_from false place bytes ++ records_from is_cut (place + length bytes) next
records-append is_cut place [] next whole begins = ap (λ (p : ℕ). records_from is_cut p next) (omega arith)
records-append is_cut place (byte ∷ []) next whole begins = rw whole (ap (λ (p : ℕ). records_from is_cut p next) (omega arith))
records-append is_cut place (byte ∷ following ∷ more) next whole begins =
    let rest = records-append is_cut (place + 1) (following ∷ more) next whole begins in
    let further : records_from is_cut (place + 1 + length (following ∷ more)) next ≡ records_from is_cut (place + length (byte ∷ following ∷ more)) next =
    ap (λ (p : ℕ). records_from is_cut p next) (omega arith) in
    let both = rest ∙ ap (λ (l : List SequenceRecord). records_from false (place + 1) (following ∷ more) ++ l) further in
    elim (cases_Bool (is_separator byte && not (is_separator following))) [
      | inl e ↦ rw e (rw (up_to_next (following ∷ more) next begins, has_next (following ∷ more) next begins)
          (both_parts (ap (record_at (place + 1) (up_to_separator (following ∷ more))) (and-false is_cut)) both))
      | inr e ↦ rw e both
    ]

-- ---- places so many bytes further on

abbrev pub moved_record : ℕ → SequenceRecord → SequenceRecord
moved_record by r = record { start = r.start + by; bytes = r.bytes; is_cut = r.is_cut }

records-moved : (is_cut : Bool) (by place other : ℕ) (bytes : List ℕ) → other ≡ place + by
    → records_from is_cut other bytes ≡ map (moved_record by) (records_from is_cut place bytes)
records-moved is_cut by place other [] same = refl
records-moved is_cut by place other (byte ∷ more) same =
    let rest = records-moved is_cut by (place + 1) (other + 1) more (omega (arith, same)) in
    let start : other + 1 ≡ place + 1 + by = omega (arith, same) in
    elim (cases_Bool (is_separator byte && not (begins_with_separator more))) [
      | inl e ↦ rw e (both_parts (ap (λ (p : ℕ). record_at p (up_to_separator more) (is_cut && not (has_separator more))) start) rest)
      | inr e ↦ rw e rest
    ]

-- ---- within the limits

pub take-second : (n : ℕ) (bytes next : List ℕ) → length bytes ≤ n → take n (bytes ++ next) ≡ bytes ++ take (n - length bytes) next
take-second n bytes next within =
    let sum : n ≡ length bytes + (n - length bytes) = omega (arith, within) in
    subst (λ (m : ℕ). take m (bytes ++ next) ≡ bytes ++ take (n - length bytes) next) (sym sum) (take-append-add bytes next (n - length bytes))

pub begins-taken : (n : ℕ) (bytes : List ℕ) → 0 < n → begins_with_separator bytes ≡ true → begins_with_separator (take n bytes) ≡ true
begins-taken n [] some begins = absurd (false≢true begins)
begins-taken zero (byte ∷ more) some begins = absurd (omega (arith, some))
begins-taken (suc n) (byte ∷ more) some begins = begins

pub less-both : (n a b : ℕ) → a ≤ n → nat_lt n (a + b) ≡ nat_lt (n - a) b
less-both n a b within = elim (cases_lt n (a + b)) [
  | inl e ↦ lt-ltb n (a + b) e ∙ sym (lt-ltb (n - a) b (omega (arith, e, within)))
  | inr e ↦ le-ltb n (a + b) e ∙ sym (le-ltb (n - a) b (omega (arith, e, within)))
]

pub records_of-parts : (limits : Allowed) (first second : List ℕ) → ArePartsOf Sequence limits first second
    → records_of limits (first ++ second) ≡ records_of limits first ++ map (moved_record (length first))
    (records_of (limits_after limits (length first)) second)
records_of-parts limits first second parts =
    let n = limits.bytes in
    let a = length first in
    let within : a ≤ n = omega (arith, parts.within) in
    let rest = take (n - a) second in
    let cut : nat_lt n (length (first ++ second)) ≡ nat_lt (n - a) (length second) =
    ap (λ (m : ℕ). nat_lt n m) (length-append first second) ∙ less-both n a (length second) within in
    let uncut : nat_lt n a ≡ false = le-ltb n a within in
    let alone : records_of limits first ≡ records_from false 0 first =
    ap (λ (c : Bool). records_from c 0 (take n first)) uncut ∙ ap (λ (l : List ℕ). records_from false 0 l) (take_all n first within) in
    let begins : begins_with_separator rest ≡ true = begins-taken (n - a) second (omega (arith, parts.within)) (second_begins limits first second parts) in
    let both : records_from (nat_lt (n - a) (length second)) 0 (first ++ rest) ≡ records_from false 0 first ++ records_from (nat_lt (n - a) (length second))
    (0 + a) rest =
    records-append (nat_lt (n - a) (length second)) 0 first rest (first_whole limits first second parts) begins in
    ap (λ (c : Bool). records_from c 0 (take n (first ++ second))) cut
    ∙ (ap (λ (l : List ℕ). records_from (nat_lt (n - a) (length second)) 0 l) (take-second n first second within)
    ∙ (both
    ∙ (ap (λ (l : List SequenceRecord). l ++ records_from (nat_lt (n - a) (length second)) (0 + a) rest) (sym alone)
    ∙ ap (λ (l : List SequenceRecord). records_of limits first ++ l) (records-moved (nat_lt (n - a) (length second)) a 0 (0 + a) rest refl))))

pub stray-parts : (first second : List ℕ) → begins_with_separator second ≡ true → is_stray (first ++ second) ≡ is_stray first
stray-parts [] [] begins = refl
stray-parts [] (byte ∷ more) begins = ap not begins
stray-parts (byte ∷ more) second begins = refl

pub stray-second : (second : List ℕ) → begins_with_separator second ≡ true → is_stray second ≡ false
stray-second [] begins = refl
stray-second (byte ∷ more) begins = ap not begins
