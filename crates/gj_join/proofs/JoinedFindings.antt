-- What is found in the records of an input, by its parts.
use Rattle.gj_join.proofs.Common.{Allowed, AreFindings, ArePartsOf, Bool, Framing, Input, IsNumberedVerdict, Limit, Lines, List, Part, Record}
use Rattle.gj_join.proofs.Common.{RecordEnd, Separator, Sequence, Verdict, ap, arith, cases_Bool, entries_from, false, false≢true, inl, inr}
use Rattle.gj_join.proofs.Common.{is_counted, length, length-append, limits_after, map, moved_finding, nat_lt, number_after, part_at, parts_of, refl}
use Rattle.gj_join.proofs.Common.{separator_last, subst, suc, sym, take, true, zero, ℕ, [], ◌++◌, ◌+◌, ◌-◌, ◌<◌, ◌∙◌, ◌∷◌, ◌≡◌, ◌≤◌}
use Rattle.std.proofs.Common.{◌⊎◌}
use Rattle.std.specs.Prelude.{nat_eq, if◌then◌else◌}
use Rattle.std.proofs.lemmas.Bool.Decides.{nat_tests}
use Rattle.std.proofs.lemmas.List.{length-map}
use Rattle.gj_json.specs.declared.fault.Cause.TheVariants.{Syntax}
use Rattle.gj_rules.specs.Records.{Entry, entry_at, entry_if, with_first, parts_from, counts, are_none}
use Rattle.gj_rules.specs.Records.{number_from, first_number, entries_in}
use Rattle.gj_rules.specs.RecordFindings.{AreAllFindings}
use Rattle.gj_rules.specs.Sequence.{separator, begins_with_separator, not_json}
use Rattle.gj_rules.proofs.Parts.CountedParts.{entries-append}
use Rattle.gj_rules.proofs.Parts.PartCuts.{short_parts}
use Rattle.gj_join.specs.Joined.{records_among, joined_findings}
use Rattle.gj_join.proofs.JoinedLines.{ended, moved_part, first-length, first-append, some-ended, stays_some, parts-moved, found-moved}
use Rattle.gj_join.proofs.JoinedRecords.{first_whole, second_begins, begins-taken, take-second, less-both}
use Rattle.gj_join.proofs.JoinedWholes.{records_in, found-first, findings-append, findings-joined}

-- ---- numbers

abbrev pub AllNumbered : List Record → Type 0
AllNumbered [] = Unit {0}
AllNumbered (one ∷ found) = (0 < one.number) × AllNumbered found

pub all-among : (found : List Record) → AllNumbered found → records_among found ≡ length found
all-among [] all = refl
all-among (one ∷ found) all = by_number one.number all.0
  where
    by_number : (n : ℕ) → 0 < n → records_among (record { number = n; place = one.place; end = one.end; verdict = one.verdict } ∷ found) ≡ length (one ∷ found)
    by_number zero some = absurd (omega (arith, some))
    by_number (suc n) some = omega arith

-- those that are counted on from a number
abbrev CountOn : Framing → ℕ → List Part → List Record → Type 0
CountOn framing number parts found = AllNumbered found × (number_from framing number parts ≡ number + length found)

count-on : (framing : Framing) (levels number : ℕ) (parts : List Part) (found : List Record) → 0 < number
    → AreFindings framing levels (entries_from framing number parts) found
    → CountOn framing number parts found
count-on framing levels number [] [] some h = (tt, omega arith)
count-on framing levels number [] (one ∷ found) some h = absurd h
count-on framing levels number (part ∷ parts) found some h =
    by_test (λ n all s k. count-on framing levels n parts all s k) (is_counted framing number part) refl found h
  where
    by_test : ((n : ℕ) (all : List Record) → 0 < n → AreFindings framing levels (entries_from framing n parts) all → CountOn framing n parts all)
        → (b : Bool) → is_counted framing number part ≡ b → (all : List Record)
        → AreFindings framing levels (entries_from framing number (part ∷ parts)) all
        → CountOn framing number (part ∷ parts) all
    by_test again true e [] k = absurd (rw e at k)
    by_test again true e (one ∷ all) k =
        let (first, rest) = rw e at k in
        let (numbered, count) = again (number + 1) all (omega (arith, some)) rest in
        let more : number + 1 + length all ≡ number + length (one ∷ all) = omega arith in (
          (omega (arith, first.number, some), numbered),
          ap (λ (b : Bool). number_from framing (number_after b number) parts) e ∙ (count ∙ more),
        )
    by_test again false e all k =
        let there = stays_some number some in
        let here = subst (λ (n : ℕ). AreFindings framing levels (entries_from framing n parts) all) there (rw e at k) in
        let (numbered, count) = again number all some here in (
          numbered,
          ap (λ (b : Bool). number_from framing (number_after b number) parts) e ∙ (ap (λ (n : ℕ). number_from framing n parts) there ∙ count),
        )

-- what stands before the first record of a sequence, and those after it
pub record Stray (found : List Record) : Type 0 where
  pub first : Record
  pub rest : List Record
  pub is : found ≡ first ∷ rest
  pub none : first.number ≡ 0
  pub place : ℕ
  pub refused : first.verdict ≡ not_json place Syntax
  pub numbered : AllNumbered rest

-- how the findings of an input begin, and the number that comes after them
record Begun (framing : Framing) (parts : List Part) (found : List Record) : Type 0 where
  numbers : AllNumbered found ⊎ Stray found
  next : 0 < length parts → number_from framing (first_number framing) parts ≡ 1 + records_among found

begun : (framing : Framing) (levels : ℕ) (parts : List Part) (found : List Record) → AreFindings framing levels (entries_in framing parts) found
    → Begun framing parts found
begun Lines levels parts found h =
    let (numbered, count) = count-on Lines levels 1 parts found (omega arith) h in
    record { numbers = inl numbered; next = λ some. count ∙ ap (λ (n : ℕ). 1 + n) (sym (all-among found numbered)) }
begun Sequence levels [] [] h = record { numbers = inl tt; next = λ some. absurd (omega (arith, some)) }
begun Sequence levels [] (one ∷ found) h = absurd h
begun Sequence levels (part ∷ parts) found h = by_test (is_counted Sequence 0 part) refl found h
  where
    by_test : (b : Bool) → is_counted Sequence 0 part ≡ b → (all : List Record)
        → AreFindings Sequence levels (entries_from Sequence 0 (part ∷ parts)) all
        → Begun Sequence (part ∷ parts) all
    by_test true e [] k = absurd (rw e at k)
    by_test true e (one ∷ all) k =
        let (first, rest) = rw e at k in
        let (numbered, count) = count-on Sequence levels 1 parts all (omega arith) rest in
        let none : 1 + length all ≡ 1 + (0 + length all) = omega arith in
        record {
          numbers = inr (record { first = one; rest = all; is = refl; none = first.number; place = part.start; refused = first.verdict; numbered = numbered });
          next = λ some. ap (λ (b : Bool). number_from Sequence (number_after b 0) parts) e
              ∙ (count ∙ none
              ∙ ap (λ (n : ℕ). 1 + records_among (record { number = n; place = one.place; end = one.end; verdict = one.verdict } ∷ all))
              (sym first.number));
        }
    by_test false e all k =
        let (numbered, count) = count-on Sequence levels 1 parts all (omega arith) (rw e at k) in
        record {
          numbers = inl numbered;
          next = λ some. ap (λ (b : Bool). number_from Sequence (number_after b 0) parts) e ∙ (count ∙ ap (λ (n : ℕ). 1 + n) (sym (all-among all numbered)));
        }

pub numbered-or-stray : (framing : Framing) (limits : Allowed) (bytes : List ℕ) (found : List Record) → AreAllFindings framing limits bytes found
    → AllNumbered found ⊎ Stray found
numbered-or-stray framing limits bytes found are = (begun framing limits.depth (parts_of framing limits bytes) found are).numbers

-- ---- a sequence before a separator

some-parts : (last : RecordEnd) (place : ℕ) (bytes : List ℕ) → 0 < length (parts_from Sequence last place bytes)
some-parts last place [] = omega arith
some-parts last place (byte ∷ more) = elim (cases_Bool (nat_eq byte separator)) [
  | inl e ↦ rw e (omega arith)
  | inr e ↦ rw e (omega (arith, first-length place byte (parts_from Sequence last (place + 1) more), some-parts last (place + 1) more))
]

sequence-append : (last : RecordEnd) (place : ℕ) (bytes more : List ℕ)
    → parts_from Sequence last place (bytes ++ separator ∷ more)
    ≡ parts_from Sequence Separator place bytes ++ parts_from Sequence last (place + length bytes + 1) more
sequence-append last place [] more = ap (λ (n : ℕ). part_at place [] Separator ∷ parts_from Sequence last n more) (omega arith)
sequence-append last place (byte ∷ bytes) more =
    let further : parts_from Sequence last (place + 1 + length bytes + 1) more ≡ parts_from Sequence last (place + length (byte ∷ bytes) + 1) more =
    ap (λ (n : ℕ). parts_from Sequence last n more) (omega arith) in
    let rest = sequence-append last (place + 1) bytes more ∙ ap (λ (l : List Part). parts_from Sequence Separator (place + 1) bytes ++ l) further in
    elim (cases_Bool (nat_eq byte separator)) [
      | inl e ↦ rw e (ap (λ (l : List Part). part_at place [] Separator ∷ l) rest)
      | inr e ↦ rw e (ap (with_first place byte) rest
          ∙ first-append place byte (parts_from Sequence Separator (place + 1) bytes) _ (some-parts Separator (place + 1) bytes))
    ]

-- the parts of the second one after its first separator
record Follows (last : RecordEnd) (first rest : List ℕ) : Type 0 where
  more : List Part
  alone : parts_from Sequence last 0 rest ≡ part_at 0 [] Separator ∷ more
  both : parts_from Sequence last 0 (first ++ rest) ≡ parts_from Sequence Separator 0 first ++ map (moved_part (length first)) more

follows : (last : RecordEnd) (first rest : List ℕ) → begins_with_separator rest ≡ true → Follows last first rest
follows last first [] begins = absurd (false≢true begins)
follows last first (byte ∷ more) begins =
    let is : byte ≡ separator = same byte begins in
    let place : 0 + length first + 1 ≡ 1 + length first = omega arith in
    record {
      more = parts_from Sequence last 1 more;
      alone = rw begins refl;
      both = ap (λ (b : ℕ). parts_from Sequence last 0 (first ++ b ∷ more)) is
          ∙ (sequence-append last 0 first more
          ∙ ap (λ (l : List Part). parts_from Sequence Separator 0 first ++ l) (parts-moved Sequence last (length first) 1 (0 + length first + 1) more place));
    }
  where
    same : (b : ℕ) → nat_eq b separator ≡ true → b ≡ separator
    same b e = grind (arith, nat_tests)

-- within the limits
record FollowsWithin (limits : Allowed) (first second : List ℕ) : Type 0 where
  more : List Part
  alone : parts_of Sequence (limits_after limits (length first)) second ≡ part_at 0 [] Separator ∷ more
  both : parts_of Sequence limits (first ++ second) ≡ parts_from Sequence Separator 0 first ++ map (moved_part (length first)) more

follows-within : (limits : Allowed) (first second : List ℕ) → ArePartsOf Sequence limits first second → FollowsWithin limits first second
follows-within limits first second parts =
    let n = limits.bytes in
    let a = length first in
    let within : a ≤ n = omega (arith, parts.within) in
    let cut : nat_lt n (length (first ++ second)) ≡ nat_lt (n - a) (length second) =
    ap (λ (m : ℕ). nat_lt n m) (length-append first second) ∙ less-both n a (length second) within in
    let taken = take-second n first second within in
    let begins = second_begins limits first second parts in
    elim (cases_Bool (nat_lt (n - a) (length second))) [
      | inl e ↦
          let here = follows Limit first (take (n - a) second) (begins-taken (n - a) second (omega (arith, parts.within)) begins) in
          record {
            more = here.more;
            alone = rw e here.alone;
            both = rw (cut ∙ e) (ap (λ (l : List ℕ). parts_from Sequence Limit 0 l) taken ∙ here.both);
          }
      | inr e ↦
          let here = follows Input first second begins in
          record { more = here.more; alone = rw e here.alone; both = rw (cut ∙ e) here.both }
    ]

-- ---- the last part of the first one ends at that separator

record EndsIn (place : ℕ) (bytes : List ℕ) : Type 0 where
  front : List Part
  start : ℕ
  last : List ℕ
  parts : (end : RecordEnd) → parts_from Sequence end place bytes ≡ front ++ part_at start last end ∷ []
  some : 0 < length bytes → separator_last Sequence bytes ≡ false → are_none last ≡ false

byte-first : (place byte next : ℕ) (more : List ℕ) → nat_eq byte separator ≡ false → (front : List Part) (start : ℕ) (last : List ℕ)
    → ((end : RecordEnd) → parts_from Sequence end (place + 1) (next ∷ more) ≡ front ++ part_at start last end ∷ [])
    → (0 < length (next ∷ more) → separator_last Sequence (next ∷ more) ≡ false → are_none last ≡ false)
    → EndsIn place (byte ∷ next ∷ more)
byte-first place byte next more e [] start last are some = record {
  front = [];
  start = place;
  last = byte ∷ last;
  parts = λ end. ap (λ t. if t then part_at place [] Separator ∷ parts_from Sequence end (place + 1) (next ∷ more) else with_first place byte
      (parts_from Sequence end (place + 1) (next ∷ more))) e
      ∙ ap (with_first place byte) (are end);
  some = λ has whole. refl;
}
byte-first place byte next more e (part ∷ front) start last are some = record {
  front = part_at place (byte ∷ part.bytes) part.end ∷ front;
  start = start;
  last = last;
  parts = λ end. ap (λ t. if t then part_at place [] Separator ∷ parts_from Sequence end (place + 1) (next ∷ more) else with_first place byte
      (parts_from Sequence end (place + 1) (next ∷ more))) e
      ∙ ap (with_first place byte) (are end);
  some = λ has whole. some (omega arith) whole;
}

ends-in : (place : ℕ) (bytes : List ℕ) → EndsIn place bytes
ends-in place [] = record { front = []; start = place; last = []; parts = λ end. refl; some = λ has. absurd (omega (arith, has)) }
ends-in place (byte ∷ []) = elim (cases_Bool (nat_eq byte separator)) [
  | inl e ↦ record {
    front = part_at place [] Separator ∷ [];
    start = place + 1;
    last = [];
    parts = λ end. rw e refl;
    some = λ has whole. absurd (false≢true (sym whole ∙ e));
  }
  | inr e ↦ record { front = []; start = place; last = byte ∷ []; parts = λ end. rw e refl; some = λ has whole. refl }
]
ends-in place (byte ∷ next ∷ more) =
    let rest = ends-in (place + 1) (next ∷ more) in
    elim (cases_Bool (nat_eq byte separator)) [
      | inl e ↦ record {
        front = part_at place [] Separator ∷ rest.front;
        start = rest.start;
        last = rest.last;
        parts = λ end. rw e (ap (λ (l : List Part). part_at place [] Separator ∷ l) (rest.parts end));
        some = λ has whole. rest.some (omega arith) whole;
      }
      | inr e ↦ byte-first place byte next more e rest.front rest.start rest.last rest.parts rest.some
    ]

-- whether it counts is the same
counts-ended : (number : ℕ) (is_void : Bool) → (number ≡ 0) ⊎ (is_void ≡ false)
    → counts Sequence number Input is_void ≡ counts Sequence number Separator is_void
counts-ended zero is_void h = refl
counts-ended (suc n) true (inl e) = absurd (omega (arith, e))
counts-ended (suc n) true (inr e) = absurd (false≢true (sym e))
counts-ended (suc n) false h = refl

verdict-ended : (levels number start : ℕ) (bytes : List ℕ) (verdict : Verdict) → IsNumberedVerdict Sequence levels number (part_at start bytes Input) verdict
    → IsNumberedVerdict Sequence levels number (part_at start bytes Separator) verdict
verdict-ended levels zero start bytes verdict h = h
verdict-ended levels (suc n) start bytes verdict h = h

finding-ended : (levels number start : ℕ) (bytes : List ℕ) (b : Bool) (found : List Record)
    → AreFindings Sequence levels (entry_if b (entry_at number (part_at start bytes Input)) []) found
    → AreFindings Sequence levels (entry_if b (entry_at number (part_at start bytes Separator)) []) found
finding-ended levels number start bytes true [] h = h
finding-ended levels number start bytes true (one ∷ []) h = (
  record { number = h.0.number; place = h.0.place; end = h.0.end; verdict = verdict-ended levels number start bytes one.verdict h.0.verdict },
  tt,
)
finding-ended levels number start bytes true (one ∷ next ∷ found) h = absurd h.1
finding-ended levels number start bytes false found h = h

last-ended : (levels number start : ℕ) (bytes : List ℕ) → (number ≡ 0) ⊎ (are_none bytes ≡ false) → (found : List Record)
    → AreFindings Sequence levels (entries_from Sequence number (part_at start bytes Input ∷ [])) found
    → AreFindings Sequence levels (entries_from Sequence number (part_at start bytes Separator ∷ [])) found
last-ended levels number start bytes some found h =
    finding-ended levels number start bytes (counts Sequence number Separator (are_none bytes)) found
    (subst (λ (b : Bool). AreFindings Sequence levels (entry_if b (entry_at number (part_at start bytes Input)) []) found)
    (counts-ended number (are_none bytes) some) h)

last-changed : (levels : ℕ) (front one other : List Entry)
    → ((found : List Record) → AreFindings Sequence levels one found → AreFindings Sequence levels other found) → (found : List Record)
    → AreFindings Sequence levels (front ++ one) found → AreFindings Sequence levels (front ++ other) found
last-changed levels [] one other step found h = step found h
last-changed levels (entry ∷ front) one other step [] h = h
last-changed levels (entry ∷ front) one other step (first ∷ found) h = (h.0, last-changed levels front one other step found h.1)

none-or-some : (first : List ℕ) → separator_last Sequence first ≡ false
    → (number_from Sequence 0 (ends-in 0 first).front ≡ 0) ⊎ (are_none (ends-in 0 first).last ≡ false)
unfolding ends-in
none-or-some [] whole = inl refl
none-or-some (byte ∷ more) whole = inr ((ends-in 0 (byte ∷ more)).some (omega arith) whole)

found-before : (limits : Allowed) (first second : List ℕ) (found : List Record) → ArePartsOf Sequence limits first second
    → AreAllFindings Sequence limits first found
    → AreFindings Sequence limits.depth (entries_from Sequence 0 (parts_from Sequence Separator 0 first)) found
found-before limits first second found parts are =
    let levels = limits.depth in
    let within : length first ≤ limits.bytes = omega (arith, parts.within) in
    let ends = ends-in 0 first in
    let number = number_from Sequence 0 ends.front in
    let entries : (end : RecordEnd) → entries_from Sequence 0 (parts_from Sequence end 0 first)
    ≡ entries_from Sequence 0 ends.front ++ entries_from Sequence number (part_at ends.start ends.last end ∷ []) =
    λ end. ap (λ (l : List Part). entries_from Sequence 0 l) (ends.parts end) ∙ entries-append Sequence 0 ends.front (part_at ends.start ends.last end ∷ []) in
    let here = subst (λ (l : List Part). AreFindings Sequence levels (entries_from Sequence 0 l) found) (short_parts Sequence limits first within) are in
    let split = subst (λ (l : List Entry). AreFindings Sequence levels l found) (entries Input) here in
    subst (λ (l : List Entry). AreFindings Sequence levels l found) (sym (entries Separator))
    (last-changed levels (entries_from Sequence 0 ends.front) _ _
    (last-ended levels number ends.start ends.last (none-or-some first (first_whole limits first second parts))) found split)

-- ---- both parts

sequence-findings : (limits : Allowed) (first second : List ℕ) (found more : List Record) → ArePartsOf Sequence limits first second
    → AreAllFindings Sequence limits first found → AreAllFindings Sequence (limits_after limits (length first)) second more
    → AreAllFindings Sequence limits (first ++ second) (joined_findings (length first) found more)
sequence-findings limits first second found more parts are of_rest =
    let levels = limits.depth in
    let a = length first in
    let count = records_among found in
    let front = parts_from Sequence Separator 0 first in
    let rest = follows-within limits first second parts in
    let before = found-before limits first second found parts are in
    let next : number_from Sequence 0 front ≡ 1 + count = (begun Sequence levels front found before).next (some-parts Separator 0 first) in
    let alone : AreFindings Sequence levels (entries_from Sequence 1 rest.more) more =
    subst (λ (l : List Part). AreFindings Sequence levels (entries_from Sequence 0 l) more) rest.alone of_rest in
    let moved = found-moved Sequence levels count a 1 rest.more more (omega arith) alone in
    let there = subst (λ (n : ℕ). AreFindings Sequence levels (entries_from Sequence n (map (moved_part a) rest.more)) (map (moved_finding count a) more))
    (sym next) moved in
    let both =
    findings-append Sequence levels (entries_from Sequence 0 front)
    (entries_from Sequence (number_from Sequence 0 front) (map (moved_part a) rest.more)) found (map (moved_finding count a) more) before there in
    let entries : entries_from Sequence 0 (parts_of Sequence limits (first ++ second))
    ≡ entries_from Sequence 0 front ++ entries_from Sequence (number_from Sequence 0 front) (map (moved_part a) rest.more) =
    ap (λ (l : List Part). entries_from Sequence 0 l) rest.both ∙ entries-append Sequence 0 front (map (moved_part a) rest.more) in
    subst (λ (l : List Entry). AreFindings Sequence levels l (found ++ map (moved_finding count a) more)) (sym entries) both

lines-findings : (limits : Allowed) (first second : List ℕ) (found more : List Record) → ArePartsOf Lines limits first second
    → AreAllFindings Lines limits first found → AreAllFindings Lines (limits_after limits (length first)) second more
    → AreAllFindings Lines limits (first ++ second) (joined_findings (length first) found more)
lines-findings limits first second found more parts are of_rest =
    let before = found-first limits first second found parts are in
    let next = (begun Lines limits.depth (ended 0 first) found before).next (some-ended 0 first parts.cut) in
    let count : records_in first ≡ records_among found = omega (arith, next) in
    subst (λ (n : ℕ). AreAllFindings Lines limits (first ++ second) (found ++ map (moved_finding n (length first)) more)) count
    (findings-joined limits first second found more parts are of_rest)

pub all-joined : (framing : Framing) (limits : Allowed) (first second : List ℕ) (found more : List Record) → ArePartsOf framing limits first second
    → AreAllFindings framing limits first found → AreAllFindings framing (limits_after limits (length first)) second more
    → AreAllFindings framing limits (first ++ second) (joined_findings (length first) found more)
all-joined Sequence = sequence-findings
all-joined Lines = lines-findings

-- ---- no bytes, and the bytes after a cut

no-parts : (framing : Framing) (limits : Allowed) → parts_of framing limits [] ≡ part_at 0 [] Input ∷ []
no-parts framing limits = short_parts framing limits [] (omega arith)

no-entries : (framing : Framing) → entries_in framing (part_at 0 [] Input ∷ []) ≡ []
no-entries Sequence = refl
no-entries Lines = refl

pub found-none : (framing : Framing) (limits : Allowed) → AreAllFindings framing limits [] []
found-none framing limits =
    subst (λ (l : List Entry). AreFindings framing limits.depth l [])
    (sym (ap (entries_in framing) (no-parts framing limits) ∙ no-entries framing)) tt

pub none-found : (framing : Framing) (limits : Allowed) (found : List Record) → AreAllFindings framing limits [] found → found ≡ []
none-found framing limits found are =
    none found
    (subst (λ (l : List Entry). AreFindings framing limits.depth l found)
    (ap (entries_in framing) (no-parts framing limits) ∙ no-entries framing) are)
  where
    none : (all : List Record) → AreFindings framing limits.depth [] all → all ≡ []
    none [] h = refl
    none (one ∷ all) h = absurd h

pub all-after : (framing : Framing) (limits : Allowed) (first second : List ℕ) (more : List Record) → ArePartsOf framing limits first second
    → AreAllFindings framing (limits_after limits (length first)) second more → AllNumbered more
all-after Lines limits first second more parts are =
    (count-on Lines limits.depth 1 (parts_of Lines (limits_after limits (length first)) second) more (omega arith) are).0
all-after Sequence limits first second more parts are =
    let rest = follows-within limits first second parts in
    (count-on Sequence limits.depth 1 rest.more more (omega arith)
    (subst (λ (l : List Part). AreFindings Sequence limits.depth (entries_from Sequence 0 l) more) rest.alone are)).0

-- how many records both have
pub among-both : (end : ℕ) (found more : List Record) → AllNumbered more → records_among (joined_findings end found more) ≡ records_among found + length more
among-both end [] more all = all-among (map (moved_finding 0 end) more) (still more all) ∙ (length-map more (moved_finding 0 end) ∙ omega arith)
  where
    still : (found : List Record) → AllNumbered found → AllNumbered (map (moved_finding 0 end) found)
    still [] h = tt
    still (one ∷ found) h = (omega (arith, h.0), still found h.1)
among-both end (one ∷ found) more all =
    let count = records_among (one ∷ found) in
    let both : length (found ++ map (moved_finding count end) more) ≡ length found + length more =
    length-append found (map (moved_finding count end) more) ∙ ap (λ (n : ℕ). length found + n) (length-map more (moved_finding count end)) in
    omega (arith, both)
