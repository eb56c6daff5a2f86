-- Newline-delimited texts, by their parts.
use Rattle.gj_join.proofs.Common.{Allowed, AreFindings, ArePartsOf, Bool, Framing, Input, IsNumberedVerdict, Limit, Lines, List, Part, Record}
use Rattle.gj_join.proofs.Common.{RecordEnd, Separator, Sequence, Verdict, ap, arith, cases_Bool, entries_from, false, false≢true, inl, inr}
use Rattle.gj_join.proofs.Common.{is_counted, length, length-append, limits_after, map, moved_finding, nat_lt, number_after, part_at, parts_of, refl}
use Rattle.gj_join.proofs.Common.{separator_last, shifted_verdict, subst, suc, sym, take, true, zero, ℕ, [], ◌++◌, ◌+◌, ◌-◌, ◌<◌, ◌∙◌, ◌∷◌, ◌≡◌, ◌≤◌}
use Rattle.std.proofs.Common.{if◌then◌else◌}
use Rattle.std.specs.Prelude.{nat_eq}
use Rattle.std.proofs.lemmas.List.{append-nil}
use Rattle.gj_json.specs.Bytes.{line_feed}
use Rattle.gj_rules.specs.Records.{entry_at, entry_if, with_first, parts_from, counts, is_void}
use Rattle.gj_rules.specs.Records.{separator_of, at_least_one}
use Rattle.gj_rules.specs.RecordFindings.{IsOwnVerdict, IsFinding, ended_as}
use Rattle.gj_rules.specs.Sequence.{ends_in_line_feed}
use Rattle.gj_rules.proofs.Parts.PartCuts.{short_parts}
use Rattle.gj_join.proofs.JoinedRecords.{take-second, less-both}
use Rattle.gj_join.proofs.MovedVerdicts.{verdict-twice, own-kept}

-- ---- the lines that end within some bytes

abbrev pub ended : ℕ → List ℕ → List Part
ended place [] = []
ended place (byte ∷ more) =
    if nat_eq byte line_feed then part_at place [] Separator ∷ ended (place + 1) more else with_first place byte (ended (place + 1) more)

pub first-length : (place byte : ℕ) (parts : List Part) → length (with_first place byte parts) ≡ length parts
first-length place byte [] = refl
first-length place byte (part ∷ more) = refl

pub first-append : (place byte : ℕ) (parts more : List Part) → 0 < length parts
    → with_first place byte (parts ++ more) ≡ with_first place byte parts ++ more
first-append place byte [] more some = absurd (omega (arith, some))
first-append place byte (part ∷ parts) more some = refl

pub some-ended : (place : ℕ) (bytes : List ℕ) → separator_last Lines bytes ≡ true → 0 < length (ended place bytes)
some-ended place [] last = absurd (false≢true last)
some-ended place (byte ∷ []) last = rw last (omega arith)
some-ended place (byte ∷ next ∷ more) last =
    let rest = some-ended (place + 1) (next ∷ more) last in
    elim (cases_Bool (nat_eq byte line_feed)) [
      | inl e ↦ rw e (omega arith)
      | inr e ↦ rw e (omega (arith, first-length place byte (ended (place + 1) (next ∷ more)), rest))
    ]

lines-append : (last : RecordEnd) (place : ℕ) (bytes next : List ℕ) → separator_last Lines bytes ≡ true
    → parts_from Lines last place (bytes ++ next) ≡ ended place bytes ++ parts_from Lines last (place + length bytes) next
lines-append last place [] next ends = absurd (false≢true ends)
lines-append last place (byte ∷ []) next ends =
    rw ends (ap (λ (n : ℕ). part_at place [] Separator ∷ parts_from Lines last n next) (omega arith))
lines-append last place (byte ∷ following ∷ more) next ends =
    let further : parts_from Lines last (place + 1 + length (following ∷ more)) next ≡ parts_from Lines last (place + length (byte ∷ following ∷ more)) next =
    ap (λ (n : ℕ). parts_from Lines last n next) (omega arith) in
    let rest = lines-append last (place + 1) (following ∷ more) next ends
    ∙ ap (λ (l : List Part). ended (place + 1) (following ∷ more) ++ l) further in
    elim (cases_Bool (nat_eq byte line_feed)) [
      | inl e ↦ rw e (ap (λ (l : List Part). part_at place [] Separator ∷ l) rest)
      | inr e ↦ rw e (ap (with_first place byte) rest
          ∙ first-append place byte (ended (place + 1) (following ∷ more)) _ (some-ended (place + 1) (following ∷ more) ends))
    ]

-- ---- places so many bytes further on

abbrev pub moved_part : ℕ → Part → Part
moved_part by part = part_at (part.start + by) part.bytes part.end

first-moved : (by place other byte : ℕ) (parts : List Part) → other ≡ place + by
    → with_first other byte (map (moved_part by) parts) ≡ map (moved_part by) (with_first place byte parts)
first-moved by place other byte [] same = refl
first-moved by place other byte (part ∷ more) same = ap (λ (n : ℕ). part_at n (byte ∷ part.bytes) part.end ∷ map (moved_part by) more) same

pub parts-moved : (framing : Framing) (last : RecordEnd) (by place other : ℕ) (bytes : List ℕ) → other ≡ place + by
    → parts_from framing last other bytes ≡ map (moved_part by) (parts_from framing last place bytes)
parts-moved framing last by place other [] same = ap (λ (n : ℕ). part_at n [] last ∷ []) same
parts-moved framing last by place other (byte ∷ more) same =
    let rest = parts-moved framing last by (place + 1) (other + 1) more (omega (arith, same)) in
    elim (cases_Bool (nat_eq byte (separator_of framing))) [
      | inl e ↦ rw e (ap (λ (n : ℕ). part_at n [] Separator ∷ parts_from framing last (other + 1) more) same
          ∙ ap (λ (l : List Part). part_at (place + by) [] Separator ∷ l) rest)
      | inr e ↦ rw e (ap (with_first other byte) rest ∙ first-moved by place other byte (parts_from framing last (place + 1) more) same)
    ]

-- ---- within the limits

both-parts : (last : RecordEnd) (first second : List ℕ) → separator_last Lines first ≡ true
    → parts_from Lines last 0 (first ++ second) ≡ ended 0 first ++ map (moved_part (length first)) (parts_from Lines last 0 second)
both-parts last first second ends =
    lines-append last 0 first second ends ∙ ap (λ (l : List Part). ended 0 first ++ l) (parts-moved Lines last (length first) 0 (0 + length first) second refl)

pub parts_of-parts : (limits : Allowed) (first second : List ℕ) → ArePartsOf Lines limits first second
    → parts_of Lines limits (first ++ second) ≡ ended 0 first ++ map (moved_part (length first)) (parts_of Lines (limits_after limits (length first)) second)
parts_of-parts limits first second parts =
    let n = limits.bytes in
    let a = length first in
    let within : a ≤ n = omega (arith, parts.within) in
    let cut : nat_lt n (length (first ++ second)) ≡ nat_lt (n - a) (length second) =
    ap (λ (m : ℕ). nat_lt n m) (length-append first second) ∙ less-both n a (length second) within in
    let taken = take-second n first second within in
    elim (cases_Bool (nat_lt (n - a) (length second))) [
      | inl e ↦ rw (cut ∙ e) (rw e (ap (λ (l : List ℕ). parts_from Lines Limit 0 l) taken ∙ both-parts Limit first (take (n - a) second) parts.cut))
      | inr e ↦ rw (cut ∙ e) (rw e (both-parts Input first second parts.cut))
    ]

-- the bytes after the last LF are none
pub alone : (limits : Allowed) (first : List ℕ) → separator_last Lines first ≡ true → length first ≤ limits.bytes
    → parts_of Lines limits first ≡ ended 0 first ++ part_at (0 + length first) [] Input ∷ []
alone limits first ends within =
    short_parts Lines limits first within
    ∙ (ap (λ (l : List ℕ). parts_from Lines Input 0 l) (sym (append-nil first)) ∙ lines-append Input 0 first [] ends)

-- ---- the records

pub stays_some : (number : ℕ) → 0 < number → at_least_one number ≡ number
stays_some zero some = absurd (omega (arith, some))
stays_some (suc n) some = refl

-- whether a part counts that is not the first does not depend on its number
counts-any : (framing : Framing) (number other : ℕ) (end : RecordEnd) (is_void : Bool) → 0 < number → 0 < other
    → counts framing number end is_void ≡ counts framing other end is_void
counts-any Lines number other Separator is_void some more = refl
counts-any Lines number other Input is_void some more = refl
counts-any Lines number other Limit is_void some more = refl
counts-any Sequence number other Separator is_void some more = refl
counts-any Sequence number other Limit is_void some more = refl
counts-any Sequence zero other Input is_void some more = absurd (omega (arith, some))
counts-any Sequence (suc n) zero Input is_void some more = absurd (omega (arith, more))
counts-any Sequence (suc n) (suc m) Input is_void some more = refl

own_of : (framing : Framing) (levels number : ℕ) (part : Part) (verdict : Verdict) → 0 < number → IsNumberedVerdict framing levels number part verdict
    → IsOwnVerdict framing levels part verdict
own_of framing levels zero part verdict some h = absurd (omega (arith, some))
own_of framing levels (suc n) part verdict some h = h

numbered : (framing : Framing) (levels number : ℕ) (part : Part) (verdict : Verdict) → 0 < number → IsOwnVerdict framing levels part verdict
    → IsNumberedVerdict framing levels number part verdict
numbered framing levels zero part verdict some h = absurd (omega (arith, some))
numbered framing levels (suc n) part verdict some h = h

finding-moved : (framing : Framing) (levels count by number : ℕ) (part : Part) (found : Record) → 0 < number
    → IsFinding framing levels (entry_at number part) found
    → IsFinding framing levels (entry_at (number + count) (moved_part by part)) (moved_finding count by found)
finding-moved framing levels count by number part found some h =
    let (own, is, e) = own_of framing levels number part found.verdict some h.verdict in
    let ended = ended_as framing part.end (ends_in_line_feed part.bytes) (length part.bytes) own in
    record {
      number = ap (λ (n : ℕ). n + count) h.number;
      place = ap (λ (n : ℕ). n + by) h.place;
      end = omega (arith, h.end);
      verdict = numbered framing levels (number + count) (moved_part by part) (shifted_verdict by found.verdict) (omega (arith, some)) (
        own,
        is,
        ap (shifted_verdict by) e ∙ sym (verdict-twice part.start by ended (own-kept framing levels part own is)),
      );
    }

-- what was found in a moved part, whether it counts or not, and in those after it
abbrev FoundMoved : Framing → (levels count by number : ℕ) (part : Part) (parts : List Part) → List Record → Bool → Type 0
FoundMoved framing levels count by number part parts all t = AreFindings framing levels (entry_if t (entry_at (number + count) (moved_part by part))
    (entries_from framing (number_after t (number + count)) (map (moved_part by) parts))) all

pub found-moved : (framing : Framing) (levels count by number : ℕ) (parts : List Part) (found : List Record) → 0 < number
    → AreFindings framing levels (entries_from framing number parts) found
    → AreFindings framing levels (entries_from framing (number + count) (map (moved_part by) parts)) (map (moved_finding count by) found)
found-moved framing levels count by number [] [] some h = tt
found-moved framing levels count by number [] (one ∷ found) some h = absurd h
found-moved framing levels count by number (part ∷ parts) found some h =
    by_test (λ n all s k. found-moved framing levels count by n parts all s k) (is_counted framing number part) refl found h
  where
    there : (b : Bool) → is_counted framing number part ≡ b → is_counted framing (number + count) (moved_part by part) ≡ b
    there b e = counts-any framing (number + count) number part.end (is_void framing part.bytes) (omega (arith, some)) some ∙ e

    by_test : ((n : ℕ) (all : List Record) → 0 < n → AreFindings framing levels (entries_from framing n parts) all
        → AreFindings framing levels (entries_from framing (n + count) (map (moved_part by) parts)) (map (moved_finding count by) all))
        → (b : Bool) → is_counted framing number part ≡ b → (all : List Record)
        → AreFindings framing levels (entries_from framing number (part ∷ parts)) all
        → AreFindings framing levels (entries_from framing (number + count) (moved_part by part ∷ map (moved_part by) parts)) (map (moved_finding count by) all)
    by_test again true e [] k = absurd (rw e at k)
    by_test again true e (one ∷ all) k =
        let (first, rest) = rw e at k in
        let next : number + 1 + count ≡ number + count + 1 = omega arith in
        subst (FoundMoved framing levels count by number part parts (moved_finding count by one ∷ map (moved_finding count by) all)) (sym (there true e)) (
          finding-moved framing levels count by number part one some first,
          subst (λ (n : ℕ). AreFindings framing levels (entries_from framing n (map (moved_part by) parts)) (map (moved_finding count by) all)) next
              (again (number + 1) all (omega (arith, some)) rest),
        )
    by_test again false e all k =
        let here = subst (λ (n : ℕ). AreFindings framing levels (entries_from framing n parts) all) (stays_some number some) (rw e at k) in
        subst (FoundMoved framing levels count by number part parts (map (moved_finding count by) all)) (sym (there false e))
        (subst (λ (n : ℕ). AreFindings framing levels (entries_from framing n (map (moved_part by) parts)) (map (moved_finding count by) all))
        (sym (stays_some (number + count) (omega (arith, some)))) (again number all some here))
