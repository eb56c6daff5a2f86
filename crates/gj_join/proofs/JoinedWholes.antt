-- What newline-delimited texts are as a whole, by their parts.
use Rattle.gj_join.proofs.Common.{Allowed, AreFindings, ArePartsOf, Bool, Framing, Input, IsNumberedVerdict, Lines, List, Part, Record, Verdict, ap}
use Rattle.gj_join.proofs.Common.{arith, entries_from, false, is_counted, length, limits_after, map, moved_finding, number_after, part_at, parts_of}
use Rattle.gj_join.proofs.Common.{refl, shifted_verdict, subst, suc, sym, true, zero, ℕ, [], ◌++◌, ◌+◌, ◌-◌, ◌<◌, ◌∙◌, ◌∷◌, ◌≡◌}
use Rattle.std.proofs.Common.{add_comm}
use Rattle.std.proofs.lemmas.List.{append-nil}
use Rattle.gj_coords.specs.Internal.KeptWarnings.{no_warnings, joined, shifted}
use Rattle.gj_coords.specs.Internal.WarningLaws.{joined_none_last, joined_assoc}
use Rattle.gj_coords.specs.declared.warnings.Warnings.{Warnings}
use Rattle.gj_rules.specs.Records.{Entry, number_from}
use Rattle.gj_rules.specs.declared.sequence.verdict.SeqVerdict.{SeqVerdict}
use Rattle.gj_rules.specs.declared.verdict.Verdict.TheVariants.{Valid, Broken, NotJson}
use Rattle.gj_rules.specs.RecordFindings.{AreAllFindings, IsWholeVerdict, joined_with, after, whole_from, whole_of}
use Rattle.gj_rules.proofs.Parts.CountedParts.{entries-append}
use Rattle.gj_join.specs.Joined.{joined_verdict}
use Rattle.gj_join.proofs.JoinedLines.{ended, moved_part, parts_of-parts, alone, stays_some, found-moved}
use Rattle.gj_join.proofs.MovedVerdicts.{IsKept, KeepsSome, kept-none, kept-joined, shifted-none, shifted-joined, keeps-shifted, own-kept}

-- ---- one record more

decided : (number : ℕ) (verdict : Verdict) (found : List Record) → whole_from (SeqVerdict.Record number verdict) found ≡ SeqVerdict.Record number verdict
decided number verdict [] = refl
decided number verdict (one ∷ found) = decided number verdict found

whole-append : (verdict : SeqVerdict) (found more : List Record) → whole_from verdict (found ++ more) ≡ whole_from (whole_from verdict found) more
whole-append verdict [] more = refl
whole-append verdict (one ∷ found) more = whole-append (after verdict one) found more

abbrev AllKeep : List Record → Type 0
AllKeep [] = Unit {0}
AllKeep (one ∷ found) = KeepsSome one.verdict × AllKeep found

keeps-numbered : (levels number : ℕ) (part : Part) (verdict : Verdict) → IsNumberedVerdict Lines levels number part verdict → KeepsSome verdict
keeps-numbered levels zero part verdict is = subst (λ (v : Verdict). KeepsSome v) (sym is) tt
keeps-numbered levels (suc n) part verdict (own, is, e) =
    subst (λ (v : Verdict). KeepsSome v) (sym e) (keeps-shifted part.start _ (own-kept Lines levels part own is))

all-keep : (levels : ℕ) (entries : List Entry) (found : List Record) → AreFindings Lines levels entries found → AllKeep found
all-keep levels [] [] h = tt
all-keep levels [] (one ∷ found) h = absurd h
all-keep levels (entry ∷ more) [] h = absurd h
all-keep levels (entry ∷ more) (one ∷ found) h =
    (keeps-numbered levels entry.number entry.part one.verdict h.0.verdict, all-keep levels more found h.1)

-- after so many valid records with these warnings
more-joined : (records by : ℕ) (warnings : Warnings) (found : List Record) (more : ℕ) (others : Warnings) → IsKept others → AllKeep found
    → whole_from (SeqVerdict.Valid (records + more) (joined warnings (shifted others by))) (map (moved_finding records by) found)
    ≡ joined_verdict by (SeqVerdict.Valid records warnings) (whole_from (SeqVerdict.Valid more others) found)
more-joined records by warnings [] more others kept all = refl
more-joined records by warnings (one ∷ found) more others kept all =
    by_verdict (λ n ws k. more-joined records by warnings found n ws k all.1) one.verdict all.0
  where
    fails : (v : Verdict)
        → whole_from (SeqVerdict.Record (one.number + records) (shifted_verdict by v)) (map (moved_finding records by) found)
        ≡ joined_verdict by (SeqVerdict.Valid records warnings) (whole_from (SeqVerdict.Record one.number v) found)
    fails v =
        decided (one.number + records) (shifted_verdict by v) (map (moved_finding records by) found)
        ∙ (ap (λ (n : ℕ). SeqVerdict.Record n (shifted_verdict by v)) (add_comm one.number records)
        ∙ sym (ap (joined_verdict by (SeqVerdict.Valid records warnings)) (decided one.number v found)))

    by_verdict : ((n : ℕ) (ws : Warnings) → IsKept ws
        → whole_from (SeqVerdict.Valid (records + n) (joined warnings (shifted ws by))) (map (moved_finding records by) found)
        ≡ joined_verdict by (SeqVerdict.Valid records warnings) (whole_from (SeqVerdict.Valid n ws) found)) → (v : Verdict) → KeepsSome v
        → whole_from (joined_with (joined warnings (shifted others by)) (one.number + records) (shifted_verdict by v)) (map (moved_finding records by) found)
        ≡ joined_verdict by (SeqVerdict.Valid records warnings) (whole_from (joined_with others one.number v) found)
    by_verdict again (Valid ws) k =
        ap (λ (n : ℕ). whole_from (SeqVerdict.Valid n (joined (joined warnings (shifted others by)) (shifted ws by))) (map (moved_finding records by) found))
        (add_comm one.number records)
        ∙ (ap (λ (w : Warnings). whole_from (SeqVerdict.Valid (records + one.number) w) (map (moved_finding records by) found))
        (joined_assoc warnings (shifted others by) (shifted ws by) ∙ ap (joined warnings) (sym (shifted-joined by others ws kept k)))
        ∙ again one.number (joined others ws) (kept-joined others ws kept k))
    by_verdict again (Broken fault) k = fails (Broken fault)
    by_verdict again (NotJson fault) k = fails (NotJson fault)

-- what holds after any valid records
abbrev CountsOn : ℕ → List Part → ℕ → Warnings → Type 0
CountsOn levels parts records warnings = (n : ℕ) (before : Warnings) (found : List Record) → AreFindings Lines levels (entries_from Lines (n + 1) parts) found
    → whole_from (SeqVerdict.Valid n before) found ≡ SeqVerdict.Valid records warnings → number_from Lines (n + 1) parts ≡ records + 1

-- the number of a record after valid ones
counted : (levels n : ℕ) (before : Warnings) (parts : List Part) (found : List Record) (records : ℕ) (warnings : Warnings)
    → AreFindings Lines levels (entries_from Lines (n + 1) parts) found → whole_from (SeqVerdict.Valid n before) found ≡ SeqVerdict.Valid records warnings
    → number_from Lines (n + 1) parts ≡ records + 1
counted levels n before [] [] records warnings h e =
    let same : n ≡ records = cc in
    ap (λ (k : ℕ). k + 1) same
counted levels n before [] (one ∷ found) records warnings h e = absurd h
counted levels n before (part ∷ parts) found records warnings h e =
    by_test (λ m ws all k f. counted levels m ws parts all records warnings k f) (is_counted Lines (n + 1) part) refl found h e
  where
    never : (number : ℕ) (v : Verdict) (all : List Record) → whole_from (SeqVerdict.Record number v) all ≡ SeqVerdict.Valid records warnings → ⊥
    never number v all f = let g : SeqVerdict.Record number v ≡ SeqVerdict.Valid records warnings = sym (decided number v all) ∙ f in cc

    by_verdict : CountsOn levels parts records warnings → (number : ℕ) (v : Verdict) (all : List Record) → number ≡ n + 1
        → AreFindings Lines levels (entries_from Lines (n + 1 + 1) parts) all → whole_from (joined_with before number v) all ≡ SeqVerdict.Valid records warnings
        → number_from Lines (n + 1 + 1) parts ≡ records + 1
    by_verdict again number (Valid ws) all is rest f =
        again (n + 1) (joined before ws) all rest
        (subst (λ (m : ℕ). whole_from (SeqVerdict.Valid m (joined before ws)) all ≡ SeqVerdict.Valid records warnings) is f)
    by_verdict again number (Broken fault) all is rest f = absurd (never number (Broken fault) all f)
    by_verdict again number (NotJson fault) all is rest f = absurd (never number (NotJson fault) all f)

    by_test : CountsOn levels parts records warnings → (b : Bool) → is_counted Lines (n + 1) part ≡ b → (all : List Record)
        → AreFindings Lines levels (entries_from Lines (n + 1) (part ∷ parts)) all
        → whole_from (SeqVerdict.Valid n before) all ≡ SeqVerdict.Valid records warnings
        → number_from Lines (number_after (is_counted Lines (n + 1) part) (n + 1)) parts ≡ records + 1
    by_test again true t [] k f = absurd (rw t at k)
    by_test again true t (one ∷ all) k f =
        let (first, rest) = rw t at k in
        subst (λ (b : Bool). number_from Lines (number_after b (n + 1)) parts ≡ records + 1) (sym t)
        (by_verdict again one.number one.verdict all first.number rest f)
    by_test again false t all k f =
        let there = stays_some (n + 1) (omega arith) in
        let here = subst (λ (m : ℕ). AreFindings Lines levels (entries_from Lines m parts) all) there (rw t at k) in
        subst (λ (b : Bool). number_from Lines (number_after b (n + 1)) parts ≡ records + 1) (sym t)
        (ap (λ (m : ℕ). number_from Lines m parts) there ∙ again n before all here f)

-- ---- both parts

pub findings-append : (framing : Framing) (levels : ℕ) (entries others : List Entry) (found more : List Record) → AreFindings framing levels entries found
    → AreFindings framing levels others more
    → AreFindings framing levels (entries ++ others) (found ++ more)
findings-append framing levels [] others [] more h k = k
findings-append framing levels [] others (one ∷ found) more h k = absurd h
findings-append framing levels (entry ∷ entries) others [] more h k = absurd h
findings-append framing levels (entry ∷ entries) others (one ∷ found) more h k = (h.0, findings-append framing levels entries others found more h.1 k)

number-some : (number : ℕ) (parts : List Part) → 0 < number → 0 < number_from Lines number parts
number-some number [] some = some
number-some number (part ∷ parts) some =
    let counted = is_counted Lines number part in
    number-some (number_after counted number) parts (after-some counted number some)
  where
    after-some : (b : Bool) (n : ℕ) → 0 < n → 0 < number_after b n
    after-some true n s = omega arith
    after-some false zero s = absurd (omega (arith, s))
    after-some false (suc n) s = omega arith

-- how many records there are in lines that end
abbrev pub records_in : List ℕ → ℕ
records_in first = number_from Lines 1 (ended 0 first) - 1

pub found-first : (limits : Allowed) (first second : List ℕ) (found : List Record) → ArePartsOf Lines limits first second
    → AreAllFindings Lines limits first found
    → AreFindings Lines limits.depth (entries_from Lines 1 (ended 0 first)) found
found-first limits first second found parts are =
    let last = part_at (0 + length first) [] Input in
    let all = alone limits first parts.cut (omega (arith, parts.within)) in
    let entries : entries_from Lines 1 (parts_of Lines limits first) ≡ entries_from Lines 1 (ended 0 first) =
    ap (λ (l : List Part). entries_from Lines 1 l) all
    ∙ (entries-append Lines 1 (ended 0 first) (last ∷ []) ∙ append-nil (entries_from Lines 1 (ended 0 first))) in
    subst (λ (l : List Entry). AreFindings Lines limits.depth l found) entries are

pub findings-joined : (limits : Allowed) (first second : List ℕ) (found more : List Record) → ArePartsOf Lines limits first second
    → AreAllFindings Lines limits first found → AreAllFindings Lines (limits_after limits (length first)) second more
    → AreAllFindings Lines limits (first ++ second) (found ++ map (moved_finding (records_in first) (length first)) more)
findings-joined limits first second found more parts are of_rest =
    let a = length first in
    let rest = parts_of Lines (limits_after limits a) second in
    let next : 1 + records_in first ≡ number_from Lines 1 (ended 0 first) = omega (arith, number-some 1 (ended 0 first) (omega arith)) in
    let moved = found-moved Lines limits.depth (records_in first) a 1 rest more (omega arith) of_rest in
    let there =
    subst (λ (n : ℕ). AreFindings Lines limits.depth (entries_from Lines n (map (moved_part a) rest)) (map (moved_finding (records_in first) a) more))
    next moved in
    let both =
    findings-append Lines limits.depth (entries_from Lines 1 (ended 0 first))
    (entries_from Lines (number_from Lines 1 (ended 0 first)) (map (moved_part a) rest)) found (map (moved_finding (records_in first) a) more)
    (found-first limits first second found parts are) there in
    let entries : entries_from Lines 1 (parts_of Lines limits (first ++ second)) ≡ entries_from Lines 1 (ended 0 first)
    ++ entries_from Lines (number_from Lines 1 (ended 0 first)) (map (moved_part a) rest) =
    ap (λ (l : List Part). entries_from Lines 1 l) (parts_of-parts limits first second parts)
    ∙ entries-append Lines 1 (ended 0 first) (map (moved_part a) rest) in
    subst (λ (l : List Entry). AreFindings Lines limits.depth l (found ++ map (moved_finding (records_in first) a) more)) (sym entries) both

whole-joined : (levels records by : ℕ) (parts : List Part) (found more : List Record) (one other : SeqVerdict)
    → AreFindings Lines levels (entries_from Lines 1 parts) found → AllKeep more → records ≡ number_from Lines 1 parts - 1 → one ≡ whole_of found
    → other ≡ whole_of more
    → joined_verdict by one other ≡ whole_of (found ++ map (moved_finding records by) more)
whole-joined levels records by parts found more (SeqVerdict.Record number verdict) other are keep count is is_more =
    sym (whole-append (SeqVerdict.Valid 0 no_warnings) found (map (moved_finding records by) more)
    ∙ (ap (λ (v : SeqVerdict). whole_from v (map (moved_finding records by) more)) (sym is) ∙ decided number verdict (map (moved_finding records by) more)))
whole-joined levels records by parts found more (SeqVerdict.Valid valid warnings) other are keep count is is_more =
    let number = counted levels 0 no_warnings parts found valid warnings are (sym is) in
    let same : records ≡ valid = omega (arith, number, count) in
    let none : valid ≡ valid + 0 = omega arith in
    let nothing : warnings ≡ joined warnings (shifted no_warnings by) = sym (ap (joined warnings) (shifted-none by) ∙ joined_none_last warnings) in
    let begun : SeqVerdict.Valid valid warnings ≡ SeqVerdict.Valid (valid + 0) (joined warnings (shifted no_warnings by)) =
    ap (λ (n : ℕ). SeqVerdict.Valid n warnings) none ∙ ap (SeqVerdict.Valid (valid + 0)) nothing in
    sym (whole-append (SeqVerdict.Valid 0 no_warnings) found (map (moved_finding records by) more)
    ∙ (ap (λ (v : SeqVerdict). whole_from v (map (moved_finding records by) more)) (sym is ∙ begun)
    ∙ (ap (λ (n : ℕ). whole_from (SeqVerdict.Valid (valid + 0) (joined warnings (shifted no_warnings by))) (map (moved_finding n by) more)) same
    ∙ (more-joined valid by warnings more 0 no_warnings kept-none keep
    ∙ ap (joined_verdict by (SeqVerdict.Valid valid warnings)) (sym is_more)))))

pub lines-joined : (limits : Allowed) (first second : List ℕ) (one other : SeqVerdict) → ArePartsOf Lines limits first second
    → IsWholeVerdict Lines limits first one
    → IsWholeVerdict Lines (limits_after limits (length first)) second other
    → IsWholeVerdict Lines limits (first ++ second) (joined_verdict (length first) one other)
lines-joined limits first second one other parts (found, are, is) (more, of_rest, is_more) = (
  found ++ map (moved_finding (records_in first) (length first)) more,
  findings-joined limits first second found more parts are of_rest,
  whole-joined limits.depth (records_in first) (length first) (ended 0 first) found more one other (found-first limits first second found parts are)
      (all-keep limits.depth _ more of_rest) refl is is_more,
)
