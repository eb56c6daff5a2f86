-- What is found in records, as one more ends.
use Rattle.gj_rules.proofs.Common.{AreFindings, Cause, Entry, Framing, IsNumberedVerdict, IsOwnVerdict, Limit, List, NotJson, Part, Record}
use Rattle.gj_rules.proofs.Common.{SeqVerdict, Syntax, Valid, Verdict, after, ap, arith, cut_fault, false, is_valid, length, part_at, refl}
use Rattle.gj_rules.proofs.Common.{shifted_verdict, suc, true, whole_from, zero, [], ◌++◌, ◌<◌, ◌∙◌, ◌∷◌}
use Rattle.std.proofs.Common.{◌≡◌, ℕ}
use Rattle.gj_rules.specs.RecordFindings.{IsFinding, joined_with}
use Rattle.gj_rules.specs.Sequence.{if_cut, is_valid_sequence}

pub found-append : (framing : Framing) (levels : ℕ) (entries : List Entry) (found : List Record) (entry : Entry) (one : Record)
    → AreFindings framing levels entries found → IsFinding framing levels entry one
    → AreFindings framing levels (entries ++ entry ∷ []) (found ++ one ∷ [])
found-append framing levels [] [] entry one h k = (k, tt)
found-append framing levels [] (other ∷ found) entry one h k = absurd h
found-append framing levels (first ∷ entries) [] entry one h k = absurd h
found-append framing levels (first ∷ entries) (other ∷ found) entry one h k = (h.0, found-append framing levels entries found entry one h.1 k)

pub whole-append : (verdict : SeqVerdict) (found : List Record) (one : Record) → whole_from verdict (found ++ one ∷ []) ≡ after (whole_from verdict found) one
whole-append verdict [] one = refl
whole-append verdict (other ∷ found) one = whole-append (after verdict other) found one

pub numbered_own : (framing : Framing) (levels number : ℕ) (part : Part) (verdict : Verdict) → 0 < number → IsOwnVerdict framing levels part verdict
    → IsNumberedVerdict framing levels number part verdict
numbered_own framing levels zero part verdict some h = absurd (omega (arith, some))
numbered_own framing levels (suc n) part verdict some h = h

-- ---- a record that is not valid

-- the first record that is not valid stays it
pub failing_stays : (number : ℕ) (verdict : Verdict) (more : List Record)
    → whole_from (SeqVerdict.Record number verdict) more ≡ SeqVerdict.Record number verdict
failing_stays number verdict [] = refl
failing_stays number verdict (found ∷ more) = failing_stays number verdict more

pub after_fails : (verdict : SeqVerdict) (found : Record) → is_valid found.verdict ≡ false → is_valid_sequence (after verdict found) ≡ false
after_fails (SeqVerdict.Record number verdict) found fails = refl
after_fails (SeqVerdict.Valid count warnings) found fails = by_verdict found.verdict fails
  where
    by_verdict : (verdict : Verdict) → is_valid verdict ≡ false → is_valid_sequence (joined_with warnings found.number verdict) ≡ false
    by_verdict (Valid more) e = cc
    by_verdict other e = refl

-- after valid ones it decides
pub first_to_fail : (verdict : SeqVerdict) (found : Record) → is_valid_sequence verdict ≡ true → is_valid found.verdict ≡ false
    → after verdict found ≡ SeqVerdict.Record found.number found.verdict
first_to_fail (SeqVerdict.Record number verdict) found valid fails = cc
first_to_fail (SeqVerdict.Valid count warnings) found valid fails = by_verdict found.verdict fails
  where
    by_verdict : (verdict : Verdict) → is_valid verdict ≡ false → joined_with warnings found.number verdict ≡ SeqVerdict.Record found.number verdict
    by_verdict (Valid more) e = cc
    by_verdict other e = refl

-- one that the limit cuts off
pub limit_fails : (framing : Framing) (levels number start : ℕ) (given : List ℕ) (verdict : Verdict)
    → IsNumberedVerdict framing levels number (part_at start given Limit) verdict → is_valid verdict ≡ false
limit_fails framing levels zero start given verdict h = ap is_valid h
limit_fails framing levels (suc n) start given verdict h = ap is_valid h.2 ∙ cut_fails h.0
  where
    by_cause : (place : ℕ) (cause : Cause) → is_valid (shifted_verdict start (cut_fault cause place (length given))) ≡ false
    by_cause place Syntax = refl
    by_cause place other = refl

    cut_fails : (own : Verdict) → is_valid (shifted_verdict start (if_cut (length given) own)) ≡ false
    cut_fails (NotJson fault) = by_cause fault.place fault.cause
    cut_fails other = refl
