-- The bytes of a record, their last one, and the record's verdict.
use Rattle.gj_rules.proofs.Common.{Allowed, Bool, Broken, Cause, Depth, Framing, Input, IsVerdict, IsViableWithin, Length, Limit, Lines, List, NotJson, RecordEnd}
use Rattle.gj_rules.proofs.Common.{RefusedFor, Separator, Stops, Syntax, TellsPlace, Truncated, Valid, Verdict, ap, arith, cut_fault, false, get_or}
use Rattle.gj_rules.proofs.Common.{if_ended, length, nat_eq, own_limits, refl, separator, shifted_verdict, subst, suc, sym, true, zero, [], ◌++◌, ◌+◌, ◌-◌}
use Rattle.gj_rules.proofs.Common.{◌<◌, ◌∙◌, ◌∷◌, ◌≤◌}
use Rattle.std.proofs.Common.{◌≡◌, ℕ, length-append, Option, Some, None}
use Rattle.gj_json.proofs.Machine.CompletableStates.{fits_viable}
use Rattle.gj_json.specs.Bytes.{line_feed}
use Rattle.gj_coords.specs.Internal.KeptWarnings.{no_warnings, shifted}
use Rattle.gj_rules.specs.declared.records.framing.Framing.TheVariants.{Sequence}
use Rattle.gj_rules.specs.RecordFindings.{ended_as}
use Rattle.gj_rules.specs.Sequence.{last_byte}
use Rattle.gj_json.specs.declared.reader.Reader.{Reader}
use Rattle.gj_json.specs.Reader.{StandsFor as ReaderStandsFor, refusal_of as reader_refusal, offset_of as reader_offset}
use Rattle.gj_rules.specs.declared.linter.Linter.{Linter}
use Rattle.gj_json.specs.declared.fault.JsonFault.{JsonFault}
use Rattle.gj_rules.specs.Internal.OpenRecord.{progress_of}
use Rattle.gj_rules.specs.declared.linter.Progress.{Progress}
use Rattle.gj_rules.specs.declared.linter.Progress.TheVariants.{Open, Refused}
use Rattle.gj_rules.specs.Linter.{StandsFor as LinterStandsFor, refusal_of, offset_of, refusal_in, Answers}

-- ---- the last byte

pub last-append : (x : ℕ) (xs ys : List ℕ) → last_byte x (xs ++ ys) ≡ last_byte (last_byte x xs) ys
last-append x [] ys = refl
last-append x (y ∷ xs) ys = last-append y xs ys

pub last_is : (x : ℕ) (ys : List ℕ) (i : ℕ) → i + 1 ≡ length ys → get_or ys i 0 ≡ last_byte x ys
last_is x [] i e = absurd (omega (arith, e))
last_is x (y ∷ []) zero e = refl
last_is x (y ∷ []) (suc i) e = absurd (omega (arith, e))
last_is x (y ∷ z ∷ more) zero e = absurd (omega (arith, e))
last_is x (y ∷ z ∷ more) (suc i) e = last_is y (z ∷ more) i (omega (arith, e))

pub last_of_run : (x : ℕ) (xs run : List ℕ) → 0 < length run → get_or run (length run - 1) 0 ≡ last_byte x (xs ++ run)
last_of_run x xs run some = last_is (last_byte x xs) run (length run - 1) (omega (arith, some)) ∙ sym (last-append x xs run)

-- ---- what a linter has answered

pub none_viable : (levels : ℕ) → IsViableWithin levels []
none_viable levels = fits_viable levels [] tt

pub none_answered : (limits : Allowed) (refusal : Option JsonFault) → refusal ≡ None → Answers limits [] (progress_of refusal)
none_answered limits None e = (none_viable limits.depth, omega arith)
none_answered limits (Some fault) e = cc

pub answered : (limits : Allowed) (bytes : List ℕ) (refusal : Option JsonFault) (progress : Progress) → refusal ≡ refusal_in progress
    → Answers limits bytes progress → Answers limits bytes (progress_of refusal)
answered limits bytes refusal progress e h = let A : Progress → Type 0 = λ p. Answers limits bytes p in subst A (sym (ap progress_of e ∙ back progress)) h
  where
    back : (p : Progress) → progress_of (refusal_in p) ≡ p
    back Open = refl
    back (Refused fault) = refl

-- ---- a record's own limit

stop_own : (limits other : Allowed) (bytes : List ℕ) (place : ℕ) → limits.depth ≡ other.depth → Stops limits bytes place → Stops other bytes place
stop_own limits other bytes place e s = record {
  good = s.good;
  byte = s.byte;
  rest = s.rest;
  split = s.split;
  at = s.at;
  viable = rw e at s.viable;
}

pub stop_short : (limits : Allowed) (bytes : List ℕ) (place : ℕ) → Stops limits bytes place → place < length bytes
stop_short limits bytes place s =
    let l : length bytes ≡ length s.good + length (s.byte ∷ s.rest) = ap length s.split ∙ length-append s.good (s.byte ∷ s.rest) in
    omega (arith, s.at, l)

own_refusal : (cause : Cause) (levels most : ℕ) (bytes : List ℕ) (place : ℕ) → length bytes ≤ most
    → RefusedFor cause (record { depth = levels; bytes = most }) bytes place → RefusedFor cause (own_limits levels bytes) bytes place
unfolding stop_own
own_refusal Syntax levels most bytes place l h =
    let s = stop_own (record { depth = levels; bytes = most }) (own_limits levels bytes) bytes place refl h.0 in
    (s, stop_short (own_limits levels bytes) bytes place s, h.2)
own_refusal Depth levels most bytes place l h =
    let s = stop_own (record { depth = levels; bytes = most }) (own_limits levels bytes) bytes place refl h.0 in
    (s, stop_short (own_limits levels bytes) bytes place s, h.2, h.3)
own_refusal Length levels most bytes place l h = absurd (omega (arith, l, h.1, stop_short (record { depth = levels; bytes = most }) bytes place h.0))
own_refusal Truncated levels most bytes place l h = (h.0, omega (arith, h.0), h.2, h.3)

pub own_verdict : (levels most : ℕ) (bytes : List ℕ) (verdict : Verdict) → length bytes ≤ most
    → IsVerdict (record { depth = levels; bytes = most }) bytes verdict → IsVerdict (own_limits levels bytes) bytes verdict
own_verdict levels most bytes (Valid w) l h = (h.0, (h.1.0, omega arith), h.2, h.3)
own_verdict levels most bytes (Broken fault) l h = (h.0, (h.1.0, omega arith), h.2)
own_verdict levels most bytes (NotJson fault) l h = own_refusal fault.cause levels most bytes fault.place l h

pub own_limit : (limits : Allowed) (bytes : List ℕ) (verdict : Verdict) → length bytes ≤ limits.bytes → IsVerdict limits bytes verdict
    → IsVerdict (own_limits limits.depth bytes) bytes verdict
own_limit limits bytes verdict l h = own_verdict limits.depth limits.bytes bytes verdict l h

-- ---- places

pub refused_within : (cause : Cause) (limits : Allowed) (bytes : List ℕ) (place : ℕ) → RefusedFor cause limits bytes place → place ≤ length bytes
refused_within Syntax limits bytes place h = omega (arith, stop_short limits bytes place h.0)
refused_within Depth limits bytes place h = omega (arith, stop_short limits bytes place h.0)
refused_within Length limits bytes place h = omega (arith, stop_short limits bytes place h.0)
refused_within Truncated limits bytes place h = omega (arith, h.0)

pub ended_within : (ended : Bool) (end n place : ℕ) (verdict : Verdict) → end ≤ n → ((p : ℕ) → TellsPlace p verdict → p ≤ n)
    → TellsPlace place (if_ended ended end verdict) → place ≤ n
ended_within true end n place verdict l h p = h place p
ended_within false end n place (NotJson fault) l h p = h place p
ended_within false end n place other l h p = omega (arith, p)

pub ended_as_within : (framing : Framing) (ending : RecordEnd) (ended : Bool) (end n place : ℕ) (verdict : Verdict) → end ≤ n
    → ((p : ℕ) → TellsPlace p verdict → p ≤ n)
    → TellsPlace place (ended_as framing ending ended end verdict) → place ≤ n
ended_as_within framing Limit ended end n place (Valid w) l h p = omega (arith, l, p)
ended_as_within framing Limit ended end n place (Broken fault) l h p = omega (arith, l, p)
ended_as_within framing Limit ended end n place (NotJson fault) l h p = by_cause fault.cause fault.place (h fault.place refl) p
  where
    by_cause : (cause : Cause) (at : ℕ) → at ≤ n → TellsPlace place (cut_fault cause at end) → place ≤ n
    by_cause Syntax at k q = omega (arith, k, q)
    by_cause Depth at k q = omega (arith, k, q)
    by_cause other at k q = omega (arith, l, q)
ended_as_within Sequence Separator ended end n place verdict l h p = ended_within ended end n place verdict l h p
ended_as_within Sequence Input ended end n place verdict l h p = ended_within ended end n place verdict l h p
ended_as_within Lines other ended end n place verdict l h p = h place p

-- the verdict by what is known of the bytes
pub told_ended : (framing : Framing) (ending : RecordEnd) (start last end : ℕ) (bytes : List ℕ) (verdict : Verdict) → last ≡ last_byte separator bytes
    → end ≡ length bytes →
    shifted_verdict start (ended_as framing ending (nat_eq last line_feed) end verdict) ≡ shifted_verdict start
    (ended_as framing ending (nat_eq (last_byte separator bytes) line_feed) (length bytes) verdict)
told_ended framing ending start last end bytes verdict e f =
    ap (λ x. shifted_verdict start (ended_as framing ending (nat_eq x line_feed) end verdict)) e
    ∙ ap (λ x. shifted_verdict start (ended_as framing ending (nat_eq (last_byte separator bytes) line_feed) x verdict)) f

pub told_as : (start last end n : ℕ) (bytes : List ℕ) (verdict : Verdict) → last ≡ last_byte separator bytes → end ≡ length bytes →
    shifted_verdict start (if_ended (nat_eq last line_feed) end verdict) ≡ shifted_verdict start
    (if_ended (nat_eq (last_byte separator bytes) line_feed) (length bytes) verdict)
told_as start last end n bytes verdict e f =
    ap (λ x. shifted_verdict start (if_ended (nat_eq x line_feed) end verdict)) e
    ∙ ap (λ x. shifted_verdict start (if_ended (nat_eq (last_byte separator bytes) line_feed) x verdict)) f

-- no warning has a place
pub none_shifted : (by : ℕ) → shifted no_warnings by ≡ no_warnings
unfolding shifted no_warnings
none_shifted by = refl

-- ---- what a linter took

pub all_taken : ((reader : Reader) (bytes : List ℕ) → ReaderStandsFor reader bytes → reader_refusal reader ≡ None → reader_offset reader ≡ length bytes) →
    (linter : Linter) (bytes : List ℕ) → LinterStandsFor linter bytes → refusal_of linter ≡ None → offset_of linter ≡ length bytes
unfolding LinterStandsFor
all_taken law linter bytes h live = law linter.reader bytes h.0 live
