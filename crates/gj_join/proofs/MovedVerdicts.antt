-- Verdicts and warnings so many bytes further on.
use Rattle.gj_join.proofs.Common.{Allowed, Bool, Framing, Input, Limit, Lines, List, Part, RecordEnd, Separator, Sequence, Verdict, Warning, ap}
use Rattle.gj_join.proofs.Common.{arith, false, length, map, map-append, shifted_by, shifted_verdict, sym, true, ℕ, [], ◌++◌, ◌+◌, ◌∙◌, ◌≡◌}
use Rattle.gj_json.specs.declared.fault.Cause.{Cause}
use Rattle.gj_json.specs.declared.fault.Cause.TheVariants.{Syntax, Truncated, Depth, Length}
use Rattle.gj_coords.specs.Fault.{fault_at}
use Rattle.gj_coords.specs.Internal.KeptWarnings.{warnings_of, no_warnings, joined, shifted}
use Rattle.gj_coords.specs.Internal.WarningLaws.{warnings_of_none, warnings_of-append}
use Rattle.gj_coords.specs.WarningsStand.{StandsFor}
use Rattle.gj_coords.specs.declared.warnings.Warnings.{Warnings}
use Rattle.gj_coords.proofs.Lists.ShiftedWarnings.{shifted_stands}
use Rattle.gj_rules.specs.declared.verdict.Verdict.TheVariants.{Valid, Broken, NotJson}
use Rattle.gj_rules.specs.RecordFindings.{ended_as}
use Rattle.gj_rules.specs.Sequence.{cut_fault, if_ended, if_cut, ends_in_line_feed, own_limits}
use Rattle.gj_rules.specs.TextWarnings.{text_warnings}
use Rattle.gj_rules.specs.Verdict.{IsVerdict}
use Rattle.gj_join.proofs.JoinedParts.{warnings-twice}

-- ---- warnings that are kept of some list

abbrev pub IsKept : Warnings → Type 0
IsKept warnings = (list : List Warning) × StandsFor warnings list

pub kept-none : IsKept no_warnings
kept-none = ([], sym warnings_of_none)

joined-stands : (a b : Warnings) (xs ys : List Warning) → StandsFor a xs → StandsFor b ys → StandsFor (joined a b) (xs ++ ys)
joined-stands a b xs ys x y = ap (λ (w : Warnings). joined w b) x ∙ (ap (joined (warnings_of xs)) y ∙ sym (warnings_of-append xs ys))

pub kept-joined : (a b : Warnings) → IsKept a → IsKept b → IsKept (joined a b)
kept-joined a b (xs, x) (ys, y) = (xs ++ ys, joined-stands a b xs ys x y)

pub kept-shifted : (by : ℕ) (a : Warnings) → IsKept a → IsKept (shifted a by)
kept-shifted by a (xs, x) = (map (shifted_by by) xs, shifted_stands a by xs x)

pub shifted-none : (by : ℕ) → shifted no_warnings by ≡ no_warnings
shifted-none by = shifted_stands no_warnings by [] (sym warnings_of_none) ∙ warnings_of_none

pub shifted-joined : (by : ℕ) (a b : Warnings) → IsKept a → IsKept b → shifted (joined a b) by ≡ joined (shifted a by) (shifted b by)
shifted-joined by a b (xs, x) (ys, y) =
    shifted_stands (joined a b) by (xs ++ ys) (joined-stands a b xs ys x y)
    ∙ (ap warnings_of (map-append (shifted_by by) xs ys)
    ∙ sym (joined-stands (shifted a by) (shifted b by) (map (shifted_by by) xs) (map (shifted_by by) ys) (shifted_stands a by xs x) (shifted_stands b by ys y)))

shifted-twice : (one more : ℕ) (a : Warnings) → IsKept a → shifted a (one + more) ≡ shifted (shifted a one) more
shifted-twice one more a (xs, x) =
    shifted_stands a (one + more) xs x
    ∙ (ap warnings_of (warnings-twice one more xs) ∙ sym (shifted_stands (shifted a one) more (map (shifted_by one) xs) (shifted_stands a one xs x)))

-- ---- verdicts with such warnings

abbrev pub KeepsSome : Verdict → Type 0
KeepsSome (Valid warnings) = IsKept warnings
KeepsSome other = Unit {0}

pub verdict-twice : (one more : ℕ) (verdict : Verdict) → KeepsSome verdict
    → shifted_verdict (one + more) verdict ≡ shifted_verdict more (shifted_verdict one verdict)
verdict-twice one more (Valid warnings) kept = ap Valid (shifted-twice one more warnings kept)
verdict-twice one more (Broken fault) kept = ap (λ (p : ℕ). Broken (fault_at p fault.rule)) (omega arith)
verdict-twice one more (NotJson fault) kept = ap (λ (p : ℕ). NotJson (record { place = p; cause = fault.cause })) (omega arith)

pub keeps-shifted : (by : ℕ) (verdict : Verdict) → KeepsSome verdict → KeepsSome (shifted_verdict by verdict)
keeps-shifted by (Valid warnings) kept = kept-shifted by warnings kept
keeps-shifted by other kept = tt

keeps-cut : (cause : Cause) (place end : ℕ) → KeepsSome (cut_fault cause place end)
keeps-cut Syntax place end = tt
keeps-cut other place end = tt

keeps-if : (has_line_feed : Bool) (long : ℕ) (own : Verdict) → KeepsSome own → KeepsSome (if_ended has_line_feed long own)
keeps-if true long own kept = kept
keeps-if false long (Valid warnings) kept = tt
keeps-if false long other kept = tt

keeps-limit : (long : ℕ) (own : Verdict) → KeepsSome (if_cut long own)
keeps-limit long (Valid warnings) = tt
keeps-limit long (Broken fault) = tt
keeps-limit long (NotJson fault) = keeps-cut fault.cause fault.place long

keeps-ended : (framing : Framing) (end : RecordEnd) (has_line_feed : Bool) (long : ℕ) (own : Verdict) → KeepsSome own
    → KeepsSome (ended_as framing end has_line_feed long own)
keeps-ended Lines Separator has_line_feed long own kept = kept
keeps-ended Lines Input has_line_feed long own kept = kept
keeps-ended Lines Limit has_line_feed long own kept = keeps-limit long own
keeps-ended Sequence Separator has_line_feed long own kept = keeps-if has_line_feed long own kept
keeps-ended Sequence Input has_line_feed long own kept = keeps-if has_line_feed long own kept
keeps-ended Sequence Limit has_line_feed long own kept = keeps-limit long own

keeps-own : (limits : Allowed) (bytes : List ℕ) (own : Verdict) → IsVerdict limits bytes own → KeepsSome own
keeps-own limits bytes (Valid warnings) is = (text_warnings is.0, is.3)
keeps-own limits bytes other is = tt

pub own-kept : (framing : Framing) (levels : ℕ) (part : Part) (own : Verdict) → IsVerdict (own_limits levels part.bytes) part.bytes own
    → KeepsSome (ended_as framing part.end (ends_in_line_feed part.bytes) (length part.bytes) own)
own-kept framing levels part own is =
    keeps-ended framing part.end (ends_in_line_feed part.bytes) (length part.bytes) own (keeps-own (own_limits levels part.bytes) part.bytes own is)
