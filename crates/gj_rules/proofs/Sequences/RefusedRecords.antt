-- A byte of the open record that is refused decides the sequence.
use Rattle.gj_rules.proofs.Common.{Allowed, Bool, Cause, Depth, Framing, IsOwnVerdict, IsRefusal, IsSettled, IsSequenceVerdict, IsUndecided, IsVerdict}
use Rattle.gj_rules.proofs.Common.{IsViableWithin, JsonFault, Length, Limit, Lines, List, NotJson, Record, RecordEnd, RefusedFor, SeqVerdict}
use Rattle.gj_rules.proofs.Common.{Stops, Syntax, Truncated, Verdict, ap, arith, cut_fault, ends_in_line_feed, false, first_number, length, not_json}
use Rattle.gj_rules.proofs.Common.{number_from, own_limits, part_at, refl, shifted_verdict, subst, suc, sym, take, take-append-add, true}
use Rattle.gj_rules.proofs.Common.{whole_of, zero, [], ◌++◌, ◌+◌, ◌<◌, ◌∙◌, ◌∷◌, ◌≤◌}
use Rattle.std.proofs.Common.{◌≡◌, ℕ, length-append, append-nil, Option, Some}
use Rattle.std.proofs.Math.Seq.{take-append_seam}
use Rattle.gj_rules.specs.declared.records.Records.{Records}
use Rattle.gj_rules.specs.declared.records.framing.Framing.TheVariants.{Sequence}
use Rattle.gj_rules.specs.Internal.OpenParts.{IsOpen}
use Rattle.gj_rules.specs.Internal.OpenRecord.{progress_of}
use Rattle.gj_rules.specs.Linter.{Answers, refusal_of}
use Rattle.gj_rules.specs.RecordFindings.{IsWholeVerdict, ended_as}
use Rattle.gj_rules.specs.Records.{is_void, are_none}
use Rattle.gj_rules.specs.Sequence.{is_valid_sequence}
use Rattle.gj_rules.proofs.Parts.DecidedRecords.{open_lasts}
use Rattle.gj_rules.proofs.Parts.FoundRecords.{numbered_own}
use Rattle.gj_rules.proofs.Sequences.OpenRecords.{stop_short}
use Rattle.gj_rules.proofs.Sequences.UndecidedSequences.{cut_short, undecided, undecided_viable}

-- ---- a record that a byte of it refuses

-- such a refusal is for no limit on the length, nor for an end
abbrev ByByte : Cause → Type 0
ByByte Syntax = Unit {0}
ByByte Depth = Unit {0}
ByByte other = ⊥

abbrev Lasting : Allowed → List ℕ → JsonFault → Type 0
Lasting limits bytes fault = (more : List ℕ) → IsRefusal limits (bytes ++ more) fault

by_byte : (cause : Cause) (limits : Allowed) (place : ℕ) (bytes : List ℕ) → length bytes ≤ limits.bytes
    → ((more : List ℕ) → RefusedFor cause limits (bytes ++ more) place) → ByByte cause
by_byte Syntax limits place bytes l h = tt
by_byte Depth limits place bytes l h = tt
by_byte Length limits place bytes l h =
    let r = h [] in absurd (omega (arith, l, r.1, stop_short limits (bytes ++ []) place r.0, length-append bytes []))
by_byte Truncated limits place bytes l h =
    let r = h [] in
    let s = h (0 ∷ []) in
    absurd (omega (arith, r.0, s.0, length-append bytes [], length-append bytes (0 ∷ [])))

own_stop : (limits : Allowed) (n : ℕ) (bytes : List ℕ) (place : ℕ) → Stops limits bytes place → Stops (record { depth = limits.depth; bytes = n }) bytes place
own_stop limits n bytes place s = record { good = s.good; byte = s.byte; rest = s.rest; split = s.split; at = s.at; viable = s.viable }

own_by_byte : (cause : Cause) (limits : Allowed) (place : ℕ) (bytes : List ℕ) → ByByte cause → RefusedFor cause limits bytes place
    → RefusedFor cause (own_limits limits.depth bytes) bytes place
unfolding own_stop
own_by_byte Syntax limits place bytes b h = (own_stop limits (length bytes) bytes place h.0, stop_short limits bytes place h.0, h.2)
own_by_byte Depth limits place bytes b h = (own_stop limits (length bytes) bytes place h.0, stop_short limits bytes place h.0, h.2, h.3)
own_by_byte other limits place bytes b h = absurd b

cut_kept : (cause : Cause) (place end : ℕ) → ByByte cause → cut_fault cause place end ≡ not_json place cause
cut_kept Syntax place end b = refl
cut_kept Depth place end b = refl
cut_kept other place end b = absurd b

end_kept : (framing : Framing) (ending : RecordEnd) (ended : Bool) (end : ℕ) (fault : JsonFault) → ByByte fault.cause
    → ended_as framing ending ended end (NotJson fault) ≡ NotJson fault
end_kept framing Limit ended end fault b = cut_kept fault.cause fault.place end b
end_kept Lines other ended end fault b = refl
end_kept Sequence other true end fault b = refl
end_kept Sequence other false end fault b = refl

refused_own : (framing : Framing) (limits : Allowed) (start : ℕ) (given rest : List ℕ) (ending : RecordEnd) (fault : JsonFault) → length given ≤ limits.bytes
    → Lasting limits given fault
    → IsOwnVerdict framing limits.depth (part_at start (given ++ rest) ending) (not_json (fault.place + start) fault.cause)
refused_own framing limits start given rest ending fault l h =
    let b = by_byte fault.cause limits fault.place given l h in
    let all = given ++ rest in (
      NotJson fault,
      own_by_byte fault.cause limits fault.place all b (h rest),
      ap (shifted_verdict start) (sym (end_kept framing ending (ends_in_line_feed all) (length all) fault b)),
    )

stop_at : (cause : Cause) (limits : Allowed) (place : ℕ) (bytes : List ℕ) → ByByte cause → RefusedFor cause limits bytes place
    → (s : Stops limits bytes place) × (IsViableWithin limits.depth (s.good ++ s.byte ∷ []) → ⊥)
stop_at Syntax limits place bytes b h = (h.0, λ v. h.2 (v.0, v.1, v.2.0))
stop_at Depth limits place bytes b h = (h.0, h.3)
stop_at other limits place bytes b h = absurd b

-- ---- the sequence

some_bytes : (given : List ℕ) → 0 < length given → are_none given ≡ false
some_bytes [] l = absurd (omega (arith, l))
some_bytes (byte ∷ given) l = refl

pub settled_refused : ((limits : Allowed) (bytes : List ℕ) → (verdict : Verdict) × IsVerdict limits bytes verdict)
    → (s : Records) (bytes : List ℕ) (found : List Record) (h : IsOpen s bytes found) (fault : JsonFault) → s.framing ≡ Sequence
    → ((more : List ℕ) (verdict : SeqVerdict) → IsWholeVerdict s.framing s.limits (bytes ++ more) verdict → IsSequenceVerdict s.limits (bytes ++ more) verdict)
    → is_valid_sequence (whole_of found) ≡ true → (s.number ≡ 0 → s.is_void ≡ true) → refusal_of s.record.linter ≡ Some fault
    → IsSettled s.limits bytes (s.record.start + fault.place) (SeqVerdict.Record s.number (not_json (fault.place + s.record.start) fault.cause))
settled_refused some s bytes found h fault framing judged valid begins_void refusal =
    let own = s.record.limits in
    let start = s.record.start in
    let A : Option JsonFault → Type 0 = λ o. Answers own h.given (progress_of o) in
    let refused : Lasting own h.given fault = subst A refusal h.stands.answers in
    let counted = h.stands.counted in
    let taken = h.taken in
    let both : length bytes ≡ length h.before + length h.given = ap length h.split ∙ length-append h.before h.given in
    let short : length h.given ≤ own.bytes = omega (arith, counted, s.record.within, s.record.wide) in
    let first = refused [] in
    let (stop, never) = stop_at fault.cause own fault.place (h.given ++ []) (by_byte fault.cause own fault.place h.given short refused) first in
    let is : h.given ≡ stop.good ++ stop.byte ∷ stop.rest = sym (append-nil h.given) ∙ stop.split in
    let at = stop.at in
    let longer : length h.given ≡ length stop.good + length (stop.byte ∷ stop.rest) = ap length is ∙ length-append stop.good (stop.byte ∷ stop.rest) in
    let below : fault.place < length h.given = omega (arith, longer, at) in
    let counts : s.is_void ≡ false = h.void ∙ (ap (λ f. is_void f h.given) framing ∙ some_bytes h.given (omega (arith, below))) in
    let numbered : 0 < s.number = some_number s.number (λ e. (let f : true ≡ false = sym (begins_void e) ∙ counts in cc)) in
    let begins : start ≡ length h.before = omega (arith, counted, taken, both) in
    let to : (n : ℕ) → take (start + n) bytes ≡ h.before ++ take n h.given =
    λ n. ap (take (start + n)) h.split ∙ (ap (λ m. take (m + n) (h.before ++ h.given)) begins ∙ take-append-add h.before h.given n) in
    let good : take fault.place h.given ≡ stop.good =
    ap (λ n. take n h.given) at ∙ (ap (take (length stop.good)) is ∙ take-append_seam stop.good (stop.byte ∷ stop.rest)) in
    let next : take (fault.place + 1) h.given ≡ stop.good ++ stop.byte ∷ [] =
    ap (λ n. take (n + 1) h.given) at ∙ (ap (take (length stop.good + 1)) is ∙ take-append-add stop.good (stop.byte ∷ stop.rest) 1) in
    let V : List ℕ → Type 0 = λ bs. IsViableWithin own.depth bs in
    let D : ℕ → Type 0 = λ d. IsViableWithin d (take fault.place h.given) in
    let E : ℕ → Type 0 = λ d. IsViableWithin d (take (fault.place + 1) h.given) in
    let U : List ℕ → Type 0 = λ bs. IsUndecided s.limits bs in
    let O : ℕ → List ℕ → RecordEnd → Type 0 = λ d rest end. IsOwnVerdict s.framing d (part_at start (h.given ++ rest) end) (not_json (fault.place + start) fault.cause) in
    let verdict = not_json (fault.place + start) fault.cause in
    let begun : h.done ≡ [] → ⊥ =
    λ e. (let none : s.number ≡ 0 = h.number ∙ (ap (number_from s.framing (first_number s.framing)) e ∙ ap first_number framing) in omega (arith, none, numbered)) in
    record {
      at = record {
        within = omega (arith, below, counted, taken);
        before = subst U (sym (to fault.place))
            (undecided s.limits (h.before ++ take fault.place h.given) h.done start (take fault.place h.given) found (cut_short s bytes found h framing fault.place) valid
            (λ e. absurd (begun e))
            (subst D h.depth (subst V (sym good) stop.viable)));
        decides = λ u.
            let v = undecided_viable s.limits (h.before ++ take (fault.place + 1) h.given) h.done start (take (fault.place + 1) h.given) found (cut_short s bytes found h framing (fault.place + 1)) begun
            (subst U (ap (λ n. take n bytes) (one_on start fault.place) ∙ to (fault.place + 1)) u) in
            never (subst V next (subst E (sym h.depth) v));
      };
      fails = refl;
      lasting = λ more.
          judged more (SeqVerdict.Record s.number verdict)
          (open_lasts some s bytes more found h verdict
          counts valid refl
          (λ rest end. numbered_own s.framing s.limits.depth s.number (part_at start (h.given ++ rest) end) verdict numbered
          (let P : ℕ → Type 0 = λ d. O d rest end in subst P h.depth (refused_own s.framing own start h.given rest end fault short refused))));
    }
  where
    some_number : (n : ℕ) → (n ≡ 0 → ⊥) → 0 < n
    some_number zero none = absurd (none refl)
    some_number (suc n) none = omega arith

    one_on : (n m : ℕ) → n + m + 1 ≡ n + (m + 1)
    one_on n m = omega arith
