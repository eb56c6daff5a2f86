-- The stand is read within the limits.
use Rattle.std.proofs.Common.{◌≡◌, ℕ, ◌≤◌, ◌<◌, List, [], ◌∷◌, ◌++◌, length, refl, sym, ap, subst, arith, false, append-nil}
use Rattle.std.proofs.lemmas.List.{length-append}
use Rattle.std.proofs.Math.Seq.{take-length}
use Rattle.gj_json.specs.declared.fault.Cause.{Cause}
use Rattle.gj_json.specs.declared.fault.Cause.TheVariants.{Syntax, Truncated, Depth, Length}
use Rattle.gj_json.specs.Limits.{Allowed}
use Rattle.gj_json.specs.Refusal.{RefusedFor, Stops}
use Rattle.gj_json.specs.Text.{IsViableWithin}
use Rattle.gj_json.specs.Broken.{SpellsBroken, begun}
use Rattle.gj_json.proofs.Machine.LongestPrefixes.{refused_longest}
use Rattle.gj_json.proofs.Machine.SpelledSteps.{spelled}
use Rattle.gj_json.proofs.Readers.ReadBytes.{well_viable}
use Rattle.gj_rules.specs.Linter.{Answers}
use Rattle.gj_rules.specs.declared.linter.Progress.{Progress}
use Rattle.gj_rules.specs.declared.linter.Progress.TheVariants.{Open, Refused}
use Rattle.gj_join.specs.Runs.{stand_at}
use Rattle.gj_join.proofs.ReachedFeatures.{after_feature}
use Rattle.gj_join.proofs.RunsRead.{opened, opening, opens, stand_around, stand_stands}

stop_late : (limits : Allowed) (bytes : List ℕ) (place : ℕ) → Stops limits bytes place → place < length bytes
stop_late limits bytes place s = omega (arith, ap length s.split, s.at, length-append s.good (s.byte ∷ s.rest))

-- what can become a text within the limits is not refused
pub not_refused : (limits : Allowed) (bytes : List ℕ) (result : Progress) → IsViableWithin limits.depth bytes → length bytes ≤ limits.bytes
    → Answers limits bytes result → result ≡ Open
not_refused limits bytes Open v room h = refl
not_refused limits bytes (Refused fault) v room h =
    let e : bytes ++ [] ≡ bytes = append-nil bytes in
    let none = subst (λ xs. RefusedFor fault.cause limits xs fault.place) e (h []) in
    let k = refused_longest limits bytes fault.cause fault.place none in
    absurd (go fault.cause (k.longest (length bytes) (omega arith) room (subst (IsViableWithin limits.depth) (sym (take-length bytes)) v)) none (h (0 ∷ [])))
  where
    go : (c : Cause) → length bytes ≤ fault.place → RefusedFor c limits bytes fault.place → RefusedFor c limits (bytes ++ 0 ∷ []) fault.place → ⊥
    go Truncated l r s = omega (arith, r.0, s.0, length-append bytes (0 ∷ []))
    go Syntax l r s = omega (arith, stop_late limits bytes fault.place r.0)
    go Depth l r s = omega (arith, stop_late limits bytes fault.place r.0)
    go Length l r s = omega (arith, stop_late limits bytes fault.place r.0)

-- ---- the stand

pub opening_viable : (d : ℕ) → 3 ≤ d → IsViableWithin d opening
opening_viable d l = well_viable d opening (begun false opened) opens (omega arith, (omega arith, tt, tt))

pub opening_spelled : SpellsBroken (begun false opened) opening
opening_spelled = spelled opening (begun false opened) opens

pub stand_viable : (d begin : ℕ) → 3 ≤ d → IsViableWithin d (stand_at begin)
stand_viable d begin l =
    let s = stand_stands begin in
    well_viable d (stand_at begin) (begun false (after_feature stand_around s.done s.value)) s.is
    (omega arith, (omega arith, tt, (omega arith, tt, tt)))
