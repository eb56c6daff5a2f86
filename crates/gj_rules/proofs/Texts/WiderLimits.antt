-- What is found under limits that are less deep is found under the limits, but for a refusal for the depth.
use Rattle.gj_rules.proofs.Common.{Allowed, Cause, Depth, IsAdmitted, IsViableWithin, Length, List, RefusedFor, Stops, Syntax, Text, Truncated, arith}
use Rattle.gj_rules.proofs.Common.{refl, ◌∙◌, ◌≤◌}
use Rattle.std.proofs.Common.{◌≡◌, ℕ}
use Rattle.gj_json.proofs.Machine.LongestPrefixes.{no_deeper}

module _ (few limits : Allowed) (bytes : List ℕ) (shallow : few.depth ≤ limits.depth) (short : few.bytes ≡ limits.bytes) where
  pub admitted : (text : Text) → IsAdmitted few text bytes → IsAdmitted limits text bytes
  admitted text a = ((a.0.0, omega (arith, a.0.1, shallow)), omega (arith, a.1, short))

  viable : (good : List ℕ) → IsViableWithin few.depth good → IsViableWithin limits.depth good
  viable good v = (v.0, v.1, (v.2.0, omega (arith, v.2.1, shallow)))

  abbrev stops : (place : ℕ) → Stops few bytes place → Stops limits bytes place
  stops place s = record { good = s.good; byte = s.byte; rest = s.rest; split = s.split; at = s.at; viable = viable s.good s.viable }

  pub refused : (cause : Cause) (place : ℕ) → (cause ≡ Depth → ⊥) → RefusedFor cause few bytes place → RefusedFor cause limits bytes place
  refused Syntax place other r = (stops place r.0, omega (arith, r.1, short), r.2)
  refused Length place other r = (stops place r.0, r.1 ∙ short)
  refused Truncated place other r = (r.0, omega (arith, r.1, short), viable bytes r.2, λ text t. r.3 text (t.0, no_deeper few.depth text bytes t.0 r.2))
  refused Depth place other r = absurd (other refl)
