-- No byte before the place that was found is the wanted one.
use Rattle.gj_rules.proofs.Common.{Bool, List, arith, false, has_byte, length, nat_eq, refl, suc, take, true, zero, [], ◌<◌, ◌∷◌, ◌≤◌}
use Rattle.std.proofs.Common.{◌≡◌, ℕ, Option, Some, None, unwrap_or}
use Rattle.memchr.specs.Find.{IsFirstByte, Passes, is_byte}
use Rattle.gj_rules.proofs.records.framing.run_before.Goals as goal

plain_head : (wanted byte : ℕ) (rest : List ℕ) (t : Bool) → nat_eq byte wanted ≡ t → (nat_eq byte wanted ≡ true → ⊥) → has_byte wanted rest ≡ false
    → has_byte wanted (byte ∷ rest) ≡ false
plain_head wanted byte rest true e h k = absurd (h e)
plain_head wanted byte rest false e h k = rw e k

plain_below : (wanted : ℕ) (bytes : List ℕ) (n : ℕ) → ((k : ℕ) → k < n → Passes (is_byte wanted) bytes k → ⊥) → n ≤ length bytes
    → has_byte wanted (take n bytes) ≡ false
plain_below wanted bytes zero h l = refl
plain_below wanted [] (suc n) h l = refl
plain_below wanted (byte ∷ more) (suc n) h l =
    plain_head wanted byte (take n more) (nat_eq byte wanted) refl (λ e. h 0 (omega arith) e)
    (plain_below wanted more n (λ k j p. h (suc k) (omega (arith, j)) p) (omega (arith, l)))

below_found : (wanted : ℕ) (bytes : List ℕ) (found : Option ℕ) (n : ℕ) → IsFirstByte (is_byte wanted) bytes found → n ≤ unwrap_or found (length bytes) → (k : ℕ)
    → k < n → Passes (is_byte wanted) bytes k → ⊥
below_found wanted bytes None n h l = λ k j p. h k (omega arith) (omega (arith, j, l)) p
below_found wanted bytes (Some i) n h l = λ k j p. h.0.before k (omega arith) (omega (arith, j, l)) p

found_within : (wanted : ℕ) (bytes : List ℕ) (found : Option ℕ) → IsFirstByte (is_byte wanted) bytes found → unwrap_or found (length bytes) ≤ length bytes
found_within wanted bytes None h = omega arith
found_within wanted bytes (Some i) h = omega (arith, h.0.high)

pub returns-then-run-room-clause-plain : goal.returns-then-run-room-clause-plain
returns-then-run-room-clause-plain c =
    let wanted = c.args.separator in
    let rest = c.args.rest.now in
    let found = found_within wanted rest c.memchr.result c.memchr.ensures in
    plain_below wanted rest c.unwrap_or-run.result
    (below_found wanted rest c.memchr.result c.unwrap_or-run.result c.memchr.ensures (omega (arith, c.unwrap_or-run.ensures)))
    (omega (arith, c.unwrap_or-run.ensures, found))

pub returns-else-run-room-clause-plain : goal.returns-else-run-room-clause-plain
returns-else-run-room-clause-plain c =
    let wanted = c.args.separator in
    let rest = c.args.rest.now in
    let found = found_within wanted rest c.memchr.result c.memchr.ensures in
    plain_below wanted rest c.args.room
    (below_found wanted rest c.memchr.result c.args.room c.memchr.ensures (omega (arith, c.unwrap_or-run.ensures, c.if-run-room.false)))
    (omega (arith, c.unwrap_or-run.ensures, found, c.if-run-room.false))
