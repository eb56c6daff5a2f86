-- Events of a value that is not looked into, in a row.
use Rattle.gj_rules.proofs.Common.{Core, Event, FramedRules, Holds, List, ap, append_assoc, arith, core_of, core_step, levels_behind, refl, subst}
use Rattle.gj_rules.proofs.Common.{suc, sym, zero, [], ◌++◌, ◌<◌, ◌∙◌, ◌∷◌}
use Rattle.std.proofs.Common.{◌≡◌, ℕ, append-nil}
use Rattle.gj_json.specs.Ignored.{Leaves}
use Rattle.gj_rules.specs.Rules.{StandsFor}
use Rattle.gj_rules.proofs.Texts.OneEventMore.{told_on, steps_taken}

abbrev skipping : {frames : ℕ} → ℕ → FramedRules frames → FramedRules frames
skipping levels rules = record rules { skipped = levels }

skipped_core : (event : Event) (k : ℕ) (c : Core) → c.skipped ≡ suc k → core_step event c ≡ record c { skipped = levels_behind event.what (suc k) }
skipped_core event k c e = rw e refl

-- with the levels given
one_passed : {frames : ℕ} (old new : FramedRules frames) (event : Event) (events : List Event) (k : ℕ) → old.skipped ≡ suc k
    → core_of new ≡ record (core_of old) { skipped = levels_behind event.what (suc k) } → Holds new [] → StandsFor old events
    → StandsFor new (events ++ event ∷ [])
one_passed old new event events k e c h s =
    told_on old new event events (steps_taken old new event (rw e refl) (λ a b. c ∙ sym (skipped_core event k (core_of old) e)) h) s

same_stands : {frames : ℕ} (old new : FramedRules frames) (events : List Event) (k : ℕ) → new.skipped ≡ suc k → core_of new ≡ core_of old → StandsFor old events
    → StandsFor new events
same_stands old new events k e c s = λ text done rest f g d. (c ∙ (s text done rest f g d).0, rw e tt)

pub passed_on : (inner : List Event) {frames : ℕ} (old new : FramedRules frames) (events : List Event) (k left : ℕ) → old.skipped ≡ suc k
    → Leaves (suc k) inner left → core_of new ≡ record (core_of old) { skipped = left } → Holds new [] → StandsFor old events → StandsFor new (events ++ inner)
passed_on [] old new events k left e l c h s =
    let f : new.skipped ≡ suc k = ap (λ (x : Core). x.skipped) c ∙ sym l in
    let g : core_of new ≡ core_of old = c ∙ ap (λ n. record (core_of old) { skipped = n }) (sym l ∙ sym e) in
    rw append-nil (same_stands old new events k f g s)
passed_on (event ∷ []) old new events k left e l c h s = one_passed old new event events k e (c ∙ ap (λ n. record (core_of old) { skipped = n }) (sym l)) h s
passed_on (event ∷ (next ∷ more)) {frames} old new events k left e l c h s = go (passed_on (next ∷ more)) (levels_behind event.what (suc k)) refl l
  where
    go : ((old new : FramedRules frames) (events : List Event) (k left : ℕ) → old.skipped ≡ suc k → Leaves (suc k) (next ∷ more) left
        → core_of new ≡ record (core_of old) { skipped = left } → Holds new [] → StandsFor old events → StandsFor new (events ++ (next ∷ more)))
        → (m : ℕ) → levels_behind event.what (suc k) ≡ m → Leaves m (next ∷ more) left → StandsFor new (events ++ (event ∷ (next ∷ more)))
    go on zero q w = absurd w
    go on (suc m) q w =
        let mid = skipping (suc m) old in
        let one : StandsFor mid (events ++ event ∷ []) = one_passed old mid event events k e (ap (λ n. record (core_of old) { skipped = n }) (sym q)) tt s in
        subst (λ (es : List Event). StandsFor new es) (append_assoc events (event ∷ []) (next ∷ more)) (on mid new (events ++ event ∷ []) m left refl w c h one)

pub passed : (inner : List Event) {frames : ℕ} (old new : FramedRules frames) (events : List Event) (left : ℕ) → 0 < old.skipped → Leaves old.skipped inner left
    → core_of new ≡ record (core_of old) { skipped = left } → Holds new [] → StandsFor old events → StandsFor new (events ++ inner)
passed inner old new events left w l c h s = go old.skipped refl w l
  where
    go : (n : ℕ) → old.skipped ≡ n → 0 < n → Leaves n inner left → StandsFor new (events ++ inner)
    go zero e w l = absurd (omega arith)
    go (suc k) e w l = passed_on inner old new events k left e l c h s
