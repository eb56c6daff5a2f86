-- What two writers hold stays as they are flushed.
use Rattle.gj_split.proofs.Common.{AreHeld, Counts, List, None, Option, Some, Split, ap, subst, sym, ℕ, ◌∙◌, ◌≡◌}
use Rattle.std.specs.Io.KnownBytes.{Keeps}

kept_known : (old new : Option (List ℕ)) (xs : List ℕ) → Keeps old new → old ≡ Some xs → new ≡ Some xs
kept_known None new xs k e = cc
kept_known (Some ys) None xs k e = absurd k
kept_known (Some ys) (Some zs) xs k e = ap Some k ∙ e

pub held_kept : (parts : Split) (valid broken next other : Option (List ℕ)) (counts same : Counts) → Keeps valid next → Keeps broken other → same ≡ counts
    → AreHeld parts valid broken counts → AreHeld parts next other same
held_kept parts valid broken next other counts same k l e h =
    subst (λ cs. AreHeld parts next other cs) (sym e)
    (record {
      valid_records = kept_known valid next _ k h.valid_records;
      broken_records = kept_known broken other _ l h.broken_records;
      valid_counted = h.valid_counted;
      broken_counted = h.broken_counted;
    })
