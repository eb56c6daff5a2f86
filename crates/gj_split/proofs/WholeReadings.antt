-- What a linter that read a whole text says of it.
use Rattle.gj_split.proofs.Common.{Allowed, Feature, IsAdmitted, IsRefusal, IsVerdict, List, None, Option, Some, Text, Verdict, ap, refl, subst, sym}
use Rattle.gj_split.proofs.Common.{ℕ, [], ◌++◌, ◌∙◌, ◌≡◌}
use Rattle.std.proofs.lemmas.List.{append-nil}
use Rattle.gj_json.specs.declared.fault.JsonFault.{JsonFault}
use Rattle.gj_rules.specs.declared.feature_linter.FeatureLinter.{FeatureLinter}
use Rattle.gj_rules.specs.FeatureLinter.{StandsFor, limits_of, refusal_of}
use Rattle.gj_split.specs.Internal.HeldRecords.{IsEndAfter, IsRead}

module _ {S : Type 0} (Told : S → List Feature → Type 0) (linter : FeatureLinter S) (limits : Allowed) (same : limits_of linter ≡ limits) where
  nothing_after : (bytes taken rest : List ℕ) → bytes ≡ taken ++ rest → rest ≡ [] → taken ≡ bytes
  nothing_after bytes taken rest e f = sym (e ∙ (ap (λ xs. taken ++ xs) f ∙ append-nil taken))

  pub verdict_read : (verdict : Verdict) (bytes : List ℕ) → ((bytes : List ℕ) → StandsFor Told linter bytes → IsVerdict (limits_of linter) bytes verdict)
      → ((fault : JsonFault) → refusal_of linter ≡ Some fault → verdict ≡ Verdict.NotJson fault) → IsRead Told linter bytes → IsVerdict limits bytes verdict
  verdict_read verdict bytes h r read = subst (λ (l : Allowed). IsVerdict l bytes verdict) same (by_end (refusal_of linter) refl read.end)
    where
      by_end : (o : Option JsonFault) → refusal_of linter ≡ o → IsEndAfter (limits_of linter) read.taken read.rest o
          → IsVerdict (limits_of linter) bytes verdict
      by_end None e k = subst (λ xs. IsVerdict (limits_of linter) xs verdict) (nothing_after bytes read.taken read.rest read.joined k)
          (h read.taken read.stands)
      by_end (Some fault) e k =
          subst (λ w. IsVerdict (limits_of linter) bytes w) (sym (r fault e))
          (subst (λ xs. IsRefusal (limits_of linter) xs fault) (sym read.joined) (k read.rest))

  -- an admitted text is not refused, so that the linter stands for all of it
  pub whole_read : ((limits : Allowed) (bytes : List ℕ) (fault : JsonFault) (text : Text) → IsRefusal limits bytes fault → IsAdmitted limits text bytes → ⊥) →
      (bytes : List ℕ) (text : Text) → IsRead Told linter bytes → IsAdmitted (limits_of linter) text bytes → StandsFor Told linter bytes
  whole_read never_both bytes text read a = by_end (refusal_of linter) read.end
    where
      by_end : (o : Option JsonFault) → IsEndAfter (limits_of linter) read.taken read.rest o → StandsFor Told linter bytes
      by_end None k = subst (λ xs. StandsFor Told linter xs) (nothing_after bytes read.taken read.rest read.joined k) read.stands
      by_end (Some fault) k =
          absurd (never_both (limits_of linter) bytes fault text (subst (λ xs. IsRefusal (limits_of linter) xs fault) (sym read.joined) (k read.rest)) a)
