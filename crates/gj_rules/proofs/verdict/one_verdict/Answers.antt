-- One verdict for each input, by the laws of texts and of refusals.
use Rattle.gj_rules.proofs.Common.{Allowed, Broken, Fault, IsAdmitted, IsRefusal, IsText, IsVerdict, JsonFault, List, NotJson, Text, Valid, Verdict}
use Rattle.gj_rules.proofs.Common.{Warnings, ap, inl, inr, least, refl, sym, text_faults, text_warnings, verdict_of, warnings_of, [], ◌∙◌}
use Rattle.std.proofs.Common.{◌≡◌, ℕ, Some, None}
use Rattle.gj_rules.specs.Internal.JudgementLaws.{said, says}
use Rattle.gj_rules.proofs.Texts.LinterEvents.{text_verdict}
use Rattle.gj_rules.proofs.verdict.one_verdict.Goals as goal

module _ (one_text : (first second : Text) (bytes : List ℕ) → IsText first bytes → IsText second bytes → first ≡ second)
    (at_most_one : (limits : Allowed) (bytes : List ℕ) (first second : JsonFault) → IsRefusal limits bytes first → IsRefusal limits bytes second
    → first ≡ second)
    (never_both : (limits : Allowed) (bytes : List ℕ) (fault : JsonFault) (text : Text) → IsRefusal limits bytes fault → IsAdmitted limits text bytes → ⊥) where
  -- the faults of an input are those of its one text
  least_is : (limits : Allowed) (bytes : List ℕ) (first second : Text) → IsAdmitted limits first bytes → IsAdmitted limits second bytes
      → least (text_faults first) ≡ least (text_faults second)
  least_is limits bytes first second a b = ap (λ (text : Text). least (text_faults text)) (one_text first second bytes a.0.0 b.0.0)

  warned_is : (limits : Allowed) (bytes : List ℕ) (first second : Text) (a b : Warnings) → IsAdmitted limits first bytes → IsAdmitted limits second bytes
      → a ≡ warnings_of (text_warnings first) → b ≡ warnings_of (text_warnings second) → a ≡ b
  warned_is limits bytes first second a b e f g h =
      g ∙ (ap (λ (text : Text). warnings_of (text_warnings text)) (one_text first second bytes e.0.0 f.0.0) ∙ sym h)

  none_is : (limits : Allowed) (bytes : List ℕ) (first second : Text) (fault : Fault) → IsAdmitted limits first bytes → IsAdmitted limits second bytes
      → text_faults first ≡ [] → least (text_faults second) ≡ Some fault → ⊥
  none_is limits bytes first second fault a b none some =
      let e : least (text_faults first) ≡ None = ap (λ xs. least xs) none in
      let f = sym e ∙ least_is limits bytes first second a b ∙ some in
      cc

  same : (limits : Allowed) (bytes : List ℕ) (first second : Verdict) → IsVerdict limits bytes first → IsVerdict limits bytes second → first ≡ second
  same limits bytes (Valid w) (Valid x) a b = ap (λ (y : Warnings). Valid y) (warned_is limits bytes a.0 b.0 w x a.1 b.1 a.3 b.3)
  same limits bytes (Valid w) (Broken fault) a b = absurd (none_is limits bytes a.0 b.0 fault a.1 b.1 a.2 b.2)
  same limits bytes (Valid w) (NotJson fault) a b = absurd (never_both limits bytes fault a.0 b a.1)
  same limits bytes (Broken fault) (Valid w) a b = absurd (none_is limits bytes b.0 a.0 fault b.1 a.1 b.2 a.2)
  same limits bytes (Broken fault) (Broken other) a b = (
      let e = sym a.2 ∙ least_is limits bytes a.0 b.0 a.1 b.1 ∙ b.2 in
      let f : fault ≡ other = cc in
      ap (λ (x : Fault). Broken x) f)
  same limits bytes (Broken fault) (NotJson other) a b = absurd (never_both limits bytes other a.0 b a.1)
  same limits bytes (NotJson fault) (Valid w) a b = absurd (never_both limits bytes fault b.0 a b.1)
  same limits bytes (NotJson fault) (Broken other) a b = absurd (never_both limits bytes fault b.0 a b.1)
  same limits bytes (NotJson fault) (NotJson other) a b = ap (λ (x : JsonFault). NotJson x) (at_most_one limits bytes fault other a b)

pub returns-clause-some : goal.returns-clause-some
returns-clause-some c = λ limits bytes. elim (c.one_refusal.ensures.either limits bytes) [
  | inl refused ↦ (NotJson refused.0, refused.1)
  | inr admitted ↦ (
    verdict_of (least (text_faults admitted.0)) (warnings_of (text_warnings admitted.0)),
    text_verdict limits bytes admitted.0 admitted.1 (least (text_faults admitted.0)) (warnings_of (text_warnings admitted.0)) refl refl,
  )
]

pub returns-clause-one : goal.returns-clause-one
returns-clause-one c = same c.one_text.ensures c.one_refusal.ensures.at_most_one c.one_refusal.ensures.never_both

pub returns-clause-said : goal.returns-clause-said
returns-clause-said c = λ limits bytes verdict. (said limits bytes verdict, λ (judgement, is, says_it). says limits bytes verdict judgement is says_it)
