use denote.Enum.Bare.{same_true, true_same, sameb}
use Rattle.part_lines.proofs.Common.{◌≡◌, ◌∙◌, ℕ, Bool, List, Framing, ap, refl, sym}
use Rattle.std.proofs.Common.{◌&&◌, rules, Option, Some, None}
use Rattle.std.specs.Option.{option_eq}
use Rattle.std.proofs.lemmas.Option.{same_Some}
use Rattle.std.proofs.Math.Bool.{beq}
use Rattle.std.proofs.Math.Dec.{eqb}
use Rattle.std.specs.Bool.{Decides}
use Rattle.std.specs.Cmp.{booleans_Decides}
use Rattle.std.specs.Cmp.Lexicographic.{pointwise}
use Rattle.std.proofs.lemmas.Bool.{not-false, not-true}
use Rattle.std.proofs.lemmas.Bool.Decides.{Decides-and, Decides-eqb}
use Rattle.std.proofs.lemmas.Slice.Eq.{bytes_eq-Decides, slice_eq-Decides}
use Rattle.gj_rules.specs.contracts.records.framing.Framing.{the_type}
use Rattle.report_forms.specs.declared.options.Strictness.{Strictness}
use Rattle.part_lines.specs.declared.line.Settings.{Settings}
use Rattle.part_lines.proofs.joining.check_line.Goals as goal

abbrev made : Bool → List Bool → List Bool → Strictness
made strict allowed denied = record { strict = strict; allowed = record { contained = allowed }; denied = record { contained = denied } }

same : (s t : Bool) (a b d e : List Bool) → s ≡ t → a ≡ b → d ≡ e → made s a d ≡ made t b e
same s t a b d e p q r = rw (p, q, r)

-- `==` of two strictnesses, and of two settings
abbrev alike : Strictness → Strictness → Bool
alike one other = beq one.strict other.strict
    && (pointwise beq one.allowed.contained other.allowed.contained && pointwise beq one.denied.contained other.denied.contained)

strictness_Decides : (one other : Strictness) → Decides (alike one other) (one ≡ other)
strictness_Decides one other =
    let parts = Decides-and _ _ (booleans_Decides one.strict other.strict)
    (Decides-and _ _ (slice_eq-Decides booleans_Decides one.allowed.contained other.allowed.contained _ refl)
    (slice_eq-Decides booleans_Decides one.denied.contained other.denied.contained _ refl)) in (
      λ t. let (s, (a, d)) = parts.0 t in same _ _ _ _ _ _ s a d,
      λ e. parts.1 (
        ap (λ (o : Strictness). o.strict) e,
        (ap (λ (o : Strictness). o.allowed.contained) e, ap (λ (o : Strictness). o.denied.contained) e),
      ),
    )

abbrev set : Option Framing → ℕ → ℕ → Strictness → Settings
set framing bytes depth strictness = record { framing = framing; limits = record { bytes = bytes; depth = depth }; strictness = strictness }

same_set : (f g : Option Framing) (a b c d : ℕ) (s t : Strictness) → f ≡ g → a ≡ b → c ≡ d → s ≡ t → set f a c s ≡ set g b d t
same_set f g a b c d s t p q r u = rw (p, q, r, u)

option_Decides : ((f g : Framing) → Decides (sameb the_type f g) (f ≡ g)) → (a b : Option Framing) → Decides (option_eq (sameb the_type) a b) (a ≡ b)
option_Decides each None None = (λ t. refl, λ e. refl)
option_Decides each (Some f) (Some g) = (λ t. ap Some ((each f g).0 t), λ e. (each f g).1 (same_Some f g e))
option_Decides each None (Some g) = (λ t. absurd (cc t), λ e. absurd (cc e))
option_Decides each (Some f) None = (λ t. absurd (cc t), λ e. absurd (cc e))

abbrev tested : Settings → Settings → Bool
tested one other = option_eq (sameb the_type) one.framing other.framing
    && ((eqb one.limits.bytes other.limits.bytes && eqb one.limits.depth other.limits.depth) && alike one.strictness other.strictness)

settings_Decides : (one other : Settings) → Decides (tested one other) (one ≡ other)
settings_Decides one other =
    let each : (f g : Framing) → Decides (sameb the_type f g) (f ≡ g) = λ f g. (same_true the_type (search rules) f g, true_same the_type f g) in
    let parts = Decides-and _ _ (option_Decides each one.framing other.framing)
    (Decides-and _ _ (Decides-and _ _ (Decides-eqb one.limits.bytes other.limits.bytes) (Decides-eqb one.limits.depth other.limits.depth))
    (strictness_Decides one.strictness other.strictness)) in (
      λ t. let (f, (l, s)) = parts.0 t in same_set _ _ _ _ _ _ _ _ f l.0 l.1 s,
      λ e. parts.1 (
        ap (λ (o : Settings). o.framing) e,
        (
          (ap (λ (o : Settings). o.limits.bytes) e, ap (λ (o : Settings). o.limits.depth) e),
          ap (λ (o : Settings). o.strictness) e,
        ),
      ),
    )

pub returns-then-ne-3-clause-complete : goal.returns-then-ne-3-clause-complete
returns-then-ne-3-clause-complete c = λ like.
    sym (not-true _ (sym c.ne-else-ne-2.ensures ∙ c.if-ne-3.true)) ∙ (settings_Decides c.args.line.now.settings c.args.first.now.settings).1 like.settings

pub returns-else-line-first-clause-alike : goal.returns-else-line-first-clause-alike
returns-else-line-first-clause-alike c =
    let one = c.args.line.now in
    let first = c.args.first.now in
    let file = (Decides-and _ _ (bytes_eq-Decides _ _) (Decides-and _ _ (Decides-eqb one.file.size first.file.size) (bytes_eq-Decides _ _))).0
    (not-false _ (sym c.ne-else-ne.ensures ∙ c.if-ne-2.false)) in
    record {
      path = file.0;
      size = file.1.0;
      modified = file.1.1;
      settings = (settings_Decides one.settings first.settings).0 (not-false _ (sym c.ne-else-ne-2.ensures ∙ c.if-ne-3.false));
      parts = c.if-line-first.false;
    }
