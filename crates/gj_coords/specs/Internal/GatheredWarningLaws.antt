-- Laws of warnings as they are gathered: what is taken is joined.
use Rattle.std.specs.Prelude.{◌≡◌, ℕ, Bool, true, false, if◌then◌else◌, Option, Some, None, [], refl}
use Rattle.std.proofs.Common.{sym, ◌∙◌, ap}
use Rattle.gj_coords.specs.declared.kind.Kind.{Kind}
use Rattle.gj_coords.specs.declared.kind.Kind.TheVariants.{W4}
use Rattle.gj_coords.specs.declared.kind_warnings.KindWarnings.{KindWarnings}
use Rattle.gj_coords.specs.declared.warned.Warned.{Warned}
use Rattle.gj_coords.specs.declared.warnings.Warnings.{Warnings}
use Rattle.gj_coords.specs.Warnings.{same_kind}
use Rattle.gj_coords.specs.Internal.KeptWarnings.{noted_as, nothing_noted, is_nothing, joined_noted, kept, warnings_of, joined, added, replaced, with_noted}
use Rattle.gj_coords.specs.CoordinateWarnings.{warned_if}
use Rattle.gj_coords.specs.Internal.KeptWarningLaws.{nothing_at_zero, joined_something, joined_noted_none, joined_noted_assoc}
use Rattle.gj_coords.specs.Internal.ByKind.{one_kind}
use Rattle.gj_coords.specs.Internal.WarningLaws.{by_kind_alike, kept_by_kind, joined_none_last, warnings_of_none, added_is}
use Rattle.gj_coords.specs.Internal.GatheredWarnings.{warnings_in, all_in, noted_when, some_noted, taken_some, taken}

-- no warnings more
pub none_more : (a : Warnings) → a ≡ joined a (warnings_of [])
none_more a = sym (ap (joined a) warnings_of_none ∙ joined_none_last a)

-- one warning more, where there is one
pub noted_when_is : (wrong : Bool) (w : Warned) (kind : Kind) (place : ℕ) →
    all_in (noted_when wrong w kind place) ≡ joined (all_in w) (warnings_of (warned_if wrong place kind))
noted_when_is true w kind place = added_is (all_in w) kind place
noted_when_is false w kind place = none_more (all_in w)

taken_some_is : (w : Warned) (others : Option Warnings) → all_in (taken_some w others) ≡ joined (all_in w) (warnings_in others)
taken_some_is w None = sym (joined_none_last (all_in w))
taken_some_is w (Some others) = refl

-- those of another
pub taken_is : (w other : Warned) → all_in (taken w other) ≡ joined (all_in w) (all_in other)
taken_is w other = taken_some_is w other.warnings

-- ---- some warnings of one kind

pub with_nothing : (a : Warnings) → with_noted a W4 nothing_noted ≡ a
unfolding replaced with_noted
with_nothing a = by_kind_alike (λ kind. if same_kind W4 kind then joined_noted (kept a W4) nothing_noted else kept a kind) (kept a) no_more_of
  where
    no_more_of : (kind : Kind) → (if same_kind W4 kind then joined_noted (kept a W4) nothing_noted else kept a kind) ≡ kept a kind
    no_more_of kind = by_test (same_kind W4 kind) refl
      where
        by_test : (t : Bool) → same_kind W4 kind ≡ t → (if t then joined_noted (kept a W4) nothing_noted else kept a kind) ≡ kept a kind
        by_test true t = joined_noted_none (kept a W4) ∙ ap (kept a) (one_kind W4 kind t)
        by_test false t = refl

with_both : (a : Warnings) (noted one : KindWarnings) → with_noted a W4 (joined_noted noted one) ≡ with_noted (with_noted a W4 noted) W4 one
unfolding replaced with_noted
with_both a noted one =
    by_kind_alike (λ kind. if same_kind W4 kind then joined_noted (kept a W4) (joined_noted noted one) else kept a kind)
    (λ kind. if same_kind W4 kind then joined_noted (kept (with_noted a W4 noted) W4) one else kept (with_noted a W4 noted) kind)
    (λ kind. one_more_of kind (same_kind W4 kind) refl)
  where
    first : Kind → KindWarnings
    first kind = if same_kind W4 kind then joined_noted (kept a W4) noted else kept a kind

    one_more_of : (kind : Kind) (t : Bool) → same_kind W4 kind ≡ t →
        (if t then joined_noted (kept a W4) (joined_noted noted one) else kept a kind)
        ≡ (if t then joined_noted (kept (with_noted a W4 noted) W4) one else kept (with_noted a W4 noted) kind)
    one_more_of kind true t = sym (joined_noted_assoc (kept a W4) noted one) ∙ sym (ap (λ x. joined_noted x one) (kept_by_kind first W4))
    one_more_of kind false t = sym (kept_by_kind first kind ∙ rw t refl)

with_one : (a : Warnings) (place : ℕ) → with_noted a W4 (noted_as 1 place) ≡ added a W4 place
unfolding added replaced with_noted
with_one a place =
    by_kind_alike (λ kind. if same_kind W4 kind then joined_noted (kept a W4) (noted_as 1 place) else kept a kind)
    (λ kind. if same_kind W4 kind then joined_noted (kept a kind) (noted_as 1 place) else kept a kind) (λ kind. by_test kind (same_kind W4 kind) refl)
  where
    by_test : (kind : Kind) (t : Bool) → same_kind W4 kind ≡ t →
        (if t then joined_noted (kept a W4) (noted_as 1 place) else kept a kind) ≡ (if t then joined_noted (kept a kind) (noted_as 1 place) else kept a kind)
    by_test kind true t = ap (λ k. joined_noted (kept a k) (noted_as 1 place)) (one_kind W4 kind t)
    by_test kind false t = refl

-- one of the kind more
pub with_one_more : (a : Warnings) (noted : KindWarnings) (place : ℕ)
    → with_noted a W4 (joined_noted noted (noted_as 1 place)) ≡ added (with_noted a W4 noted) W4 place
with_one_more a noted place = with_both a noted (noted_as 1 place) ∙ with_one (with_noted a W4 noted) place

pub some_noted_is : (none : Bool) (w : Warned) (noted : KindWarnings) → is_nothing noted ≡ none
    → all_in (some_noted none w W4 noted) ≡ with_noted (all_in w) W4 noted
some_noted_is true w noted h = sym (ap (with_noted (all_in w) W4) (sym (nothing_at_zero noted h)) ∙ with_nothing (all_in w))
some_noted_is false w noted h = refl

-- twice some warnings are both at once
pub some_noted_twice : (w : Warned) (a b : KindWarnings) → some_noted (is_nothing b) (some_noted (is_nothing a) w W4 a) W4 b
    ≡ some_noted (is_nothing (joined_noted a b)) w W4 (joined_noted a b)
some_noted_twice w a b = by_test (is_nothing a) (is_nothing b) refl refl
  where
    by_test : (ta tb : Bool) → is_nothing a ≡ ta → is_nothing b ≡ tb → some_noted (is_nothing b) (some_noted (is_nothing a) w W4 a) W4 b
        ≡ some_noted (is_nothing (joined_noted a b)) w W4 (joined_noted a b)
    by_test true tb x y = simp x
    by_test false true x y = simp (x, y)
    by_test false false x y =
        (λ i. some_noted (y i) (some_noted (x i) w W4 a) W4 b) ∙ (λ i. record { warnings = Some (sym (with_both (all_in w) a b) i) })
        ∙ (λ i. some_noted (sym (joined_something a b x y) i) w W4 (joined_noted a b))
