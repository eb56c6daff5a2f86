-- What is kept is written for each kind in turn.
use Rattle.gj_coords.proofs.Common.{Kind, KindWarnings, Warnings, ap, arith, by_kind_alike, index_of, kept, kept_by_kind, kinds, nat_tests, same_kind}
use Rattle.gj_coords.proofs.Common.{sym, ◌∙◌}
use Rattle.std.specs.Prelude.{refl, ◌≡◌, ℕ, ◌+◌, ◌-◌, ◌≤◌, ◌<◌, nat_eq, nat_lt, if◌then◌else◌, Bool, true, false, length}
use Rattle.gj_coords.specs.Warnings.{kind_number}
use Rattle.gj_coords.specs.Internal.KeptWarnings.{by_kind, replaced}
use Rattle.gj_coords.specs.Internal.ByKind.{kind_range, index_small, one_kind}

-- the first kinds have these values
abbrev pub turned : ℕ → (Kind → KindWarnings) → Warnings → Warnings
turned i value a = by_kind (λ kind. if nat_lt (index_of kind) i then value kind else kept a kind)

pub all_turned : (i : ℕ) (value : Kind → KindWarnings) (a : Warnings) → length kinds ≤ i → turned i value a ≡ by_kind value
all_turned i value a all =
    by_kind_alike (λ kind. if nat_lt (index_of kind) i then value kind else kept a kind) value
    (λ kind. by_test kind (nat_lt (index_of kind) i) (within (index_of kind) (index_small kind)))
  where
    within : (n : ℕ) → n < length kinds → nat_lt n i ≡ true
    within n h = grind (arith, nat_tests)

    by_test : (kind : Kind) (t : Bool) → t ≡ true → (if t then value kind else kept a kind) ≡ value kind
    by_test kind t h = rw h refl

-- a kind that is not reached has what it had
pub not_turned : (i : ℕ) (value : Kind → KindWarnings) (a : Warnings) (kind : Kind) → index_of kind ≡ i → kept (turned i value a) kind ≡ kept a kind
not_turned i value a kind at =
    kept_by_kind (λ other. if nat_lt (index_of other) i then value other else kept a other) kind
    ∙ by_test (nat_lt (index_of kind) i) (not_yet (index_of kind) at)
  where
    not_yet : (n : ℕ) → n ≡ i → nat_lt n i ≡ false
    not_yet n h = grind (arith, nat_tests)

    by_test : (t : Bool) → t ≡ false → (if t then value kind else kept a kind) ≡ kept a kind
    by_test t h = rw h refl

-- the next one is written
pub one_turned : (i : ℕ) (value : Kind → KindWarnings) (a : Warnings) (kind : Kind) (noted : KindWarnings) → index_of kind ≡ i → noted ≡ value kind →
    replaced (turned i value a) kind noted ≡ turned (i + 1) value a
unfolding replaced
one_turned i value a kind noted at is =
    by_kind_alike (λ other. if same_kind kind other then noted else kept (turned i value a) other)
    (λ other. if nat_lt (index_of other) (i + 1) then value other else kept a other)
    (λ other. by_test other (same_kind kind other) refl)
  where
    reached : (m n : ℕ) → nat_eq m n ≡ true → m - 1 ≡ i → nat_lt (n - 1) (i + 1) ≡ true
    reached m n t h = grind (arith, nat_tests)

    as_before : (m n : ℕ) → 1 ≤ m → 1 ≤ n → nat_eq m n ≡ false → m - 1 ≡ i → nat_lt (n - 1) i ≡ nat_lt (n - 1) (i + 1)
    as_before m n h k t e = grind (arith, nat_tests)

    by_test : (other : Kind) (t : Bool) → same_kind kind other ≡ t →
        (if t then noted else kept (turned i value a) other) ≡ (if nat_lt (index_of other) (i + 1) then value other else kept a other)
    by_test other true t =
        is ∙ (ap value (one_kind kind other t)
        ∙ sym (ap (λ b. if b then value other else kept a other) (reached (kind_number kind) (kind_number other) t at)))
    by_test other false t =
        kept_by_kind (λ k. if nat_lt (index_of k) i then value k else kept a k) other
        ∙ ap (λ b. if b then value other else kept a other) (as_before (kind_number kind) (kind_number other) (kind_range kind).0 (kind_range other).0 t at)
