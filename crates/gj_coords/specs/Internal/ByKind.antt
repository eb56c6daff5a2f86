-- One value for each kind of warning, and the laws by which nothing else has to say how many kinds there are.
use Rattle.std.specs.Prelude.{◌≡◌, ℕ, ◌+◌, ◌-◌, ◌≤◌, ◌<◌, nat_eq, true, if◌then◌else◌, map, length, get_or, refl}
use Rattle.std.proofs.Common.{arith, sym, ◌∙◌, ap}
use Rattle.std.proofs.lemmas.Bool.Decides.{nat_tests}
use Rattle.std.proofs.lemmas.List.{get_or-map}
use Rattle.std.proofs.lemmas.List.FromFn.{get_or-range_with_len}
use Rattle.gj_coords.specs.declared.kind.ByKind.{ByKind}
use Rattle.gj_coords.specs.declared.kind.Kind.{Kind}
use Rattle.gj_coords.specs.Warnings.{kind_number, kinds, index_of, same_kind}

-- that of each kind
abbrev pub each : {T : Type 0} → (Kind → T) → ByKind T
each value = record {
  w1 = value Kind.W1;
  w2 = value Kind.W2;
  w3 = value Kind.W3;
  w4 = value Kind.W4;
  w5 = value Kind.W5;
  w6 = value Kind.W6;
  w7 = value Kind.W7;
  w8 = value Kind.W8;
  w9 = value Kind.W9;
}

-- that of a kind
abbrev pub of_kind : {T : Type 0} → ByKind T → Kind → T
of_kind values Kind.W1 = values.w1
of_kind values Kind.W2 = values.w2
of_kind values Kind.W3 = values.w3
of_kind values Kind.W4 = values.w4
of_kind values Kind.W5 = values.w5
of_kind values Kind.W6 = values.w6
of_kind values Kind.W7 = values.w7
of_kind values Kind.W8 = values.w8
of_kind values Kind.W9 = values.w9

-- one replaced
abbrev pub with_value : {T : Type 0} → ByKind T → Kind → T → ByKind T
with_value values kind value = each (λ other. if same_kind kind other then value else of_kind values other)

pub of_each : {T : Type 0} (value : Kind → T) (kind : Kind) → of_kind (each value) kind ≡ value kind
of_each value Kind.W1 = refl
of_each value _ = refl

pub kind_range : (kind : Kind) → (1 ≤ kind_number kind) × (kind_number kind ≤ length kinds)
kind_range Kind.W1 = (omega arith, omega arith)
kind_range _ = (omega arith, omega arith)

pub kind_at_index : (kind : Kind) → get_or kinds (index_of kind) Kind.W1 ≡ kind
kind_at_index Kind.W1 = refl
kind_at_index _ = refl

pub index_small : (kind : Kind) → index_of kind < length kinds
index_small kind = omega (arith, (kind_range kind).0, (kind_range kind).1)

pub index_at : (i : ℕ) → i < length kinds → index_of (get_or kinds i Kind.W1) ≡ i
index_at i small =
    let e : get_or (map index_of kinds) i 0 ≡ 0 + i = get_or-range_with_len 0 (length kinds) i 0 small in
    sym (get_or-map index_of kinds i Kind.W1 0 small) ∙ (e ∙ omega arith)

pub one_kind : (a b : Kind) → same_kind a b ≡ true → a ≡ b
one_kind a b same = sym (kind_at_index a) ∙ (ap (λ n. get_or kinds (n - 1) Kind.W1) (one_number (kind_number a) (kind_number b) same) ∙ kind_at_index b)
  where
    one_number : (m n : ℕ) → nat_eq m n ≡ true → m ≡ n
    one_number m n same = grind (arith, nat_tests)

pub same_itself : (kind : Kind) → same_kind kind kind ≡ true
same_itself kind = number (kind_number kind)
  where
    number : (n : ℕ) → nat_eq n n ≡ true
    number n = grind (arith, nat_tests)
