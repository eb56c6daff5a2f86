use Rattle.gj_join.proofs.Common.{Some, ap, arith, inl, inr, length, refl, subst, ℕ, ◌+◌, ◌<◌, ◌∙◌, ◌≡◌, ◌≤◌}
use Rattle.std.proofs.Common.{rules, get_or}
use Rattle.std.proofs.lemmas.Bool.{cases_eq}
use Rattle.gj_coords.specs.Internal.ByKind.{kind_at_index, index_small}
use Rattle.gj_coords.specs.Internal.KeptWarnings.{first_in}
use Rattle.gj_coords.specs.Warnings.{kinds, index_of}
use Rattle.gj_coords.specs.declared.kind.Kind.{Kind}
use Rattle.gj_join.specs.Joined.{greatest_place}
use Rattle.gj_join.proofs.sequences.moved.warnings_fit.Goals as goal

pub loop-kind-preserved : goal.loop-kind-preserved
loop-kind-preserved c = λ i place within is. elim (cases_eq i c.loop-kind.kind-index) [
  | inl e ↦
      let here = c.kind_fits.ensures.0 (search rules) in
      here place (subst (λ (n : ℕ). first_in (get_or kinds n Kind.W1) c.args.warnings.now ≡ Some place) e is)
  | inr e ↦ c.loop-kind.invariant i place (omega (arith, within, e)) is
]

pub returns : goal.returns
returns c =
    let all : (i place : ℕ) → i < length kinds → first_in (get_or kinds i Kind.W1) c.args.warnings.now ≡ Some place → place + c.args.by ≤ greatest_place =
    λ i place small is. c.loop-kind.invariant i place (omega (arith, small, c.loop-kind-test.false)) is in (
      λ yes kind place is. all (index_of kind) place (index_small kind) (ap (λ (k : Kind). first_in k c.args.warnings.now) (kind_at_index kind) ∙ is),
      λ fit. refl,
    )
