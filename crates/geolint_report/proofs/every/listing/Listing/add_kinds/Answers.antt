use Rattle.geolint_report.proofs.Common.{arith, refl, ◌≡◌, ◌+◌, ◌∙◌, ◌++◌, List, ℕ, length, take, get_or, ap, sym, subst, append_assoc, append-nil}
use Rattle.geolint_report.proofs.Common.{flat_map, kinds, Note}
use Rattle.gj_coords.specs.declared.kind.Kind.TheVariants.{W1}
use Rattle.geolint_report.specs.Every.{Keeps, kind_notes}
use Rattle.geolint_report.proofs.every.listing.Listing.add_kinds.Goals as goal
use Rattle.geolint_report.proofs.ElementsInTurn.{parts-more}

pub loop-kind-init : goal.loop-kind-init
loop-kind-init c = record {
  keeps = λ all keeps. subst (λ (ys : List Note). Keeps c.args.self.now ys) (sym (append-nil all)) keeps;
  asked = refl;
  items = refl;
}

pub loop-kind-preserved : goal.loop-kind-preserved
loop-kind-preserved c =
    let part = kind_notes c.args.item c.args.warnings.now in
    let i = c.loop-kind.kind-index in
    let before : List Note = flat_map part (take i kinds) in
    let here : List Note = part (get_or kinds i W1) in
    let more : flat_map part (take (i + 1) kinds) ≡ before ++ here = parts-more part kinds i W1 c.loop-kind-test.true in
    record {
      keeps = λ all keeps. subst (λ (ys : List Note). Keeps c.add_kind.new.self ys)
          (append_assoc all before here ∙ ap (λ (ys : List Note). all ++ ys) (sym more))
          (c.add_kind.ensures.keeps (all ++ before) (c.loop-kind.invariant.keeps all keeps));
      asked = c.add_kind.ensures.asked ∙ c.loop-kind.invariant.asked;
      items = c.add_kind.ensures.items ∙ c.loop-kind.invariant.items;
    }

pub returns-clause-keeps : goal.returns-clause-keeps
returns-clause-keeps c = λ all keeps.
    let part = kind_notes c.args.item c.args.warnings.now in
    let end : c.loop-kind.kind-index ≡ length kinds = omega (arith, c.loop-kind-test.false, c.loop-kind.auto.kind-index-end) in
    subst (λ (i : ℕ). Keeps c.loop-kind.self (all ++ flat_map part (take i kinds))) end (c.loop-kind.invariant.keeps all keeps)
