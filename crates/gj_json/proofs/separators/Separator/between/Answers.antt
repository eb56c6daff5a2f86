-- The first of the bytes are those that are compared at once.
use Rattle.gj_json.proofs.Common.{List, ap, arith, drop, length, length-take-le, ℕ, ◌-◌, ◌∙◌, ◌≡◌}
use Rattle.std.proofs.Common.{length-drop, take}
use Rattle.std.proofs.lemmas.List.{take-take}
use Rattle.gj_json.proofs.separators.Separator.between.Goals as goal

pub invariant_of-result : goal.invariant_of-result
invariant_of-result c =
    let rest : List ℕ = drop c.args.from c.args.piece.now in
    let n : ℕ = c.args.to - c.args.from in
    let size : length (take n rest) ≡ n =
    length-take-le n rest (omega (arith, length-drop c.args.from c.args.piece.now, c.if-from-to.false, c.if-to-piece.false)) in
    record {
      few = omega (arith, size, c.if-to-from-gt-MOST.false);
      same = λ short. take-take (length (take n rest)) 16 rest short ∙ ap (λ k. take k rest) size;
    }
