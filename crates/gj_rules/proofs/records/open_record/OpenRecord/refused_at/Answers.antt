-- No refused byte stands beyond those that came.
use Rattle.gj_rules.proofs.Common.{IsRefusal, arith, sym, [], ◌++◌, ◌+◌, ◌^◌, ◌∙◌, ◌≤◌}
use Rattle.std.proofs.Common.{length-append}
use Rattle.std.proofs.Math.Bridge.{le_prop}
use Rattle.std.proofs.Math.Logic.{∥∥₁_elim}
use Rattle.gj_rules.specs.Linter.{limits_of}
use Rattle.gj_rules.proofs.Sequences.OpenRecords.{refused_within}
use Rattle.gj_rules.proofs.records.open_record.OpenRecord.refused_at.Goals as goal

pub overflow_add-result : goal.overflow_add-result
overflow_add-result c =
    let self = c.args.self.now in
    let fault = c.in-Some.fault in
    let bound : self.start + fault.place ≤ 2 ^ 60 =
    ∥∥₁_elim self.fed le_prop (λ f.
    let r : IsRefusal (limits_of self.linter) (f.0 ++ []) fault = c.refusal.ensures.lasting f.0 [] fault f.1 (sym c.refusal.ensures.value ∙ c.in-Some.is) in
    let w = refused_within fault.cause (limits_of self.linter) (f.0 ++ []) fault.place r in
    omega (arith, w, f.2, length-append f.0 [], self.within)) in
    omega (arith, bound)
