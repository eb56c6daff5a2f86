-- The verdict of the record by that of its linter, as it is framed and ends.
use Rattle.gj_rules.proofs.Common.{Allowed, IsVerdict, add-zero, ap, arith, length, refl, shifted_verdict, subst, [], ◌-◌, ◌∙◌}
use Rattle.std.proofs.Math.Bridge.{le_prop}
use Rattle.std.proofs.Math.Logic.{∥∥₁_elim}
use Rattle.gj_rules.specs.Linter.{limits_of}
use Rattle.gj_rules.proofs.Sequences.OpenRecords.{own_limit, ended_as_within, told_ended, none_answered}
use Rattle.gj_rules.proofs.Sequences.PlacesTold.{told_within}
use Rattle.gj_rules.proofs.records.open_record.OpenRecord.close_as.Goals as goal

pub shifted-verdict-requires : goal.shifted-verdict-requires
shifted-verdict-requires c = λ place p.
    let self = c.args.self.now in
    ∥∥₁_elim self.fed le_prop (λ f.
    let h = c.finish_and_begin-verdict.ensures.verdict f.0 f.1 in
    let within = ended_as_within c.args.framing c.args.ending _ (self.end - self.start) (length f.0) place c.finish_and_begin-verdict.result
    (omega (arith, f.2))
    (λ q i. told_within c.places_within.ensures (limits_of self.linter) f.0 c.finish_and_begin-verdict.result q h i)
    (rw (c.ended_as-own.ensures) at p) in
    omega (arith, within, f.2, self.within))

pub invariant_of-self : goal.invariant_of-self
invariant_of-self c = record {
  wide = c.args.self.now.wide;
  within = c.requires;
  fed = ∣ ([], c.finish_and_begin-verdict.ensures.stands, add-zero c.args.next) ∣₁;
}

pub returns-clause-verdict : goal.returns-clause-verdict
returns-clause-verdict c = λ bytes h.
    let self = c.args.self.now in
    let v = c.finish_and_begin-verdict.ensures.verdict bytes h.linter in
    let P : Allowed → Type 0 = λ l. IsVerdict l bytes c.finish_and_begin-verdict.result in
    let w = subst P h.under v in (
      c.finish_and_begin-verdict.result,
      own_limit self.limits bytes c.finish_and_begin-verdict.result (omega (arith, h.counted, self.within, self.wide)) w,
      c.shifted-verdict.ensures
          ∙ (ap (shifted_verdict self.start) c.ended_as-own.ensures
          ∙ told_ended c.args.framing c.args.ending self.start self.last (self.end - self.start) bytes c.finish_and_begin-verdict.result h.last
          (omega (arith, h.counted))),
    )

pub returns-clause-stands : goal.returns-clause-stands
returns-clause-stands c = record {
  linter = c.finish_and_begin-verdict.ensures.stands;
  counted = add-zero c.args.next;
  last = refl;
  under = c.finish_and_begin-verdict.ensures.limits;
  answers = none_answered c.args.self.now.limits _ c.finish_and_begin-verdict.ensures.refusal;
}
