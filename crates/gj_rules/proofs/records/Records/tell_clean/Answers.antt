-- The record that is reported has no warning.
use Rattle.gj_rules.proofs.Common.{IsNumberedVerdict, Record, Separator, Verdict, Warnings, ap, part_at, refl, subst, sym, ◌∙◌}
use Rattle.gj_rules.proofs.Parts.FoundRecords.{numbered_own}
use Rattle.gj_rules.proofs.records.Records.tell_clean.Goals as goal

pub returns : goal.returns
returns g c =
    let self = c.args.self.now in
    let found : Record = record { number = self.number; place = c.start.result; end = c.end.result; verdict = Verdict.Valid c.none.result } in
    record {
      tells = λ given records h t. (
        found,
        record {
          number = refl;
          place = c.start.ensures;
          end = c.end.ensures.value ∙ sym h.counted;
          verdict = (
              let P : Warnings → Type 0 =
              λ w. IsNumberedVerdict self.framing self.record.limits.depth self.number (part_at self.record.start given Separator) (Verdict.Valid w) in
              subst P (sym c.none.ensures.exact)
              (numbered_own self.framing self.record.limits.depth self.number (part_at self.record.start given Separator) _ c.requires.numbered
              (c.requires.clean given h)));
        },
        c.count.ensures found refl (ap (λ (w : Warnings). Verdict.Valid w) c.none.ensures.exact),
        c.tell_record.ensures records t,
      );
      stands = c.begin_again.ensures.stands;
      start = c.begin_again.ensures.start;
      end = c.begin_again.ensures.end;
      depth = c.begin_again.ensures.limits;
      rest = record { limits = refl; framing = refl; number = refl; is_void = refl; is_over = refl };
    }
