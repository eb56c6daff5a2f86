-- The record that is reported is the open one.
use Rattle.gj_rules.proofs.Common.{Record, after, ap, refl, sym, ◌∙◌}
use Rattle.gj_rules.proofs.records.Records.tell_open.Goals as goal

pub returns : goal.returns
returns g c =
    let self = c.args.self.now in
    let found : Record = record { number = self.number; place = c.start-place.result; end = c.end-end_place.result; verdict = c.close-verdict.result } in
    let rest = c.close-verdict.ensures.rest in
    record {
      tells = λ given records h t. (
        found,
        record {
          number = refl;
          place = c.start-place.ensures;
          end = c.end-end_place.ensures.value ∙ sym h.counted;
          verdict =
              c.close-verdict.ensures.verdict given h;
        },
        c.after-self.ensures ∙ ap (λ v. after v found) c.close-verdict.ensures.whole,
        c.tell_record.ensures records t,
      );
      stands = c.close-verdict.ensures.stands;
      start = c.close-verdict.ensures.start;
      end = c.close-verdict.ensures.end;
      depth = c.close-verdict.ensures.limits;
      rest = record { limits = rest.limits; framing = rest.framing; number = rest.number; is_void = rest.is_void; is_over = rest.is_over };
    }
