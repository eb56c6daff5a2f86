-- No part has ended, and the open one has no byte.
use Rattle.gj_rules.proofs.Common.{SeqVerdict, ap, arith, parts_from, refl, sym, []}
use Rattle.gj_rules.proofs.Parts.PartCuts.{no_bytes_void}
use Rattle.gj_rules.proofs.records.Records.begin_again.Goals as goal

pub returns-clause-stands : goal.returns-clause-stands
returns-clause-stands c = record {
  done = [];
  before = [];
  given = [];
  split = refl;
  cut = λ last more. ap (λ n. parts_from c.args.framing last n more) (sym c.begin_under.ensures.start);
  plain = refl;
  stands = c.begin_under.ensures.stands;
  depth = ap (λ l. l.depth) c.begin_under.ensures.limits;
  taken = c.begin_under.ensures.end;
  fits = omega arith;
  void = sym (no_bytes_void c.args.framing);
  number = c.first_number-self.ensures;
  are = tt;
  whole = ap (λ w. SeqVerdict.Valid 0 w) c.none.ensures.exact;
}
