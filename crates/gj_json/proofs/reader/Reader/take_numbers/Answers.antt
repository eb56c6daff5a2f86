-- A number and the comma, or the bracket, after it.
use Rattle.gj_json.proofs.Common.{ap, append_assoc, arith, awaits, inner_of, sym, ◌∙◌}
use Rattle.gj_json.specs.Internal.OpenLevels.{levels_in}
use Rattle.gj_json.proofs.Readers.CallsInTurn.{then_all}
use Rattle.gj_json.proofs.Pieces.NumberRows.{row_goes_on, row_ends}
use Rattle.gj_json.proofs.reader.Reader.take_numbers.Goals as goal
use Rattle.gj_json.proofs.reader.Reader.take_numbers.Goals.{else-end-ne44-via-then-end-ne44+else-end-ne93, else-end-ne44-via-else-end-ne44}

pub returns-then-end-eq93 : goal.returns-then-end-eq93
returns-then-end-eq93 g c =
    let i = c.loop-at.invariant in
    let found = c.read_decimal-count.ensures.number (omega (arith, c.if-count-eq0.false)) in
    rw (c.take_close.ensures.count)
    (row_ends c.args.piece.now c.loop-at.at c.read_decimal-count.result c.read_decimal-count.new.value i.taken.within found c.args.self.now c.loop-at.self
    c.take_close.new.self i.due i.inner i.taken c.requires.takes.1 c.if-end-eq93.true c.take_close.ensures.lands
    (λ events h. rw append_assoc at (c.take_close.ensures.heard _ (c.tell.ensures events h))))

pub loop-at-preserved : goal.loop-at-preserved
loop-at-preserved g c =
    let i = c.loop-at.invariant in
    let found = c.read_decimal-count.ensures.number (omega (arith, c.if-count-eq0.false)) in
    let p = c.skip-at.ensures.passed in
    record {
      taken = rw (c.skip-at.ensures.count)
          (row_goes_on c.args.piece.now c.loop-at.at c.read_decimal-count.result c.read_decimal-count.new.value i.taken.within found c.args.self.now
          c.loop-at.self c.skip-at.new.self i.due i.inner i.taken c.requires.takes.1
          (elim c.else-end-ne44.branch [
            | else-end-ne44-via-then-end-ne44+else-end-ne93 w ↦ absurd (c.if-end-eq93.false w.if-end-ne93.false)
            | else-end-ne44-via-else-end-ne44 w ↦ w.if-end-ne44.false
          ])
          p (λ events h. c.tell.ensures events h));
      inner = ap (λ l. inner_of (levels_in l)) p.levels ∙ i.inner;
      due = ap awaits p.mode_is;
    }

pub returns-then-any-eq0 : goal.returns-then-any-eq0
returns-then-any-eq0 g c = then_all c.loop-at.invariant.taken c.take_any_number-any.ensures

pub loop-at-preserved-then-count-eq0 : goal.loop-at-preserved-then-count-eq0
loop-at-preserved-then-count-eq0 g c =
    record {
      taken = then_all c.loop-at.invariant.taken c.take_any_number-any.ensures;
      inner = c.is_in_array.ensures c.if-not-is_in_array.false;
      due = sym c.is_due.ensures ∙ c.if-not-is_due.false;
    }
