-- A value that is done, and no level around it.
use Rattle.gj_json.proofs.Common.{false, sym, ◌∙◌, ◌≡◌}
use Rattle.std.specs.Option.{is_some}
use Rattle.gj_json.proofs.Machine.EmptyRests.{ended_whole, none_told}
use Rattle.gj_json.proofs.Events.FinishedTexts.{none_is, whole_ends}
use Rattle.gj_json.proofs.reader.Reader.is_whole.Goals as goal

pub returns-then-is_none-clause-live : goal.returns-then-is_none-clause-live
returns-then-is_none-clause-live c = λ t.
    let e : is_some c.args.self.now.fault ≡ false = rw (c.if-is_none.true) at c.is_none.ensures in
    none_is c.args.self.now.fault e

pub returns-then-is_none-clause-answer : goal.returns-then-is_none-clause-answer
returns-then-is_none-clause-answer c = λ bytes h t.
    let self = c.args.self.now in
    let e : is_some self.fault ≡ false = rw (c.if-is_none.true) at c.is_none.ensures in
    let f : is_some c.inner.result ≡ false = rw t at c.is_none-then-is_none.ensures in
    whole_ends self bytes (none_is self.fault e) c.in-ValueDone.is (sym c.inner.ensures ∙ none_is c.inner.result f) h

pub returns-then-is_none-clause-whole : goal.returns-then-is_none-clause-whole
returns-then-is_none-clause-whole c = λ bytes h f.
    let w = ended_whole c.args.self.now bytes h f.0 f.1 f.2 in
    none_told c.inner.result c.is_none-then-is_none.result c.is_none-then-is_none.ensures (c.inner.ensures ∙ w.2)

pub returns-else-is_none-clause-whole : goal.returns-else-is_none-clause-whole
returns-else-is_none-clause-whole c = λ bytes h f.
    let w = ended_whole c.args.self.now bytes h f.0 f.1 f.2 in
    none_told c.args.self.now.fault c.is_none.result c.is_none.ensures w.0

pub returns-in_default : goal.returns-in_default
returns-in_default c = record {
  live = λ t. cc;
  answer = λ bytes h t. cc;
  whole = λ bytes h f. absurd (c.in_default.not-ValueDone (ended_whole c.args.self.now bytes h f.0 f.1 f.2).1);
}
