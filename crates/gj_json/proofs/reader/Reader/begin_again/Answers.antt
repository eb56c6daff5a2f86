-- A reader that begins anew is before the first byte of a text, and nothing is complete.
use Rattle.gj_json.proofs.Common.{arith, refl}
use Rattle.gj_json.specs.Internal.TextMachine.{text_due}
use Rattle.gj_json.proofs.Events.FinishedTexts.{none_at_first}
use Rattle.gj_json.proofs.reader.Reader.begin_again.Goals as goal

pub returns-clause-stands : goal.returns-clause-stands
returns-clause-stands c = record {
  well = record {
    state = text_due;
    runs = refl;
    fits = tt;
    kept = (refl, c.new-self.ensures);
    at = refl;
    within = omega arith;
    timely = record { seen_by = tt; edge = refl };
  };
  keeps = tt;
}

pub returns-clause-events : goal.returns-clause-events
returns-clause-events c = λ text rest t. none_at_first text rest t
