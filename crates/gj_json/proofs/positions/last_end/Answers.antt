-- No third number.
use Rattle.gj_json.proofs.Common.{List, None, arith, inl, refl, ℕ}
use Rattle.gj_json.specs.Internal.SpelledPositions.{EndsAt}
use Rattle.gj_json.proofs.Grammar.SpelledFlats.{end_cut}
use Rattle.gj_json.proofs.positions.last_end.Goals as goal

ends_there : (piece : List ℕ) (at : ℕ) → EndsAt piece at at
ends_there piece at = record {
  on = omega arith;
  after = inl refl;
  closes = λ start close on within white bracket. record {
    third = None;
    last = close;
    on = on;
    before = omega arith;
    white = white;
    more = end_cut piece start close within bracket;
    few = tt;
    place = omega arith;
  };
}

pub returns-in_default-clause-ends : goal.returns-in_default-clause-ends
returns-in_default-clause-ends g c = ends_there c.args.piece.now c.args.at

pub returns-in_default-2-clause-ends : goal.returns-in_default-2-clause-ends
returns-in_default-2-clause-ends g c = ends_there c.args.piece.now c.args.at
