use Rattle.gj_coords.proofs.Common.{ap}
use Rattle.std.proofs.Common.{refl}
use Rattle.gj_coords.specs.Internal.WalkProgress.{progress}
use Rattle.gj_coords.proofs.Walks.AnswersOfWalks.{holds_more, flat_read}
use Rattle.gj_coords.proofs.Walks.FlatLaws.{flat_value}
use Rattle.gj_coords.proofs.coordinates.Coordinates.take_anywhere.Goals as goal

pub returns-in-Due : goal.returns-in-Due
returns-in-Due c = record {
  stands = λ events stands.
      let s = c.args.self.now in
      let f = c.args.flat.now in
      record {
        holds = record {
          position = f;
          reads_on = holds_more s.state events _ _ s.walk _ stands.holds
              (λ k. rw (← flat_value f) (flat_read _ events f (rw c.in-Due.is at k)));
          ended = refl;
          fault = ap (λ x. x.positions) c.hold_flat.ensures;
          warned = ap (λ x. x.positions_warned) c.hold_flat.ensures;
        };
      };
}

pub returns-in-Some : goal.returns-in-Some
returns-in-Some c = record {
  stands = λ events stands.
      let s = c.args.self.now in
      let read = holds_more s.state events _ _ s.walk _ stands.holds (flat_read (progress s.walk) events c.args.flat.now) in
      record { holds = (rw c.take_flat.ensures.taken read, rw c.in-Some.is at c.take_flat.ensures.steady) };
}

pub returns-in-None : goal.returns-in-None
returns-in-None c = record {
  stands = λ events stands.
      let s = c.args.self.now in
      let read = holds_more s.state events _ _ s.walk _ stands.holds (flat_read (progress s.walk) events c.args.flat.now) in
      record { holds = rw c.take_flat.ensures.taken read };
}
