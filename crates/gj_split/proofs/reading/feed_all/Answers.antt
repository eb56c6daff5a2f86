use Rattle.gj_split.proofs.Common.{Allowed, IsRefusal, List, StandsAt, ap, arith, drop, length, refl, rules, subst, sym, take, take-append-drop, ℕ}
use Rattle.gj_split.proofs.Common.{◌++◌, ◌+◌, ◌<◌, ◌∙◌, ◌≡◌, ◌≤◌}
use Rattle.std.proofs.Common.{drop_of_length-le}
use Rattle.gj_rules.specs.FeatureLinter.{StandsFor, limits_of}
use Rattle.gj_split.specs.Internal.HeldRecords.{IsEndAfter}
use Rattle.gj_split.proofs.ReadParts.{part_read, ended_there, fed_more, within_more}
use Rattle.gj_split.proofs.reading.feed_all.Goals as goal

pub loop-turn-init : goal.loop-turn-init
loop-turn-init g c = record { limits = refl; running = c.requires; read = λ bytes e s. (omega arith, s) }

pub returns-in-Err-clause-limits : goal.returns-in-Err-clause-limits
returns-in-Err-clause-limits g c = c.loop-turn.invariant.limits

pub returns-in-Err-clause-read : goal.returns-in-Err-clause-read
returns-in-Err-clause-read g c = λ e bytes k s. cc

pub returns-in-Ok-eq0-clause-limits : goal.returns-in-Ok-eq0-clause-limits
returns-in-Ok-eq0-clause-limits g c = c.loop-turn.invariant.limits

pub returns-in-Ok-eq0-clause-read : goal.returns-in-Ok-eq0-clause-read
returns-in-Ok-eq0-clause-read g c = λ e bytes k s.
    let room : 0 < length c.read_at.new.piece = search rules in
    let over : length bytes ≤ c.loop-turn.at =
    ended_there _ g.R.Ranges.text c.loop-turn.at c.in-Ok-eq0.field-0 c.read_at.new.piece bytes c.in-Ok-eq0.ensures.bytes k c.in-Ok-eq0.field-0-test room in
    record {
      taken = take c.loop-turn.at bytes;
      rest = drop c.loop-turn.at bytes;
      joined = sym (take-append-drop c.loop-turn.at bytes);
      stands = (c.loop-turn.invariant.read bytes k s).1;
      end = subst (λ o. IsEndAfter (limits_of c.loop-turn.linter) (take c.loop-turn.at bytes) (drop c.loop-turn.at bytes) o) (sym c.loop-turn.invariant.running)
          (drop_of_length-le bytes over);
    }

pub returns-in-None-clause-limits : goal.returns-in-None-clause-limits
returns-in-None-clause-limits g c = c.loop-turn.invariant.limits

pub returns-in-None-clause-read : goal.returns-in-None-clause-read
returns-in-None-clause-read g c = λ e bytes k s. cc

pub returns-in-Refused-clause-limits : goal.returns-in-Refused-clause-limits
returns-in-Refused-clause-limits g c = c.feed.ensures.limits ∙ c.loop-turn.invariant.limits

pub returns-in-Refused-clause-read : goal.returns-in-Refused-clause-read
returns-in-Refused-clause-read g c = λ e bytes k s.
    let next : c.in-Some.next ≡ c.loop-turn.at + c.in-Ok.count = c.in-Some.ensures.1 in
    let part : StandsAt bytes c.loop-turn.at (take c.in-Ok.count c.read_at.new.piece) =
    part_read _ g.R.Ranges.text c.loop-turn.at c.in-Ok.count c.read_at.new.piece bytes c.in-Ok.ensures.bytes k in
    let fed = fed_more c.loop-turn.at c.in-Ok.count c.read_at.new.piece bytes c.in-Ok.ensures.bound.0 part ∙ ap (λ n. take n bytes) (sym next) in
    let stands = (c.loop-turn.invariant.read bytes k s).1 in
    record {
      taken = take c.in-Some.next bytes;
      rest = drop c.in-Some.next bytes;
      joined = sym (take-append-drop c.in-Some.next bytes);
      stands = subst (λ xs. StandsFor g.S.FeatureSink.told c.feed.new.self xs) fed (c.feed.ensures.stands (take c.loop-turn.at bytes) stands);
      end = subst (λ o. IsEndAfter (limits_of c.feed.new.self) (take c.in-Some.next bytes) (drop c.in-Some.next bytes) o) (sym c.in-Refused.ensures.refusal)
          (subst (λ (l : Allowed). (more : List ℕ) → IsRefusal l (take c.in-Some.next bytes ++ more) c.in-Refused._fault) (sym c.feed.ensures.limits)
          (subst (λ xs. (more : List ℕ) → IsRefusal (limits_of c.loop-turn.linter) (xs ++ more) c.in-Refused._fault) fed
          (c.in-Refused.ensures.answer (take c.loop-turn.at bytes) stands)));
    }

pub returns-then-has_stopped-clause-limits : goal.returns-then-has_stopped-clause-limits
returns-then-has_stopped-clause-limits g c = c.feed.ensures.limits ∙ c.loop-turn.invariant.limits

pub returns-then-has_stopped-clause-read : goal.returns-then-has_stopped-clause-read
returns-then-has_stopped-clause-read g c = λ e bytes k s. cc

pub loop-turn-preserved : goal.loop-turn-preserved
loop-turn-preserved g c =
    let next : c.in-Some.next ≡ c.loop-turn.at + c.in-Ok.count = c.in-Some.ensures.1 in
    record {
      limits = c.feed.ensures.limits ∙ c.loop-turn.invariant.limits;
      running = c.in-Open.ensures.refusal;
      read = λ bytes k s.
          let part : StandsAt bytes c.loop-turn.at (take c.in-Ok.count c.read_at.new.piece) =
          part_read _ g.R.Ranges.text c.loop-turn.at c.in-Ok.count c.read_at.new.piece bytes c.in-Ok.ensures.bytes k in
          let fed = fed_more c.loop-turn.at c.in-Ok.count c.read_at.new.piece bytes c.in-Ok.ensures.bound.0 part ∙ ap (λ n. take n bytes) (sym next) in
          let before = c.loop-turn.invariant.read bytes k s in (
            subst (λ n. n ≤ length bytes) (sym next) (within_more c.loop-turn.at c.in-Ok.count c.read_at.new.piece bytes before.0 c.in-Ok.ensures.bound.0 part),
            subst (λ xs. StandsFor g.S.FeatureSink.told c.feed.new.self xs) fed (c.feed.ensures.stands (take c.loop-turn.at bytes) before.1),
          );
    }

pub returns-clause-limits : goal.returns-clause-limits
returns-clause-limits g c = c.loop-turn.invariant.limits

pub returns-clause-read : goal.returns-clause-read
returns-clause-read g c = λ e bytes k s. cc
