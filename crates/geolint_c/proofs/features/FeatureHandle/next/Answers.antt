-- The next feature is pulled where more were told.
use Rattle.std.proofs.Common.{◌≡◌, ◌+◌, ◌&&◌, Bool, true, false, not, Option, IfSome, IsSomeAnd, slice_get, refl, sym, subst, ◌∙◌}
use Rattle.geolint_c.specs.Features.{Judging, OfFeatures, Judges, IsNextOf, ready_by, tells_more, is_ready}
use Rattle.geolint_c.specs.Internal.Pulling.{Counted}
use Rattle.geolint_c.proofs.PulledFeatures.{none_next, pulled_on}
use Rattle.geolint_c.proofs.features.FeatureHandle.next.Goals as goal
use Rattle.std.proofs.lemmas.Bool.{and_parts}

pub returns-then-not-is_ready : goal.returns-then-not-is_ready
returns-then-not-is_ready c =
    let self = c.args.self.now in
    let no : is_ready self ≡ false = sym c.is_ready.ensures.value ∙ c.if-not-is_ready.true in
    record {
      stands = λ limits bytes s. s;
      finding = λ limits bytes s.
          let r : ready_by self.linter self.pulled ≡ false = subst (λ (b : Bool). (not b && ready_by self.linter self.pulled) ≡ false) s.0 no in
          none_next self.linter self.pulled (is_ready self) c.no_finding.result limits bytes no r c.is_ready.ensures.counted s.1;
      counted = λ e. (let f : true ≡ false = sym e ∙ no in cc);
      none = λ e. (c.no_finding.ensures, refl);
    }

pub returns-in-Some : goal.returns-in-Some
returns-in-Some c =
    let self = c.args.self.now in
    let linter = c.in-Some.linter in
    let on : is_ready self ≡ true = sym c.is_ready.ensures.value ∙ c.if-not-is_ready.false in
    let r : ready_by self.linter self.pulled ≡ true = (and_parts (not self.ended) (ready_by self.linter self.pulled) on).1 in
    let more : tells_more linter self.pulled ≡ true = rw c.in-Some.is at r in
    let counts : Counted linter = rw c.in-Some.is at c.is_ready.ensures.counted in
    record {
      stands = λ limits bytes s. (s.0, rw c.in-Some.is (pulled_on linter self.pulled limits bytes more counts (rw c.in-Some.is at s.1)));
      finding = λ limits bytes s. rw (on, c.in-Some.is) (c.pull-finding.ensures limits bytes (rw c.in-Some.is at s.1) more);
      counted = λ e. refl;
      none = λ e. (let f : true ≡ false = sym on ∙ e in cc);
    }
