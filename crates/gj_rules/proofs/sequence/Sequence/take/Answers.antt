-- A record that is not valid has ended, or a byte of the open one is refused, or none has decided.
use Rattle.gj_rules.proofs.Common.{ap, is_some, not, refl, take, [], ◌++◌, ◌∙◌}
use Rattle.gj_rules.proofs.Sequences.SequenceSteps.{live_of, live_place, not_over, or_live, ended_stands, open_stands}
use Rattle.gj_rules.proofs.sequence.Sequence.take.Goals as goal

pub take-taken-requires-clause-live : goal.take-taken-requires-clause-live
take-taken-requires-clause-live c = not_over c.args.self.now c.requires.live

pub invariant_of-self : goal.invariant_of-self
invariant_of-self c = record { framing = c.take-taken.ensures.keeps.framing ∙ c.args.self.now.framing; live = refl }

pub invariant_of-self-2 : goal.invariant_of-self-2
invariant_of-self-2 c = record {
  framing = c.take-taken.ensures.keeps.framing ∙ c.args.self.now.framing;
  live = or_live (is_some c.refused_at-self.result) _ (c.is_decided.ensures.live c.if-is_decided.false);
}

pub returns-then-is_decided-clause-stands : goal.returns-then-is_decided-clause-stands
returns-then-is_decided-clause-stands c = λ bytes s.
    let self = c.args.self.now in
    let h = live_of self bytes c.requires.live s in
    let told = c.take-taken.ensures.told bytes [] h.found h.stands tt in
    let all = h.found ++ told.have.more in
    let now = bytes ++ take c.take-taken.result.count c.args.rest.now in
    ended_stands c.one_verdict.ensures.one self _ bytes c.args.rest.now c.take-taken.result.count c.offset-place.result c.take-taken.result.told _
    c.requires.live h c.take-taken.ensures.keeps.limits
    (live_place self bytes c.offset-place.result c.requires.live h (λ found stands. c.offset-place.ensures bytes found stands)) c.requires.some
    c.take-taken.ensures.one told
    (c.is_decided.ensures.valid now all told.have.stands ∙ ap not c.if-is_decided.true)
    (λ more. c.is_decided.ensures.lasting now more all told.have.stands c.if-is_decided.true)

pub returns-clause-stands : goal.returns-clause-stands
returns-clause-stands c = λ bytes s.
    let self = c.args.self.now in
    let h = live_of self bytes c.requires.live s in
    let told = c.take-taken.ensures.told bytes [] h.found h.stands tt in
    let all = h.found ++ told.have.more in
    let now = bytes ++ take c.take-taken.result.count c.args.rest.now in
    open_stands c.one_verdict.ensures.some _ now all c.refused_at-self.ensures told.have.stands
    (c.is_decided.ensures.valid now all told.have.stands ∙ ap not c.if-is_decided.false)
