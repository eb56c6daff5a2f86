-- What a byte leaves and answers, from the step that it makes.
use Rattle.gj_json.proofs.Common.{arith, [], ◌++◌, ◌<◌, ◌∙◌, ◌∷◌}
use Rattle.gj_json.proofs.Readers.ReadBytes.{pushed}
use Rattle.gj_json.proofs.Readers.CallsInTurn
use Rattle.gj_json.proofs.reader.Reader.take_next.Goals as goal

pub returns-in-Some-clause-stands : goal.returns-in-Some-clause-stands
returns-in-Some-clause-stands g c = λ bytes h. CallsInTurn.refused_stands c.args.self.now bytes (c.args.byte ∷ []) c.in-Some.refused c.in-Some.is h

pub returns-in-Some-clause-answer : goal.returns-in-Some-clause-answer
returns-in-Some-clause-answer g c = λ bytes h.
    CallsInTurn.kept_answer c.args.self.now (bytes ++ c.args.byte ∷ []) c.in-Some.refused c.in-Some.is
    (CallsInTurn.refused_stands c.args.self.now bytes (c.args.byte ∷ []) c.in-Some.refused c.in-Some.is h)

pub returns-then-self-bytes-clause-stands : goal.returns-then-self-bytes-clause-stands
returns-then-self-bytes-clause-stands g c = λ bytes h.
    (CallsInTurn.length_to {heard = λ e. Unit {0}} c.args.self.now c.refuse.new.self c.args.byte c.refuse.result c.in_default.is
    (c.if-self-bytes.true ∙ c.bytes.ensures.value) c.refuse.ensures.refused).feeds.stands bytes h

pub returns-then-self-bytes-clause-answer : goal.returns-then-self-bytes-clause-answer
returns-then-self-bytes-clause-answer g c = λ bytes h.
    let k = (CallsInTurn.length_to {heard = λ e. Unit {0}} c.args.self.now c.refuse.new.self c.args.byte c.refuse.result c.in_default.is
    (c.if-self-bytes.true ∙ c.bytes.ensures.value) c.refuse.ensures.refused).feeds.stands bytes h in
    let a = CallsInTurn.kept_answer c.refuse.new.self (bytes ++ c.args.byte ∷ []) c.refuse.result c.refuse.ensures.refused.kept k in
    rw (c.refuse.ensures.refused.limits) at a

pub returns-clause-stands : goal.returns-clause-stands
returns-clause-stands g c = λ bytes h.
    let room : c.args.self.now.offset < c.args.self.now.limits.bytes = omega (arith, c.bytes.ensures.value) in
    (pushed c.args.self.now c.take_byte.new.self c.args.byte bytes c.take_byte.result c.in_default.is room c.args.self.now.nested c.take_byte.ensures h).0

pub returns-clause-answer : goal.returns-clause-answer
returns-clause-answer g c = λ bytes h.
    let room : c.args.self.now.offset < c.args.self.now.limits.bytes = omega (arith, c.bytes.ensures.value) in
    (pushed c.args.self.now c.take_byte.new.self c.args.byte bytes c.take_byte.result c.in_default.is room c.args.self.now.nested c.take_byte.ensures h).1

pub returns-clause-told : goal.returns-clause-told
returns-clause-told g c =
    λ bytes events h k. CallsInTurn.byte_told c.args.self.now c.take_byte.new.self c.args.byte bytes events c.take_byte.result c.in_default.is h
    c.take_byte.ensures k

pub returns-clause-limits : goal.returns-clause-limits
returns-clause-limits g c =
    (CallsInTurn.outcome_on c.args.self.now c.take_byte.new.self c.take_byte.result
    (CallsInTurn.outcome _ c.args.self.now c.take_byte.new.self c.take_byte.result c.args.self.now.nested c.take_byte.ensures.applied)).0

pub returns-clause-on : goal.returns-clause-on
returns-clause-on g c =
    (CallsInTurn.outcome_on c.args.self.now c.take_byte.new.self c.take_byte.result
    (CallsInTurn.outcome _ c.args.self.now c.take_byte.new.self c.take_byte.result c.args.self.now.nested c.take_byte.ensures.applied)).1

pub returns-clause-refusal : goal.returns-clause-refusal
returns-clause-refusal g c =
    CallsInTurn.byte_refusal c.args.self.now c.take_byte.new.self c.take_byte.result c.in_default.is
    (CallsInTurn.outcome _ c.args.self.now c.take_byte.new.self c.take_byte.result c.args.self.now.nested c.take_byte.ensures.applied)
