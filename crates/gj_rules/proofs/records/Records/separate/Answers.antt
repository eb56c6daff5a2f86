-- A separator begins a record, and ends the one before it.
use Rattle.gj_rules.proofs.Common.{Separator, ap, arith, refl, separator_of, true, [], ◌++◌, ◌+◌, ◌∙◌, ◌∷◌}
use Rattle.gj_rules.proofs.Parts.RecordSteps.{open_of, stand_open, next_open, passed_open, numbered, none_if, one_if, told_next}
use Rattle.gj_rules.proofs.records.Records.separate.Goals as goal

pub returns-then-self-clause-told : goal.returns-then-self-clause-told
returns-then-self-clause-told g c = λ bytes before found s t.
    let self = c.args.self.now in
    let h = open_of self bytes found c.requires.live s in
    none_if (g.S.RecordSink.told c.args.sink.now) _ (bytes ++ separator_of self.framing ∷ []) before found
    (stand_open _ (bytes ++ separator_of self.framing ∷ []) found c.requires.live
    (passed_open self _ bytes found h refl refl c.requires.room c.begin_again.ensures.stands
    (omega (arith, c.begin_again.ensures.start, c.end-next.ensures.value))
    (omega (arith, c.begin_again.ensures.end, c.end-next.ensures.value)) c.begin_again.ensures.limits
    c.if-self.true c.if-self.true
    (numbered self.number c.max-self.result (λ e. omega (arith, c.max-self.ensures, e)) (λ e. omega (arith, c.max-self.ensures, e))) refl))
    t

pub returns-clause-told : goal.returns-clause-told
returns-clause-told g c = λ bytes before found s t.
    let self = c.args.self.now in
    let h = open_of self bytes found c.requires.live s in
    let tells = c.tell_parted.ensures in
    let (one, are, whole, told) =
    told_next (g.S.RecordSink.told c.args.sink.now)
    (g.S.RecordSink.told c.tell_parted.new.sink) Separator _ self c.tell_parted.new.self bytes before found h tells t in
    one_if (g.S.RecordSink.told c.tell_parted.new.sink) _ (bytes ++ separator_of self.framing ∷ []) before found one
    (stand_open _ (bytes ++ separator_of self.framing ∷ []) (found ++ one ∷ []) (tells.rest.is_over ∙ c.requires.live)
    (next_open self _ bytes found (found ++ one ∷ []) h true tells.rest.framing tells.rest.limits c.requires.room tells.stands
    (omega (arith, tells.start, c.end-next.ensures.value)) (omega (arith, tells.end, c.end-next.ensures.value)) tells.depth
    refl c.if-self.false (ap (λ n. n + 1) tells.rest.number) are whole))
    told
