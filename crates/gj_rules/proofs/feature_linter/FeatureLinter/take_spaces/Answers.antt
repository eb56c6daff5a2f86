-- The spaces complete no event.
use Rattle.gj_rules.proofs.Common.{Event, List, Stand, ap, length, subst, sym, [], ◌++◌, ◌+◌, ◌∙◌}
use Rattle.std.proofs.Common.{◌≡◌, ℕ, replicate, append-nil, length-append}
use Rattle.std.proofs.lemmas.List.{length-replicate}
use Rattle.gj_json.specs.Bytes.{space}
use Rattle.gj_json.specs.Reader.{Completed}
use Rattle.gj_rules.specs.FeatureLinter.{StandsFor}
use Rattle.gj_rules.proofs.Texts.LinterEvents
use Rattle.gj_rules.proofs.feature_linter.FeatureLinter.take_spaces.Goals as goal

pub returns-clause-stands : goal.returns-clause-stands
unfolding StandsFor
returns-clause-stands g c = λ bytes taken h.
    let old = c.args.self.now in
    let given = replicate c.args.count space in
    let Told : List Event → Type 0 = Stand (g.S.FeatureSink.told old.rules.sink) old.rules.rules old.rules.count in
    let laws = c.bytes_taken.ensures in
    let stands = c.take_spaces.ensures.stands bytes taken h.0 in
    let live = c.take_spaces.ensures.«open» taken in
    let all : length bytes + c.args.count ≡ length (bytes ++ given) =
    ap (λ n. length bytes + n) (sym (length-replicate c.args.count space)) ∙ sym (length-append bytes given) in
    let P : ℕ → Type 0 = λ n. Completed (length bytes) n (bytes ++ given) [] in
    let silent = subst P all (c.take_spaces.ensures.silent bytes taken h.0) in (
      stands,
      LinterEvents.fed_ok laws.«open» laws.refused laws.within old.reader c.take_spaces.new.self Told Told bytes given h.0 stands live
          (c.take_spaces.ensures.refusal ∙ live) h.1
          (λ events told. ([], rw (append-nil events) told, silent)),
    )

pub returns-clause-taken : goal.returns-clause-taken
unfolding StandsFor
returns-clause-taken g c = λ bytes broken h live spelled between room. c.take_spaces.ensures.taken bytes broken h.0 live spelled between room
