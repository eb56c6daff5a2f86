-- By what was reported so far.
use Rattle.gj_rules.proofs.Common.{ap, not, sym, ◌∙◌}
use Rattle.gj_rules.specs.Sequence.{is_valid_sequence}
use Rattle.gj_rules.proofs.Parts.DecidedRecords.{decided_lasts, whole_so_far, fits_so_far, valid_live}
use Rattle.gj_rules.proofs.records.Records.is_decided.Goals as goal

pub returns-in-Record-clause-valid : goal.returns-in-Record-clause-valid
returns-in-Record-clause-valid c = λ bytes found stands. ap is_valid_sequence (sym (whole_so_far c.args.self.now bytes found stands) ∙ c.in-Record.is)

pub returns-in-Record-clause-lasting : goal.returns-in-Record-clause-lasting
returns-in-Record-clause-lasting c = λ bytes more found stands decided.
    decided_lasts c.one_verdict.ensures.some c.args.self.now bytes more found stands
    (ap is_valid_sequence (sym (whole_so_far c.args.self.now bytes found stands) ∙ c.in-Record.is))

pub returns-in-Valid-clause-valid : goal.returns-in-Valid-clause-valid
returns-in-Valid-clause-valid c = λ bytes found stands.
    let self = c.args.self.now in
    ap is_valid_sequence (sym (whole_so_far self bytes found stands) ∙ c.in-Valid.is)
    ∙ sym (ap not (valid_live self bytes found stands (ap is_valid_sequence c.in-Valid.is)))

pub returns-in-Valid-clause-lasting : goal.returns-in-Valid-clause-lasting
returns-in-Valid-clause-lasting c = λ bytes more found stands over.
    let live = valid_live c.args.self.now bytes found stands (ap is_valid_sequence c.in-Valid.is) in absurd (cc)

pub returns-in-Valid-clause-within : goal.returns-in-Valid-clause-within
returns-in-Valid-clause-within c = λ bytes found stands live. fits_so_far c.args.self.now bytes found stands (ap is_valid_sequence c.in-Valid.is)
