use Rattle.gj_split.proofs.Common.{split_of}
use Rattle.gj_split.proofs.TextsAlone.{valid_alone, valid_by_itself}
use Rattle.gj_split.proofs.SequencesOfTexts.{sound_lines, valid_sequence}
use Rattle.gj_split.proofs.laws.valid_apart.Goals as goal

pub returns-clause-alone : goal.returns-clause-alone
returns-clause-alone c = λ limits text bytes h. valid_by_itself limits.depth (split_of bytes text).valid (valid_alone limits.depth text bytes h.0)

pub returns-clause-sequence : goal.returns-clause-sequence
returns-clause-sequence c = λ limits text bytes h.
    valid_sequence c.one_verdict.ensures.some c.one_text.ensures c.one_refusal.ensures.never_both limits.depth (split_of bytes text).valid
    (sound_lines limits.depth (split_of bytes text).valid (valid_alone limits.depth text bytes h.0))
