use Rattle.gj_split.proofs.Common.{split_records}
use Rattle.gj_split.proofs.RecordsApart.{sound_records}
use Rattle.gj_split.proofs.SequencesOfTexts.{valid_sequence}
use Rattle.gj_split.proofs.laws.valid_records_apart.Goals as goal

pub returns : goal.returns
returns c = λ framing limits bytes found h.
    valid_sequence c.one_verdict.ensures.some c.one_text.ensures c.one_refusal.ensures.never_both limits.depth (split_records bytes found).valid
    (sound_records framing limits bytes found h)
