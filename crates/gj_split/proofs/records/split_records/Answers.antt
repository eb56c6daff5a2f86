use Rattle.gj_split.proofs.Common.{Allowed, Framing, IsValidSequence, length, refl, same_Some, split_records, subst, sym, ◌<◌, ◌∙◌}
use Rattle.std.proofs.Common.{◌↔◌, IsTrue}
use Rattle.gj_rules.specs.RecordFindings.{AreAllFindings, IsWholeVerdict}
use Rattle.gj_rules.specs.RecordsStand.{framing_of, limits_of}
use Rattle.gj_split.proofs.Outcomes.{if_map, on_map}
use Rattle.gj_split.proofs.records.split_records.Goals as goal

pub returns-in-None-clause-verdict : goal.returns-in-None-clause-verdict
returns-in-None-clause-verdict g c =
    let framing = c.feed_records.ensures.framing ∙ c.new-records.ensures.framing in
    let limits = c.feed_records.ensures.limits ∙ c.new-records.ensures.limits in
    if_map c.finished_records.result.outcome _ _ c.finished_records.ensures.verdict (λ input h bytes k.
    subst (λ (f : Framing). IsWholeVerdict f c.args.limits bytes input.verdict) framing
    (subst (λ (l : Allowed). IsWholeVerdict (framing_of c.feed_records.new.records) l bytes input.verdict) limits
    (h bytes (c.in-None.ensures.read refl bytes k.source_bytes c.new-records.ensures.stands (c.of_records-splitter.ensures.held bytes k)))))

pub returns-in-None-clause-cut : goal.returns-in-None-clause-cut
returns-in-None-clause-cut g c =
    let limits = c.feed_records.ensures.limits ∙ c.new-records.ensures.limits in
    if_map c.finished_records.result.outcome _ _ c.finished_records.ensures.cut (λ input h bytes k.
    subst (λ (l : Allowed). IsTrue input.is_cut ↔ (l.bytes < length bytes)) limits
    (h bytes (c.in-None.ensures.read refl bytes k.source_bytes c.new-records.ensures.stands (c.of_records-splitter.ensures.held bytes k))))

pub returns-in-None-clause-apart : goal.returns-in-None-clause-apart
returns-in-None-clause-apart g c =
    let framing = c.feed_records.ensures.framing ∙ c.new-records.ensures.framing in
    let limits = c.feed_records.ensures.limits ∙ c.new-records.ensures.limits in
    on_map c.finished_records.result.outcome _ _ c.finished_records.ensures.apart (λ h bytes found k a.
    h bytes found k.source_bytes (c.in-None.ensures.read refl bytes k.source_bytes c.new-records.ensures.stands (c.of_records-splitter.ensures.held bytes k))
    (subst (λ (f : Framing). AreAllFindings f (limits_of c.feed_records.new.records) bytes found) (sym framing)
    (subst (λ (l : Allowed). AreAllFindings c.args.framing l bytes found) (sym limits) a)))

pub returns-in-None-clause-sequence : goal.returns-in-None-clause-sequence
returns-in-None-clause-sequence g c =
    let framing = c.feed_records.ensures.framing ∙ c.new-records.ensures.framing in
    let limits = c.feed_records.ensures.limits ∙ c.new-records.ensures.limits in
    on_map c.finished_records.result.outcome _ _ c.finished_records.ensures.apart (λ h bytes held found k a e.
    let apart = h bytes found k.source_bytes
    (c.in-None.ensures.read refl bytes k.source_bytes c.new-records.ensures.stands (c.of_records-splitter.ensures.held bytes k))
    (subst (λ (f : Framing). AreAllFindings f (limits_of c.feed_records.new.records) bytes found) (sym framing)
    (subst (λ (l : Allowed). AreAllFindings c.args.framing l bytes found) (sym limits) a)) in
    subst (λ xs. IsValidSequence c.args.limits.depth (length (split_records bytes found).valid) xs) (same_Some _ held (sym apart.valid_records ∙ e))
    (c.valid_records_apart.ensures c.args.framing c.args.limits bytes found a))
