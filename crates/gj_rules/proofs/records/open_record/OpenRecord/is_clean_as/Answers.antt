-- The verdict of a record that a separator ends, and of which the linter reports nothing.
use Rattle.gj_rules.proofs.Common.{Allowed, Framing, IsOwnVerdict, IsVerdict, Separator, Verdict, Warnings, ap, arith, length, part_at, refl, subst}
use Rattle.gj_rules.proofs.Common.{sym, ◌∙◌}
use Rattle.gj_coords.specs.Internal.KeptWarnings.{no_warnings}
use Rattle.gj_rules.proofs.Sequences.OpenRecords.{own_limit, told_as, none_shifted}
use Rattle.gj_rules.proofs.records.open_record.OpenRecord.is_clean_as.Goals as goal

pub returns-then-self-eq-LINE_FEED : goal.returns-then-self-eq-LINE_FEED
returns-then-self-eq-LINE_FEED c = λ bytes h clean.
    let self = c.args.self.now in
    let own = Verdict.Valid no_warnings in
    let P : Allowed → Type 0 = λ l. IsVerdict l bytes own in
    let F : Framing → Type 0 = λ f. IsOwnVerdict f self.limits.depth (part_at self.start bytes Separator) own in
    let w = subst P h.under (c.is_clean.ensures bytes h.linter clean) in
    subst F (sym c.in-Sequence.is) (
      own,
      own_limit self.limits bytes own (omega (arith, h.counted, self.within, self.wide)) w,
      ap (λ (x : Warnings). Verdict.Valid x) (sym (none_shifted self.start))
          ∙ told_as self.start 10 (length bytes) 0 bytes own (sym c.if-self-eq-LINE_FEED.true ∙ h.last) refl,
    )

pub returns-in-Lines : goal.returns-in-Lines
returns-in-Lines c = λ bytes h clean.
    let self = c.args.self.now in
    let own = Verdict.Valid no_warnings in
    let P : Allowed → Type 0 = λ l. IsVerdict l bytes own in
    let F : Framing → Type 0 = λ f. IsOwnVerdict f self.limits.depth (part_at self.start bytes Separator) own in
    let w = subst P h.under (c.is_clean-in-Lines.ensures bytes h.linter clean) in
    subst F (sym c.in-Lines.is) (
      own,
      own_limit self.limits bytes own (omega (arith, h.counted, self.within, self.wide)) w,
      ap (λ (x : Warnings). Verdict.Valid x) (sym (none_shifted self.start)),
    )
