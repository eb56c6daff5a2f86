use Rattle.std.proofs.Common.{refl, sym, ap, subst, ◌≡◌, ◌+◌, ◌∙◌, Bool, true, false, not, get_or}
use Rattle.gj_coords.specs.Internal.KeptWarnings.{none_in}
use Rattle.geolint_report.specs.declared.texts.Code.{Code}
use Rattle.report_forms.specs.declared.summary.Summary.{Summary}
use Rattle.report_forms.specs.Counts.{warns}
use Rattle.geolint_report.specs.Slots.{more}
use Rattle.report_forms.specs.Internal.AddedFiles.{Adds}
use Rattle.geolint_report.specs.Slots.{slot_of}
use Rattle.report_forms.proofs.FileCounts.{until, until-none, until-all, Adds-kind, Adds-none, kinds-at, Adds-after}
use Rattle.report_forms.proofs.summary.Summary.add_valid.Goals as goal
use Rattle.report_forms.proofs.summary.Summary.add_valid.Goals.{then-is_empty, else-is_empty, then-has, else-has}

pub loop-kind-init : goal.loop-kind-init
loop-kind-init c =
    record {
      valid_is = refl;
      warned_is = refl;
      broken_is = refl;
      refused_is = refl;
      not_valid_is = refl;
      unread_is = refl;
      codes_are = λ code small. ap (λ (t : Bool). more t (get_or c.if-is_empty.self.counts (slot_of code) 0)) (sym (until-none c.args.warnings.now code));
    }

pub loop-kind-preserved : goal.loop-kind-preserved
loop-kind-preserved c =
    let w = c.args.warnings.now in
    let i = c.loop-kind.kind-index in
    let before = c.loop-kind.invariant in
    elim c.if-has.branch [
      | then-has t ↦ subst (λ (s : Summary). Adds c.if-is_empty.self s false false false false false (until (i + 1) w)) (sym t.self-is)
          (Adds-kind c.if-is_empty.self c.loop-kind.self t.count.new.self i _ w (kinds-at i _ c.loop-kind-test.true)
          (sym c.has.ensures ∙ t.if-has.true) before t.count.ensures)
      | else-has t ↦ subst (λ (s : Summary). Adds c.if-is_empty.self s false false false false false (until (i + 1) w)) (sym t.self-is)
          (Adds-none c.if-is_empty.self c.loop-kind.self i _ w (kinds-at i _ c.loop-kind-test.true) (sym c.has.ensures ∙ t.if-has.false) before)
    ]

pub returns : goal.returns
returns c =
    let w = c.args.warnings.now in
    let before = c.loop-kind.invariant in
    let adds : Adds c.if-is_empty.self c.loop-kind.self false false false false false (λ (code : Code). warns code w) =
    record {
      valid_is = before.valid_is;
      warned_is = before.warned_is;
      broken_is = before.broken_is;
      refused_is = before.refused_is;
      not_valid_is = before.not_valid_is;
      unread_is = before.unread_is;
      codes_are = λ code small. before.codes_are code small
          ∙ ap (λ (t : Bool). more t (get_or c.if-is_empty.self.counts (slot_of code) 0)) (until-all c.loop-kind.kind-index w code c.loop-kind-test.false);
    } in
    elim c.if-is_empty.branch [
      | then-is_empty t ↦ (let e : none_in w ≡ true = sym c.is_empty.ensures.kept ∙ t.if-is_empty.true in
          subst (λ (b : Bool). Adds c.args.self.now c.loop-kind.self b (not b) false false false (λ (code : Code). warns code w)) (sym e)
          (Adds-after c.args.self.now c.if-is_empty.self c.loop-kind.self true false false false (λ (code : Code). warns code w)
          (ap (λ (s : Summary). s.valid) t.self-is ∙ t.saturating_add-self.ensures) (ap (λ (s : Summary). s.warned) t.self-is)
          (ap (λ (s : Summary). s.broken) t.self-is) (ap (λ (s : Summary). s.refused) t.self-is)
          (ap (λ (s : Summary). s.not_valid) t.self-is) (ap (λ (s : Summary). s.unread) t.self-is) (ap (λ (s : Summary). s.counts) t.self-is) adds))
      | else-is_empty t ↦ (let e : none_in w ≡ false = sym c.is_empty.ensures.kept ∙ t.if-is_empty.false in
          subst (λ (b : Bool). Adds c.args.self.now c.loop-kind.self b (not b) false false false (λ (code : Code). warns code w)) (sym e)
          (Adds-after c.args.self.now c.if-is_empty.self c.loop-kind.self false true false false (λ (code : Code). warns code w)
          (ap (λ (s : Summary). s.valid) t.self-is) (ap (λ (s : Summary). s.warned) t.self-is ∙ t.saturating_add-self-else-is_empty.ensures)
          (ap (λ (s : Summary). s.broken) t.self-is) (ap (λ (s : Summary). s.refused) t.self-is)
          (ap (λ (s : Summary). s.not_valid) t.self-is) (ap (λ (s : Summary). s.unread) t.self-is) (ap (λ (s : Summary). s.counts) t.self-is) adds))
    ]
