-- The frame that was kept before it is the innermost one, as it was.
use Rattle.gj_rules.proofs.Common.{Core, Mode, ap, arith, core_of, frame_in, map, mode_behind, reverse, take, ◌-◌, ◌∙◌}
use Rattle.std.proofs.Common.{slice_index_or}
use Rattle.gj_rules.specs.Internal.RulesState.{no_frame}
use Rattle.gj_rules.proofs.Objects.CleanFrames.{left_clean}
use Rattle.gj_rules.proofs.rules.FramedRules.pop_clean.Goals as goal

pub returns-then-self-gt0-clause-core : goal.returns-then-self-gt0-clause-core
returns-then-self-gt0-clause-core g c =
    let rules = c.args.self.now in
    let s : Core = core_of rules in
    ap (λ (m : Mode). record s {
      mode = m;
      top = frame_in (slice_index_or rules.frames (rules.around - 1) no_frame);
      outer =
          map frame_in (reverse (take (rules.around - 1) rules.frames));
    })
    (c.behind-self.ensures ∙ ap mode_behind c.role-role.ensures)
    ∙ left_clean s.top.slots.role s rules.frames rules.around (omega arith) (omega arith)
