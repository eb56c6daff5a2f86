use Rattle.geolint_files.proofs.Common.{List, Option, Some, sym, ap, ◌∙◌, subst}
use Rattle.std.proofs.Common.{None}
use Rattle.std.specs.Prelude.{option_copied, slice_get, string_bytes}
use Rattle.std.proofs.lemmas.Result.{IfOk-weaker}
use Rattle.gj_rules.specs.declared.records.framing.Framing.{Framing}
use Rattle.geolint_report.specs.declared.judge.Finding.{Finding}
use Rattle.part_lines.specs.declared.line.PartLine.{PartLine}
use Rattle.geolint_files.specs.JoinReport.{AreJoined, joined_options}
use Rattle.geolint_files.specs.JoinedRun.{IsJoinedRun, Readings, readings_of}
use Rattle.geolint_files.proofs.JoinedTexts.{text-joined}
use Rattle.geolint_files.proofs.cut.report_given.Goals as goal

pub returns-in_ok-found-in-Some-framing : goal.returns-in_ok-found-in-Some-framing
returns-in_ok-found-in-Some-framing g c =
    let source = readings_of g.S.Source.text g.S.Source.failed_reads c.args.source.now c.report.new.source in
    IfOk-weaker c.report.result _ _ (λ ended run. record {
      first = c.in-Some.line.now;
      is_first = ap (λ (lines : List PartLine). slice_get lines 0) (sym c.as_slice.ensures.value) ∙ (sym c.first.ensures.value ∙ ap option_copied c.in-Some.is);
      alike = c.in_ok-found-in-Some-framing.ensures.alike;
      found = Some (Finding.Sequence c.in_ok-found-in-Some-framing.found.0);
      notes = c.in_ok-found-in-Some-framing.found.1;
      joined = subst (λ (f : Option Framing). AreJoined c.args.order.now.options f c.in-Some.line.now.settings.limits c.args.given.now.lines.items
          source c.in_ok-found-in-Some-framing.found.1 (Some (Finding.Sequence c.in_ok-found-in-Some-framing.found.0)))
          (sym c.in-Some-framing.is) c.in_ok-found-in-Some-framing.ensures.joined;
      run = run;
    }) c.report.ensures

pub returns-in_ok-ended-in-None : goal.returns-in_ok-ended-in-None
returns-in_ok-ended-in-None g c =
    let asked = c.args.order.now.options in
    let limits = c.in-Some.line.now.settings.limits in
    let lines = c.args.given.now.lines.items in
    let now = c.report-in-None.new.source in
    let source = readings_of g.S.Source.text g.S.Source.failed_reads c.args.source.now now in
    let joined = c.in_ok-joined-in-None.joined in
    let found = c.told_by_parts-finding.result in
    record {
      first = c.in-Some.line.now;
      is_first = ap (λ (lines : List PartLine). slice_get lines 0) (sym c.as_slice.ensures.value) ∙ (sym c.first.ensures.value ∙ ap option_copied c.in-Some.is);
      alike = c.in_ok-joined-in-None.ensures.alike;
      found = found;
      notes = None;
      joined = subst (λ (f : Option Framing). AreJoined asked f limits lines source None found) (sym c.in-None.is)
          (text-joined asked limits lines source joined.verdict found c.told_by_parts-finding.ensures (c.in_ok-joined-in-None.ensures.verdict now));
      run = subst (λ (s : Option Readings). IsJoinedRun (joined_options asked c.in-Some.line.now.settings) found None
          (string_bytes c.in-Some.line.now.file.path) s (g.W.Write.contents c.args.out) (g.W.Write.contents c.in_ok-ended-in-None.ended.out)
          c.in_ok-ended-in-None.ended.outcome) (c.in_ok-joined-in-None.ensures.source now) c.in_ok-ended-in-None.ensures;
    }
