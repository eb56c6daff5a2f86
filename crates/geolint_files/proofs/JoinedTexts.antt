-- What is found of one text that is joined.
use Rattle.geolint_files.proofs.Common.{◌≡◌, Bool, List, Option, Some, None, refl, sym, subst, Finding, Options, asked_in}
use Rattle.std.proofs.Common.{true, false}
use Rattle.std.specs.Prelude.{if◌then◌else◌}
use Rattle.gj_json.specs.Limits.{Allowed}
use Rattle.gj_rules.specs.declared.verdict.Verdict.{Verdict}
use Rattle.part_lines.specs.declared.line.PartLine.{PartLine}
use Rattle.geolint_files.specs.JoinedRun.{Readings}
use Rattle.geolint_files.specs.JoinReport.{AreJoined, IsJoinedText, lists_none}

pub text-joined : (options : Options) (limits : Allowed) (lines : List PartLine) (source : Option Readings) (verdict : Verdict) (found : Option Finding)
    → found ≡ (if lists_none (asked_in options) options.summary verdict then Some (Finding.Text verdict) else None)
    → IsJoinedText limits lines source verdict → AreJoined options None limits lines source None found
text-joined options limits lines source verdict found is text = by_test (lists_none (asked_in options) options.summary verdict) refl is
  where
    by_test : (b : Bool) → lists_none (asked_in options) options.summary verdict ≡ b → found ≡ (if b then Some (Finding.Text verdict) else None)
        → AreJoined options None limits lines source None found
    by_test true none same = subst (λ (f : Option Finding). AreJoined options None limits lines source None f) (sym same) (refl, none, text)
    by_test false none same = subst (λ (f : Option Finding). AreJoined options None limits lines source None f) (sym same) (refl, (verdict, none, text))
