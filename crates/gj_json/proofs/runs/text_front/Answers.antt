-- Whole characters leave none under way.
use Rattle.gj_json.proofs.Common.{sym, ◌∙◌}
use Rattle.gj_json.proofs.Grammar.Utf8Characters.{other_holds}
use Rattle.gj_json.proofs.runs.text_front.Goals as goal

pub returns-in-Plain-clause-reads : goal.returns-in-Plain-clause-reads
returns-in-Plain-clause-reads c =
    let read = c.characters_run.ensures.characters in
    rw (c.in-Plain.is) (read.0, read.1, other_holds c.args.content.now read.0 (sym c.is_other.ensures ∙ c.if-not-is_other.false))
