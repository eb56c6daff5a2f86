-- The bytes that complete nothing, by the mode.
use Rattle.gj_json.proofs.Common.{NameOn, inl, inr, length-take-le, refl}
use Rattle.std.proofs.Common.{take}
use Rattle.gj_json.specs.declared.mode.Mode.TheVariants.{StringOn}
use Rattle.gj_json.proofs.Pieces.QuietModes.{quiet_leads, other_mode, no_text}
use Rattle.gj_json.proofs.Pieces.SkippedRuns.{leads_skips, text_skips}
use Rattle.gj_json.proofs.Readers.CallsInTurn.{of_prefix}
use Rattle.gj_json.proofs.reader.Reader.skip_quiet.Goals as goal

pub returns-in-StringOn : goal.returns-in-StringOn
returns-in-StringOn c =
    let run = c.string_run-run.result in
    let read = c.string_run-run.ensures.reads in
    rw (c.skip.ensures.count) (of_prefix c.string_run-run.ensures.within
    (text_skips c.args.self.now _ c.skip.new.self (take run.count c.args.piece.now) read.0 run.count c.in-StringOn.state run.state (StringOn run.state)
    (record { limits = refl; fault = refl; start = refl; offset = refl; mode = refl; levels = refl })
    (length-take-le run.count c.args.piece.now c.string_run-run.ensures.within) c.skip.ensures.passed (inl (c.in-StringOn.is, refl)) read.1 read.2))

pub returns-in-NameOn : goal.returns-in-NameOn
returns-in-NameOn c =
    let run = c.string_run-run-in-NameOn.result in
    let read = c.string_run-run-in-NameOn.ensures.reads in
    rw (c.skip-in-NameOn.ensures.count) (of_prefix c.string_run-run-in-NameOn.ensures.within
    (text_skips c.args.self.now _ c.skip-in-NameOn.new.self (take run.count c.args.piece.now) read.0 run.count c.in-NameOn.state run.state
    (NameOn run.state)
    (record { limits = refl; fault = refl; start = refl; offset = refl; mode = refl; levels = refl })
    (length-take-le run.count c.args.piece.now c.string_run-run-in-NameOn.ensures.within) c.skip-in-NameOn.ensures.passed
    (inr (c.in-NameOn.is, refl)) read.1 read.2))

pub returns-in_default : goal.returns-in_default
returns-in_default c =
    let n = c.quiet_run.result in
    let mode = c.args.self.now.mode in
    rw (c.skip-in_default.ensures.count) (of_prefix c.quiet_run.ensures.within
    (leads_skips c.args.self.now c.skip-in_default.new.self (take n c.args.piece.now) n mode
    (length-take-le n c.args.piece.now c.quiet_run.ensures.within) c.skip-in_default.ensures.passed
    (quiet_leads mode (take n c.args.piece.now) c.quiet_run.ensures.quiet) (other_mode mode c.in_default.not-NumberOn)
    (no_text mode c.in_default.not-StringOn c.in_default.not-NameOn)))
