use Rattle.geolint_report.proofs.Common.{rules, refl, arith, [], ℕ, ◌++◌, ◌+◌, ◌≡◌, ◌∙◌, ap, sym, take, length, ◌<◌, ◌≤◌, subst, length-append}
use Rattle.geolint_report.proofs.Common.{length-take-le, Allowed, IsVerdict}
use Rattle.std.proofs.KnownBytes.{Consumes-nil, Consumes-trans}
use Rattle.gj_rules.specs.declared.verdict.Verdict.{Verdict}
use Rattle.gj_rules.specs.FeatureLinter.{limits_of}
use Rattle.geolint_report.specs.Judged.{JudgesBy}
use Rattle.geolint_report.proofs.FileVerdicts.{Judges-end, Judges-lasting, Consumes-none, IsVerdict-of_refusal}
use Rattle.geolint_report.proofs.KeptNotes.{KeepsNotes-none, Lists-end, Lists-refused}
use Rattle.geolint_report.proofs.every.reading.judge_features.Goals as goal

pub returns-in-Ok-eq0-clause-verdict : goal.returns-in-Ok-eq0-clause-verdict
returns-in-Ok-eq0-clause-verdict g c =
    let (read, took, count, stands, followed) = c.loop-error.invariant.read in
    let none = c.in-Ok-eq0.field-0-test in
    let bytes = c.in-Ok-eq0.ensures.bytes in
    let room : 0 < length c.read_piece.new.piece = search rules in
    let verdict = subst (λ (limits : Allowed). IsVerdict limits read c.finish.result.0) c.loop-error.invariant.limits (c.finish.ensures.verdict read stands) in
    Judges-end IsVerdict _ _ _ read _ (Consumes-none _ _ _ read c.read_piece.new.piece c.in-Ok-eq0.field-0 none took bytes.0) (bytes.1 none room) verdict

pub returns-in-Ok-eq0-clause-listed : goal.returns-in-Ok-eq0-clause-listed
returns-in-Ok-eq0-clause-listed g c =
    let (read, took, count, stands, followed) = c.loop-error.invariant.read in
    let none = c.in-Ok-eq0.field-0-test in
    let bytes = c.in-Ok-eq0.ensures.bytes in
    let room : 0 < length c.read_piece.new.piece = search rules in
    Lists-end c.finish.result.0 (limits_of c.loop-error.linter) c.args.limits _ _ read c.finish.result.1 c.loop-error.invariant.limits
    (Consumes-none _ _ _ read c.read_piece.new.piece c.in-Ok-eq0.field-0 none took bytes.0) (bytes.1 none room)
    (λ text admitted. c.finish.ensures.told read text stands admitted)

pub returns-in-Refused-clause-verdict : goal.returns-in-Refused-clause-verdict
returns-in-Refused-clause-verdict g c =
    let (read, took, count, stands, followed) = c.loop-error.invariant.read in
    let piece = take c.in-Ok.count c.read_piece.new.piece in
    let fed = Consumes-trans _ _ _ read piece took c.in-Ok.ensures.bytes.0 in
    let refused = rw (c.in-Refused.is) at (c.feed-progress.ensures.answer read stands) in
    let is = c.finish-in-Refused.ensures.again c.in-Refused.field-0 (rw (c.in-Refused.is) at c.feed-progress.ensures.refusal) in
    subst (λ (verdict : Verdict). JudgesBy IsVerdict c.args.limits (g.S.Source.remaining c.args.reader.now)
    (g.S.Source.remaining c.read_piece.new.self) verdict) (sym is)
    (Judges-lasting IsVerdict _ _ _ (read ++ piece) _ fed
    (IsVerdict-of_refusal (limits_of c.loop-error.linter) c.args.limits (read ++ piece) c.in-Refused.field-0 c.loop-error.invariant.limits refused))

pub returns-in-Refused-clause-listed : goal.returns-in-Refused-clause-listed
returns-in-Refused-clause-listed g c =
    let is = c.finish-in-Refused.ensures.again c.in-Refused.field-0 (rw (c.in-Refused.is) at c.feed-progress.ensures.refusal) in
    Lists-refused _ c.in-Refused.field-0 c.args.limits _ _ is

pub returns-in-Ok-eq0-clause-followed : goal.returns-in-Ok-eq0-clause-followed
returns-in-Ok-eq0-clause-followed g c = λ begun.
    let (read, took, count, stands, followed) = c.loop-error.invariant.read in
    (read, Consumes-none _ _ _ read c.read_piece.new.piece c.in-Ok-eq0.field-0 c.in-Ok-eq0.field-0-test took c.in-Ok-eq0.ensures.bytes.0, followed begun)

pub returns-in-Refused-clause-followed : goal.returns-in-Refused-clause-followed
returns-in-Refused-clause-followed g c = λ begun.
    let (read, took, count, stands, followed) = c.loop-error.invariant.read in
    let piece = take c.in-Ok.count c.read_piece.new.piece in
    (read ++ piece, Consumes-trans _ _ _ read piece took c.in-Ok.ensures.bytes.0, c.follow.ensures read (followed begun))

-- the input is no longer than allowed with the bytes of this read
within : (g : _) (c : goal.In-Open g) → c.loop-error.offset + c.in-Ok.count ≤ c.args.limits.bytes
within g c =
    let (read, took, count, stands, followed) = c.loop-error.invariant.read in
    let piece = take c.in-Ok.count c.read_piece.new.piece in
    let piece_length : length piece ≡ c.in-Ok.count = length-take-le c.in-Ok.count c.read_piece.new.piece c.in-Ok.ensures.bound.0 in
    let length_is : length (read ++ piece) ≡ c.loop-error.offset + c.in-Ok.count =
    length-append read piece ∙ ap (λ (n : ℕ). n + length piece) count ∙ ap (λ (n : ℕ). c.loop-error.offset + n) piece_length in
    let bound : length (read ++ piece) ≤ (limits_of c.loop-error.linter).bytes =
    (let answer = rw (c.in-Open.is) at (c.feed-progress.ensures.answer read stands) in answer.1) in
    subst (λ (limits : Allowed). c.loop-error.offset + c.in-Ok.count ≤ limits.bytes) c.loop-error.invariant.limits
    (subst (λ (n : ℕ). n ≤ (limits_of c.loop-error.linter).bytes) length_is bound)

pub loop-error-init : goal.loop-error-init
loop-error-init g c = record {
  read = ([], Consumes-nil _, refl, c.new-linter.ensures.stands (KeepsNotes-none _ c.new.ensures.keeps c.new.ensures.items), λ begun. begun);
  limits = c.new-linter.ensures.limits;
  unfailed = refl;
  text = refl;
  within = omega arith;
}

pub loop-error-smaller : goal.loop-error-smaller
loop-error-smaller g c = let w = within g c in omega (arith, w, c.in-Ok.count-test)

pub loop-error-preserved : goal.loop-error-preserved
loop-error-preserved g c =
    let (read, took, count, stands, followed) = c.loop-error.invariant.read in
    let piece = take c.in-Ok.count c.read_piece.new.piece in
    let fed = Consumes-trans _ _ _ read piece took c.in-Ok.ensures.bytes.0 in
    let piece_length : length piece ≡ c.in-Ok.count = length-take-le c.in-Ok.count c.read_piece.new.piece c.in-Ok.ensures.bound.0 in
    let length_is : length (read ++ piece) ≡ c.loop-error.offset + c.in-Ok.count =
    length-append read piece ∙ ap (λ (n : ℕ). n + length piece) count ∙ ap (λ (n : ℕ). c.loop-error.offset + n) piece_length in
    record {
      read = (read ++ piece, fed, length_is, c.feed-progress.ensures.stands read stands, λ begun. c.follow.ensures read (followed begun));
      limits = c.feed-progress.ensures.limits ∙ c.loop-error.invariant.limits;
      unfailed = c.in-Ok.ensures.failed ∙ c.loop-error.invariant.unfailed;
      text = c.read_piece.ensures.text ∙ c.loop-error.invariant.text;
      within = within g c;
    }
