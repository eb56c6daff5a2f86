use Rattle.geolint_report.proofs.Common.{rules, refl, arith, [], ℕ, List, ◌++◌, ◌+◌, ◌≡◌, ◌∙◌, ap, take, length, ◌<◌, ◌≤◌, length-append, append-nil, subst}
use Rattle.geolint_report.proofs.Common.{length-take-le, Allowed, IsWholeVerdict}
use Rattle.std.proofs.KnownBytes.{Consumes-nil, Consumes-trans}
use Rattle.geolint_report.proofs.FileVerdicts.{Consumes-none, Judges-end, Judges-lasting}
use Rattle.geolint_report.proofs.KeptRecords.{KeepsRecords-none, listed-of, verdict-of, Lists-end, Lists-lasting, fits-under}
use Rattle.geolint_report.proofs.every.records.judge_records.Goals as goal

pub loop-error-init : goal.loop-error-init
loop-error-init g c = record {
  read = (
    [],
    [],
    Consumes-nil _,
    refl,
    c.new-records.ensures.stands,
    KeepsRecords-none _ c.new-listing.ensures.keeps c.new-listing.ensures.items,
    λ begun. begun,
  );
  framing = c.new-records.ensures.framing;
  limits = c.new-records.ensures.limits;
  unfailed = refl;
  text = refl;
  within = omega arith;
}

pub returns-in-Ok-eq0-clause-verdict : goal.returns-in-Ok-eq0-clause-verdict
returns-in-Ok-eq0-clause-verdict g c =
    let (read, found, took, count, stands, keeps, followed) = c.loop-error.invariant.read in
    let none = c.in-Ok-eq0.field-0-test in
    let bytes = c.in-Ok-eq0.ensures.bytes in
    let room : 0 < length c.read_piece.new.piece = search rules in
    Judges-end (IsWholeVerdict c.args.framing) _ _ _ read _ (Consumes-none _ _ _ read c.read_piece.new.piece c.in-Ok-eq0.field-0 none took bytes.0)
    (bytes.1 none room)
    (verdict-of _ _ _ _ _ read found _ c.loop-error.invariant.framing c.loop-error.invariant.limits (c.finish-verdict.ensures.told read [] found stands keeps))

pub returns-in-Ok-eq0-clause-listed : goal.returns-in-Ok-eq0-clause-listed
returns-in-Ok-eq0-clause-listed g c =
    let (read, found, took, count, stands, keeps, followed) = c.loop-error.invariant.read in
    let none = c.in-Ok-eq0.field-0-test in
    let bytes = c.in-Ok-eq0.ensures.bytes in
    let room : 0 < length c.read_piece.new.piece = search rules in
    Lists-end c.args.framing c.args.limits _ _ read _ (Consumes-none _ _ _ read c.read_piece.new.piece c.in-Ok-eq0.field-0 none took bytes.0)
    (bytes.1 none room)
    (listed-of _ _ _ _ _ read found _ c.loop-error.invariant.framing c.loop-error.invariant.limits (c.finish-verdict.ensures.told read [] found stands keeps))

pub returns-then-is_over-clause-verdict : goal.returns-then-is_over-clause-verdict
returns-then-is_over-clause-verdict g c =
    let (read, found, took, count, stands, keeps, followed) = c.loop-error.invariant.read in
    let piece = take c.in-Ok.count c.read_piece.new.piece in
    let fed = Consumes-trans _ _ _ read piece took c.in-Ok.ensures.bytes.0 in
    let told = c.feed.ensures.told read [] found stands keeps in
    let all = found ++ told.more in
    let kind = c.feed.ensures.framing ∙ c.loop-error.invariant.framing in
    let same = c.feed.ensures.limits ∙ c.loop-error.invariant.limits in
    Judges-lasting (IsWholeVerdict c.args.framing) _ _ _ (read ++ piece) _ fed (λ more.
    let over = c.is_over.ensures.lasting (read ++ piece) more all told.stands c.if-is_over.true in
    verdict-of _ _ _ _ _ ((read ++ piece) ++ more) all _ kind same
    (c.finish-verdict-then-is_over.ensures.told ((read ++ piece) ++ more) [] all over told.heard))

pub returns-then-is_over-clause-listed : goal.returns-then-is_over-clause-listed
returns-then-is_over-clause-listed g c =
    let (read, found, took, count, stands, keeps, followed) = c.loop-error.invariant.read in
    let piece = take c.in-Ok.count c.read_piece.new.piece in
    let fed = Consumes-trans _ _ _ read piece took c.in-Ok.ensures.bytes.0 in
    let told = c.feed.ensures.told read [] found stands keeps in
    let all = found ++ told.more in
    let kind = c.feed.ensures.framing ∙ c.loop-error.invariant.framing in
    let same = c.feed.ensures.limits ∙ c.loop-error.invariant.limits in
    Lists-lasting c.args.framing c.args.limits _ _ (read ++ piece) _ fed (λ more.
    let over = c.is_over.ensures.lasting (read ++ piece) more all told.stands c.if-is_over.true in
    listed-of _ _ _ _ _ ((read ++ piece) ++ more) all _ kind same (c.finish-verdict-then-is_over.ensures.told ((read ++ piece) ++ more) [] all over told.heard))

-- no byte comes with the last notes
last-followed : (Follows : List ℕ → Type 0) (bytes : List ℕ) → Follows (bytes ++ []) → Follows bytes
last-followed Follows bytes follows = subst Follows (append-nil bytes) follows

pub returns-in-Ok-eq0-clause-followed : goal.returns-in-Ok-eq0-clause-followed
returns-in-Ok-eq0-clause-followed g c = λ begun.
    let (read, found, took, count, stands, keeps, followed) = c.loop-error.invariant.read in (
      read,
      Consumes-none _ _ _ read c.read_piece.new.piece c.in-Ok-eq0.field-0 c.in-Ok-eq0.field-0-test took c.in-Ok-eq0.ensures.bytes.0,
      last-followed (g.F.Follower.follows c.follow.new.self) read (c.follow.ensures read (followed begun)),
    )

pub returns-then-is_over-clause-followed : goal.returns-then-is_over-clause-followed
returns-then-is_over-clause-followed g c = λ begun.
    let (read, found, took, count, stands, keeps, followed) = c.loop-error.invariant.read in
    let piece = take c.in-Ok.count c.read_piece.new.piece in (
      read ++ piece,
      Consumes-trans _ _ _ read piece took c.in-Ok.ensures.bytes.0,
      last-followed (g.F.Follower.follows c.follow-then-is_over.new.self) (read ++ piece)
          (c.follow-then-is_over.ensures (read ++ piece) (c.follow-in-Ok.ensures read (followed begun))),
    )

-- as many bytes as were read
read-length : (read given : List ℕ) (offset count : ℕ) → length read ≡ offset → count ≤ length given → length (read ++ take count given) ≡ offset + count
read-length read given offset count so_far within = omega (arith, so_far, length-append read (take count given), length-take-le count given within)

fits-by : (bytes : List ℕ) (n : ℕ) (here limits : Allowed) → length bytes ≡ n → here ≡ limits → length bytes ≤ here.bytes → n ≤ limits.bytes
fits-by bytes n here limits long same fits = let most : here.bytes ≡ limits.bytes = ap (λ (l : Allowed). l.bytes) same in omega (arith, long, most, fits)

pub loop-error-smaller : goal.loop-error-smaller
loop-error-smaller g c =
    let (read, found, took, count, stands, keeps, followed) = c.loop-error.invariant.read in
    let given = c.read_piece.new.piece in
    let piece = take c.in-Ok.count given in
    let told = c.feed.ensures.told read [] found stands keeps in
    let long = read-length read given c.loop-error.offset c.in-Ok.count count c.in-Ok.ensures.bound.0 in
    let same = c.feed.ensures.limits ∙ c.loop-error.invariant.limits in
    let over = c.is_over.ensures.beyond (read ++ piece) (found ++ told.more) told.stands in
    let fits = fits-by (read ++ piece) _ _ _ long same (fits-under _ _ _ c.if-is_over.false over.1) in
    omega (arith, fits, c.in-Ok.count-test)

pub loop-error-preserved : goal.loop-error-preserved
loop-error-preserved g c =
    let (read, found, took, count, stands, keeps, followed) = c.loop-error.invariant.read in
    let given = c.read_piece.new.piece in
    let piece = take c.in-Ok.count given in
    let fed = Consumes-trans _ _ _ read piece took c.in-Ok.ensures.bytes.0 in
    let told = c.feed.ensures.told read [] found stands keeps in
    let long = read-length read given c.loop-error.offset c.in-Ok.count count c.in-Ok.ensures.bound.0 in
    let same = c.feed.ensures.limits ∙ c.loop-error.invariant.limits in
    let over = c.is_over.ensures.beyond (read ++ piece) (found ++ told.more) told.stands in
    record {
      read = (read ++ piece, found ++ told.more, fed, long, told.stands, told.heard, λ begun. c.follow-in-Ok.ensures read (followed begun));
      framing = c.feed.ensures.framing ∙ c.loop-error.invariant.framing;
      limits = same;
      unfailed = c.in-Ok.ensures.failed ∙ c.loop-error.invariant.unfailed;
      text = c.read_piece.ensures.text ∙ c.loop-error.invariant.text;
      within = fits-by (read ++ piece) _ _ _ long same (fits-under _ _ _ c.if-is_over.false over.1);
    }
