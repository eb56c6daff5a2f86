use Rattle.geolint_report.proofs.Common.{rules, refl, ap, append-nil, ℕ, List, [], arith, inl, inr, ◌++◌, ◌+◌, ◌≡◌, ◌∙◌, ◌≤◌}
use Rattle.geolint_report.proofs.Common.{take, length, subst, length-append, length-take-le}
use Rattle.geolint_report.proofs.Common.{Consumes, Consumes-trans, Allowed}
use Rattle.std.proofs.KnownBytes.{Consumes-kept, Consumes-nil}
use Rattle.geolint_report.proofs.FileVerdicts.{Consumes-none}
use Rattle.geolint_report.proofs.PieceReads.{given_more, one_read, stops}
use Rattle.geolint_report.proofs.reading_loop.read_all.Given.{Over}
use Rattle.geolint_report.proofs.reading_loop.read_all.Goals as goal

pub returns-in-Decided-clause-stops : goal.returns-in-Decided-clause-stops
returns-in-Decided-clause-stops g c begins same =
    let (read, took, count, follows) = c.loop-error.invariant.read in
    let piece = take c.in-Ok.count c.read_piece.new.piece in
    let short = length-take-le c.in-Ok.count c.read_piece.new.piece c.in-Ok.ensures.bound.0 in
    let bound = c.in-Ok.ensures.bound.0 in
    let room : length c.read_piece.new.piece ≡ length c.args.piece.now = search rules in
    stops g.F.Feeds.undecided _ _ _ _ read piece _ _ (Consumes-trans _ _ _ read piece took c.in-Ok.ensures.bytes.0) (follows begins same).1
    (one_read _ _ _ _ read count c.read_piece.ensures.reads c.loop-error.invariant.few) (omega (arith, room, short, bound))

pub loop-error-init : goal.loop-error-init
loop-error-init g c = record {
  read = ([], Consumes-nil _, refl, λ begins same. (begins, inl refl));
  limits = refl;
  within = omega arith;
  few = omega arith;
  unfailed = refl;
  text = refl;
  followed = λ begun. ([], Consumes-nil _, begun);
  given = λ small. omega arith;
}

pub loop-error-preserved : goal.loop-error-preserved
loop-error-preserved g c =
    let (read, took, count, follows) = c.loop-error.invariant.read in
    let piece = take c.in-Ok.count c.read_piece.new.piece in
    let fed = Consumes-trans _ _ _ read piece took c.in-Ok.ensures.bytes.0 in
    let piece_length : length piece ≡ c.in-Ok.count = length-take-le c.in-Ok.count c.read_piece.new.piece c.in-Ok.ensures.bound.0 in
    let counted : length (read ++ piece) ≡ c.loop-error.offset + c.in-Ok.count = omega (arith, count, piece_length, length-append read piece) in
    let few : g.P.Pieces.reads c.read_piece.new.source ≤ g.P.Pieces.reads c.args.source.now + (length read + 1) =
    one_read _ _ _ _ read count c.read_piece.ensures.reads c.loop-error.invariant.few in
    record {
      read = (
        read ++ piece,
        fed,
        counted,
        λ begins same.
            let stands = (follows begins same).0 in (
              c.feed.ensures.stands read stands,
              inr
                  (subst (λ (limits : Allowed). g.F.Feeds.undecided limits (read ++ piece)) (c.loop-error.invariant.limits ∙ same)
                  (c.in-Open.ensures.open refl read stands)),
            ),
      );
      limits = c.feed.ensures.limits ∙ c.loop-error.invariant.limits;
      within = omega (arith, c.if-offset-most.false);
      few = omega (arith, few, count, c.in-Ok.count-test);
      unfailed = c.in-Ok.ensures.failed ∙ c.loop-error.invariant.unfailed;
      text = c.read_piece.ensures.text ∙ c.loop-error.invariant.text;
      followed = λ begun.
          let (before, gave, follows) = c.loop-error.invariant.followed begun in
          (before ++ piece, Consumes-trans _ _ _ before piece gave c.in-Ok.ensures.bytes.0, c.follow.ensures before follows);
      given = given_more _ _ _ _ _ c.in-Ok.ensures.given c.loop-error.invariant.given;
    }

-- ---- the number of reads

pub returns-in-Err-clause-few : goal.returns-in-Err-clause-few
returns-in-Err-clause-few g c =
    let (read, took, count, follows) = c.loop-error.invariant.read in
    let few = one_read _ _ _ _ read count c.read_piece.ensures.reads c.loop-error.invariant.few in
    omega (arith, few, count, c.loop-error.invariant.within)

pub returns-in-Ok-eq0-clause-few : goal.returns-in-Ok-eq0-clause-few
returns-in-Ok-eq0-clause-few g c =
    let (read, took, count, follows) = c.loop-error.invariant.read in
    let few = one_read _ _ _ _ read count c.read_piece.ensures.reads c.loop-error.invariant.few in
    omega (arith, few, count, c.loop-error.invariant.within)

pub returns-in-Decided-clause-few : goal.returns-in-Decided-clause-few
returns-in-Decided-clause-few g c =
    let (read, took, count, follows) = c.loop-error.invariant.read in
    let few = one_read _ _ _ _ read count c.read_piece.ensures.reads c.loop-error.invariant.few in
    omega (arith, few, count, c.loop-error.invariant.within)

pub returns-then-offset-most-clause-few : goal.returns-then-offset-most-clause-few
returns-then-offset-most-clause-few g c =
    let (read, took, count, follows) = c.loop-error.invariant.read in
    let few = one_read _ _ _ _ read count c.read_piece.ensures.reads c.loop-error.invariant.few in
    omega (arith, few, count, c.loop-error.invariant.within)

-- ---- the read failed

pub returns-in-Err-clause-offset : goal.returns-in-Err-clause-offset
returns-in-Err-clause-offset g c =
    let (read, took, count, follows) = c.loop-error.invariant.read in
    (read, Consumes-kept _ _ _ read took c.in-Err.ensures.bytes, count)

pub returns-in-Err-clause-stops : goal.returns-in-Err-clause-stops
returns-in-Err-clause-stops g c begins same =
    let (read, took, count, follows) = c.loop-error.invariant.read in
    let none = Consumes-kept _ _ _ [] (Consumes-nil (g.P.Pieces.remaining c.loop-error.source)) c.in-Err.ensures.bytes in
    stops g.F.Feeds.undecided _ _ _ _ read [] _ _ (Consumes-trans _ _ _ read [] took none) (follows begins same).1
    (one_read _ _ _ _ read count c.read_piece.ensures.reads c.loop-error.invariant.few) (omega arith)

-- ---- no byte is left

pub returns-in-Ok-eq0-clause-stops : goal.returns-in-Ok-eq0-clause-stops
returns-in-Ok-eq0-clause-stops g c begins same =
    let (read, took, count, follows) = c.loop-error.invariant.read in
    let none : Consumes (g.P.Pieces.remaining c.loop-error.source) (g.P.Pieces.remaining c.read_piece.new.source) [] =
    subst (λ (n : ℕ). Consumes (g.P.Pieces.remaining c.loop-error.source) (g.P.Pieces.remaining c.read_piece.new.source) (take n c.read_piece.new.piece))
    c.in-Ok-eq0.field-0-test c.in-Ok-eq0.ensures.bytes.0 in
    stops g.F.Feeds.undecided _ _ _ _ read [] _ _ (Consumes-trans _ _ _ read [] took none) (follows begins same).1
    (one_read _ _ _ _ read count c.read_piece.ensures.reads c.loop-error.invariant.few) (omega arith)

pub returns-in-Ok-eq0-clause-ends : goal.returns-in-Ok-eq0-clause-ends
returns-in-Ok-eq0-clause-ends g c has_room begins same =
    let (read, took, count, follows) = c.loop-error.invariant.read in
    let none : Consumes (g.P.Pieces.remaining c.loop-error.source) (g.P.Pieces.remaining c.read_piece.new.source) [] =
    subst (λ (n : ℕ). Consumes (g.P.Pieces.remaining c.loop-error.source) (g.P.Pieces.remaining c.read_piece.new.source) (take n c.read_piece.new.piece))
    c.in-Ok-eq0.field-0-test c.in-Ok-eq0.ensures.bytes.0 in
    let room : length c.read_piece.new.piece ≡ length c.args.piece.now = search rules in (
      read,
      subst (λ (bytes : List ℕ). Consumes (g.P.Pieces.remaining c.args.source.now) (g.P.Pieces.remaining c.read_piece.new.source) bytes) (append-nil read)
          (Consumes-trans _ _ _ read [] took none),
      (follows begins same).0,
      c.in-Ok-eq0.ensures.bytes.1 c.in-Ok-eq0.field-0-test (omega (arith, room, has_room)),
    )

-- ---- the bytes decide

pub returns-in-Decided-clause-ends : goal.returns-in-Decided-clause-ends
returns-in-Decided-clause-ends g c has_room begins same =
    let (read, took, count, follows) = c.loop-error.invariant.read in
    let stands = (follows begins same).0 in (
      read ++ take c.in-Ok.count c.read_piece.new.piece,
      Consumes-trans _ _ _ read (take c.in-Ok.count c.read_piece.new.piece) took c.in-Ok.ensures.bytes.0,
      c.feed.ensures.stands read stands,
      c.in-Decided.ensures.decided refl read stands,
    )

-- ---- more bytes came than are allowed, of which what is open has none

beyond : (g : Over) (c : goal.Then-offset-most g) → g.F.Feeds.stands c.args.fed.now [] → g.F.Feeds.limits c.args.fed.now ≡ c.args.limits → ⊥
beyond g c begins same =
    let (read, took, count, follows) = c.loop-error.invariant.read in
    let fits = c.in-Open.ensures.fits refl read (follows begins same).0 in
    let bytes = ap (λ (limits : Allowed). limits.bytes) (c.loop-error.invariant.limits ∙ same) in
    let piece = length-take-le c.in-Ok.count c.read_piece.new.piece c.in-Ok.ensures.bound.0 in
    omega (arith, fits, bytes, piece, count, length-append read (take c.in-Ok.count c.read_piece.new.piece))

pub returns-then-offset-most-clause-stops : goal.returns-then-offset-most-clause-stops
returns-then-offset-most-clause-stops g c begins same = elim (beyond g c begins same) [ ]

pub returns-then-offset-most-clause-ends : goal.returns-then-offset-most-clause-ends
returns-then-offset-most-clause-ends g c has_room begins same = elim (beyond g c begins same) [ ]

-- ---- what came to the follower

pub returns-in-Ok-eq0-clause-followed : goal.returns-in-Ok-eq0-clause-followed
returns-in-Ok-eq0-clause-followed g c = λ begun.
    let (read, took, follows) = c.loop-error.invariant.followed begun in
    (read, Consumes-none _ _ _ read c.read_piece.new.piece c.in-Ok-eq0.field-0 c.in-Ok-eq0.field-0-test took c.in-Ok-eq0.ensures.bytes.0, follows)

pub returns-in-Decided-clause-followed : goal.returns-in-Decided-clause-followed
returns-in-Decided-clause-followed g c = λ begun.
    let (read, took, follows) = c.loop-error.invariant.followed begun in
    let piece = take c.in-Ok.count c.read_piece.new.piece in
    (read ++ piece, Consumes-trans _ _ _ read piece took c.in-Ok.ensures.bytes.0, c.follow.ensures read follows)

pub returns-then-offset-most-clause-followed : goal.returns-then-offset-most-clause-followed
returns-then-offset-most-clause-followed g c = λ begun.
    let (read, took, follows) = c.loop-error.invariant.followed begun in
    let piece = take c.in-Ok.count c.read_piece.new.piece in
    (read ++ piece, Consumes-trans _ _ _ read piece took c.in-Ok.ensures.bytes.0, c.follow.ensures read follows)
