use Rattle.geolint_report.proofs.Common.{arith, rules, ◌≡◌, ◌<◌, ◌∙◌, inl, inr, refl, sym, subst, ℕ, List, [], ◌++◌, take, length, length-append}
use Rattle.geolint_report.proofs.Common.{IsNonDecreasing, length-take-le, Site}
use Rattle.std.proofs.KnownBytes.{Consumes-nil, Consumes-trans}
use Rattle.geolint_report.proofs.FoundSites.{RightBy-read, RightBy-reached}
use Rattle.geolint_report.proofs.FollowedPaths.{PathsBy-read, PathsBy-reached, paths-followed}
use Rattle.geolint_report.proofs.TextPlaces.{ToldInTexts-by}
use Rattle.geolint_report.proofs.KeptExcerpts.{Shows-begins, excerpt-same, excerpt-end, ExcerptBy-whole, ExcerptBy-read}
use Rattle.geolint_report.proofs.ToldPaths.{ToldBy-reached, ToldBy-end, told-now, unfound-right, unfound-paths}
use Rattle.geolint_report.proofs.SoughtPlaces.{FoundBy-read, FoundBy-reached, Seeks-begins}
use Rattle.geolint_report.proofs.FileVerdicts.{Consumes-none}
use Rattle.geolint_report.specs.Sites.{ToldBy}
use Rattle.geolint_report.proofs.sites.Sites.find.Goals as goal
use Rattle.geolint_report.proofs.sites.Sites.find.Goals.{else-loop-test, then-loop-test+in_ok-count+then-count-eq0}

pub loop-init : goal.loop-init
loop-init g c = record {
  reached = λ begun. (
    [],
    Consumes-nil _,
    c.new-finder.ensures.begins c.args.self.now begun,
    (λ ordered. Seeks-begins c.new-finder.result c.args.self.now c.new-finder.ensures.next),
    omega arith,
    c.new-finder.ensures.follows c.args.self.now,
    c.new-finder.ensures.tells c.args.self.now,
    (λ unread. Shows-begins c.new-finder.result c.args.self.now unread c.new-finder.ensures.next),
  );
  sought = refl;
  text = refl;
  unfailed = refl;
}

pub returns-in_err-count-clause-right : goal.returns-in_err-count-clause-right
returns-in_err-count-clause-right g c = λ begun.
    let (read, took, reaches, seeks, reads, follows, tells, shows) = c.loop.invariant.reached begun in
    RightBy-reached _ _ read _ _ took reaches

pub returns-in_err-count-clause-paths : goal.returns-in_err-count-clause-paths
returns-in_err-count-clause-paths g c = λ begun paths.
    let (read, took, reaches, seeks, reads, follows, tells, shows) = c.loop.invariant.reached begun in
    PathsBy-reached c.args.framing _ _ read _ _ took (follows paths)

pub returns-in_err-count-clause-told : goal.returns-in_err-count-clause-told
returns-in_err-count-clause-told g c = λ none.
    let (read, took, reaches, seeks, reads, follows, tells, shows) = c.loop.invariant.reached (unfound-right [] c.args.self.now.sites none) in
    ToldBy-reached c.args.limits c.args.framing _ _ read _ _ took (tells none)

pub returns-then-is_whole-clause-told : goal.returns-then-is_whole-clause-told
returns-then-is_whole-clause-told g c = λ none.
    let (read, took, reaches, seeks, reads, follows, tells, shows) = c.loop.invariant.reached (unfound-right [] c.args.self.now.sites none) in
    let piece = take c.in_ok-count.count c.read_piece.new.piece in
    let more = Consumes-trans _ _ _ read piece took c.in_ok-count.ensures.bytes.0 in
    ToldBy-reached c.args.limits c.args.framing _ _ (read ++ piece) _ _ more
    (c.take.ensures.tells c.args.limits c.args.framing read reaches (follows (unfound-paths c.args.framing [] c.args.self.now.sites none)) (tells none))

pub returns-in_err-count-clause-texts : goal.returns-in_err-count-clause-texts
returns-in_err-count-clause-texts g c =
    λ none. ToldInTexts-by c.args.limits c.args.framing _ _ c.bytes-most.ensures.allowed (returns-in_err-count-clause-told g c none)

pub returns-then-is_whole-clause-texts : goal.returns-then-is_whole-clause-texts
returns-then-is_whole-clause-texts g c =
    λ none. ToldInTexts-by c.args.limits c.args.framing _ _ c.bytes-most.ensures.allowed (returns-then-is_whole-clause-told g c none)

pub returns-then-is_whole-clause-paths : goal.returns-then-is_whole-clause-paths
returns-then-is_whole-clause-paths g c = λ begun paths.
    let (read, took, reaches, seeks, reads, follows, tells, shows) = c.loop.invariant.reached begun in
    let piece = take c.in_ok-count.count c.read_piece.new.piece in
    let more = Consumes-trans _ _ _ read piece took c.in_ok-count.ensures.bytes.0 in
    PathsBy-reached c.args.framing _ _ (read ++ piece) _ _ more (c.take.ensures.follows c.args.framing read reaches (follows paths))

pub returns-then-is_whole-clause-right : goal.returns-then-is_whole-clause-right
returns-then-is_whole-clause-right g c = λ begun.
    let (read, took, reaches, seeks, reads, follows, tells, shows) = c.loop.invariant.reached begun in
    let piece = take c.in_ok-count.count c.read_piece.new.piece in
    let more = Consumes-trans _ _ _ read piece took c.in_ok-count.ensures.bytes.0 in
    RightBy-reached _ _ (read ++ piece) _ _ more (c.take.ensures.reaches read reaches)

pub returns-then-is_whole-clause-found : goal.returns-then-is_whole-clause-found
returns-then-is_whole-clause-found g c = λ begun ordered.
    let (read, took, reaches, seeks, reads, follows, tells, shows) = c.loop.invariant.reached begun in
    let places = subst (λ (places : List ℕ). IsNonDecreasing places) (sym c.loop.invariant.sought) ordered in
    FoundBy-reached _ c.take.new.finder c.take.new.self _ (c.take.ensures.seeks read reaches places (seeks ordered)) c.if-finder-self.true

pub returns-then-is_whole-clause-excerpt : goal.returns-then-is_whole-clause-excerpt
returns-then-is_whole-clause-excerpt g c = λ unread begun ordered.
    let (read, took, reaches, seeks, reads, follows, tells, shows) = c.loop.invariant.reached begun in
    let piece = take c.in_ok-count.count c.read_piece.new.piece in
    let more = Consumes-trans _ _ _ read piece took c.in_ok-count.ensures.bytes.0 in
    ExcerptBy-whole _ _ (read ++ piece) c.take.new.finder c.take.new.self more (c.take.ensures.shows read reaches (shows unread)) c.if-finder-self.true
    (λ before after rest keeps. c.is_whole.ensures.whole before after rest keeps c.if-is_whole.true)

pub returns-then-is_whole-clause-sought : goal.returns-then-is_whole-clause-sought
returns-then-is_whole-clause-sought g c = c.take.ensures.sought ∙ c.loop.invariant.sought

pub loop-preserved : goal.loop-preserved
loop-preserved g c = record {
  reached = λ begun.
      let (read, took, reaches, seeks, reads, follows, tells, shows) = c.loop.invariant.reached begun in
      let piece = take c.in_ok-count.count c.read_piece.new.piece in
      let long : length piece ≡ c.in_ok-count.count = length-take-le c.in_ok-count.count c.read_piece.new.piece c.in_ok-count.ensures.bound.0 in (
        read ++ piece,
        Consumes-trans _ _ _ read piece took c.in_ok-count.ensures.bytes.0,
        c.take.ensures.reaches read reaches,
        (λ ordered. c.take.ensures.seeks read reaches (subst (λ (places : List ℕ). IsNonDecreasing places) (sym c.loop.invariant.sought) ordered)
            (seeks ordered)),
        omega (arith, reads, long, length-append read piece, c.if-count-eq0.false),
        (λ paths. c.take.ensures.follows c.args.framing read reaches (follows paths)),
        (λ none. c.take.ensures.tells c.args.limits c.args.framing read reaches (follows (unfound-paths c.args.framing [] c.args.self.now.sites none))
            (tells none)),
        (λ unread. c.take.ensures.shows read reaches (shows unread)),
      );
  sought = c.take.ensures.sought ∙ c.loop.invariant.sought;
  text = c.read_piece.ensures.text ∙ c.loop.invariant.text;
  unfailed = c.in_ok-count.ensures.failed ∙ c.loop.invariant.unfailed;
}

pub returns-clause-right : goal.returns-clause-right
returns-clause-right g c = λ begun.
    let (read, took, reaches, seeks, reads, follows, tells, shows) = c.loop.invariant.reached begun in
    RightBy-read _ _ read _ took (c.end.ensures.right read reaches)

pub returns-clause-paths : goal.returns-clause-paths
returns-clause-paths g c = λ begun paths.
    let (read, took, reaches, seeks, reads, follows, tells, shows) = c.loop.invariant.reached begun in
    PathsBy-read c.args.framing _ _ read _ took (c.end.ensures.paths c.args.framing read (paths-followed c.args.framing _ _ read (follows paths)))

pub returns-clause-found : goal.returns-clause-found
returns-clause-found g c = λ begun ordered.
    let (read, took, reaches, seeks, reads, follows, tells, shows) = c.loop.invariant.reached begun in
    let places = subst (λ (places : List ℕ). IsNonDecreasing places) (sym c.loop.invariant.sought) ordered in
    let found = c.end.ensures.found read reaches places (seeks ordered) in
    elim c.loop-test.branch [
      | else-loop-test w ↦ FoundBy-read _ _ read c.end.new.self took (inr (omega (arith, reads, w.loop-test.false))) found
      | then-loop-test+in_ok-count+then-count-eq0 w ↦
          (let bytes = w.in_ok-count.ensures.bytes in
          let room : 0 < length w.read_piece.new.piece = search rules in
          FoundBy-read _ _ read c.end.new.self (Consumes-none _ _ _ read w.read_piece.new.piece w.in_ok-count.count w.if-count-eq0.true took bytes.0)
          (inl (bytes.1 w.if-count-eq0.true room)) found)
    ]

pub returns-clause-told : goal.returns-clause-told
returns-clause-told g c = λ none.
    let (read, took, reaches, seeks, reads, follows, tells, shows) = c.loop.invariant.reached (unfound-right [] c.args.self.now.sites none) in
    let limits = c.args.limits in
    let framing = c.args.framing in
    let told = tells none in
    elim c.loop-test.branch [
      | else-loop-test w ↦
          subst (λ (sites : List Site). ToldBy limits framing (g.S.Source.remaining c.args.reader.now) sites)
          (sym (c.end.ensures.long read reaches (omega (arith, reads, w.loop-test.false))))
          (ToldBy-reached limits framing _ _ read _ _ took told)
      | then-loop-test+in_ok-count+then-count-eq0 w ↦
          (let bytes = w.in_ok-count.ensures.bytes in
          let room : 0 < length w.read_piece.new.piece = search rules in
          ToldBy-end limits framing _ _ read c.end.new.self.sites
          (Consumes-none _ _ _ read w.read_piece.new.piece w.in_ok-count.count w.if-count-eq0.true took bytes.0) (bytes.1 w.if-count-eq0.true room)
          (c.end.ensures.told limits framing read reaches (told-now limits framing _ _ read told)))
    ]

pub returns-clause-texts : goal.returns-clause-texts
returns-clause-texts g c = λ none. ToldInTexts-by c.args.limits c.args.framing _ _ c.bytes-most.ensures.allowed (returns-clause-told g c none)

pub returns-clause-excerpt : goal.returns-clause-excerpt
returns-clause-excerpt g c = λ unread begun ordered.
    let (read, took, reaches, seeks, reads, follows, tells, shows) = c.loop.invariant.reached begun in
    let around = excerpt-same c.loop.self c.end.new.self read c.end.ensures.excerpt c.end.ensures.sought
    (excerpt-end _ c.loop.self read (shows unread) (seeks ordered)) in
    elim c.loop-test.branch [
      | else-loop-test w ↦ ExcerptBy-read _ _ read c.end.new.self took (inr (omega (arith, reads, w.loop-test.false))) around
      | then-loop-test+in_ok-count+then-count-eq0 w ↦
          (let bytes = w.in_ok-count.ensures.bytes in
          let room : 0 < length w.read_piece.new.piece = search rules in
          ExcerptBy-read _ _ read c.end.new.self (Consumes-none _ _ _ read w.read_piece.new.piece w.in_ok-count.count w.if-count-eq0.true took bytes.0)
          (inl (bytes.1 w.if-count-eq0.true room)) around)
    ]

pub returns-clause-sought : goal.returns-clause-sought
returns-clause-sought g c = c.end.ensures.sought ∙ c.loop.invariant.sought
