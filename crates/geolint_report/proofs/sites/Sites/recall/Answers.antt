use Rattle.geolint_report.proofs.Common.{arith, rules, inl, inr, ◌≡◌, ◌<◌, ◌∙◌, ◌++◌, [], ℕ, List, length, ap, sym, subst, append_assoc, u64_saturate}
use Rattle.geolint_report.proofs.Common.{IsNonDecreasing, Some, Seeks, Site}
use Rattle.geolint_report.specs.declared.sites.Sites.{Sites}
use Rattle.geolint_report.specs.Held.{AreFoundIn}
use Rattle.geolint_report.specs.Internal.SecondReading.{Tells}
use Rattle.geolint_report.proofs.FollowedPaths.{paths-followed}
use Rattle.geolint_report.proofs.HeldSites.{all-kept, far-before, Seeks-behind, Shows-behind}
use Rattle.geolint_report.proofs.KeptExcerpts.{excerpt-end, excerpt-same}
use Rattle.geolint_report.proofs.SoughtPlaces.{no_site}
use Rattle.geolint_report.proofs.TextPlaces.{ToldInTexts-by}
use Rattle.geolint_report.proofs.ToldPaths.{told-now, unfound-right, unfound-paths}
use Rattle.geolint_report.proofs.sites.Sites.recall.Goals as goal
use Rattle.geolint_report.proofs.sites.Sites.recall.Goals.{else-self-gt0-via-then-self-gt0+else-self-kept, else-self-gt0-via-else-self-gt0}

pub returns-then-self-kept-clause-held : goal.returns-then-self-kept-clause-held
returns-then-self-kept-clause-held c = λ text recalls most none unread ordered.
    let stored : 0 < length c.args.self.now.sites = search (arith, rules) in
    inr (
      none,
      far-before c.kept-kept.result text c.args.self.now c.index-self-0.result (c.kept-kept.ensures text recalls most) (omega (arith, c.if-self-gt0.true)) stored
          c.index-self-0.is (omega (arith, c.if-self-kept.true, ap (λ (s : Site). s.place) c.index-self-0.is)),
    )

pub returns-clause-held : goal.returns-clause-held
returns-clause-held c = λ text recalls most none unread ordered.
    let is = c.kept-kept.ensures text recalls most in
    let kept = c.kept-kept.result in
    let before = is.before in
    let limits = c.args.limits in
    let framing = c.args.framing in
    let finder = c.behind-finder.result in
    let next = c.behind-finder.ensures.next in
    let sites : Sites = record { sites = c.args.self.now.sites; excerpt = kept.excerpt; count = c.args.self.now.count } in
    let more = before ++ kept.older.now in
    let whole = more ++ kept.newer.now in
    let same : whole ≡ text = append_assoc before kept.older.now kept.newer.now ∙ sym is.all in
    let reaches = c.behind-finder.ensures.begins sites before is.passed is.lines (unfound-right before sites.sites none) in
    let reached = c.take.ensures.reaches before reaches in
    let ended = c.take-2.ensures.reaches more reached in
    let follows = c.behind-finder.ensures.follows sites before is.passed (unfound-paths framing before sites.sites none) in
    let followed = c.take.ensures.follows framing before reaches follows in
    let seeks : Seeks finder sites (length before) = elim c.else-self-gt0.branch [
      | else-self-gt0-via-then-self-gt0+else-self-kept w ↦ Seeks-behind finder sites (length before) w.index-self-0.result next ordered
          (λ some. omega (arith, is.passed, w.if-self-kept.false, ap (λ (s : Site). s.place) w.index-self-0.is))
      | else-self-gt0-via-else-self-gt0 w ↦ Seeks-behind finder sites (length before) no_site next ordered
          (λ some. absurd (omega (arith, some, w.if-self-gt0.false)))
    ] in
    let later = subst (λ (places : List ℕ). IsNonDecreasing places) (sym c.take.ensures.sought) ordered in
    let last = subst (λ (places : List ℕ). IsNonDecreasing places) (sym c.take-2.ensures.sought) later in
    let sought_all = c.take-2.ensures.seeks more reached later (c.take.ensures.seeks before reaches ordered seeks) in
    let shows = c.take-2.ensures.shows more reached (c.take.ensures.shows before reaches (Shows-behind finder sites before next unread.1 is.excerpt)) in
    inl (subst (λ (bytes : List ℕ). AreFoundIn limits framing bytes c.end.new.self) same (record {
      right = c.end.ensures.right whole ended;
      paths = c.end.ensures.paths framing whole (paths-followed framing _ _ whole (c.take-2.ensures.follows framing more reached followed));
      found = c.end.ensures.found whole ended last sought_all;
      excerpt = excerpt-same c.take-2.new.self c.end.new.self whole c.end.ensures.excerpt c.end.ensures.sought (excerpt-end _ c.take-2.new.self whole shows sought_all);
      told = λ short.
          let all : before ≡ [] = all-kept kept text is (omega (arith, ap length same, short)) in
          let begun = c.behind-finder.ensures.tells sites (is.passed ∙ ap (λ (ys : List ℕ). u64_saturate (length ys)) all) none in
          let tells = c.take-2.ensures.tells limits framing more reached followed
          (c.take.ensures.tells limits framing before reaches follows (subst (λ (ys : List ℕ). Tells limits framing finder sites ys []) (sym all) begun)) in
          let told = c.end.ensures.told limits framing whole ended (told-now limits framing _ _ whole tells) in
          (told, ToldInTexts-by limits framing (Some whole) c.end.new.self.sites c.bytes-most.ensures.allowed told);
    }))
