use Rattle.geolint_report.proofs.Common.{rules, arith, ◌≡◌, ◌++◌, [], ℕ, List, length, take, get_or, ap, ◌∙◌, subst, append-nil, inl, inr, ◌+◌, StandsFor}
use Rattle.geolint_report.proofs.Common.{cases_lt, AreRight}
use Rattle.geolint_report.proofs.FoundSites.{IsSpot-end}
use Rattle.geolint_report.proofs.SoughtPlaces.{AllFound-settled, AllFound-passed, AllFound-unstored, AllFound-long, AllFound-reached, AllFound-stored}
use Rattle.geolint_report.proofs.SoughtPlaces.{Seeks-passed, sought-settled}
use Rattle.geolint_report.proofs.sites.Sites.end.Goals as goal
use Rattle.geolint_report.proofs.sites.Sites.end.Goals.{else-i-self-via-then-i-self+then-i-lt-MOST_PLACES+then-finder-lt18446744073709551615+else-self-i}
use Rattle.geolint_report.proofs.sites.Sites.end.Goals.{else-i-self-via-then-i-self+then-i-lt-MOST_PLACES+else-finder-lt18446744073709551615}
use Rattle.geolint_report.proofs.sites.Sites.end.Goals.{else-i-self-via-then-i-self+else-i-lt-MOST_PLACES, else-i-self-via-else-i-self}

pub returns-then-self-i-clause-right : goal.returns-then-self-i-clause-right
returns-then-self-i-clause-right c = λ text reaches.
    let finder = c.args.finder.now in
    let offset = reaches.offset in
    let here : finder.offset ≡ length text = omega (arith, offset, c.if-finder-lt18446744073709551615.true) in
    let place : (get_or c.args.self.now.sites finder.next c.index-self-i.result).place ≡ length text =
    search (rules, c.if-self-i.true, c.index-self-i.is, here) in
    let none : take finder.counted [] ≡ [] = search rules in
    let all : text ++ take finder.counted [] ≡ text = ap (λ (ys : List ℕ). text ++ ys) none ∙ append-nil text in
    let stands = subst (StandsFor finder.lines) all (reaches.lines c.if-i-self.true) in
    let right = subst (λ (bytes : List ℕ). AreRight bytes c.args.self.now.sites) (append-nil text) reaches.right in
    c.settle.ensures.right text c.index-self-i.result right (IsSpot-end text _ finder.lines c.spot.result place stands c.spot.ensures.0 c.spot.ensures.1)

pub returns-then-self-i-clause-paths : goal.returns-then-self-i-clause-paths
returns-then-self-i-clause-paths c = λ framing text are. c.settle.ensures.paths framing text c.index-self-i.result are tt

pub returns-then-self-i-clause-told : goal.returns-then-self-i-clause-told
returns-then-self-i-clause-told c = λ limits framing text reaches are.
    let offset = reaches.offset in
    c.settle.ensures.told limits framing text c.index-self-i.result are
    (λ within. absurd (omega (arith, offset, within, c.if-self-i.true, c.if-finder-lt18446744073709551615.true)))

pub returns-then-self-i-clause-long : goal.returns-then-self-i-clause-long
returns-then-self-i-clause-long c = λ text reaches long. let offset =
    reaches.offset in absurd (omega (arith, offset, long, c.if-finder-lt18446744073709551615.true))

pub returns-then-self-i-clause-found : goal.returns-then-self-i-clause-found
returns-then-self-i-clause-found c = λ text reaches ordered seeks place contained within small.
    let finder = c.args.finder.now in
    let sites = c.args.self.now in
    let offset = reaches.offset in
    let here : finder.offset ≡ length text = omega (arith, offset, c.if-finder-lt18446744073709551615.true) in
    elim (cases_lt finder.next (length sites.sites)) [
      | inl stored ↦ AllFound-settled finder sites c.settle.new.self text c.index-self-i.result ordered seeks c.settle.ensures.settles c.if-i-self.true stored
          (c.if-self-i.true ∙ here) place contained within small
      | inr none ↦ AllFound-unstored finder sites c.settle.new.self (length text) text seeks c.settle.ensures.settles none place contained within small
    ]

pub returns-then-self-i-clause-sought : goal.returns-then-self-i-clause-sought
returns-then-self-i-clause-sought c = sought-settled c.args.self.now c.settle.new.self c.args.finder.now.next c.settle.ensures.settles

pub returns-else-i-self-clause-found : goal.returns-else-i-self-clause-found
returns-else-i-self-clause-found c = λ text reaches ordered seeks.
    let finder = c.args.finder.now in
    let sites = c.args.self.now in
    let offset = reaches.offset in
    elim c.else-i-self.branch [
      | else-i-self-via-then-i-self+then-i-lt-MOST_PLACES+then-finder-lt18446744073709551615+else-self-i w ↦
          (let other = w.if-self-i.false in
          AllFound-passed finder sites text (length text + 1) (Seeks-passed finder sites (length text) (length text + 1) w.index-self-i.result ordered seeks
          (λ small behind. omega (arith, small, behind, offset, other, w.if-finder-lt18446744073709551615.true))) (omega arith))
      | else-i-self-via-then-i-self+then-i-lt-MOST_PLACES+else-finder-lt18446744073709551615 w ↦
          (let long = w.if-finder-lt18446744073709551615.false in
          λ place contained within small. AllFound-long finder sites text seeks (omega (arith, offset, long)) place contained within small)
      | else-i-self-via-then-i-self+else-i-lt-MOST_PLACES w ↦ AllFound-stored finder sites (length text) text seeks (omega (arith, w.if-i-lt-MOST_PLACES.false))
      | else-i-self-via-else-i-self w ↦ AllFound-reached finder sites (length text) text seeks w.if-i-self.false
    ]
