use Rattle.std.proofs.Common.{rules, arith, subst, sym, ◌≡◌, ◌<◌, ℕ, length}
use Rattle.geolint_report.specs.declared.every.spots.Placed.{Placed}
use Rattle.geolint_report.specs.Spots.{IsRight}
use Rattle.geolint_report.proofs.PlacedNotes.{AreAllRight-at}
use Rattle.geolint_report.proofs.every.spots.Spots.known.Goals as goal

pub returns-then-placed-place : goal.returns-then-placed-place
returns-then-placed-place c = λ bytes are.
    let placed = c.index-placed.result.now in
    let within : c.args.index < length c.args.self.now.placed.items = search (arith, rules) in
    let there = AreAllRight-at bytes c.args.self.now.placed.items c.args.index placed within are.2 in
    let same : placed.place ≡ c.args.place = search rules in
    subst (λ (place : ℕ). IsRight bytes place placed.spot) same (subst (λ (p : Placed). IsRight bytes p.place p.spot) (sym c.index-placed.ensures) there)
