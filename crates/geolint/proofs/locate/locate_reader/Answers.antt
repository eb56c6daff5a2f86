use Rattle.std.proofs.Common.{rules, arith, ℕ, List, ◌++◌, ◌+◌, ◌-◌, ◌≡◌, ◌∙◌, inl, inr, ap, sym, take, length, ◌<◌, ◌≤◌, subst, length-append}
use Rattle.std.proofs.lemmas.Bool.{cases_lt}
use Rattle.std.proofs.lemmas.List.{length-take-le, take-take}
use Rattle.std.proofs.KnownBytes.{Consumes-trans}
use Rattle.gj_json.specs.Limits.{Allowed}
use Rattle.gj_json.specs.Locator.{StandsFor}
use Rattle.gj_json.specs.Path.{path_at}
use Rattle.gj_json.specs.Refusal.{IsRefusal}
use Rattle.gj_json.specs.Text.{IsText, IsViableWithin}
use Rattle.geolint.proofs.PathSearches.{path_found, path_refused}
use Rattle.geolint.proofs.locate.locate_reader.Goals as goal
use Rattle.geolint_report.proofs.PieceReads.{given_more}

-- how many bytes of a piece are wanted
record Wanted (count before wanted : ℕ) : Type 0 where
  within : wanted ≤ count
  short : wanted ≤ before + 1
  some : 0 < count → 0 < wanted

wanted_is : (count before wanted : ℕ) → (count ≤ before → wanted ≡ count) → (before < count → wanted ≡ before + 1) → Wanted count before wanted
wanted_is count before wanted all part =
    elim (cases_lt before count) [
      | inl less ↦ let e : wanted ≡ before + 1 = part less in record { within = omega arith; short = omega arith; some = λ h. omega arith }
      | inr more ↦ let e : wanted ≡ count = all more in record { within = omega arith; short = omega arith; some = λ h. omega arith }
    ]

pub returns-in-Err-feed-clause-path : goal.returns-in-Err-feed-clause-path
returns-in-Err-feed-clause-path g c =
    let (read, took, count, stands) = c.loop-count.invariant.read in
    let all : List ℕ = c.read_piece.new.piece in
    let piece : List ℕ = take c.in-Ok.count all in
    let wanted : ℕ = c.wanted-wanted.result in
    let w = wanted_is c.in-Ok.count (c.args.place - c.loop-count.offset) wanted c.wanted-wanted.ensures.all c.wanted-wanted.ensures.some in
    let fed = Consumes-trans _ _ _ read piece took c.in-Ok.ensures.bytes.0 in
    let long : length piece ≡ c.in-Ok.count = length-take-le c.in-Ok.count all c.in-Ok.ensures.bound.0 in
    let front : take wanted piece ≡ take wanted all = take-take wanted c.in-Ok.count all w.within in
    let within_all : wanted ≤ length all = omega (arith, w.within, c.in-Ok.ensures.bound.0) in
    let answer = rw (c.in-Err-feed.is) at (c.feed.ensures.answer read stands) in
    path_refused c.args.limits c.args.place _ _ read piece wanted c.in-Err-feed.field-0 fed
    (omega (arith, w.short, count, c.loop-count.invariant.before)) (omega (arith, long, w.within))
    (λ more.
    subst (λ (xs : List ℕ). IsRefusal c.args.limits ((read ++ xs) ++ more) c.in-Err-feed.field-0) (sym front)
    (subst (λ (l : Allowed). IsRefusal l ((read ++ take wanted all) ++ more) c.in-Err-feed.field-0) c.loop-count.invariant.limits (answer.1 more)))

pub returns-then-place-offset-clause-path : goal.returns-then-place-offset-clause-path
returns-then-place-offset-clause-path g c =
    let (read, took, count, stands) = c.loop-count.invariant.read in
    let all : List ℕ = c.read_piece.new.piece in
    let piece : List ℕ = take c.in-Ok.count all in
    let wanted : ℕ = c.wanted-wanted.result in
    let w = wanted_is c.in-Ok.count (c.args.place - c.loop-count.offset) wanted c.wanted-wanted.ensures.all c.wanted-wanted.ensures.some in
    let fed = Consumes-trans _ _ _ read piece took c.in-Ok.ensures.bytes.0 in
    let long : length piece ≡ c.in-Ok.count = length-take-le c.in-Ok.count all c.in-Ok.ensures.bound.0 in
    let front : take wanted piece ≡ take wanted all = take-take wanted c.in-Ok.count all w.within in
    let within_all : wanted ≤ length all = omega (arith, w.within, c.in-Ok.ensures.bound.0) in
    let taken : length (take wanted all) ≡ wanted = length-take-le wanted all within_all in
    let exact : wanted ≡ c.args.place - c.loop-count.offset + 1 =
    c.wanted-wanted.ensures.some (omega (arith, c.if-place-offset.true, c.loop-count.invariant.before)) in
    let reached : length read + wanted ≡ c.args.place + 1 = omega (arith, exact, count, c.loop-count.invariant.before) in
    let here : length (read ++ take wanted all) ≡ c.args.place + 1 = length-append read (take wanted all) ∙ (ap (λ (n : ℕ). length read + n) taken ∙ reached) in
    let answer = subst (λ (l : Allowed). IsViableWithin l.depth (read ++ take wanted all) × (length (read ++ take wanted all) ≤ l.bytes))
    c.loop-count.invariant.limits
    (rw (c.in-Ok-feed.is) at (c.feed.ensures.answer read stands)) in
    let taken_all = c.feed.ensures.stands in
    let live = rw (c.in-Ok-feed.is) at c.feed.ensures.refusal in
    path_found c.args.limits c.args.place _ _ read piece wanted c.path.result fed reached (omega (arith, long, w.within)) (omega (arith, here, answer.1))
    (subst (λ (xs : List ℕ). IsViableWithin c.args.limits.depth (read ++ xs)) (sym front) answer.0)
    (λ text rest h.
    c.path.ensures.taken (read ++ take wanted all) rest text (taken_all read stands) live
    (subst (λ (xs : List ℕ). IsText text ((read ++ xs) ++ rest)) front h)
    ∙ ap (λ (n : ℕ). path_at n text) here)

-- where the place lies behind them, all bytes of a piece are wanted
all_wanted : (g : _) (c : goal.Else-place-offset g) → c.wanted-wanted.result ≡ c.in-Ok.count
all_wanted g c = c.wanted-wanted.ensures.all (omega (arith, c.if-place-offset.false, c.loop-count.invariant.before))

-- the input is no longer than allowed with the bytes of this read
within : (g : _) (c : goal.Else-place-offset g) → c.loop-count.offset + c.in-Ok.count ≤ c.args.limits.bytes
within g c =
    let (read, took, count, stands) = c.loop-count.invariant.read in
    let all : List ℕ = c.read_piece.new.piece in
    let taken : length (take c.in-Ok.count all) ≡ c.in-Ok.count = length-take-le c.in-Ok.count all c.in-Ok.ensures.bound.0 in
    let long : length (take c.wanted-wanted.result all) ≡ c.in-Ok.count = ap (λ (n : ℕ). length (take n all)) (all_wanted g c) ∙ taken in
    let answer = subst (λ (l : Allowed). IsViableWithin l.depth (read ++ take c.wanted-wanted.result all)
    × (length (read ++ take c.wanted-wanted.result all) ≤ l.bytes)) c.loop-count.invariant.limits
    (rw (c.in-Ok-feed.is) at (c.feed.ensures.answer read stands)) in
    let here : length (read ++ take c.wanted-wanted.result all) ≡ length read + length (take c.wanted-wanted.result all) =
    length-append read (take c.wanted-wanted.result all) in
    omega (arith, here, long, count, answer.1)

pub loop-count-smaller : goal.loop-count-smaller
loop-count-smaller g c = let w = within g c in omega (arith, w, c.in-Ok.count-test)

pub loop-count-preserved : goal.loop-count-preserved
loop-count-preserved g c =
    let (read, took, count, stands) = c.loop-count.invariant.read in
    let all : List ℕ = c.read_piece.new.piece in
    let piece : List ℕ = take c.in-Ok.count all in
    let fed = Consumes-trans _ _ _ read piece took c.in-Ok.ensures.bytes.0 in
    let long : length piece ≡ c.in-Ok.count = length-take-le c.in-Ok.count all c.in-Ok.ensures.bound.0 in
    let total : length (read ++ piece) ≡ c.loop-count.offset + c.in-Ok.count =
    length-append read piece ∙ (ap (λ (n : ℕ). n + length piece) count ∙ ap (λ (n : ℕ). c.loop-count.offset + n) long) in
    let taken_all = c.feed.ensures.stands in
    let live = rw (c.in-Ok-feed.is) at c.feed.ensures.refusal in
    record {
      read = (read ++ piece, fed, total, subst (λ (n : ℕ). StandsFor c.feed.new.self (read ++ take n all)) (all_wanted g c) (taken_all read stands));
      live = live;
      limits = c.feed.ensures.limits ∙ c.loop-count.invariant.limits;
      before = omega (arith, c.if-place-offset.false);
      within = within g c;
      few = search rules;
      unfailed = search rules;
      given = given_more _ _ _ _ _ c.in-Ok.ensures.given c.loop-count.invariant.given;
    }
