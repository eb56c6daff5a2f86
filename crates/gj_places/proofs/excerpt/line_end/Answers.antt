use Rattle.std.proofs.Common.{arith, ◌≡◌, ◌+◌, ◌++◌, ◌∷◌, [], List, ℕ, ap, sym, ◌∙◌, take, drop, get_or, refl, false}
use Rattle.std.proofs.lemmas.Bool.Decides.{nat_tests}
use Rattle.std.proofs.lemmas.List.{take_rest}
use Rattle.gj_places.specs.Lines.{last_line, has_line_feed}
use Rattle.gj_places.proofs.CountedPieces.{last_line-feed, rest_has, parted}
use Rattle.gj_places.proofs.KeptLines.{last_line-none, last_line-longer}
use Rattle.gj_places.proofs.excerpt.line_end.Goals as goal

pub returns-in-Some : goal.returns-in-Some
returns-in-Some c =
    let bytes = c.args.bytes.now in
    let last = c.in-Some.last in
    let front = take last bytes ++ 10 ∷ [] in
    let back = drop (last + 1) bytes in
    let is : get_or bytes last 0 ≡ 10 = grind (arith, nat_tests, c.in-Some.ensures.1) in
    let none : has_line_feed back ≡ false = rest_has bytes (last + 1) (λ k from within is. c.in-Some.ensures.0.after k from within is) in
    let parts : front ++ back ≡ bytes = parted bytes last 10 c.in-Some.ensures.0.high is in
    take_rest bytes (last + 1)
    ∙ sym (ap last_line (sym parts) ∙ last_line-longer front back none
    ∙ ap (λ (line : List ℕ). line ++ back) (last_line-feed (take last bytes) 10 refl))

pub returns-in-None : goal.returns-in-None
returns-in-None c = sym (last_line-none c.args.bytes.now (rest_has c.args.bytes.now 0 (λ k from within is. c.in-None.ensures k from within is)))
