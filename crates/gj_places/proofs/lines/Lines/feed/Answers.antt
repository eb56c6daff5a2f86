use Rattle.std.proofs.Common.{arith, ◌≡◌, ◌+◌, ◌++◌, ◌∷◌, [], List, ℕ, ap, subst, ◌∙◌, take, drop, get_or, append_assoc}
use Rattle.std.proofs.lemmas.Bool.Decides.{nat_tests}
use Rattle.std.proofs.lemmas.List.{take_rest}
use Rattle.gj_places.specs.declared.lines.TheConstants.{LINE_FEED}
use Rattle.gj_places.specs.Counting.{StandsFor}
use Rattle.gj_places.proofs.CountedPieces.{line_of-on, column_of-on, rest_has, parted}
use Rattle.gj_places.proofs.lines.Lines.feed.Goals as goal

pub returns-then-is_plain : goal.returns-then-is_plain
returns-then-is_plain c = λ bytes stands.
    let plain = c.is_plain.ensures c.if-is_plain.true in
    let line = line_of-on bytes c.args.piece.now plain.0 in
    let column = column_of-on bytes c.args.piece.now plain.0 in
    record {
      line = omega (arith, stands.line, line);
      column = omega (arith, stands.column, column, plain.1, c.saturating_add-self.ensures);
    }

pub go_on-requires : goal.go_on-requires
go_on-requires c = rw (take_rest c.args.piece.now (c.in-Some.last + 1)) (rest_has c.args.piece.now (c.in-Some.last + 1)
    (λ k from within is. c.in-Some.ensures.0.after k from within is))

pub go_on-requires-in-None : goal.go_on-requires-in-None
go_on-requires-in-None c = rest_has c.args.piece.now 0 (λ k from within is. c.in-None.ensures k from within is)

pub returns-in-Some : goal.returns-in-Some
returns-in-Some c = λ bytes stands.
    let piece = c.args.piece.now in
    let last = c.in-Some.last in
    let is : get_or piece last 0 ≡ LINE_FEED = grind (arith, nat_tests, c.in-Some.ensures.1) in
    let joined : (bytes ++ (take last piece ++ LINE_FEED ∷ [])) ++ drop (last + 1) piece ≡ bytes ++ piece =
    append_assoc bytes _ _ ∙ ap (λ (ys : List ℕ). bytes ++ ys) (parted piece last LINE_FEED c.in-Some.ensures.0.high is) in
    let after = c.go_on.ensures (bytes ++ (take last piece ++ LINE_FEED ∷ [])) (c.end_lines.ensures bytes stands) in
    subst (StandsFor c.go_on.new.self) (ap (λ (ys : List ℕ). (bytes ++ (take last piece ++ LINE_FEED ∷ [])) ++ ys) (take_rest piece (last + 1)) ∙ joined) after
