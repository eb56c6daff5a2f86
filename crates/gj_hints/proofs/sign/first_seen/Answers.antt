use Rattle.std.proofs.Common.{◌≡◌, ℕ, true, false, List, [], ◌∷◌, Option, Some, None, get_or, map, refl, sym, ap, ◌∙◌, if◌then◌else◌}
use Rattle.std.proofs.lemmas.List.{at_drop_more, at_drop_all}
use Rattle.std.specs.Borrow.{Bor}
use Rattle.gj_hints.specs.Signs.{first_seen, is_seen}
use Rattle.gj_hints.specs.declared.clues.Clues.{Clues}
use Rattle.gj_hints.specs.declared.kind.Hint.{Hint}
use Rattle.gj_hints.specs.declared.sign.Sign.{Sign}
use Rattle.gj_hints.proofs.sign.first_seen.Goals as goal

abbrev Row : Type 0
Row = Sign × Bor (List ℕ) × Hint

abbrev in_rows : Clues → List Row → Option Hint
in_rows clues rows = first_seen (map (λ (row : Row). (row.0, row.1.now, row.2)) rows) clues

abbrev none_there : Bor (List ℕ)
none_there = record { ref_ptr = (0, 0); now = [] }

abbrev start : Row
start = (Sign.Begins, none_there, Hint.Gzip)

-- the first row is seen, or it is passed over
here : (clues : Clues) (row : Row) (rows : List Row) → is_seen row.0 row.1.now clues ≡ true → in_rows clues (row ∷ rows) ≡ Some row.2
unfolding first_seen
here clues row rows seen = ap (λ t. if t then Some row.2 else in_rows clues rows) seen

later : (clues : Clues) (row : Row) (rows : List Row) → is_seen row.0 row.1.now clues ≡ false → in_rows clues (row ∷ rows) ≡ in_rows clues rows
unfolding first_seen
later clues row rows seen = ap (λ t. if t then Some row.2 else in_rows clues rows) seen

none : (clues : Clues) → in_rows clues [] ≡ None
unfolding first_seen
none clues = refl

pub loop-i-init : goal.loop-i-init
loop-i-init c = refl

pub returns-then-is_seen : goal.returns-then-is_seen
returns-then-is_seen c =
    sym (c.loop-i.invariant ∙ (at_drop_more (in_rows c.args.clues.now) c.args.signs.now c.loop-i.i start c.loop-i-test.true
    ∙ here c.args.clues.now (get_or c.args.signs.now c.loop-i.i start) _ (sym c.is_seen.ensures ∙ c.if-is_seen.true)))

pub loop-i-preserved : goal.loop-i-preserved
loop-i-preserved c =
    c.loop-i.invariant ∙ (at_drop_more (in_rows c.args.clues.now) c.args.signs.now c.loop-i.i start c.loop-i-test.true
    ∙ later c.args.clues.now (get_or c.args.signs.now c.loop-i.i start) _ (sym c.is_seen.ensures ∙ c.if-is_seen.false))

pub returns : goal.returns
returns c =
    sym (c.loop-i.invariant ∙ (at_drop_all (in_rows c.args.clues.now) c.args.signs.now c.loop-i.i c.loop-i-test.false ∙ none c.args.clues.now))
