-- Lemmas on a cursor that passes bytes of a text.
use Rattle.geolint_report.proofs.Common.{arith, ◌≡◌, ◌≤◌, ℕ, ◌+◌, ◌++◌, List, ap, sym, ◌∙◌, subst, length, take, drop, length-append, Option, Some, None}
use Rattle.geolint_report.proofs.Common.{StandsFor, Framing}
use Rattle.std.proofs.Common.{length-take-le, length-drop}
use Rattle.std.proofs.lemmas.List.{take-append-le, take-take, take_all}
use Rattle.std.proofs.Math.Seq.{take-add}
use Rattle.std.specs.Prelude.{IfSome}
use Rattle.gj_json.specs.declared.path.Path.{Path}
use Rattle.gj_places.specs.declared.lines.Lines.{Lines}
use Rattle.geolint_report.specs.declared.every.cursor.Cursor.{Cursor}
use Rattle.geolint_report.specs.declared.every.cursor.Mark.{Mark}
use Rattle.geolint_report.specs.declared.every.text_path.TextPath.{TextPath}
use Rattle.geolint_report.specs.Every.{GaveFrom, GaveBy}
use Rattle.geolint_report.specs.Cursors.{Passed, StandsBy, StandsIn}
use Rattle.geolint_report.specs.Internal.TextPaths.{StandsIn as Follows}
use Rattle.geolint_report.specs.Marks.{IsMark, IsMarkBy}
use Rattle.geolint_report.specs.Sites.{IsSpot, IsPathOf, LeadsTo, text_of}

-- the first of the bytes that a read gave stand behind those before its place
pub taken : (text piece : List ℕ) (place count m : ℕ) → count ≤ length piece → m ≤ count → GaveFrom text place count piece
    → take (place + m) text ≡ take place text ++ take m piece
taken text piece place count m bound few gave =
    let short : length (take count piece) ≡ count = length-take-le count piece bound in
    let front : take m (drop place text) ≡ take m piece =
    ap (λ (ys : List ℕ). take m ys) gave.given
    ∙ (take-append-le m (take count piece) (drop (place + count) text) (omega (arith, few, short)) ∙ take-take m count piece few) in
    take-add place m text ∙ ap (λ (ys : List ℕ). take place text ++ ys) front

pub taken-within : (text piece : List ℕ) (place count m : ℕ) → count ≤ length piece → m ≤ count → place ≤ length text → GaveFrom text place count piece
    → place + m ≤ length text
taken-within text piece place count m bound few within gave =
    let short : length (take count piece) ≡ count = length-take-le count piece bound in
    let long : length (drop place text) ≡ count + length (drop (place + count) text) =
    ap (λ (ys : List ℕ). length ys) gave.given
    ∙ (length-append (take count piece) (drop (place + count) text) ∙ ap (λ (n : ℕ). n + length (drop (place + count) text)) short) in
    omega (arith, few, within, long, length-drop place text)

-- what it kept is right where the texts of the file are set apart in the same way
same-last : (text : List ℕ) (old new : Cursor) → new.last ≡ old.last → new.text_path.framing ≡ old.text_path.framing
    → IfSome old.last (λ mark. IsMark old.text_path.framing text mark.place mark) → IfSome new.last (λ mark. IsMark new.text_path.framing text mark.place mark)
same-last text old new last kind right =
    subst (λ (framing : Option Framing). IfSome new.last (λ mark. IsMark framing text mark.place mark)) (sym kind)
    (subst (λ (mark : Option Mark). IfSome mark (λ mark. IsMark old.text_path.framing text mark.place mark)) (sym last) right)

-- it passed the first of these bytes
pub StandsIn-more : (text piece : List ℕ) (count m : ℕ) (old new : Cursor) → count ≤ length piece → m ≤ count → GaveFrom text old.passed count piece
    → new.passed ≡ old.passed + m
    → ((front : List ℕ) → Passed old front → Passed new (front ++ take m piece)) → new.last ≡ old.last → new.text_path.framing ≡ old.text_path.framing
    → StandsIn text old → StandsIn text new
StandsIn-more text piece count m old new bound few gave passed passes last kind stands =
    let here : Passed new (take old.passed text ++ take m piece) = passes (take old.passed text) stands.passed in
    let all : take new.passed text ≡ take old.passed text ++ take m piece =
    ap (λ (n : ℕ). take n text) passed ∙ taken text piece old.passed count m bound few gave in
    record {
      within = subst (λ (n : ℕ). n ≤ length text) (sym passed) (taken-within text piece old.passed count m bound few stands.within gave);
      passed = subst (λ (ys : List ℕ). Passed new ys) (sym all) here;
      last = same-last text old new last kind stands.last;
    }

-- the same, where the source tells its bytes
pub StandsBy-more : (text : Option (List ℕ)) (piece : List ℕ) (count m : ℕ) (old new : Cursor) → count ≤ length piece → m ≤ count
    → GaveBy text old.passed count piece → new.passed ≡ old.passed + m
    → ((front : List ℕ) → Passed old front → Passed new (front ++ take m piece)) → new.last ≡ old.last → new.text_path.framing ≡ old.text_path.framing
    → StandsBy text old → StandsBy text new
StandsBy-more None piece count m old new bound few gave passed passes last kind stands = tt
StandsBy-more (Some text) piece count m old new bound few gave passed passes last kind stands =
    StandsIn-more text piece count m old new bound few gave passed passes last kind stands

-- ---- the place before the last byte that it passed

told-path : (framing : Option Framing) (text : List ℕ) (place : ℕ) (path : Option Path) → place + 1 ≤ length text
    → IfSome path (λ path. IsPathOf (text_of framing (take (place + 1) text)) path) → LeadsTo framing text place path
told-path framing text place None within led = tt
told-path framing text place (Some path) within led = (omega (arith, within), led)

pub StandsIn-kept : (text piece : List ℕ) (count place : ℕ) (mark : Mark) (old new : Cursor) → count ≤ length piece → 1 ≤ count → length piece ≡ 1
    → GaveFrom text place count piece → old.passed ≡ place
    → new.passed ≡ place + 1 → ((front : List ℕ) → Passed old front → Passed new (front ++ piece)) → new.last ≡ Some mark → mark.place ≡ place
    → mark.spot.line ≡ old.lines.line → mark.spot.column ≡ old.lines.column
    → ((front : List ℕ) → Passed new front → IfSome mark.path (λ path. IsPathOf (text_of new.text_path.framing front) path))
    → StandsIn text old → StandsIn text new
StandsIn-kept text piece count place mark old new bound some one gave was passed passes last here line column leads stands =
    let framing = new.text_path.framing in
    let whole : take 1 piece ≡ piece = take_all 1 piece (omega (arith, one)) in
    let before = subst (λ (n : ℕ). Passed old (take n text)) was stands.passed in
    let started : place ≤ length text = subst (λ (n : ℕ). n ≤ length text) was stands.within in
    let all : take (place + 1) text ≡ take place text ++ piece =
    taken text piece place count 1 bound some gave ∙ ap (λ (ys : List ℕ). take place text ++ ys) whole in
    let after : Passed new (take (place + 1) text) = subst (λ (ys : List ℕ). Passed new ys) (sym all) (passes (take place text) before) in
    let within : place + 1 ≤ length text = taken-within text piece place count 1 bound some started gave in
    let spot : IsSpot text place mark.spot = record { within = started; line = line ∙ before.lines.line; column = column ∙ before.lines.column } in
    let is : IsMark framing text place mark = (here, spot, told-path framing text place mark.path within (leads (take (place + 1) text) after)) in
    record {
      within = subst (λ (n : ℕ). n ≤ length text) (sym passed) within;
      passed = subst (λ (n : ℕ). Passed new (take n text)) (sym passed) after;
      last = subst (λ (kept : Option Mark). IfSome kept (λ mark. IsMark framing text mark.place mark)) (sym last)
          (subst (λ (n : ℕ). IsMark framing text n mark) (sym here) is);
    }

pub StandsBy-kept : (text : Option (List ℕ)) (piece : List ℕ) (count place : ℕ) (mark : Mark) (old new : Cursor) → count ≤ length piece → 1 ≤ count
    → length piece ≡ 1 → GaveBy text place count piece → old.passed ≡ place
    → new.passed ≡ place + 1 → ((front : List ℕ) → Passed old front → Passed new (front ++ piece)) → new.last ≡ Some mark → mark.place ≡ place
    → mark.spot.line ≡ old.lines.line → mark.spot.column ≡ old.lines.column
    → ((front : List ℕ) → Passed new front → IfSome mark.path (λ path. IsPathOf (text_of new.text_path.framing front) path))
    → StandsBy text old → StandsBy text new
StandsBy-kept None piece count place mark old new bound some one gave was passed passes last here line column leads stands = tt
StandsBy-kept (Some text) piece count place mark old new bound some one gave was passed passes last here line column leads stands =
    StandsIn-kept text piece count place mark old new bound some one gave was passed passes last here line column leads stands

-- ---- the place at the end

StandsIn-ended : (text : List ℕ) (place : ℕ) (mark : Mark) (old new : Cursor) → old.passed ≡ place → new.passed ≡ old.passed → new.lines ≡ old.lines
    → new.text_path ≡ old.text_path
    → new.last ≡ Some mark → mark.place ≡ place → mark.spot.line ≡ old.lines.line → mark.spot.column ≡ old.lines.column → mark.path ≡ None → StandsIn text old
    → StandsIn text new
StandsIn-ended text place mark old new was passed lines path last here line column none stands =
    let framing = new.text_path.framing in
    let before = subst (λ (n : ℕ). Passed old (take n text)) was stands.passed in
    let started : place ≤ length text = subst (λ (n : ℕ). n ≤ length text) was stands.within in
    let spot : IsSpot text place mark.spot = record { within = started; line = line ∙ before.lines.line; column = column ∙ before.lines.column } in
    let is : IsMark framing text place mark = (here, spot, subst (λ (p : Option Path). LeadsTo framing text place p) (sym none) tt) in
    let front = take old.passed text in
    record {
      within = subst (λ (n : ℕ). n ≤ length text) (sym passed) stands.within;
      passed = subst (λ (n : ℕ). Passed new (take n text)) (sym passed) (record {
        lines = subst (λ (l : Lines). StandsFor l front) (sym lines) stands.passed.lines;
        follows = subst (λ (p : TextPath). Follows p front) (sym path) stands.passed.follows;
      });
      last = subst (λ (kept : Option Mark). IfSome kept (λ mark. IsMark framing text mark.place mark)) (sym last)
          (subst (λ (n : ℕ). IsMark framing text n mark) (sym here) is);
    }

pub StandsBy-ended : (text : Option (List ℕ)) (place : ℕ) (mark : Mark) (old new : Cursor) → old.passed ≡ place → new.passed ≡ old.passed
    → new.lines ≡ old.lines → new.text_path ≡ old.text_path
    → new.last ≡ Some mark → mark.place ≡ place → mark.spot.line ≡ old.lines.line → mark.spot.column ≡ old.lines.column → mark.path ≡ None → StandsBy text old
    → StandsBy text new
StandsBy-ended None place mark old new was passed lines path last here line column none stands = tt
StandsBy-ended (Some text) place mark old new was passed lines path last here line column none stands =
    StandsIn-ended text place mark old new was passed lines path last here line column none stands

-- ---- the place that it kept is right

pub IsMarkBy-kept : (framing : Option Framing) (text : Option (List ℕ)) (place : ℕ) (cursor : Cursor) (found : Option Mark) → cursor.text_path.framing ≡ framing
    → IfSome found (λ mark. (cursor.last ≡ Some mark) × (mark.place ≡ place)) → StandsBy text cursor → IfSome found (λ mark. IsMarkBy framing text place mark)
IsMarkBy-kept framing text place cursor None kind is stands = tt
IsMarkBy-kept framing None place cursor (Some mark) kind (last, here) stands = here
IsMarkBy-kept framing (Some text) place cursor (Some mark) kind (last, here) stands =
    let kept : IsMark cursor.text_path.framing text mark.place mark =
    subst (λ (last : Option Mark). IfSome last (λ mark. IsMark cursor.text_path.framing text mark.place mark)) last stands.last in
    subst (λ (f : Option Framing). IsMark f text place mark) kind (subst (λ (n : ℕ). IsMark cursor.text_path.framing text n mark) here kept)

pub StandsBy-new : (cursor : Cursor) → ((text : List ℕ) → StandsIn text cursor) → (text : Option (List ℕ)) → StandsBy text cursor
StandsBy-new cursor stands None = tt
StandsBy-new cursor stands (Some text) = stands text

-- a place without a path stands where it stood
pub IsMarkBy-bare : (framing : Option Framing) (text : Option (List ℕ)) (place : ℕ) (mark : Mark) → IsMarkBy framing text place mark
    → IsMarkBy framing text place (record { place = mark.place; spot = mark.spot; path = None })
IsMarkBy-bare framing None place mark is = is
IsMarkBy-bare framing (Some text) place mark (here, spot, leads) = (here, spot, tt)
