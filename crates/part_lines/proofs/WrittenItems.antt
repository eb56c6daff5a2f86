-- What is put one after another, and with commas between, some items at a time.
use Rattle.std.proofs.Common.{◌≡◌, ◌<◌, ◌≤◌, ◌+◌, ℕ, Bool, true, false, List, [], ◌∷◌, ◌++◌, length, get_or, take, refl, ap, sym, ◌∙◌, append_assoc}
use Rattle.std.proofs.Common.{codes, drop, flat_map}
use Rattle.std.specs.Fmt.{digits}
use Rattle.std.specs.Prelude.{Result, Ok, Err, OnOk}
use Rattle.std.proofs.lemmas.List.{take_all}
use Rattle.std.proofs.lemmas.List.Concat.{flat_map-append}
use Rattle.json.specs.Print.{escape_byte, quoted}
use Rattle.serde_json.specs.Data.{Data, boolean}
use Rattle.serde_json.specs.View.{items_of}
use Rattle.serde_json.specs.Written as serde
use Rattle.serde_json.specs.Written.{compact_text, members_text}
use Rattle.geolint_report.proofs.ElementsInTurn.{parts-more}
use Rattle.geolint_report.specs.Line.{truth}
use Rattle.part_lines.specs.LineText.{Named, num, members_of, members_with, object_of, array_of, items_text, more_text, body_text}
use Rattle.part_lines.specs.Lines.{line_base}
use Rattle.part_lines.specs.declared.line.PartLine.{PartLine}

-- what is put after something else
pub then : (start middle new first last : List ℕ) → middle ≡ start ++ first → new ≡ middle ++ last → new ≡ start ++ (first ++ last)
then start middle new first last before is = is ∙ (ap (λ (ys : List ℕ). ys ++ last) before ∙ append_assoc start first last)

-- and what is put last
pub ends : {T E : Type 0} (r : Result T E) (start middle new first last whole : List ℕ) → middle ≡ start ++ first → OnOk r (new ≡ middle ++ last)
    → first ++ last ≡ whole
    → OnOk r (new ≡ start ++ whole)
ends (Ok x) start middle new first last whole before is same = then start middle new first last before is ∙ ap (λ (ys : List ℕ). start ++ ys) same
ends (Err x) start middle new first last whole before is same = is

-- ---- items

pub items-more : (ds more : List Data) → items_text (ds ++ more) ≡ items_text ds ++ items_text more
items-more ds more = flat_map-append (λ (d : Data). codes "," ++ compact_text d) ds more

-- those of one element more
pub wrote-next : {X : Type 0} (f : X → List Data) (xs : List X) (i : ℕ) (d : X) (start old new : List ℕ) → i < length xs
    → old ≡ start ++ items_text (flat_map f (take i xs)) → new ≡ old ++ items_text (f (get_or xs i d))
    → new ≡ start ++ items_text (flat_map f (take (i + 1) xs))
wrote-next f xs i d start old new within before is =
    let all : flat_map f (take (i + 1) xs) ≡ flat_map f (take i xs) ++ f (get_or xs i d) = parts-more f xs i d within in
    then start old new (items_text (flat_map f (take i xs))) (items_text (f (get_or xs i d))) before is
    ∙ ap (λ (ys : List ℕ). start ++ ys) (sym (ap items_text all ∙ items-more (flat_map f (take i xs)) (f (get_or xs i d))))

pub wrote-all : {X : Type 0} (f : X → List Data) (xs : List X) (i : ℕ) (start new : List ℕ) → length xs ≤ i
    → new ≡ start ++ items_text (flat_map f (take i xs)) → new ≡ start ++ items_text (flat_map f xs)
wrote-all f xs i start new end all = all ∙ ap (λ ys. start ++ items_text (flat_map f ys)) (take_all i xs end)

-- ---- the text of an array, and of an object

items-end : (ds : List Data) → serde.items_text true (items_of ds) ≡ items_text ds ++ codes "]"
items-end [] = refl
items-end (d ∷ ds) =
    ap (λ (l : List ℕ). 44 ∷ (compact_text d ++ l)) (items-end ds)
    ∙ ap (λ (l : List ℕ). 44 ∷ l) (sym (append_assoc (compact_text d) (items_text ds) (codes "]")))

array-text : (ds : List Data) → codes "[" ++ (drop 1 (items_text ds) ++ codes "]") ≡ compact_text (array_of ds)
array-text [] = refl
array-text (d ∷ ds) =
    ap (λ (l : List ℕ). 91 ∷ l) (append_assoc (compact_text d) (items_text ds) (codes "]") ∙ ap (λ (l : List ℕ). compact_text d ++ l) (sym (items-end ds)))

-- an array was put of these items
pub array-put : {T E : Type 0} (r : Result T E) (start items new : List ℕ) (ds : List Data) → items ≡ items_text ds
    → OnOk r (new ≡ start ++ (codes "[" ++ (drop 1 items ++ codes "]")))
    → OnOk r (new ≡ start ++ compact_text (array_of ds))
array-put (Ok x) start items new ds are is =
    is ∙ ap (λ (l : List ℕ). start ++ l) (ap (λ (l : List ℕ). codes "[" ++ (drop 1 l ++ codes "]")) are ∙ array-text ds)
array-put (Err x) start items new ds are is = is

pub truth-text : (b : Bool) → compact_text (boolean b) ≡ truth b
truth-text true = refl
truth-text false = refl

regroup : (name value more end : List ℕ) → 44 ∷ (name ++ 58 ∷ (value ++ (more ++ end))) ≡ ((44 ∷ (name ++ 58 ∷ value)) ++ more) ++ end
regroup name value more end = simp append_assoc

members-end : (ms : List Named) → members_text true (members_of ms) ≡ more_text ms ++ codes "}"
members-end [] = refl
members-end (m ∷ ms) =
    ap (λ (l : List ℕ). 44 ∷ (quoted m.0 ++ 58 ∷ (compact_text m.1 ++ l))) (members-end ms)
    ∙ regroup (quoted m.0) (compact_text m.1) (more_text ms) (codes "}")

pub more-append : (ms more : List Named) → more_text (ms ++ more) ≡ more_text ms ++ more_text more
more-append ms more = flat_map-append (λ (m : Named). codes "," ++ (quoted m.0 ++ (codes ":" ++ compact_text m.1))) ms more

-- the object of a line without its checksum
abbrev pub line-members : PartLine → List Named
line-members line = (codes "geolint_part", num 2) ∷ members_with line (line_base line) line.checked.verdict line.listed

pub line-ends : (line : PartLine) → compact_text (object_of (line-members line)) ≡ body_text line ++ codes "}"
unfolding body_text escape_byte digits
line-ends line =
    ap (λ (l : List ℕ). codes "{\"geolint_part\":2" ++ l) (members-end (members_with line (line_base line) line.checked.verdict line.listed))
