-- What is read of the items of an array, with one item more.
use Rattle.part_lines.proofs.Common.{◌≡◌, ℕ, ◌+◌, ◌<◌, ◌≤◌, arith, Some, List, [], ◌∷◌, ◌++◌, length, get_or, take, refl, ap, sym, subst, ◌∙◌, map}
use Rattle.part_lines.proofs.Common.{replicate, All, Kind, Warnings, Note}
use Rattle.std.proofs.Common.{zero, suc, Option, append_assoc, append-nil}
use Rattle.std.proofs.lemmas.List.{take_more, take_all, get_or-map, length-map}
use Rattle.gj_coords.specs.Warnings.{Warning, warning_at}
use Rattle.gj_coords.specs.WarningsStand.{StandsFor}
use Rattle.serde_json.specs.Data.{Data, Items}
use Rattle.serde_json.specs.View.{view, items_of}
use Rattle.serde_json.specs.declared.value.Value.{Value}
use Rattle.part_lines.specs.LineObject.{IsWarningIn, AreWarnings, AreWarningsOf, IsNoteIn, AreNotes}

pub seen-more : (values : List Value) (i : ℕ) (value : Value) → i < length values → value ≡ get_or values i value
    → take (i + 1) (map view values) ≡ take i (map view values) ++ view value ∷ []
seen-more values i value within is =
    let less : i < length (map view values) = subst (λ (n : ℕ). i < n) (sym (length-map values view)) within in
    take_more (map view values) i (view value) less
    ∙ ap (λ (it : Data). take i (map view values) ++ it ∷ []) (get_or-map view values i value (view value) within ∙ ap view (sym is))

pub seen-all : (values : List Value) (i : ℕ) → length values ≤ i → take i (map view values) ≡ map view values
seen-all values i end = take_all i (map view values) (subst (λ (n : ℕ). n ≤ i) (sym (length-map values view)) end)

warnings-more : (begin : ℕ) (items : List Data) (warnings : List Warning) (it : Data) (kind : Kind) (many place : ℕ) → AreWarnings begin items warnings
    → IsWarningIn it begin kind many place → AreWarnings begin (items ++ it ∷ []) (warnings ++ replicate many (warning_at place kind))
warnings-more begin [] warnings it kind many place are is =
    let more = replicate many (warning_at place kind) in
    (kind, many, place, [], is, ap (λ (ws : List Warning). ws ++ more) are ∙ sym (append-nil more), refl)
warnings-more begin (one ∷ items) warnings it kind many place are is =
    let more = replicate many (warning_at place kind) in
    let (k, m, p, rest, first, split, others) = are in (
      k,
      m,
      p,
      rest ++ more,
      first,
      ap (λ (ws : List Warning). ws ++ more) split ∙ append_assoc (replicate m (warning_at p k)) rest more,
      warnings-more begin items rest it kind many place others is,
    )

-- the warnings of both
abbrev pub Joins : Warnings → Warnings → Warnings → Type 0
Joins one other both = (warnings others : List Warning) → StandsFor one warnings → StandsFor other others → StandsFor both (warnings ++ others)

-- so many warnings of a kind at one place, as an item says
abbrev pub AreOf : ℕ → Data → Warnings → Type 0
AreOf begin it more = (kind : Kind) × (many : ℕ) × (place : ℕ) × IsWarningIn it begin kind many place × StandsFor more (replicate many (warning_at place kind))

pub joined-more : (begin : ℕ) (items : List Data) (it : Data) (old more new : Warnings) → AreWarningsOf begin items old → AreOf begin it more
    → Joins old more new
    → AreWarningsOf begin (items ++ it ∷ []) new
joined-more begin items it old more new before here joins =
    let (warnings, are, stands) = before in
    let (kind, many, place, is, stand) = here in
    let others = replicate many (warning_at place kind) in
    (warnings ++ others, warnings-more begin items warnings it kind many place are is, joins warnings others stands stand)

pub notes-more : (begin : ℕ) (items : List Data) (notes : List Note) (it : Data) (note : Note) (number : ℕ) → AreNotes begin items notes
    → IsNoteIn it begin note number
    → AreNotes begin (items ++ it ∷ []) (notes ++ note ∷ [])
notes-more begin [] notes it note number are is = (note, number, [], is, ap (λ (ns : List Note). ns ++ note ∷ []) are, refl)
notes-more begin (one ∷ items) notes it note number are is =
    let (n, k, rest, first, split, others) = are in
    (n, k, rest ++ note ∷ [], first, ap (λ (ns : List Note). ns ++ note ∷ []) split, notes-more begin items rest it note number others is)

-- ---- where an item is not read

pub seen-here : (values : List Value) (i : ℕ) (value : Value) → i < length values → value ≡ get_or values i value
    → (i < length (map view values)) × (get_or (map view values) i (view value) ≡ view value)
seen-here values i value within is = (
  subst (λ (n : ℕ). i < n) (sym (length-map values view)) within,
  get_or-map view values i value (view value) within ∙ ap view (sym is),
)

warning-at : (begin : ℕ) (items : List Data) (warnings : List Warning) (i : ℕ) (d : Data) → AreWarnings begin items warnings → i < length items
    → (kind : Kind) × (many : ℕ) × (place : ℕ) × IsWarningIn (get_or items i d) begin kind many place
warning-at begin [] warnings i d are within = absurd (omega arith)
warning-at begin (one ∷ items) warnings zero d are within = let (k, m, p, rest, first, split, others) = are in (k, m, p, first)
warning-at begin (one ∷ items) warnings (suc i) d are within = let
    (k, m, p, rest, first, split, others) = are in warning-at begin items rest i d others (omega arith)

pub no-warning : (begin : ℕ) (values : List Value) (i : ℕ) (value : Value) (all : Warnings) → i < length values → value ≡ get_or values i value
    → ((kind : Kind) (many place : ℕ) → IsWarningIn (view value) begin kind many place → ⊥) → AreWarningsOf begin (map view values) all → ⊥
no-warning begin values i value all within is none are =
    let here = seen-here values i value within is in
    let (kind, many, place, one) = warning-at begin (map view values) are.0 i (view value) are.1 here.0 in
    none kind many place (subst (λ (it : Data). IsWarningIn it begin kind many place) here.1 one)

pub not-all : (P : Data → Type 0) (values : List Value) (i : ℕ) (value : Value) → i < length values → value ≡ get_or values i value
    → (P (view value) → ⊥) → All P (map view values) → ⊥
not-all P values i value within is none all =
    let here = seen-here values i value within is in
    none (subst P here.1 (all i (view value) here.0))

-- ---- an array

pub items_of-same : (one other : List Data) → items_of one ≡ items_of other → one ≡ other
items_of-same [] [] is = refl
items_of-same [] (it ∷ more) is = absurd cc
items_of-same (it ∷ more) [] is = absurd cc
items_of-same (it ∷ more) (that ∷ others) is =
    let rest : items_of more ≡ items_of others = cc in
    let same : more ≡ others = items_of-same more others rest in
    cc

-- the array of these values
pub array-is : (found : Option Items) (values slice : List Value) → Some (items_of (map view values)) ≡ found → slice ≡ values
    → found ≡ Some (items_of (map view slice))
array-is found values slice is same = sym is ∙ ap (λ (vs : List Value). Some (items_of (map view vs))) (sym same)

pub same-items : (found : Option Items) (items : List Data) (values : List Value) → found ≡ Some (items_of items)
    → found ≡ Some (items_of (map view values)) → items ≡ map view values
same-items found items values one other =
    let is : items_of items ≡ items_of (map view values) = cc in
    items_of-same items (map view values) is
