-- What an object asks for of what is found in its coordinates, by its type.
use Rattle.gj_rules.proofs.Common.{Findings, Shapes, Simple, Tree, TypeValue, Warnings, Word, alike, ap, asked, asked_as, coordinates_faults}
use Rattle.gj_rules.proofs.Common.{joined_none_last, least, no_shapes, refl, shape_for, shapes_of, simple_of, subst, sym, warned_for, ◌∙◌}
use Rattle.std.specs.Prelude.{◌≡◌, Option, Some, None}
use Rattle.gj_coords.specs.Internal.KeptWarnings.{no_warnings, joined}
use Rattle.gj_coords.proofs.Lists.KeptOfShortValues.{line_kept}
use Rattle.gj_rules.specs.Internal.Summaries.{found_as, shape_found}

-- ---- none is kept: there is no fault for any type, and no warning

pub no_fault : (simple : Simple) → shape_for simple no_shapes ≡ None
no_fault Simple.Point = refl
no_fault _ = refl

pub no_warnings_for : (simple : Simple) → warned_for simple no_shapes ≡ no_warnings
no_warnings_for Simple.Point = refl
no_warnings_for _ = refl

pub no_warnings_more : (w : Warnings) (simple : Simple) → joined w (warned_for simple no_shapes) ≡ w
no_warnings_more w simple = ap (joined w) (no_warnings_for simple) ∙ joined_none_last w

-- ---- that of one type is kept

pub one_fault : (simple : Simple) (found : Findings) → shape_for simple (alike found) ≡ found.fault
one_fault Simple.Point found = refl
one_fault _ found = refl

pub one_warned : (simple : Simple) (found : Findings) → warned_for simple (alike found) ≡ found.warned
one_warned Simple.Point found = refl
one_warned _ found = refl

pub found_is : (simple : Simple) (value : Tree) → shape_found simple (shapes_of value) ≡ found_as simple value
found_is Simple.LineString value =
    ap (λ (w : Warnings). record { fault = least (coordinates_faults Simple.LineString value); warned = w }) (line_kept value)
found_is other value = refl

pub asked_is : (simple : Simple) (value : Tree) → asked_as (Some simple) (shapes_of value) ≡ alike (found_as simple value)
asked_is simple value = ap alike (found_is simple value)

-- ---- what is asked for twice

word_twice : (word : Word) (shapes : Shapes) → asked_as (simple_of word) (asked_as (simple_of word) shapes) ≡ asked_as (simple_of word) shapes
word_twice Word.Point shapes = refl
word_twice _ shapes = refl

-- the first type stays, where it has come
abbrev pub TypeStays : Option TypeValue → Option TypeValue → Type 0
TypeStays None new = Unit {0}
TypeStays (Some value) new = new ≡ Some value

pub asked_twice : (old new : Option TypeValue) (shapes : Shapes) → TypeStays old new → asked new (asked old shapes) ≡ asked new shapes
asked_twice None new shapes h = refl
asked_twice (Some value) new shapes h =
    subst (λ (o : Option TypeValue). asked o (asked (Some value) shapes) ≡ asked o shapes) (sym h) (word_twice value.word shapes)
