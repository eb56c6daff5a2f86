-- Values of `coordinates` and of `bbox` have as many faults wherever they stand.
use Rattle.gj_split.proofs.Common.{Bool, Elements, Fault, List, Tree, ap, array, constant, drop, element, end_of_array, false, if◌then◌else◌, length}
use Rattle.gj_split.proofs.Common.{map, number, object, refl, string, sym, take, true, ℕ, [], ◌++◌, ◌+◌, ◌∙◌, ◌∷◌, ◌≡◌}
use Rattle.std.proofs.Common.{◌&&◌, not, nat_lt, length-append}
use Rattle.std.proofs.Common.{is_some}
use Rattle.std.specs.List.{flat_map}
use Rattle.std.proofs.lemmas.List.{length-map, take-map, drop-map}
use Rattle.std.specs.Option.{option_eq}
use Rattle.std.specs.Cmp.Lexicographic.{pointwise}
use Rattle.gj_number.specs.Exact.{same_parts}
use Rattle.gj_number.specs.Value.{value_of}
use Rattle.gj_coords.specs.declared.fault.Rule.{Rule}
use Rattle.gj_coords.specs.declared.fault.Rule.TheVariants.{G11, G12, G13, G14, G15, G16, G20, G21}
use Rattle.gj_coords.specs.declared.simple.Simple.{Simple}
use Rattle.gj_coords.specs.declared.simple.Simple.TheVariants.{Point, MultiPoint, LineString, MultiLineString, Polygon, MultiPolygon}
use Rattle.gj_coords.specs.Fault.{fault_at}
use Rattle.gj_coords.specs.Items.{items, elements_of}
use Rattle.gj_coords.specs.Ring.{exact_value, first_values, agree, last_of}
use Rattle.gj_coords.specs.Shape.{Shape, few, held_number, number_or, position, several, list, line, is_empty, unclosed, ring, shape_of, coordinates_faults}
use Rattle.gj_coords.specs.Box.{is_wrong_length, bbox_faults}
use Rattle.gj_split.proofs.MovedTrees.{moved, moved_elements}

-- ---- as many faults

abbrev pub SameCount : List Fault → List Fault → Type 0
SameCount xs ys = length xs ≡ length ys

pub both_count : (us bs xs ys : List Fault) → SameCount us xs → SameCount bs ys → SameCount (us ++ bs) (xs ++ ys)
both_count us bs xs ys e f = length-append us bs ∙ (ap (λ n. n + length bs) e ∙ (ap (λ n. length xs + n) f ∙ sym (length-append xs ys)))

pub one_if : (a b : Bool) (x y : Fault) → a ≡ b → SameCount (if a then x ∷ [] else []) (if b then y ∷ [] else [])
one_if true true x y e = refl
one_if false false x y e = refl
one_if other another x y e = cc

same_empty : (xs ys : List Fault) → SameCount xs ys → is_empty xs ≡ is_empty ys
same_empty [] [] e = refl
same_empty (x ∷ xs) (y ∷ ys) e = refl
same_empty other another e = cc

pub moved_items : (f : ℕ → ℕ) (es : Elements) → items (moved_elements f es) ≡ map (moved f) (items es)
moved_items f end_of_array = refl
moved_items f (element value more) = ap (λ vs. moved f value ∷ vs) (moved_items f more)

-- of a shape: wherever a value stands
abbrev pub Steady : (ℕ → ℕ) → Shape → Type 0
Steady f shape = (v : Tree) → SameCount (shape (moved f v)) (shape v)

pub each_count : (f : ℕ → ℕ) (shape : Shape) → Steady f shape → (vs : List Tree) → SameCount (flat_map shape (map (moved f) vs)) (flat_map shape vs)
each_count f shape h [] = refl
each_count f shape h (v ∷ vs) = both_count (shape (moved f v)) (flat_map shape (map (moved f) vs)) (shape v) (flat_map shape vs) (h v) (each_count f shape h vs)

few_count : (f : ℕ → ℕ) (needed : ℕ) (rule : Rule) (place other : ℕ) (vs : List Tree)
    → SameCount (few needed rule place (map (moved f) vs)) (few needed rule other vs)
few_count f needed rule place other vs =
    one_if (nat_lt (length (map (moved f) vs)) needed) (nat_lt (length vs) needed) (fault_at place rule) (fault_at other rule)
    (ap (λ n. nat_lt n needed) (length-map vs (moved f)))

-- ---- positions

held_count : (f : ℕ → ℕ) → Steady f held_number
held_count f (number place literal end) = if_not (is_some (value_of literal))
  where
    if_not : (t : Bool) → SameCount (if t then [] else fault_at (f place) G16 ∷ []) (if t then [] else fault_at place G16 ∷ [])
    if_not true = refl
    if_not false = refl
held_count f other = refl

number_count : (f : ℕ → ℕ) (rule : Rule) → Steady f (number_or rule)
number_count f rule (number place literal end) = refl
number_count f rule other = refl

abbrev position_of : ℕ → List Tree → List Fault
position_of place vs = few 2 G12 place vs ++ (flat_map held_number (take 3 vs) ++ flat_map (number_or G11) (drop 3 vs))

items_count : (f : ℕ → ℕ) (place other : ℕ) (vs : List Tree) → SameCount (position_of place (map (moved f) vs)) (position_of other vs)
items_count f place other vs =
    both_count _ _ _ _ (few_count f 2 G12 place other vs) (both_count _ _ _ _
    (ap (λ ts. length (flat_map held_number ts)) (take-map (moved f) 3 vs) ∙ each_count f held_number (held_count f) (take 3 vs))
    (ap (λ ts. length (flat_map (number_or G11) ts)) (drop-map (moved f) 3 vs) ∙ each_count f (number_or G11) (number_count f G11) (drop 3 vs)))

position_count : (f : ℕ → ℕ) → Steady f position
position_count f (array place elements close) =
    ap (λ vs. length (position_of (f place) vs)) (moved_items f elements) ∙ items_count f (f place) place (items elements)
position_count f other = refl

-- ---- lists, lines and linear rings

several_count : (f : ℕ → ℕ) (needed : ℕ) (shape : Shape) → Steady f shape → Steady f (several needed shape)
several_count f needed shape h (array place elements close) =
    ap (λ vs. length (few needed G13 (f place) vs ++ flat_map shape vs)) (moved_items f elements)
    ∙ both_count _ _ _ _ (few_count f needed G13 (f place) place (items elements)) (each_count f shape h (items elements))
several_count f needed shape h other = refl

same_value : (f : ℕ → ℕ) (v : Tree) → exact_value (moved f v) ≡ exact_value v
same_value f (constant which place) = refl
same_value f other = refl

same_values : (f : ℕ → ℕ) (vs : List Tree) → map exact_value (map (moved f) vs) ≡ map exact_value vs
same_values f [] = refl
same_values f (v ∷ vs) = rw (same_value f v, same_values f vs) refl

moved_elements_of : (f : ℕ → ℕ) (v : Tree) → elements_of (moved f v) ≡ map (moved f) (elements_of v)
moved_elements_of f (constant which place) = refl
moved_elements_of f (number place literal end) = refl
moved_elements_of f (string place content end) = refl
moved_elements_of f (array place elements close) = moved_items f elements
moved_elements_of f (object place members close) = refl

same_first : (f : ℕ → ℕ) (v : Tree) → first_values (moved f v) ≡ first_values v
same_first f v =
    ap (λ vs. map exact_value (take 3 vs)) (moved_elements_of f v)
    ∙ (ap (λ vs. map exact_value vs) (take-map (moved f) 3 (elements_of v)) ∙ same_values f (take 3 (elements_of v)))

moved_last : (f : ℕ → ℕ) (v : Tree) (vs : List Tree) → last_of (moved f v) (map (moved f) vs) ≡ moved f (last_of v vs)
moved_last f v [] = refl
moved_last f v (next ∷ more) = moved_last f next more

same_agree : (f : ℕ → ℕ) (v : Tree) (vs : List Tree) → agree (moved f v) (last_of (moved f v) (map (moved f) vs)) ≡ agree v (last_of v vs)
same_agree f v vs =
    ap (λ w. agree (moved f v) w) (moved_last f v vs)
    ∙ (ap (λ xs. pointwise (option_eq same_parts) xs (first_values (moved f (last_of v vs)))) (same_first f v)
    ∙ ap (λ xs. pointwise (option_eq same_parts) (first_values v) xs) (same_first f (last_of v vs)))

unclosed_count : (f : ℕ → ℕ) (place other : ℕ) (vs : List Tree) → SameCount (unclosed place (map (moved f) vs)) (unclosed other vs)
unclosed_count f place other [] = refl
unclosed_count f place other (v ∷ vs) =
    one_if _ _ (fault_at place G15) (fault_at other G15)
    (both (same_empty _ _ (each_count f position (position_count f) (v ∷ vs))) (ap not (same_agree f v vs)))
  where
    both : {a b c d : Bool} → a ≡ c → b ≡ d → (a && b) ≡ (c && d)
    both {a} {d = d} e g = ap (λ x. a && x) g ∙ ap (λ x. x && d) e

ring_count : (f : ℕ → ℕ) → Steady f ring
ring_count f (array place elements close) =
    ap (λ vs. length (few 4 G14 (f place) vs ++ (flat_map position vs ++ unclosed (f place) vs))) (moved_items f elements)
    ∙ both_count _ _ _ _ (few_count f 4 G14 (f place) place (items elements))
    (both_count _ _ _ _ (each_count f position (position_count f) (items elements)) (unclosed_count f (f place) place (items elements)))
ring_count f other = refl

-- ---- the six types, and bounding boxes

shape_count : (f : ℕ → ℕ) (simple : Simple) → Steady f (shape_of simple)
shape_count f Point = position_count f
shape_count f MultiPoint = several_count f 0 position (position_count f)
shape_count f LineString = several_count f 2 position (position_count f)
shape_count f MultiLineString = several_count f 0 line (several_count f 2 position (position_count f))
shape_count f Polygon = several_count f 0 ring (ring_count f)
shape_count f MultiPolygon = several_count f 0 (list ring) (several_count f 0 ring (ring_count f))

pub coordinates_count : (f : ℕ → ℕ) (simple : Simple) → Steady f (coordinates_faults simple)
coordinates_count f simple (array place end_of_array close) = refl
coordinates_count f simple (array place (element value more) close) = shape_count f simple (array place (element value more) close)
coordinates_count f simple (constant which place) = shape_count f simple (constant which place)
coordinates_count f simple (number place literal end) = shape_count f simple (number place literal end)
coordinates_count f simple (string place content end) = shape_count f simple (string place content end)
coordinates_count f simple (object place members close) = shape_count f simple (object place members close)

abbrev box_of : ℕ → List Tree → List Fault
box_of place vs = (if is_wrong_length (length vs) then fault_at place G21 ∷ [] else []) ++ flat_map (number_or G20) vs

pub bbox_count : (f : ℕ → ℕ) → Steady f bbox_faults
bbox_count f (array place elements close) =
    ap (λ vs. length (box_of (f place) vs)) (moved_items f elements)
    ∙ both_count _ _ _ _ (one_if _ _ (fault_at (f place) G21) (fault_at place G21) (ap is_wrong_length (length-map (items elements) (moved f))))
    (each_count f (number_or G20) (number_count f G20) (items elements))
bbox_count f other = refl
