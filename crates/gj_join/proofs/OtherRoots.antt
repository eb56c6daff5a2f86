-- What is found in a text does not depend on the elements of `features`, where its type is not FeatureCollection.
use Rattle.std.proofs.Common.{◌≡◌, ◌⊎◌, ℕ, inl, inr, false, if◌then◌else◌, List, [], ◌∷◌, ◌++◌, Option, Some, None, refl, sym, ap, ◌∙◌}
use Rattle.std.specs.List.{AllByRecursion, flat_map}
use Rattle.gj_json.specs.declared.names.Known.{Known}
use Rattle.gj_json.specs.declared.names.Known.TheVariants.{Coordinates, Geometries, Geometry, Properties, Features, Bbox, Id}
use Rattle.gj_json.specs.declared.names.Word.{Word}
use Rattle.gj_json.specs.Tree.{object, Members}
use Rattle.gj_coords.specs.declared.fault.Fault.{Fault}
use Rattle.gj_coords.specs.declared.fault.Rule.TheVariants.{G3, G9}
use Rattle.gj_rules.specs.declared.member_slots.TypeValue.{TypeValue}
use Rattle.gj_rules.specs.declared.role.Role.{Role}
use Rattle.gj_rules.specs.FeatureFindings.{members_emptied, names_collection}
use Rattle.gj_rules.specs.Faults.{First, forbidden, optional, as_type, by_type, faults, first}
use Rattle.gj_rules.specs.Members.{one, same, first_type, forbidden_by, repeated}
use Rattle.gj_rules.specs.Role.{is_allowed}
use Rattle.gj_rules.proofs.Features.ByFeature.{no_parts}
use Rattle.gj_rules.proofs.Features.OwnText.{own_first, own_type, own_repeated}

-- ---- what depends on the type

-- an object of such a type, with these first members
abbrev typed : Word → ℕ → ℕ → (Known → Option First) → List Fault
typed word at place m = if is_allowed Role.Root word then flat_map (λ name. forbidden (m name)) (forbidden_by word) ++ as_type word place m else one at G3

none_flat : {A B : Type 0} (f : A → List B) (xs : List A) → flat_map f xs ≡ [] → AllByRecursion (λ x. f x ≡ []) xs
none_flat f [] e = tt
none_flat f (x ∷ xs) e = let p = no_parts (f x) (flat_map f xs) e in (p.0, none_flat f xs p.1)

module _ (place : ℕ) (m n : Known → Option First) (f g : First) (here : m Features ≡ Some f) (there : n Features ≡ Some g) (at : f.name_at ≡ g.name_at)
    (others : (name : Known) → same name Features ≡ false → n name ≡ m name) where
  forbids : forbidden (n Features) ≡ forbidden (m Features)
  forbids = ap forbidden there ∙ ap (λ p. one p G9) (sym at) ∙ sym (ap forbidden here)

  never : forbidden (m Features) ≡ [] → ⊥
  never e = let k : forbidden (Some f) ≡ [] = ap forbidden (sym here) ∙ e in cc

  -- it is forbidden there
  abbrev Alike : Word → ℕ → Type 0
  Alike word at = (typed word at place m ≡ typed word at place n) × (typed word at place m ≡ [] → ⊥)

  third : (x y : Known) (zs : List Fault) → flat_map (λ name. forbidden (m name)) (x ∷ y ∷ Features ∷ []) ++ zs ≡ [] → ⊥
  third x y zs e = never (none_flat (λ name. forbidden (m name)) (x ∷ y ∷ Features ∷ []) (no_parts (flat_map (λ name. forbidden (m name)) (x ∷ y ∷ Features ∷ [])) zs e).0).1.1.0

  simple : (word : Word) (at : ℕ) → typed word at place m ≡ flat_map (λ name. forbidden (m name)) (Geometry ∷ Properties ∷ Features ∷ []) ++ as_type word place m
      → typed word at place n ≡ flat_map (λ name. forbidden (n name)) (Geometry ∷ Properties ∷ Features ∷ []) ++ as_type word place n
      → as_type word place n ≡ as_type word place m → Alike word at
  simple word at e h k = (
    e ∙ sym (h ∙ rw (others Geometry refl, others Properties refl, forbids, k) refl),
    λ l. third Geometry Properties (as_type word place m) (sym e ∙ l),
  )

  typed_alike : (word : Word) (at : ℕ) → (word ≡ Word.FeatureCollection) ⊎ Alike word at
  typed_alike Word.FeatureCollection at = inl refl
  typed_alike Word.Other at = inr (refl, λ e. cc)
  typed_alike Word.Feature at = inr (
    rw (others Coordinates refl, others Geometries refl, forbids, others Geometry refl, others Properties refl, others Id refl) refl,
    λ e. third Coordinates Geometries (as_type Word.Feature place m) e,
  )
  typed_alike Word.GeometryCollection at = inr (simple Word.GeometryCollection at refl refl (rw (others Geometries refl) refl))
  typed_alike Word.Point at = inr (simple Word.Point at refl refl (rw (others Coordinates refl) refl))
  typed_alike Word.MultiPoint at = inr (simple Word.MultiPoint at refl refl (rw (others Coordinates refl) refl))
  typed_alike Word.LineString at = inr (simple Word.LineString at refl refl (rw (others Coordinates refl) refl))
  typed_alike Word.MultiLineString at = inr (simple Word.MultiLineString at refl refl (rw (others Coordinates refl) refl))
  typed_alike Word.Polygon at = inr (simple Word.Polygon at refl refl (rw (others Coordinates refl) refl))
  typed_alike Word.MultiPolygon at = inr (simple Word.MultiPolygon at refl refl (rw (others Coordinates refl) refl))

  by_type_alike : (o : Option TypeValue) → names_collection o ⊎ ((by_type o Role.Root place m ≡ by_type o Role.Root place n)
      × (by_type o Role.Root place m ≡ [] → ⊥))
  by_type_alike None = inr (refl, λ e. cc)
  by_type_alike (Some value) = typed_alike value.word value.place

-- ---- the text's object

-- another object with the same members, but for the elements of `features`
pub other_root : (place close : ℕ) (ms ns : Members) (f g : First) → first Features ms ≡ Some f → first Features ns ≡ Some g → f.name_at ≡ g.name_at
    → members_emptied ms ≡ members_emptied ns
    → names_collection (first_type ms) ⊎ ((faults Role.Root (object place ms close) ≡ faults Role.Root (object place ns close))
    × (faults Role.Root (object place ms close) ≡ [] → ⊥))
other_root place close ms ns f g here there at same_own =
    let others : (name : Known) → same name Features ≡ false → first name ns ≡ first name ms =
    λ name e. sym (own_first name ns e) ∙ ap (λ xs. first name xs) (sym same_own) ∙ own_first name ms e in
    let types : first_type ns ≡ first_type ms = sym (own_type ns) ∙ ap first_type (sym same_own) ∙ own_type ms in
    let repeats : repeated [] ns ≡ repeated [] ms = sym (own_repeated [] ns) ∙ ap (repeated []) (sym same_own) ∙ own_repeated [] ms in
    elim (by_type_alike place (λ name. first name ms) (λ name. first name ns) f g here there at others (first_type ms)) [
      | inl c ↦ inl c
      | inr k ↦ inr (
        rw (repeats, others Bbox refl, types) (ap (λ xs. repeated [] ms ++ (optional (first Bbox ms) ++ xs)) k.0),
        λ e. k.1 (no_parts (optional (first Bbox ms)) _ (no_parts (repeated [] ms) _ e).1).1,
      )
    ]
