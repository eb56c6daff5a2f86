-- An object in which nothing is found changes nothing around it.
use Rattle.gj_rules.proofs.Common.{Bool, Core, Features, Frame, Geometries, Geometry, List, MemberSlots, MemberWarnings, Role, Simple, TypeValue}
use Rattle.gj_rules.proofs.Common.{Warnings, Word, ap, arith, false, frame_in, gathered, get_or, if◌then◌else◌, is_allowed, joined_none_last, length}
use Rattle.gj_rules.proofs.Common.{map, member_of, mode_behind, refl, reverse, settled, suc, sym, take, taken_in, true, warned_for, zero, [], ◌-◌}
use Rattle.gj_rules.proofs.Common.{◌<◌, ◌∙◌, ◌∷◌}
use Rattle.std.proofs.Common.{◌≡◌, ℕ, Option, Some}
use Rattle.std.proofs.Common.{None}
use Rattle.std.proofs.Math.Seq.{take-suc}
use Rattle.std.proofs.lemmas.List.{reverse-append}
use Rattle.gj_json.specs.declared.names.Known.{Known}
use Rattle.gj_json.specs.declared.names.Known.TheVariants.{Bbox}
use Rattle.gj_coords.specs.Internal.KeptWarnings.{no_warnings, joined}
use Rattle.gj_rules.specs.declared.frame.Frame as D
use Rattle.gj_rules.specs.Internal.FrameCalls.{collected, warned_as, warned_by, is_collection, is_nested}
use Rattle.gj_rules.specs.Internal.EventSteps.{popped}
use Rattle.gj_rules.specs.Internal.RulesState.{no_frame}
use Rattle.gj_rules.specs.Internal.GatheredWarnings.{none_gathered}
use Rattle.gj_rules.specs.Internal.OpenMembers as S
use Rattle.gj_rules.specs.Internal.Summaries.{none_found}
use Rattle.gj_rules.proofs.Objects.MemberSlots.{joined-none}

-- ---- nothing is found where a few looks show it

collected_none : (f : Frame) (role : Role) (value : TypeValue) → value.word ≡ Word.GeometryCollection → is_nested role (Some value) ≡ false
    → f.gathered.geometries ≡ no_warnings → collected role f.slots.place f.gathered.geometries ≡ no_warnings
collected_none f Role.Part value w n g =
    let e : is_collection value.word ≡ is_collection Word.GeometryCollection = ap is_collection w in
    cc
collected_none f _ value w n g = g

as_none : (word : Word) (f : Frame) (value : TypeValue) → value.word ≡ word → is_nested f.slots.role (Some value) ≡ false → f.gathered ≡ none_gathered
    → ((simple : Simple) → warned_for simple f.slots.shapes ≡ no_warnings) → warned_as word f ≡ no_warnings
as_none Word.Point f value w n g h = h Simple.Point
as_none Word.MultiPoint f value w n g h = h Simple.MultiPoint
as_none Word.LineString f value w n g h = h Simple.LineString
as_none Word.MultiLineString f value w n g h = h Simple.MultiLineString
as_none Word.Polygon f value w n g h = h Simple.Polygon
as_none Word.MultiPolygon f value w n g h = h Simple.MultiPolygon
as_none Word.GeometryCollection f value w n g h = collected_none f f.slots.role value w n (ap (λ (x : MemberWarnings). x.geometries) g)
as_none Word.Feature f value w n g h = ap (λ (x : MemberWarnings). x.geometry) g
as_none Word.FeatureCollection f value w n g h = ap (λ (x : MemberWarnings). x.features) g
as_none Word.Other f value w n g h = refl

if_none : (b : Bool) (w : Warnings) → w ≡ no_warnings → (if b then w else no_warnings) ≡ no_warnings
if_none true w e = e
if_none false w e = refl

by_none : (o : Option TypeValue) (f : Frame) → is_nested f.slots.role o ≡ false → f.gathered ≡ none_gathered
    → ((simple : Simple) → warned_for simple f.slots.shapes ≡ no_warnings) → warned_by o f ≡ no_warnings
by_none None f n g h = refl
by_none (Some value) f n g h = if_none (is_allowed f.slots.role value.word) (warned_as value.word f) (as_none value.word f value refl n g h)

pub clean_is : (f : Frame) → f.gathered ≡ none_gathered → ((simple : Simple) → warned_for simple f.slots.shapes ≡ no_warnings)
    → is_nested f.slots.role f.slots.type_value ≡ false → S.settled f.slots ≡ None → settled f ≡ none_found
clean_is f g h n e =
    let own : f.gathered.own ≡ no_warnings = ap (λ (x : MemberWarnings). x.own) g in
    let w : joined f.gathered.own (warned_by f.slots.type_value f) ≡ no_warnings =
    ap (joined f.gathered.own) (by_none f.slots.type_value f n g h) ∙ (joined_none_last f.gathered.own ∙ own) in
    λ i. record { fault = e i; warned = w i }

-- ---- and it changes nothing

none_gathered_more : (name : Known) (g : MemberWarnings) → gathered name no_warnings g ≡ g
none_gathered_more Geometries g = ap (λ (w : Warnings). record g { geometries = w }) (joined_none_last g.geometries)
none_gathered_more Geometry g = ap (λ (w : Warnings). record g { geometry = w }) (joined_none_last g.geometry)
none_gathered_more Features g = ap (λ (w : Warnings). record g { features = w }) (joined_none_last g.features)
none_gathered_more Bbox g = ap (λ (w : Warnings). record g { own = w }) (joined_none_last g.own)
none_gathered_more _ g = refl

pub nothing_taken : (name : Known) (f : Frame) → taken_in name none_found f ≡ f
nothing_taken name f =
    ap (λ (s : MemberSlots). record { slots = s; gathered = gathered name no_warnings f.gathered }) (joined-none name f.slots)
    ∙ ap (λ (g : MemberWarnings). record { slots = f.slots; gathered = g }) (none_gathered_more name f.gathered)

-- the frame that was kept before it is the innermost one
pub left_clean : (role : Role) (s : Core) (frames : List D.Frame) (n : ℕ) → 0 < n → n < length frames
    → record s { mode = mode_behind role; top = frame_in (get_or frames (n - 1) no_frame); outer = map frame_in (reverse (take (n - 1) frames)) }
    ≡ popped (map frame_in (reverse (take n frames))) role none_found s
left_clean role s frames zero h k = absurd (omega arith)
left_clean role s frames (suc n) h k =
    let one : suc n - 1 ≡ n = omega arith in
    rw one (rw (take-suc frames n no_frame (omega arith)) (rw (reverse-append (take n frames) (get_or frames n no_frame ∷ []))
    (ap (λ (f : Frame). record s { mode = mode_behind role; top = f; outer = map frame_in (reverse (take n frames)) })
    (sym (nothing_taken (member_of role) (frame_in (get_or frames n no_frame)))))))
