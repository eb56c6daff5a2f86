-- What is taken into a frame, one after the other.
use Rattle.gj_rules.proofs.Common.{Fault, Features, Frame, Geometries, Geometry, MemberSlots, MemberWarnings, Members, Warnings, ap, end_of_object}
use Rattle.gj_rules.proofs.Common.{gathered, is_known, joined_assoc, lesser, member, refl, taken_any, true, ◌∙◌}
use Rattle.std.proofs.Common.{◌≡◌, Option, Some, None}
use Rattle.gj_json.specs.declared.names.Known.{Known}
use Rattle.gj_json.specs.declared.names.Known.TheVariants.{Bbox}
use Rattle.gj_json.specs.Names.{known_of}
use Rattle.gj_rules.specs.Internal.FrameCalls.{member_taken, members_taken}
use Rattle.gj_rules.specs.Internal.GatheredWarnings.{gathered_any}
use Rattle.gj_rules.specs.Internal.OpenMembers as S
use Rattle.gj_rules.specs.Internal.TextKept.{both}
use Rattle.gj_rules.proofs.Objects.MemberSlots.{joined-none, joined-twice}

some_twice : (name : Known) (a b : Warnings) (g : MemberWarnings) → gathered name b (gathered name a g) ≡ gathered_any name (both (Some a) (Some b)) g
some_twice Geometries a b g = ap (λ (w : Warnings). record g { geometries = w }) (joined_assoc g.geometries a b)
some_twice Geometry a b g = ap (λ (w : Warnings). record g { geometry = w }) (joined_assoc g.geometry a b)
some_twice Features a b g = ap (λ (w : Warnings). record g { features = w }) (joined_assoc g.features a b)
some_twice Bbox a b g = ap (λ (w : Warnings). record g { own = w }) (joined_assoc g.own a b)
some_twice _ a b g = refl

gathered_twice : (name : Known) (a b : Option Warnings) (g : MemberWarnings) → gathered_any name b (gathered_any name a g) ≡ gathered_any name (both a b) g
gathered_twice name None b g = refl
gathered_twice name (Some a) None g = refl
gathered_twice name (Some a) (Some b) g = some_twice name a b g

-- nothing changes nothing
pub taken_none : (name : Known) (f : Frame) → taken_any name None None f ≡ f
taken_none name f = ap (λ (s : MemberSlots). record f { slots = s }) (joined-none name f.slots)

-- one after the other
pub taken_twice : (name : Known) (f : Frame) (x y : Option Fault) (a b : Option Warnings) → is_known name ≡ true
    → taken_any name y b (taken_any name x a f) ≡ taken_any name (lesser x y) (both a b) f
taken_twice name f x y a b k =
    let first : Frame = record { slots = S.joined name (lesser x y) f.slots; gathered = gathered_any name b (gathered_any name a f.gathered) } in
    let e : taken_any name y b (taken_any name x a f) ≡ first = ap (λ (s : MemberSlots). record first { slots = s }) (joined-twice name f.slots x y k) in
    e ∙ ap (λ (g : MemberWarnings). record first { gathered = g }) (gathered_twice name a b f.gathered)

-- what is shown depends on nothing that is gathered
pub members_shown : (ms : Members) (f : Frame) → (members_taken ms f).slots ≡ S.members_taken ms f.slots
members_shown end_of_object f = refl
members_shown (member place name end value more) f = members_shown more (member_taken place (known_of name) value f)
