-- Events that matter to no feature.
use Rattle.gj_rules.proofs.Common.{AllByRecursion, Bool, Coordinates, Core, Done, Due, Event, Feed, Features, Findings, Flat, Frame, G1, Geometries}
use Rattle.gj_rules.proofs.Common.{Geometry, Id, List, Mode, Names, Numbered, FeatureCount, MOST_FRAMES, Properties, Role, RootDue, State, Told, Tree}
use Rattle.gj_rules.proofs.Common.{TypeName, What, Word, ap, append_assoc, arith, at_of, blank, event_of, false, fault_at, flat_events, flats_events, idle}
use Rattle.gj_rules.proofs.Common.{is_feeding, is_known, length, levels_behind, located_events, map, member_of, names_step, number_event, numbers_of, refl, run}
use Rattle.gj_rules.proofs.Common.{same, slot_of, step, subst, suc, sym, true, uses, zero, [], ◌++◌, ◌+◌, ◌<◌, ◌^◌, ◌∙◌, ◌∷◌}
use Rattle.std.proofs.Common.{◌≡◌, ℕ, Option, Some}
use Rattle.gj_json.specs.declared.head.LatePoint.{LatePoint}
use Rattle.gj_json.specs.declared.head.Located.{Located}
use Rattle.gj_json.specs.declared.head.Opened.{Opened}
use Rattle.gj_json.specs.declared.head.Typed.{Typed}
use Rattle.gj_json.specs.declared.names.Known.{Known}
use Rattle.gj_json.specs.declared.names.Known.TheVariants.{Bbox}
use Rattle.gj_json.specs.Head.{typed_events, opened_events, point_events, late_point_events}
use Rattle.gj_json.specs.Ignored.{Leaves}
use Rattle.gj_number.specs.declared.decimal.Decimal.{Decimal}
use Rattle.gj_rules.specs.declared.feature.Feature.{Feature}
use Rattle.gj_rules.specs.declared.mode.Mode.TheVariants.{Elements}
use Rattle.gj_rules.specs.Internal.EventSteps.{due_step, element_step, fed, opening_fault, root_step}
use Rattle.gj_rules.specs.Internal.FrameCalls.{due_after, named}
use Rattle.gj_rules.specs.Internal.FeatureSteps.{Heard, IsHeard, at_element, at_end, at_id, begins, hear, hear_at, hears, in_array, lists}
use Rattle.gj_rules.proofs.Features.FeatureEvents.{due_unused, named_role}
use Rattle.gj_rules.proofs.Features.FeaturesSoFar.{Continues, hears-append}
use Rattle.gj_rules.proofs.Objects.AllMembers.{filled_object, joined_object}
use Rattle.gj_rules.proofs.Objects.OneMember.{due_other}
use Rattle.gj_rules.proofs.Texts.OneEventMore.{core, with_feed}
use Rattle.gj_rules.proofs.Texts.OneFlatMore.{split_told}
use Rattle.gj_rules.proofs.Texts.ValuesByEvents.{Good, IsNameOrEnd, Leads, fed_unheard, st}
use Rattle.gj_rules.proofs.Texts.WholePoints.{at, geometry_named, geometry_opened}

-- The events leave what was heard as it was.
abbrev pub Passes : Core → List Event → Type 0
Passes before inner = (xs rest : List Told) (s : State) (z : Findings) (h : Heard) → map event_of xs ≡ inner → before ≡ s.core → Leads MOST_FRAMES (xs ++ rest) s z
    → hears xs s h ≡ h

pub passed : (Says : List Feature → Type 0) (c : FeatureCount) (before : Core) (inner : List Event) → Passes before inner → Continues Says Says c c before inner
passed Says c before inner quiet xs rest s z h e same leads few was = subst (IsHeard Says c) (sym (quiet xs rest s z h e same leads)) was

-- ---- one after another

pub uncons : (xs : List Told) (e : Event) (es : List Event) → map event_of xs ≡ e ∷ es
    → (x : Told) × (ys : List Told) × (xs ≡ x ∷ ys) × (event_of x ≡ e) × (map event_of ys ≡ es)
uncons [] e es h = cc
uncons (x ∷ ys) e es h = (x, ys, refl, cc, cc)

no_more : (xs : List Told) → map event_of xs ≡ [] → xs ≡ []
no_more [] e = refl
no_more (x ∷ xs) e = cc

hear_name : (x : Told) (place : ℕ) (name : Known) (s : State) (h : Heard) → event_of x ≡ at place (What.Name name) → hear x s h ≡ h
hear_name x place name s h e = rw e refl

-- ---- where the value of an `id` does not begin

id_only : (n : Known) (r : Role) → same Id n ≡ false → at_id 0 (Due n) r ≡ false
id_only Id r e = cc
id_only _ r e = refl

abbrev AtId : State → Bool
AtId s = at_id s.core.skipped s.core.mode s.core.top.slots.role

abbrev AtElement : State → Bool
AtElement s = at_element s.core.skipped s.core.mode

fed_no_id : (name : Known) → same Id name ≡ false → (left taken : List Event) (y : Event) (v : Tree) (f : Frame) (o : List Frame) (a : Findings)
    → AtId (fed left y v taken (core 0 (Due name) f o a)) ≡ false
fed_no_id name i [] taken y v f o a = id_only name f.slots.role i
fed_no_id name i (next ∷ []) taken y v f o a = refl
fed_no_id name i (next ∷ (later ∷ more)) taken y v f o a = id_only name f.slots.role i

-- after another name
no_id : (x : Told) (place : ℕ) (name : Known) (k : ℕ) (m : Mode) (f : Frame) (o : List Frame) (a : Findings) (w : Feed)
    → event_of x ≡ at place (What.Name name) → same Id name ≡ false → AtId (step x (with_feed (core k m f o a) w)) ≡ false
no_id x place name (suc k) m f o a w e i = rw e refl
no_id x place name zero RootDue f o a w e i = rw e refl
no_id x place name zero Names f o a w e i =
    rw e (id_only (due_after name f) (named name place f).slots.role (due_other Id name (is_known name) (uses f.slots.role name) (slot_of name f.slots) f.slots.role refl refl i))
no_id x place name zero (Due Coordinates) f o a w e i = fed_no_id Coordinates refl w.left w.taken (event_of x) w.value f o a
no_id x place name zero (Due Bbox) f o a w e i = fed_no_id Bbox refl w.left w.taken (event_of x) w.value f o a
no_id x place name zero (Due n) f o a w e i = rw e refl
no_id x place name zero (Elements r) f o a w e i = rw e refl
no_id x place name zero Done f o a w e i = refl

-- ---- where no element begins

-- in a value in which nothing has a role, at a name, or after the text
abbrev Calm : ℕ → Mode → Type 0
Calm (suc k) m = Unit {0}
Calm zero Names = Unit {0}
Calm zero (Due Coordinates) = Unit {0}
Calm zero (Due Bbox) = Unit {0}
Calm zero Done = Unit {0}
Calm zero _ = ⊥

abbrev IsCalm : State → Type 0
IsCalm s = Calm s.core.skipped s.core.mode

calm_within : (n : ℕ) (m : Mode) → 0 < n → Calm n m
calm_within zero m l = absurd (omega (arith, l))
calm_within (suc n) m l = tt

fed_calm : (left taken : List Event) (y : Event) (v : Tree) (name : Known) (f : Frame) (o : List Frame) (a : Findings) → Calm 0 (Due name)
    → IsCalm (fed left y v taken (core 0 (Due name) f o a))
fed_calm [] taken y v name f o a c = c
fed_calm (next ∷ []) taken y v name f o a c = tt
fed_calm (next ∷ (later ∷ more)) taken y v name f o a c = c

-- after the start of an object
opens_calm : (x : Told) (rest : List Told) (place : ℕ) (k : ℕ) (m : Mode) (f : Frame) (o : List Frame) (a : Findings) (w : Feed)
    → event_of x ≡ at place What.OpenObject → Good MOST_FRAMES x rest (with_feed (core k m f o a) w) → IsCalm (step x (with_feed (core k m f o a) w))
opens_calm x rest place (suc k) m f o a w e g = rw e (calm_within (suc k + 1) m (omega arith))
opens_calm x rest place zero RootDue f o a w e g = rw e tt
opens_calm x rest place zero Names f o a w e g = absurd (subst (λ (y : Event). IsNameOrEnd y.what) e g)
opens_calm x rest place zero (Due Coordinates) f o a w e g = fed_calm w.left w.taken (event_of x) w.value Coordinates f o a tt
opens_calm x rest place zero (Due Bbox) f o a w e g = fed_calm w.left w.taken (event_of x) w.value Bbox f o a tt
opens_calm x rest place zero (Due n) f o a w e g = rw e tt
opens_calm x rest place zero (Elements r) f o a w e g = rw e tt
opens_calm x rest place zero Done f o a w e g = tt

fed_no_element : (name : Known) (left taken : List Event) (y : Event) (v : Tree) (f : Frame) (o : List Frame) (a : Findings)
    → AtElement (fed left y v taken (core 0 (Due name) f o a)) ≡ false
fed_no_element name [] taken y v f o a = refl
fed_no_element name (next ∷ []) taken y v f o a = refl
fed_no_element name (next ∷ (later ∷ more)) taken y v f o a = refl

-- after a name there
no_element : (x : Told) (place : ℕ) (name : Known) (k : ℕ) (m : Mode) (f : Frame) (o : List Frame) (a : Findings) (w : Feed)
    → event_of x ≡ at place (What.Name name) → Calm k m → AtElement (step x (with_feed (core k m f o a) w)) ≡ false
no_element x place name (suc k) m f o a w e c = rw e refl
no_element x place name zero Names f o a w e c = rw e refl
no_element x place name zero (Due Coordinates) f o a w e c = fed_no_element Coordinates w.left w.taken (event_of x) w.value f o a
no_element x place name zero (Due Bbox) f o a w e c = fed_no_element Bbox w.left w.taken (event_of x) w.value f o a
no_element x place name zero Done f o a w e c = refl
no_element x place name zero _ f o a w e c = absurd c

-- ---- the beginning of an object

hear_open : (x : Told) (place : ℕ) (s : State) (h : Heard) → event_of x ≡ at place What.OpenObject → hear x s h ≡ begins (AtId s) place h
hear_open x place s h e = rw e refl

hear_text : (x : Told) (place : ℕ) (word : Word) (s : State) (h : Heard) → event_of x ≡ at place (What.Text word) → AtElement s ≡ false → AtId s ≡ false
    → hear x s h ≡ h
hear_text x place word s h e l i = rw (e, l, i) refl

-- the rest of its beginning
type_passed : (ys rest : List Told) (s : State) (z : Findings) (h : Heard) (typed : Typed) → IsCalm s
    → map event_of ys ≡ at typed.name_at (What.Name TypeName) ∷ (at typed.word_at (What.Text typed.word) ∷ []) → hears ys s h ≡ h
type_passed ys rest s z h typed calm e =
    let c : Core = s.core in
    let y = uncons ys (at typed.name_at (What.Name TypeName)) _ e in
    let t = uncons y.1 (at typed.word_at (What.Text typed.word)) [] y.4 in
    let after : State = step y.0 s in
    rw (y.2, t.2, no_more t.1 t.4)
    (ap (λ (u : Heard). hear t.0 after u) (hear_name y.0 typed.name_at TypeName s h y.3)
    ∙ hear_text t.0 typed.word_at typed.word after h t.3
    (no_element y.0 typed.name_at TypeName c.skipped c.mode c.top c.outer c.answer s.feed y.3 calm)
    (no_id y.0 typed.name_at TypeName c.skipped c.mode c.top c.outer c.answer s.feed y.3 refl))

pub typed_heard : (xs rest : List Told) (s : State) (z : Findings) (h : Heard) (typed : Typed) → map event_of xs ≡ typed_events typed
    → Leads MOST_FRAMES (xs ++ rest) s z → hears xs s h ≡ begins (AtId s) typed.place h
typed_heard xs rest s z h typed e leads =
    let c : Core = s.core in
    let x = uncons xs (at typed.place What.OpenObject) _ e in
    let g = subst (λ (ts : List Told). Leads MOST_FRAMES (ts ++ rest) s z) x.2 leads in
    let calm = opens_calm x.0 (x.1 ++ rest) typed.place c.skipped c.mode c.top c.outer c.answer s.feed x.3 g.0 in
    ap (λ (ts : List Told). hears ts s h) x.2
    ∙ (type_passed x.1 rest (step x.0 s) z (hear x.0 s h) typed calm x.4 ∙ hear_open x.0 typed.place s h x.3)

-- a value of an `id` may begin so
pub typed_on : (Old New : List Feature → Type 0) (c d : FeatureCount) (before : Core) (typed : Typed)
    → ((n : ℕ) (h : Heard) → length h.told < 2 ^ 63 → IsHeard Old c h
    → IsHeard New d (begins (at_id before.skipped before.mode before.top.slots.role) typed.place h))
    → Continues Old New c d before (typed_events typed)
typed_on Old New c d before typed says xs rest s z h e same_core leads few was =
    subst (IsHeard New d) (sym (typed_heard xs rest s z h typed e leads))
    (subst (λ (q : Core). IsHeard New d (begins (at_id q.skipped q.mode q.top.slots.role) typed.place h)) same_core (says 0 h few was))

-- after a name
named_typed : (x : Told) (place : ℕ) (name : Known) (ys rest : List Told) (s : State) (z : Findings) (h : Heard) (typed : Typed)
    → event_of x ≡ at place (What.Name name) → same Id name ≡ false → map event_of ys ≡ typed_events typed → Leads MOST_FRAMES (ys ++ rest) (step x s) z
    → hears (x ∷ ys) s h ≡ h
named_typed x place name ys rest s z h typed e i es leads =
    let c : Core = s.core in
    let none : AtId (step x s) ≡ false = no_id x place name c.skipped c.mode c.top c.outer c.answer s.feed e i in
    ap (λ (u : Heard). hears ys (step x s) u) (hear_name x place name s h e)
    ∙ (typed_heard ys rest (step x s) z h typed es leads ∙ ap (λ (b : Bool). begins b typed.place h) none)

pub located_passed : (before : Core) (located : Located) → Passes before (located_events located)
located_passed before located xs rest s z h e same_core leads =
    let last : Event = at located.coordinates (What.Name Coordinates) in
    let x = uncons xs (at located.place (What.Name Geometry)) _ e in
    let k = split_told x.1 (typed_events located.typed) (last ∷ []) x.4 in
    let y = uncons k.1 last [] k.4 in
    let first : List Told = x.0 ∷ k.0 in
    let whole : xs ≡ first ++ k.1 = x.2 ∙ ap (λ (ts : List Told). x.0 ∷ ts) k.2 in
    let g = subst (λ (ts : List Told). Leads MOST_FRAMES (ts ++ rest) s z) whole leads in
    let on : Leads MOST_FRAMES (k.0 ++ (k.1 ++ rest)) (step x.0 s) z =
    subst (λ (ts : List Told). Leads MOST_FRAMES ts (step x.0 s) z) (append_assoc k.0 k.1 rest) g.1 in
    ap (λ (ts : List Told). hears ts s h) whole
    ∙ (hears-append first k.1 s h
    ∙ (ap (λ (u : Heard). hears k.1 (run first s) u) (named_typed x.0 located.place Geometry k.0 (k.1 ++ rest) s z h located.typed x.3 refl k.3 on)
    ∙ (ap (λ (ts : List Told). hears ts (run first s) h) (y.2 ∙ ap (λ (ts : List Told). y.0 ∷ ts) (no_more y.1 y.4))
    ∙ hear_name y.0 located.coordinates Coordinates (run first s) h y.3)))

pub opened_passed : (before : Core) (start : Opened) → Passes before (opened_events start)
opened_passed before start xs rest s z h e same_core leads =
    let c : Core = s.core in
    let x = uncons xs (at start.place (What.Name Properties)) _ e in
    let y = uncons x.1 (at start.bracket What.OpenObject) [] x.4 in
    let none : AtId (step x.0 s) ≡ false = no_id x.0 start.place Properties c.skipped c.mode c.top c.outer c.answer s.feed x.3 refl in
    ap (λ (ts : List Told). hears ts s h) (x.2 ∙ ap (λ (ts : List Told). x.0 ∷ ts) (y.2 ∙ ap (λ (ts : List Told). y.0 ∷ ts) (no_more y.1 y.4)))
    ∙ (ap (λ (u : Heard). hear y.0 (step x.0 s) u) (hear_name x.0 start.place Properties s h x.3)
    ∙ (hear_open y.0 start.bracket (step x.0 s) h y.3 ∙ ap (λ (b : Bool). begins b start.bracket h) none))

-- ---- within levels that have to close

hear_within : (k : ℕ) (what : What) (m : Mode) (f : Frame) (place n : ℕ) (h : Heard) → (levels_behind what (suc k) ≡ 0 → lists m ≡ false)
    → hear_at (suc k) m f what place n h ≡ h
hear_within zero What.CloseArray m f place n h l = rw (l refl) refl
hear_within (suc k) What.CloseArray m f place n h l = refl
hear_within k _ m f place n h l = refl

-- of which the last closes in no array of features, if it does
pub levels_passed : (xs : List Told) (inner : List Event) (k left : ℕ) (m : Mode) (f : Frame) (o : List Frame) (a : Findings) (w : Feed) (h : Heard)
    → map event_of xs ≡ inner → Leaves k inner left → (left ≡ 0 → lists m ≡ false) → hears xs (with_feed (core k m f o a) w) h ≡ h
levels_passed [] inner k left m f o a w h e l on = refl
levels_passed (x ∷ xs) [] k left m f o a w h e l on = cc
levels_passed (x ∷ xs) (y ∷ ys) zero left m f o a w h e l on = absurd l
levels_passed (x ∷ xs) (y ∷ ys) (suc k) left m f o a w h e l on =
    let i : event_of x ≡ y = cc in
    let j : map event_of xs ≡ ys = cc in
    let n : ℕ = levels_behind (event_of x).what (suc k) in
    let more : Leaves n ys left = subst (λ (z : Event). Leaves (levels_behind z.what (suc k)) ys left) (sym i) l in
    ap (hears xs (step x (with_feed (core (suc k) m f o a) w))) (hear_within k (event_of x).what m f (event_of x).place (at_of x) h (λ z. on (last n ys more z)))
    ∙ levels_passed xs ys n left m f o a idle h j more on
  where
    last : (n : ℕ) (ys : List Event) → Leaves n ys left → n ≡ 0 → left ≡ 0
    last n [] l z = sym l ∙ z
    last zero (y ∷ ys) l z = absurd l
    last (suc n) (y ∷ ys) l z = absurd (omega (arith, z))

numbers_leave : (numbers : List Numbered) (levels close : ℕ)
    → Leaves (suc (suc levels)) (map number_event numbers ++ record { place = close; what = What.CloseArray } ∷ []) (suc levels)
numbers_leave [] levels close = omega arith
numbers_leave (number ∷ numbers) levels close = numbers_leave numbers levels close

flat_leaves : (flat : Flat) (levels : ℕ) → Leaves (suc levels) (flat_events flat) (suc levels)
flat_leaves flat levels =
    let e : suc levels + 1 ≡ suc (suc levels) = omega arith in
    subst (λ n. Leaves n (map number_event (numbers_of flat) ++ record { place = flat.close; what = What.CloseArray } ∷ []) (suc levels)) (sym e)
    (numbers_leave (numbers_of flat) levels flat.close)

-- ---- arrays of numbers that a summary takes

-- what an array of numbers has
abbrev IsPart : What → Type 0
IsPart What.OpenArray = Unit {0}
IsPart What.CloseArray = Unit {0}
IsPart (What.Number value) = Unit {0}
IsPart _ = ⊥

abbrev AllOf : (What → Type 0) → List Event → Type 0
AllOf P es = AllByRecursion (λ (y : Event). P y.what) es

flat_all : (P : What → Type 0) → P What.OpenArray → P What.CloseArray → ((value : Option Decimal) → P (What.Number value)) → (flat : Flat) → AllOf P (flat_events flat)
flat_all P o c n flat = (o, numbers (numbers_of flat))
  where
    numbers : (ns : List Numbered) → AllOf P (map number_event ns ++ at flat.close What.CloseArray ∷ [])
    numbers [] = (c, tt)
    numbers (x ∷ xs) = (n _, numbers xs)

all_append : (P : What → Type 0) (xs ys : List Event) → AllOf P xs → AllOf P ys → AllOf P (xs ++ ys)
all_append P [] ys h k = k
all_append P (x ∷ xs) ys h k = (h.0, all_append P xs ys h.1 k)

flats_all : (flats : List Flat) → AllOf IsPart (flats_events flats)
flats_all [] = tt
flats_all (f ∷ fs) = all_append IsPart (flat_events f) (flats_events fs) (flat_all IsPart tt tt (λ v. tt) f) (flats_all fs)

-- a summary takes the next event, or the value has ended
abbrev IsFed : ℕ → Mode → Type 0
IsFed zero (Due Coordinates) = Unit {0}
IsFed zero (Due Bbox) = Unit {0}
IsFed zero Names = Unit {0}
IsFed _ _ = ⊥

no_part : (what : What) → IsNameOrEnd what → IsPart what → ⊥
no_part (What.Name name) n p = p
no_part What.CloseObject n p = p
no_part _ n p = n

fed_on : (name : Known) (left taken : List Event) (y : Event) (v : Tree) (f : Frame) (o : List Frame) (a : Findings) → IsFed 0 (Due name)
    → (let s : State = fed left y v taken (core 0 (Due name) f o a) in IsFed s.core.skipped s.core.mode)
fed_on name [] taken y v f o a i = i
fed_on name (next ∷ []) taken y v f o a i = tt
fed_on name (next ∷ (later ∷ more)) taken y v f o a i = i

fed_passed : (xs rest : List Told) (k : ℕ) (m : Mode) (f : Frame) (o : List Frame) (a : Findings) (w : Feed) (z : Findings) (h : Heard)
    → AllOf IsPart (map event_of xs) → IsFed k m → Leads MOST_FRAMES (xs ++ rest) (with_feed (core k m f o a) w) z
    → hears xs (with_feed (core k m f o a) w) h ≡ h
fed_passed [] rest k m f o a w z h p i leads = refl
fed_passed (x ∷ xs) rest zero Names f o a w z h p i leads = absurd (no_part (event_of x).what leads.0 p.0)
fed_passed (x ∷ xs) rest zero (Due Coordinates) f o a w z h p i leads =
    let s : State = fed w.left (event_of x) w.value w.taken (core 0 (Due Coordinates) f o a) in
    let c : Core = s.core in
    ap (hears xs s) (fed_unheard Coordinates tt f (event_of x).what (event_of x).place (at_of x) h)
    ∙ fed_passed xs rest c.skipped c.mode c.top c.outer c.answer s.feed z h p.1 (fed_on Coordinates w.left w.taken (event_of x) w.value f o a tt) leads.1
fed_passed (x ∷ xs) rest zero (Due Bbox) f o a w z h p i leads =
    let s : State = fed w.left (event_of x) w.value w.taken (core 0 (Due Bbox) f o a) in
    let c : Core = s.core in
    ap (hears xs s) (fed_unheard Bbox tt f (event_of x).what (event_of x).place (at_of x) h)
    ∙ fed_passed xs rest c.skipped c.mode c.top c.outer c.answer s.feed z h p.1 (fed_on Bbox w.left w.taken (event_of x) w.value f o a tt) leads.1
fed_passed (x ∷ xs) rest _ _ f o a w z h p i leads = absurd i

feeding_is : (k : ℕ) (m : Mode) → is_feeding k m ≡ true → IsFed k m
feeding_is zero (Due Coordinates) e = tt
feeding_is zero (Due Bbox) e = tt
feeding_is _ _ e = cc

pub parts_passed : (before : Core) (inner : List Event) → is_feeding before.skipped before.mode ≡ true → AllOf IsPart inner → Passes before inner
parts_passed before inner feeds parts xs rest s z h e same_core leads =
    let c : Core = s.core in
    fed_passed xs rest c.skipped c.mode c.top c.outer c.answer s.feed z h (subst (AllOf IsPart) (sym e) parts)
    (feeding_is c.skipped c.mode (subst (λ (q : Core). is_feeding q.skipped q.mode ≡ true) same_core feeds)) leads

-- in a value in which nothing has a role
pub flat_passed : (before : Core) (flat : Flat) → (before.skipped ≡ 0 → is_feeding before.skipped before.mode ≡ true) → Passes before (flat_events flat)
flat_passed before flat within xs rest s z h e same_core leads = go before.skipped refl
  where
    go : (n : ℕ) → before.skipped ≡ n → hears xs s h ≡ h
    go zero i = parts_passed before (flat_events flat) (within i) (flat_all IsPart tt tt (λ v. tt) flat) xs rest s z h e same_core leads
    go (suc n) i =
        let c : Core = s.core in
        let k : suc n ≡ c.skipped = sym i ∙ ap (λ (q : Core). q.skipped) same_core in
        levels_passed xs (flat_events flat) c.skipped (suc n) c.mode c.top c.outer c.answer s.feed h e
        (subst (λ j. Leaves j (flat_events flat) (suc n)) k (flat_leaves flat n)) (λ l. absurd (omega (arith, l)))

pub flats_passed : (before : Core) (flats : List Flat) → is_feeding before.skipped before.mode ≡ true → Passes before (flats_events flats)
flats_passed before flats feeds = parts_passed before (flats_events flats) feeds (flats_all flats)

-- levels that are ignored
pub ignored_passed : (before : Core) (inner : List Event) (left : ℕ) → lists before.mode ≡ false → Leaves before.skipped inner left → Passes before inner
ignored_passed before inner left none leaves xs rest s z h e same_core leads =
    let c : Core = s.core in
    levels_passed xs inner c.skipped left c.mode c.top c.outer c.answer s.feed h e
    (subst (λ (q : Core). Leaves q.skipped inner left) same_core leaves) (λ l. subst (λ (q : Core). lists q.mode ≡ false) same_core none)

-- ---- a member `geometry` that is a whole Point

abbrev IsInner : What → Type 0
IsInner What.OpenObject = ⊥
IsInner What.CloseObject = ⊥
IsInner _ = Unit {0}

-- no object opens or closes but for the end
abbrev Within : List Event → Type 0
Within [] = Unit {0}
Within (y ∷ []) = Unit {0}
Within (y ∷ (z ∷ zs)) = IsInner y.what × Within (z ∷ zs)

within_append : (e : Event) (es : List Event) (y : Event) (ys : List Event) → IsInner e.what → AllOf IsInner es → Within (y ∷ ys) → Within (e ∷ (es ++ y ∷ ys))
within_append e [] y ys i all w = (i, w)
within_append e (f ∷ fs) y ys i all w = (i, within_append f fs y ys all.0 all.1 w)

abbrev ListsNone : Mode → Type 0
ListsNone (Elements Role.Feature) = ⊥
ListsNone (Due Features) = ⊥
ListsNone _ = Unit {0}

-- in a geometry
abbrev InGeometry : Core → Type 0
InGeometry c = (c.top.slots.role ≡ Role.Geometry) × ListsNone c.mode

lists_none : (m : Mode) → ListsNone m → lists m ≡ false
lists_none (Elements Role.Feature) l = absurd l
lists_none (Elements r) l = refl
lists_none _ l = refl

quiet_geometry : (k : ℕ) (m : Mode) (f : Frame) (what : What) (place n : ℕ) (h : Heard) → f.slots.role ≡ Role.Geometry → lists m ≡ false
    → hear_at k m f what place n h ≡ h
quiet_geometry k m f what place n h r l = by_what what
  where
    id : (k : ℕ) (m : Mode) → at_id k m f.slots.role ≡ false
    id zero (Due Id) = rw r refl
    id zero _ = refl
    id (suc k) m = refl

    end : (k : ℕ) (m : Mode) → at_end k m f.slots.role ≡ false
    end zero Names = rw r refl
    end zero _ = refl
    end (suc k) m = refl

    element : (k : ℕ) → at_element k m ≡ false
    element zero = l
    element (suc k) = refl

    array : (k : ℕ) → in_array k m ≡ false
    array zero = refl
    array (suc zero) = l
    array (suc (suc k)) = refl

    by_what : (what : What) → hear_at k m f what place n h ≡ h
    by_what (What.Name name) = refl
    by_what What.OpenObject = rw (id k m) refl
    by_what What.OpenArray = rw (id k m, element k) refl
    by_what What.CloseObject = rw (end k m) refl
    by_what What.CloseArray = rw (array k) refl
    by_what _ = rw (id k m, element k) refl

due_inner : (name : Known) (what : What) (place : ℕ) (c : Core) → IsInner what → ListsNone (Due name) → c.top.slots.role ≡ Role.Geometry
    → InGeometry (due_step name what place c)
due_inner Features what place c i d r = absurd d
due_inner Geometry What.OpenObject place c i d r = absurd i
due_inner Geometries What.OpenArray place c i d r = (r, tt)
due_inner TypeName what place c i d r = (r, tt)
due_inner name what place c i d r = ((joined_object name (opening_fault name what place) (slot_of name c.top.slots) c.top.slots).role ∙ r, tt)

element_inner : (q : Role) (what : What) (place : ℕ) (c : Core) → IsInner what → ListsNone c.mode → c.top.slots.role ≡ Role.Geometry
    → InGeometry (element_step q what place c)
element_inner q What.OpenObject place c i d r = absurd i
element_inner q What.CloseArray place c i d r = (r, tt)
element_inner q what place c i d r = ((joined_object (member_of q) (Some (fault_at place G1)) (slot_of (member_of q) c.top.slots) c.top.slots).role ∙ r, d)

root_inner : (what : What) (place : ℕ) (c : Core) → IsInner what → ListsNone c.mode → c.top.slots.role ≡ Role.Geometry → InGeometry (root_step what place c)
root_inner What.OpenObject place c i d r = absurd i
root_inner What.Mark place c i d r = (r, d)
root_inner what place c i d r = (r, tt)

names_inner : (what : What) (place : ℕ) (c : Core) → IsInner what → IsNameOrEnd what → c.top.slots.role ≡ Role.Geometry → InGeometry (names_step what place c)
names_inner (What.Name name) place c i n r = (named_role name place c.top ∙ r, none (due_after name c.top) (due_unused Features name c.top refl (rw r refl)))
  where
    none : (k : Known) → same Features k ≡ false → ListsNone (Due k)
    none Features e = cc
    none _ e = tt
names_inner What.CloseObject place c i n r = absurd i
names_inner _ place c i n r = absurd n

fed_inner : (name : Known) (left taken : List Event) (y : Event) (v : Tree) (f : Frame) (o : List Frame) (a : Findings) → ListsNone (Due name)
    → f.slots.role ≡ Role.Geometry → InGeometry (fed left y v taken (core 0 (Due name) f o a)).core
fed_inner name [] taken y v f o a d r = (r, d)
fed_inner name (next ∷ []) taken y v f o a d r = ((filled_object name v f.slots).role ∙ r, tt)
fed_inner name (next ∷ (later ∷ more)) taken y v f o a d r = (r, d)

step_inner : (x : Told) (rest : List Told) (k : ℕ) (m : Mode) (f : Frame) (o : List Frame) (a : Findings) (w : Feed) → IsInner (event_of x).what
    → Good MOST_FRAMES x rest (with_feed (core k m f o a) w) → InGeometry (core k m f o a) → InGeometry (step x (with_feed (core k m f o a) w)).core
step_inner x rest (suc k) m f o a w i g c = c
step_inner x rest zero RootDue f o a w i g c = root_inner (event_of x).what (event_of x).place (core 0 RootDue f o a) i c.1 c.0
step_inner x rest zero Names f o a w i g c = names_inner (event_of x).what (event_of x).place (core 0 Names f o a) i g c.0
step_inner x rest zero (Due Coordinates) f o a w i g c = fed_inner Coordinates w.left w.taken (event_of x) w.value f o a tt c.0
step_inner x rest zero (Due Bbox) f o a w i g c = fed_inner Bbox w.left w.taken (event_of x) w.value f o a tt c.0
step_inner x rest zero (Due name) f o a w i g c = due_inner name (event_of x).what (event_of x).place (core 0 (Due name) f o a) i c.1 c.0
step_inner x rest zero (Elements q) f o a w i g c = element_inner q (event_of x).what (event_of x).place (core 0 (Elements q) f o a) i c.1 c.0
step_inner x rest zero Done f o a w i g c = c

within_passed : (xs rest : List Told) (s : State) (z : Findings) (h : Heard) → Within (map event_of xs) → InGeometry s.core → Leads MOST_FRAMES (xs ++ rest) s z
    → hears xs s h ≡ h
within_passed [] rest s z h w c leads = refl
within_passed (x ∷ []) rest s z h w c leads =
    quiet_geometry s.core.skipped s.core.mode s.core.top (event_of x).what (event_of x).place (at_of x) h c.0 (lists_none s.core.mode c.1)
within_passed (x ∷ (y ∷ ys)) rest s z h w c leads =
    let q : Core = s.core in
    ap (hears (y ∷ ys) (step x s))
    (quiet_geometry q.skipped q.mode q.top (event_of x).what (event_of x).place (at_of x) h c.0 (lists_none q.mode c.1))
    ∙ within_passed (y ∷ ys) rest (step x s) z h w.1
    (step_inner x ((y ∷ ys) ++ rest) q.skipped q.mode q.top q.outer q.answer s.feed w.0 leads.0 c) leads.1

-- where the object around uses `geometry` and has had none
geometry_passed : (before : Core) (place bracket : ℕ) (inner : List Event) → before.skipped ≡ 0 → before.mode ≡ Names → due_after Geometry before.top ≡ Geometry
    → Within inner → Passes before (at place (What.Name Geometry) ∷ (at bracket What.OpenObject ∷ inner))
geometry_passed before place bracket inner k m due within xs rest s z h e same_core leads =
    let x = uncons xs (at place (What.Name Geometry)) _ e in
    let y = uncons x.1 (at bracket What.OpenObject) inner x.4 in
    let whole : xs ≡ x.0 ∷ (y.0 ∷ y.1) = x.2 ∙ ap (λ (ts : List Told). x.0 ∷ ts) y.2 in
    let g = subst (λ (ts : List Told). Leads MOST_FRAMES (ts ++ rest) s z) whole leads in
    let c : Core = core 0 Names before.top before.outer before.answer in
    let here : c ≡ s.core = ap (λ n. core n Names before.top before.outer before.answer) (sym k)
    ∙ (ap (λ (n : Mode). core before.skipped n before.top before.outer before.answer) (sym m) ∙ same_core) in
    let named_is : step x.0 s ≡ st 0 (Due Geometry) (named Geometry place before.top) before.outer before.answer =
    ap (λ (q : Core). step x.0 (with_feed q s.feed)) (sym here) ∙ geometry_named x.0 place s.feed before.top before.outer before.answer due x.3 in
    let opened_is : step y.0 (step x.0 s) ≡ st 0 Names (blank Role.Geometry bracket) (named Geometry place before.top ∷ before.outer) before.answer =
    ap (step y.0) named_is ∙ geometry_opened y.0 bracket (named Geometry place before.top) before.outer before.answer y.3 in
    let none : AtId (step x.0 s) ≡ false = ap AtId named_is in
    ap (λ (ts : List Told). hears ts s h) whole
    ∙ (ap (λ (u : Heard). hears y.1 (step y.0 (step x.0 s)) (hear y.0 (step x.0 s) u)) (hear_name x.0 place Geometry s h x.3)
    ∙ (ap (hears y.1 (step y.0 (step x.0 s))) (hear_open y.0 bracket (step x.0 s) h y.3 ∙ ap (λ (b : Bool). begins b bracket h) none)
    ∙ within_passed y.1 rest (step y.0 (step x.0 s)) z h (subst Within (sym y.4) within)
    (subst (λ (t : State). InGeometry t.core) (sym opened_is) (refl, tt)) g.1.1))

pub point_passed : (before : Core) (located : Located) (flat : Flat) (close : ℕ) → before.skipped ≡ 0 → before.mode ≡ Names
    → due_after Geometry before.top ≡ Geometry → Passes before (point_events located flat close)
point_passed before located flat close k m due =
    geometry_passed before located.place located.typed.place _ k m due (
      tt,
      (
        tt,
        within_append (at located.coordinates (What.Name Coordinates)) (flat_events flat) (at close What.CloseObject) [] tt
            (flat_all IsInner tt tt (λ v. tt) flat) tt,
      ),
    )

pub late_point_passed : (before : Core) (point : LatePoint) (flat : Flat) → before.skipped ≡ 0 → before.mode ≡ Names
    → due_after Geometry before.top ≡ Geometry → Passes before (late_point_events point flat)
late_point_passed before point flat k m due =
    geometry_passed before point.place point.bracket _ k m due
    (within_append (at point.coordinates (What.Name Coordinates)) (flat_events flat) (at point.name_at (What.Name TypeName))
    (at point.word_at (What.Text Word.Point) ∷ at point.close What.CloseObject ∷ []) tt (flat_all IsInner tt tt (λ v. tt) flat) (tt, (tt, tt)))
