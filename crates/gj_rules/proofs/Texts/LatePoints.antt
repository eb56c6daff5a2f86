-- A whole member `geometry` that is a Point whose coordinates stand before its type adds to the frame around what any other whole Point does.
use Rattle.gj_rules.proofs.Common.{Coordinates, Due, Event, Fault, Feed, Findings, Flat, Frame, FramedRules, Geometry, List, Names, Role, Shapes}
use Rattle.gj_rules.proofs.Common.{Simple, State, Told, Tree, TypeName, Warnings, What, Word, ap, append_assoc, blank, coordinates_faults}
use Rattle.gj_rules.proofs.Common.{coordinates_kept, core_of, event_of, flat_events, least, lesser, map, names_step, numbers_of, refl, rules_of, run}
use Rattle.gj_rules.proofs.Common.{settled, shapes_of, step, subst, taken_in, top_of, [], ◌++◌, ◌∙◌, ◌∷◌}
use Rattle.std.proofs.Common.{◌≡◌, ℕ, Option, None}
use Rattle.gj_json.specs.declared.head.LatePoint.{LatePoint}
use Rattle.gj_json.specs.Head.{late_point_events}
use Rattle.gj_coords.specs.PlainPoint.{IsPointWith}
use Rattle.gj_coords.specs.Internal.KeptWarnings.{no_warnings, joined}
use Rattle.gj_rules.specs.Rules.{StandsFor}
use Rattle.gj_rules.specs.Internal.EventSteps.{named_feed, passed}
use Rattle.gj_rules.specs.Internal.FrameCalls.{named, due_after, type_set, filled, warned}
use Rattle.gj_rules.specs.Internal.OpenMembers as S
use Rattle.gj_rules.specs.Internal.OpenMembers.{members_fault}
use Rattle.gj_rules.proofs.Objects.WarningsInTurn.{to_none}
use Rattle.gj_rules.proofs.Texts.ValuesByEvents.{Leads, leads_at, st}
use Rattle.gj_rules.proofs.Texts.OneEventMore.{core, with_feed}
use Rattle.gj_rules.proofs.Texts.OneFlatMore.{split_told, run-append}
use Rattle.gj_rules.proofs.Texts.WholePoints.{at, as_found, point_taken, idle_type, geometry_named, geometry_opened, type_told, position_run, told_by}

-- ---- no fault is found in the object

-- after the coordinates, and after the type
abbrev placed : ℕ → ℕ → Tree → Frame
placed place coordinates_at v = filled Coordinates v (named Coordinates coordinates_at (blank Role.Geometry place))

abbrev typed : ℕ → ℕ → ℕ → ℕ → Tree → Frame
typed place coordinates_at type_at word_at v = type_set word_at Word.Point (named TypeName type_at (placed place coordinates_at v))

no_member_fault : (place coordinates_at type_at word_at : ℕ) (shapes : Shapes)
    → members_fault (rules_of Word.Point)
    (S.type_set word_at Word.Point (S.named TypeName type_at (S.shapes_set shapes (S.named Coordinates coordinates_at (S.blank Role.Geometry place))))) ≡ None
unfolding members_fault
no_member_fault place coordinates_at type_at word_at shapes = refl

late_settled : (place coordinates_at type_at word_at : ℕ) (v : Tree) (w : Warnings) → least (coordinates_faults Simple.Point v) ≡ None
    → coordinates_kept Simple.Point v ≡ w → settled (typed place coordinates_at type_at word_at v) ≡ as_found None w
late_settled place coordinates_at type_at word_at v w e k =
    let found : Findings = (shapes_of v).point in
    ap (λ (x : Option Fault). as_found (lesser x found.fault) (joined no_warnings found.warned))
    (no_member_fault place coordinates_at type_at word_at (shapes_of v))
    ∙ (ap (λ (x : Option Fault). as_found x (joined no_warnings found.warned)) e
    ∙ ap (λ (x : Warnings). as_found None x) (to_none found.warned ∙ k))

-- ---- one event more

coordinates_named : (x : Told) (p q : ℕ) (o : List Frame) (a : Findings) → event_of x ≡ at p (What.Name Coordinates)
    → step x (st 0 Names (blank Role.Geometry q) o a)
    ≡ with_feed (core 0 (Due Coordinates) (named Coordinates p (blank Role.Geometry q)) o a) (named_feed x Coordinates)
coordinates_named x p q o a e = ap (λ (y : Event). passed x (names_step y.what y.place (core 0 Names (blank Role.Geometry q) o a))) e

type_named : (x : Told) (p q c : ℕ) (v : Tree) (o : List Frame) (a : Findings) → event_of x ≡ at p (What.Name TypeName)
    → step x (st 0 Names (placed q c v) o a) ≡ st 0 (Due TypeName) (named TypeName p (placed q c v)) o a
type_named x p q c v o a e =
    ap (λ (y : Event). passed x (names_step y.what y.place (core 0 Names (placed q c v) o a))) e
    ∙ ap (λ (y : Feed). with_feed (core 0 (Due TypeName) (named TypeName p (placed q c v)) o a) y) (idle_type x)

geometry_closed : (x : Told) (p q c n t : ℕ) (v : Tree) (w : Warnings) (f : Frame) (o : List Frame) (a : Findings)
    → least (coordinates_faults Simple.Point v) ≡ None → coordinates_kept Simple.Point v ≡ w → event_of x ≡ at p What.CloseObject
    → step x (st 0 Names (typed q c n t v) (f ∷ o) a) ≡ st 0 Names (warned Geometry w f) o a
geometry_closed x p q c n t v w f o a none k e =
    ap (λ (y : Event). passed x (names_step y.what y.place (core 0 Names (typed q c n t v) (f ∷ o) a))) e
    ∙ (ap (λ (found : Findings). st 0 Names (taken_in Geometry found f) o a) (late_settled q c n t v w none k)
    ∙ ap (λ (g : Frame). st 0 Names g o a) (point_taken w f))

-- ---- all of the events

record Three (xs : List Told) (a b c : Event) : Type 0 where
  x1 : Told
  x2 : Told
  x3 : Told
  all : xs ≡ x1 ∷ (x2 ∷ (x3 ∷ []))
  e1 : event_of x1 ≡ a
  e2 : event_of x2 ≡ b
  e3 : event_of x3 ≡ c

three_told : (xs : List Told) (a b c : Event) → map event_of xs ≡ a ∷ (b ∷ (c ∷ [])) → Three xs a b c
three_told [] a b c h = cc
three_told (p ∷ []) a b c h = cc
three_told (p ∷ (q ∷ [])) a b c h = cc
three_told (p ∷ (q ∷ (r ∷ []))) a b c h = record { x1 = p; x2 = q; x3 = r; all = refl; e1 = cc; e2 = cc; e3 = cc }
three_told (p ∷ (q ∷ (r ∷ (s ∷ ss)))) a b c h = cc

abbrev head_events : LatePoint → List Event
head_events point = at point.place (What.Name Geometry) ∷ at point.bracket What.OpenObject ∷ at point.coordinates (What.Name Coordinates) ∷ []

abbrev last_events : LatePoint → List Event
last_events point = at point.name_at (What.Name TypeName) ∷ at point.word_at (What.Text Word.Point) ∷ at point.close What.CloseObject ∷ []

-- the frame of the object at the name `coordinates`
abbrev framed : LatePoint → Frame
framed point = named Coordinates point.coordinates (blank Role.Geometry point.bracket)

-- the events up to the name `coordinates`
head_run : (x1 x2 x3 : Told) (point : LatePoint) (feed : Feed) (f : Frame) (o : List Frame) (a : Findings) → due_after Geometry f ≡ Geometry
    → event_of x1 ≡ at point.place (What.Name Geometry) → event_of x2 ≡ at point.bracket What.OpenObject
    → event_of x3 ≡ at point.coordinates (What.Name Coordinates)
    → run (x1 ∷ (x2 ∷ (x3 ∷ []))) (with_feed (core 0 Names f o a) feed)
    ≡ with_feed (core 0 (Due Coordinates) (framed point) (named Geometry point.place f ∷ o) a) (named_feed x3 Coordinates)
head_run x1 x2 x3 point feed f o a d e1 e2 e3 =
    ap (λ (s : State). run (x2 ∷ (x3 ∷ [])) s) (geometry_named x1 point.place feed f o a d e1)
    ∙ (ap (λ (s : State). step x3 s) (geometry_opened x2 point.bracket (named Geometry point.place f) o a e2)
    ∙ coordinates_named x3 point.coordinates point.bracket (named Geometry point.place f ∷ o) a e3)

-- those after the position
last_run : (xs : List Told) (point : LatePoint) (v : Tree) (w : Warnings) (f : Frame) (o : List Frame) (a : Findings)
    → least (coordinates_faults Simple.Point v) ≡ None → coordinates_kept Simple.Point v ≡ w → map event_of xs ≡ last_events point
    → run xs (st 0 Names (filled Coordinates v (framed point)) (f ∷ o) a) ≡ st 0 Names (warned Geometry w f) o a
last_run xs point v w f o a none kept e =
    let k = three_told xs _ _ _ e in
    let s : State = st 0 Names (filled Coordinates v (framed point)) (f ∷ o) a in
    ap (λ (ts : List Told). run ts s) k.all
    ∙ (ap (λ (s : State). run (k.x2 ∷ (k.x3 ∷ [])) s) (type_named k.x1 point.name_at point.bracket point.coordinates v (f ∷ o) a k.e1)
    ∙ (ap (λ (s : State). step k.x3 s)
    (type_told k.x2 point.word_at Word.Point (named TypeName point.name_at (placed point.bracket point.coordinates v)) (f ∷ o) a k.e2)
    ∙ geometry_closed k.x3 point.close point.bracket point.coordinates point.name_at point.word_at v w f o a none kept k.e3))

-- those from the position on
tail_run : (frames : ℕ) (x3 : Told) (ys rest : List Told) (point : LatePoint) (flat : Flat) (w : Warnings) (f : Frame) (o : List Frame) (a z : Findings)
    → IsPointWith w flat → map event_of ys ≡ flat_events flat ++ last_events point
    → Leads frames (ys ++ rest) (with_feed (core 0 (Due Coordinates) (framed point) (f ∷ o) a) (named_feed x3 Coordinates)) z
    → run ys (with_feed (core 0 (Due Coordinates) (framed point) (f ∷ o) a) (named_feed x3 Coordinates)) ≡ st 0 Names (warned Geometry w f) o a
tail_run frames x3 ys rest point flat w f o a z deserved e h =
    let before : State = with_feed (core 0 (Due Coordinates) (framed point) (f ∷ o) a) (named_feed x3 Coordinates) in
    let k = split_told ys (flat_events flat) (last_events point) e in
    let leads : Leads frames (k.0 ++ (k.1 ++ rest)) before z =
    subst (λ (ts : List Told). Leads frames ts before z) (ap (λ (ts : List Told). ts ++ rest) k.2 ∙ append_assoc k.0 k.1 rest) h in
    let p = position_run frames x3 k.0 (k.1 ++ rest) flat.place (numbers_of flat) flat.close (framed point) (f ∷ o) a z k.3 leads in
    let found = deserved p.0 p.1 in
    ap (λ (ts : List Told). run ts before) k.2
    ∙ (run-append k.0 k.1 before
    ∙ (ap (λ (s : State). run k.1 s) p.2
    ∙ last_run k.1 point p.0 w f o a found.0 found.1 k.4))

late_run : (frames : ℕ) (xs rest : List Told) (point : LatePoint) (flat : Flat) (w : Warnings) (feed : Feed) (f : Frame) (o : List Frame) (a z : Findings)
    → due_after Geometry f ≡ Geometry → IsPointWith w flat → map event_of xs ≡ late_point_events point flat
    → Leads frames (xs ++ rest) (with_feed (core 0 Names f o a) feed) z
    → run xs (with_feed (core 0 Names f o a) feed) ≡ st 0 Names (warned Geometry w (named Geometry point.place f)) o a
late_run frames xs rest point flat w feed f o a z d deserved e h =
    let b : State = with_feed (core 0 Names f o a) feed in
    let g = split_told xs (head_events point) (flat_events flat ++ last_events point) e in
    let k = three_told g.0 _ _ _ g.3 in
    let head : List Told = k.x1 ∷ (k.x2 ∷ (k.x3 ∷ [])) in
    let after : State = with_feed (core 0 (Due Coordinates) (framed point) (named Geometry point.place f ∷ o) a) (named_feed k.x3 Coordinates) in
    let first : run head b ≡ after = head_run k.x1 k.x2 k.x3 point feed f o a d k.e1 k.e2 k.e3 in
    let split : xs ≡ head ++ g.1 = g.2 ∙ ap (λ (ts : List Told). ts ++ g.1) k.all in
    let leads : Leads frames (g.1 ++ rest) (run head b) z =
    leads_at frames head (g.1 ++ rest) b z (subst (λ (ts : List Told). Leads frames (ts ++ rest) b z) split h) in
    ap (λ (ts : List Told). run ts b) split
    ∙ (run-append head g.1 b
    ∙ (ap (λ (s : State). run g.1 s) first
    ∙ tail_run frames k.x3 g.1 rest point flat w (named Geometry point.place f) o a z deserved g.4
    (subst (λ (s : State). Leads frames (g.1 ++ rest) s z) first leads)))

-- ---- a call

-- Before these events the rules are at a name of an object that uses `geometry` and has had none.
pub told_late_point : {frames : ℕ} (old new : FramedRules frames) (point : LatePoint) (flat : Flat) (w : Warnings) → old.skipped ≡ 0 → old.mode ≡ Names
    → due_after Geometry (top_of old) ≡ Geometry → IsPointWith w flat
    → core_of new ≡ record (core_of old) { top = warned Geometry w (named Geometry point.place (top_of old)) }
    → (events : List Event) → StandsFor old events → StandsFor new (events ++ late_point_events point flat)
told_late_point {frames} old new point flat w skipped mode due deserved c =
    told_by old new (late_point_events point flat) point.place w skipped mode
    (λ xs rest feed o a z. late_run frames xs rest point flat w feed (top_of old) o a z due deserved) c
