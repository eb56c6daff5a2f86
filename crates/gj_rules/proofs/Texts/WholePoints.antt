-- A whole member `geometry` that is a Point adds its name to the frame around, and the warnings of its position.
use Rattle.gj_rules.proofs.Common.{Coordinates, Core, Due, Event, False, Fault, Feed, Findings, Flat, Frame, FramedRules, Geometry, List, MemberSlots}
use Rattle.gj_rules.proofs.Common.{Mode, Names, Null, Numbered, Role, Shapes, Simple, Stands, State, Told, Tree, True, TypeName, Warnings, What, Word}
use Rattle.gj_rules.proofs.Common.{alike, ap, append_assoc, array, blank, constant, coordinates_faults, coordinates_kept, core_of, element}
use Rattle.gj_rules.proofs.Common.{elements_events, end_of_array, event_of, flat_events, gathered, idle, least, lesser, located_events, map}
use Rattle.gj_rules.proofs.Common.{map-append, names_step, number, number_event, numbers_of, object, refl, rules_of, run, settled, start, step}
use Rattle.gj_rules.proofs.Common.{string, subst, sym, taken_in, text_told, top_of, value_events, [], ◌++◌, ◌+◌, ◌∙◌, ◌∷◌}
use Rattle.std.proofs.Common.{◌≡◌, ℕ, Option, None}
use Rattle.std.proofs.Common.{append-nil}
use Rattle.gj_json.specs.declared.head.Located.{Located}
use Rattle.gj_json.specs.declared.names.Known.{Known}
use Rattle.gj_json.specs.Events as E
use Rattle.gj_json.specs.Flat.{numbers_events}
use Rattle.gj_json.specs.Head.{point_events}
use Rattle.gj_json.specs.Tree.{Elements}
use Rattle.gj_number.specs.Value.{value_of}
use Rattle.gj_coords.specs.PlainPoint.{IsPointWith}
use Rattle.gj_coords.specs.Internal.KeptWarnings.{no_warnings, joined}
use Rattle.gj_rules.specs.Rules.{StandsFor}
use Rattle.gj_rules.specs.Internal.EventSteps.{named_feed, due_step, passed}
use Rattle.gj_rules.specs.Internal.FrameCalls.{named, due_after, type_set, filled, warned}
use Rattle.gj_rules.specs.Internal.OpenMembers as S
use Rattle.gj_rules.specs.Internal.OpenMembers.{members_fault}
use Rattle.gj_rules.specs.Internal.Summaries.{found_as}
use Rattle.gj_rules.proofs.Objects.MemberSlots.{joined-none}
use Rattle.gj_rules.proofs.Objects.WarningsInTurn.{to_none}
use Rattle.gj_rules.proofs.Texts.ValuesByEvents.{Leads, leads_at, st, text_found, lead_text}
use Rattle.gj_rules.proofs.Texts.OneEventMore.{core, with_feed, holds_names}
use Rattle.gj_rules.proofs.Texts.OneFlatMore.{split_told, run-append, feeding, run_fed}

-- ---- the events of an array of numbers are those of a value

abbrev pub at : ℕ → What → Event
at place what = record { place = place; what = what }

abbrev bare : List E.Timed → List Event
bare xs = map (λ (x : E.Timed). x.event) xs

abbrev closing : ℕ → List Event → List Event
closing close more = at close What.CloseArray ∷ more

-- an event is no other one
other : (e f : Event) (xs ys : List Event) → (e.what ≡ f.what → ⊥) → e ∷ xs ≡ f ∷ ys → ⊥
other e f xs ys n h =
    let k : e ≡ f = cc in n (ap (λ (x : Event). x.what) k)

-- numbers up to the bracket that closes them
same_elements : (es : Elements) (ns : List Numbered) (c d : ℕ) (xs ys : List Event)
    → bare (elements_events es) ++ closing c xs ≡ map number_event ns ++ closing d ys
    → bare (elements_events es) ++ closing c [] ≡ map number_event ns ++ closing d []
same_elements end_of_array [] c d xs ys e =
    let k : at c What.CloseArray ≡ at d What.CloseArray = cc in ap (λ (x : Event). x ∷ []) k
same_elements end_of_array (n ∷ ns) c d xs ys e = absurd (other (at c What.CloseArray) (number_event n) _ _ (λ h. cc) e)
same_elements (element (constant Null p) more) [] c d xs ys e = absurd (other (at p What.Null) (at d What.CloseArray) _ _ (λ h. cc) e)
same_elements (element (constant True p) more) [] c d xs ys e = absurd (other (at p What.True) (at d What.CloseArray) _ _ (λ h. cc) e)
same_elements (element (constant False p) more) [] c d xs ys e = absurd (other (at p What.False) (at d What.CloseArray) _ _ (λ h. cc) e)
same_elements (element (number p literal end) more) [] c d xs ys e = absurd (other (at p (What.Number _)) (at d What.CloseArray) _ _ (λ h. cc) e)
same_elements (element (string p content end) more) [] c d xs ys e = absurd (other (at p (What.Text _)) (at d What.CloseArray) _ _ (λ h. cc) e)
same_elements (element (array p es close) more) [] c d xs ys e = absurd (other (at p What.OpenArray) (at d What.CloseArray) _ _ (λ h. cc) e)
same_elements (element (object p ms close) more) [] c d xs ys e = absurd (other (at p What.OpenObject) (at d What.CloseArray) _ _ (λ h. cc) e)
same_elements (element (constant Null p) more) (n ∷ ns) c d xs ys e = absurd (other (at p What.Null) (number_event n) _ _ (λ h. cc) e)
same_elements (element (constant True p) more) (n ∷ ns) c d xs ys e = absurd (other (at p What.True) (number_event n) _ _ (λ h. cc) e)
same_elements (element (constant False p) more) (n ∷ ns) c d xs ys e = absurd (other (at p What.False) (number_event n) _ _ (λ h. cc) e)
same_elements (element (string p content end) more) (n ∷ ns) c d xs ys e = absurd (other (at p (What.Text _)) (number_event n) _ _ (λ h. cc) e)
same_elements (element (array p es close) more) (n ∷ ns) c d xs ys e = absurd (other (at p What.OpenArray) (number_event n) _ _ (λ h. cc) e)
same_elements (element (object p ms close) more) (n ∷ ns) c d xs ys e = absurd (other (at p What.OpenObject) (number_event n) _ _ (λ h. cc) e)
same_elements (element (number p literal end) more) (n ∷ ns) c d xs ys e =
    let first : Event = at p (What.Number (value_of literal)) in
    let f : first ≡ number_event n = cc in
    let g : bare (elements_events more) ++ closing c xs ≡ map number_event ns ++ closing d ys = cc in
    let h = same_elements more ns c d xs ys g in
    ap (λ (x : Event). x ∷ (bare (elements_events more) ++ closing c [])) f ∙ ap (λ (zs : List Event). number_event n ∷ zs) h

bare_array : (p : ℕ) (es : Elements) (close : ℕ) → value_events (array p es close) ≡ at p What.OpenArray ∷ (bare (elements_events es) ++ closing close [])
bare_array p es close = ap (λ (zs : List Event). at p What.OpenArray ∷ zs)
    (map-append (λ (x : E.Timed). x.event) (elements_events es) (E.timed (close + 1) close What.CloseArray ∷ []))

-- a value that begins with the array is the array
same_value : (v : Tree) (place : ℕ) (ns : List Numbered) (close : ℕ) (xs ys : List Event) → value_events v ++ xs ≡ numbers_events place ns close ++ ys
    → value_events v ≡ numbers_events place ns close
same_value (constant Null p) place ns close xs ys e = absurd (other (at p What.Null) (at place What.OpenArray) _ _ (λ h. cc) e)
same_value (constant True p) place ns close xs ys e = absurd (other (at p What.True) (at place What.OpenArray) _ _ (λ h. cc) e)
same_value (constant False p) place ns close xs ys e = absurd (other (at p What.False) (at place What.OpenArray) _ _ (λ h. cc) e)
same_value (number p literal end) place ns close xs ys e = absurd (other (at p (What.Number _)) (at place What.OpenArray) _ _ (λ h. cc) e)
same_value (string p content end) place ns close xs ys e = absurd (other (at p (What.Text _)) (at place What.OpenArray) _ _ (λ h. cc) e)
same_value (object p ms end) place ns close xs ys e = absurd (other (at p What.OpenObject) (at place What.OpenArray) _ _ (λ h. cc) e)
same_value (array p es end) place ns close xs ys e =
    let inner : List Event = bare (elements_events es) ++ closing end [] in
    let numbers : List Event = map number_event ns ++ closing close [] in
    let whole : at p What.OpenArray ∷ (inner ++ xs) ≡ at place What.OpenArray ∷ (numbers ++ ys) =
    ap (λ (zs : List Event). zs ++ xs) (sym (bare_array p es end)) ∙ e in
    let first : at p What.OpenArray ≡ at place What.OpenArray = cc in
    let rest : inner ++ xs ≡ numbers ++ ys = cc in
    let h = same_elements es ns end close xs ys
    (sym (append_assoc (bare (elements_events es)) (closing end []) xs) ∙ (rest ∙ append_assoc (map number_event ns) (closing close []) ys)) in
    bare_array p es end ∙ (ap (λ (x : Event). x ∷ inner) first ∙ ap (λ (zs : List Event). at place What.OpenArray ∷ zs) h)

-- ---- no fault is found in the object

abbrev the_slots : ℕ → ℕ → ℕ → ℕ → MemberSlots
the_slots place type_at word_at coordinates_at =
    S.named Coordinates coordinates_at (S.type_set word_at Word.Point (S.named TypeName type_at (S.blank Role.Geometry place)))

no_member_fault : (place type_at word_at coordinates_at : ℕ) (shapes : Shapes)
    → members_fault (rules_of Word.Point) (S.shapes_set shapes (the_slots place type_at word_at coordinates_at)) ≡ None
unfolding members_fault
no_member_fault place type_at word_at coordinates_at shapes = refl

abbrev the_frame : ℕ → ℕ → ℕ → ℕ → Frame
the_frame place type_at word_at coordinates_at =
    named Coordinates coordinates_at (type_set word_at Word.Point (named TypeName type_at (blank Role.Geometry place)))

abbrev pub as_found : Option Fault → Warnings → Findings
as_found fault warned = record { fault = fault; warned = warned }

point_settled : (place type_at word_at coordinates_at : ℕ) (v : Tree) (w : Warnings) → least (coordinates_faults Simple.Point v) ≡ None
    → coordinates_kept Simple.Point v ≡ w → settled (filled Coordinates v (the_frame place type_at word_at coordinates_at)) ≡ as_found None w
point_settled place type_at word_at coordinates_at v w e k =
    let found : Findings = found_as Simple.Point v in
    ap (λ (x : Option Fault). as_found (lesser x found.fault) (joined no_warnings found.warned))
    (no_member_fault place type_at word_at coordinates_at (alike found))
    ∙ (ap (λ (x : Option Fault). as_found x (joined no_warnings found.warned)) e
    ∙ ap (λ (x : Warnings). as_found None x) (to_none found.warned ∙ k))

-- no fault changes no slot
pub point_taken : (w : Warnings) (f : Frame) → taken_in Geometry (as_found None w) f ≡ warned Geometry w f
point_taken w f = ap (λ (s : MemberSlots). record { slots = s; gathered = gathered Geometry w f.gathered }) (joined-none Geometry f.slots)

-- ---- one event more

idle_geometry : (x : Told) → named_feed x Geometry ≡ idle
idle_geometry (Told.named at place name value) = refl
idle_geometry (Told.plain at place what) = refl

pub idle_type : (x : Told) → named_feed x TypeName ≡ idle
idle_type (Told.named at place name value) = refl
idle_type (Told.plain at place what) = refl

pub geometry_named : (x : Told) (p : ℕ) (feed : Feed) (f : Frame) (o : List Frame) (a : Findings) → due_after Geometry f ≡ Geometry
    → event_of x ≡ at p (What.Name Geometry)
    → step x (with_feed (core 0 Names f o a) feed) ≡ st 0 (Due Geometry) (named Geometry p f) o a
geometry_named x p feed f o a d e =
    ap (λ (y : Event). passed x (names_step y.what y.place (core 0 Names f o a))) e
    ∙ (ap (λ (k : Known). passed x (core 0 (Due k) (named Geometry p f) o a)) d
    ∙ ap (λ (y : Feed). with_feed (core 0 (Due Geometry) (named Geometry p f) o a) y) (idle_geometry x))

pub geometry_opened : (x : Told) (p : ℕ) (f : Frame) (o : List Frame) (a : Findings) → event_of x ≡ at p What.OpenObject
    → step x (st 0 (Due Geometry) f o a) ≡ st 0 Names (blank Role.Geometry p) (f ∷ o) a
geometry_opened x p f o a e = ap (λ (y : Event). passed x (due_step Geometry y.what y.place (core 0 (Due Geometry) f o a))) e

type_named : (x : Told) (p q : ℕ) (o : List Frame) (a : Findings) → event_of x ≡ at p (What.Name TypeName)
    → step x (st 0 Names (blank Role.Geometry q) o a) ≡ st 0 (Due TypeName) (named TypeName p (blank Role.Geometry q)) o a
type_named x p q o a e =
    ap (λ (y : Event). passed x (names_step y.what y.place (core 0 Names (blank Role.Geometry q) o a))) e
    ∙ ap (λ (y : Feed). with_feed (core 0 (Due TypeName) (named TypeName p (blank Role.Geometry q)) o a) y) (idle_type x)

pub type_told : (x : Told) (p : ℕ) (word : Word) (f : Frame) (o : List Frame) (a : Findings) → event_of x ≡ at p (What.Text word)
    → step x (st 0 (Due TypeName) f o a) ≡ st 0 Names (type_set p word f) o a
type_told x p word f o a e = ap (λ (y : Event). passed x (due_step TypeName y.what y.place (core 0 (Due TypeName) f o a))) e

coordinates_named : (x : Told) (p q r t : ℕ) (o : List Frame) (a : Findings) → event_of x ≡ at p (What.Name Coordinates)
    → step x (st 0 Names (type_set t Word.Point (named TypeName r (blank Role.Geometry q))) o a)
    ≡ with_feed (core 0 (Due Coordinates) (the_frame q r t p) o a) (named_feed x Coordinates)
coordinates_named x p q r t o a e =
    ap (λ (y : Event). passed x (names_step y.what y.place (core 0 Names (type_set t Word.Point (named TypeName r (blank Role.Geometry q))) o a))) e

geometry_closed : (x : Told) (p q r t c : ℕ) (v : Tree) (w : Warnings) (f : Frame) (o : List Frame) (a : Findings)
    → least (coordinates_faults Simple.Point v) ≡ None → coordinates_kept Simple.Point v ≡ w → event_of x ≡ at p What.CloseObject
    → step x (st 0 Names (filled Coordinates v (the_frame q r t c)) (f ∷ o) a) ≡ st 0 Names (warned Geometry w f) o a
geometry_closed x p q r t c v w f o a n k e =
    ap (λ (y : Event). passed x (names_step y.what y.place (core 0 Names (filled Coordinates v (the_frame q r t c)) (f ∷ o) a))) e
    ∙ (ap (λ (found : Findings). st 0 Names (taken_in Geometry found f) o a) (point_settled q r t c v w n k)
    ∙ ap (λ (g : Frame). st 0 Names g o a) (point_taken w f))

-- ---- the events of the position

-- it is the value after the name
pub position_run : (frames : ℕ) (n : Told) (ys rest : List Told) (place : ℕ) (ns : List Numbered) (close : ℕ) (f : Frame) (o : List Frame) (a z : Findings)
    → map event_of ys ≡ numbers_events place ns close
    → Leads frames (ys ++ rest) (with_feed (core 0 (Due Coordinates) f o a) (named_feed n Coordinates)) z
    → (v : Tree) × (value_events v ≡ numbers_events place ns close)
    × (run ys (with_feed (core 0 (Due Coordinates) f o a) (named_feed n Coordinates)) ≡ st 0 Names (filled Coordinates v f) o a)
position_run frames n [] rest place ns close f o a z e h = cc
position_run frames (Told.plain b p what) (y ∷ ys) rest place ns close f o a z e h = absurd (no_left h.0.next h.0.later h.0.left)
  where
    no_left : (next : Event) (later : List Event) → [] ≡ next ∷ later → ⊥
    no_left next later e = cc
position_run frames (Told.named b p name v) (y ∷ ys) rest place ns close f o a z e h =
    let comes : map event_of ((y ∷ ys) ++ rest) ≡ value_events v ++ h.0.more = h.0.comes in
    let whole : value_events v ++ h.0.more ≡ numbers_events place ns close ++ map event_of rest =
    sym comes ∙ (map-append event_of (y ∷ ys) rest ∙ ap (λ (es : List Event). es ++ map event_of rest) e) in
    let same : value_events v ≡ numbers_events place ns close = same_value v place ns close h.0.more (map event_of rest) whole in
    let all : value_events v ≡ map event_of (y ∷ ys) ++ [] = same ∙ (sym e ∙ sym (append-nil (map event_of (y ∷ ys)))) in (
      v,
      same,
      ap (λ (es : List Event). run (y ∷ ys) (with_feed (core 0 (Due Coordinates) f o a) (feeding v [] es))) all
          ∙ run_fed y ys [] v [] 0 (Due Coordinates) f o a refl,
    )

-- ---- all of the events

pub one_told : (xs : List Told) (e : Event) → map event_of xs ≡ e ∷ [] → (x : Told) × (xs ≡ x ∷ []) × (event_of x ≡ e)
one_told [] e h = cc
one_told (x ∷ []) e h = (x, refl, cc)
one_told (x ∷ (y ∷ ys)) e h = cc

record Five (xs : List Told) (a b c d e : Event) : Type 0 where
  x1 : Told
  x2 : Told
  x3 : Told
  x4 : Told
  x5 : Told
  all : xs ≡ x1 ∷ (x2 ∷ (x3 ∷ (x4 ∷ (x5 ∷ []))))
  e1 : event_of x1 ≡ a
  e2 : event_of x2 ≡ b
  e3 : event_of x3 ≡ c
  e4 : event_of x4 ≡ d
  e5 : event_of x5 ≡ e

five_told : (xs : List Told) (a b c d e : Event) → map event_of xs ≡ a ∷ (b ∷ (c ∷ (d ∷ (e ∷ [])))) → Five xs a b c d e
five_told [] a b c d e h = cc
five_told (p ∷ []) a b c d e h = cc
five_told (p ∷ (q ∷ [])) a b c d e h = cc
five_told (p ∷ (q ∷ (r ∷ []))) a b c d e h = cc
five_told (p ∷ (q ∷ (r ∷ (s ∷ [])))) a b c d e h = cc
five_told (p ∷ (q ∷ (r ∷ (s ∷ (t ∷ []))))) a b c d e h =
    record { x1 = p; x2 = q; x3 = r; x4 = s; x5 = t; all = refl; e1 = cc; e2 = cc; e3 = cc; e4 = cc; e5 = cc }
five_told (p ∷ (q ∷ (r ∷ (s ∷ (t ∷ (u ∷ us)))))) a b c d e h = cc

-- the frame of the object at the name `coordinates`
abbrev framed : Located → Frame
framed located = the_frame located.typed.place located.typed.name_at located.typed.word_at located.coordinates

-- the events up to the name `coordinates`
head_run : (x1 x2 x3 x4 x5 : Told) (located : Located) (feed : Feed) (f : Frame) (o : List Frame) (a : Findings) → due_after Geometry f ≡ Geometry
    → located.typed.word ≡ Word.Point
    → event_of x1 ≡ at located.place (What.Name Geometry)
    → event_of x2 ≡ at located.typed.place What.OpenObject
    → event_of x3 ≡ at located.typed.name_at (What.Name TypeName)
    → event_of x4 ≡ at located.typed.word_at (What.Text located.typed.word)
    → event_of x5 ≡ at located.coordinates (What.Name Coordinates)
    → run (x1 ∷ (x2 ∷ (x3 ∷ (x4 ∷ (x5 ∷ []))))) (with_feed (core 0 Names f o a) feed)
    ≡ with_feed (core 0 (Due Coordinates) (framed located) (named Geometry located.place f ∷ o) a) (named_feed x5 Coordinates)
head_run x1 x2 x3 x4 x5 located feed f o a d w e1 e2 e3 e4 e5 =
    let os : List Frame = named Geometry located.place f ∷ o in
    let opened : Frame = blank Role.Geometry located.typed.place in
    let typing : Frame = named TypeName located.typed.name_at opened in
    ap (λ (s : State). run (x2 ∷ (x3 ∷ (x4 ∷ (x5 ∷ [])))) s) (geometry_named x1 located.place feed f o a d e1)
    ∙ (ap (λ (s : State). run (x3 ∷ (x4 ∷ (x5 ∷ []))) s) (geometry_opened x2 located.typed.place (named Geometry located.place f) o a e2)
    ∙ (ap (λ (s : State). run (x4 ∷ (x5 ∷ [])) s) (type_named x3 located.typed.name_at located.typed.place os a e3)
    ∙ (ap (λ (s : State). step x5 s) (type_told x4 located.typed.word_at located.typed.word typing os a e4)
    ∙ (ap (λ (word : Word). step x5 (st 0 Names (type_set located.typed.word_at word typing) os a)) w
    ∙ coordinates_named x5 located.coordinates located.typed.place located.typed.name_at located.typed.word_at os a e5))))

-- the events from the position on
tail_run : (frames : ℕ) (x5 : Told) (ys rest : List Told) (located : Located) (flat : Flat) (w : Warnings) (close : ℕ) (f : Frame) (o : List Frame) (a z : Findings)
    → IsPointWith w flat → map event_of ys ≡ flat_events flat ++ at close What.CloseObject ∷ []
    → Leads frames (ys ++ rest) (with_feed (core 0 (Due Coordinates) (framed located) (f ∷ o) a) (named_feed x5 Coordinates)) z
    → run ys (with_feed (core 0 (Due Coordinates) (framed located) (f ∷ o) a) (named_feed x5 Coordinates)) ≡ st 0 Names (warned Geometry w f) o a
tail_run frames x5 ys rest located flat w close f o a z deserved e h =
    let before : State = with_feed (core 0 (Due Coordinates) (framed located) (f ∷ o) a) (named_feed x5 Coordinates) in
    let k = split_told ys (flat_events flat) (at close What.CloseObject ∷ []) e in
    let lone = one_told k.1 (at close What.CloseObject) k.4 in
    let leads : Leads frames (k.0 ++ (k.1 ++ rest)) before z =
    subst (λ (ts : List Told). Leads frames ts before z) (ap (λ (ts : List Told). ts ++ rest) k.2 ∙ append_assoc k.0 k.1 rest) h in
    let p = position_run frames x5 k.0 (k.1 ++ rest) flat.place (numbers_of flat) flat.close (framed located) (f ∷ o) a z k.3 leads in
    let found = deserved p.0 p.1 in
    ap (λ (ts : List Told). run ts before) k.2
    ∙ (run-append k.0 k.1 before
    ∙ (ap (λ (s : State). run k.1 s) p.2
    ∙ (ap (λ (ts : List Told). run ts (st 0 Names (filled Coordinates p.0 (framed located)) (f ∷ o) a)) lone.1
    ∙ geometry_closed lone.0 close located.typed.place located.typed.name_at located.typed.word_at located.coordinates p.0 w f o a found.0 found.1 lone.2)))

point_run : (frames : ℕ) (xs rest : List Told) (located : Located) (flat : Flat) (w : Warnings) (close : ℕ) (feed : Feed) (f : Frame) (o : List Frame) (a z : Findings)
    → due_after Geometry f ≡ Geometry → located.typed.word ≡ Word.Point → IsPointWith w flat → map event_of xs ≡ point_events located flat close
    → Leads frames (xs ++ rest) (with_feed (core 0 Names f o a) feed) z
    → run xs (with_feed (core 0 Names f o a) feed) ≡ st 0 Names (warned Geometry w (named Geometry located.place f)) o a
point_run frames xs rest located flat w close feed f o a z d word deserved e h =
    let b : State = with_feed (core 0 Names f o a) feed in
    let g = split_told xs (located_events located) (flat_events flat ++ at close What.CloseObject ∷ []) e in
    let k = five_told g.0 _ _ _ _ _ g.3 in
    let head : List Told = k.x1 ∷ (k.x2 ∷ (k.x3 ∷ (k.x4 ∷ (k.x5 ∷ [])))) in
    let after : State = with_feed (core 0 (Due Coordinates) (framed located) (named Geometry located.place f ∷ o) a) (named_feed k.x5 Coordinates) in
    let first : run head b ≡ after = head_run k.x1 k.x2 k.x3 k.x4 k.x5 located feed f o a d word k.e1 k.e2 k.e3 k.e4 k.e5 in
    let split : xs ≡ head ++ g.1 = g.2 ∙ ap (λ (ts : List Told). ts ++ g.1) k.all in
    let leads : Leads frames (g.1 ++ rest) (run head b) z =
    leads_at frames head (g.1 ++ rest) b z (subst (λ (ts : List Told). Leads frames (ts ++ rest) b z) split h) in
    ap (λ (ts : List Told). run ts b) split
    ∙ (run-append head g.1 b
    ∙ (ap (λ (s : State). run g.1 s) first
    ∙ tail_run frames k.x5 g.1 rest located flat w close (named Geometry located.place f) o a z deserved g.4
    (subst (λ (s : State). Leads frames (g.1 ++ rest) s z) first leads)))

-- ---- a call

-- Events which do this to the frame around, where they come before what is left of a text.
abbrev pub Runs : ℕ → List Event → ℕ → Warnings → Frame → Type 0
Runs frames es place w f =
    (xs rest : List Told) (feed : Feed) (o : List Frame) (a z : Findings) → map event_of xs ≡ es
    → Leads frames (xs ++ rest) (with_feed (core 0 Names f o a) feed) z
    → run xs (with_feed (core 0 Names f o a) feed) ≡ st 0 Names (warned Geometry w (named Geometry place f)) o a

-- Before them the rules are at a name.
pub told_by : {frames : ℕ} (old new : FramedRules frames) (es : List Event) (place : ℕ) (w : Warnings) → old.skipped ≡ 0 → old.mode ≡ Names
    → Runs frames es place w (top_of old) → core_of new ≡ record (core_of old) { top = warned Geometry w (named Geometry place (top_of old)) }
    → (events : List Event) → StandsFor old events → StandsFor new (events ++ es)
told_by {frames} old new es place w skipped mode runs c events h = λ text done rest e f d.
    let k = split_told done events es f in
    let split : text_told text ≡ k.0 ++ (k.1 ++ rest) = e ∙ (ap (λ (ts : List Told). ts ++ rest) k.2 ∙ append_assoc k.0 k.1 rest) in
    let stands = h text k.0 (k.1 ++ rest) split k.3 d in
    let before : State = run k.0 start in
    let leads : Leads frames (k.1 ++ rest) before (text_found text) = leads_at frames k.0 (k.1 ++ rest) start (text_found text)
    (subst (λ (ts : List Told). Leads frames ts start (text_found text)) split (lead_text frames old.few text d)) in
    let o : List Frame = (core_of old).outer in
    let a : Findings = (core_of old).answer in
    let here : core_of old ≡ core 0 Names (top_of old) o a =
    ap (λ (n : ℕ). core n old.mode (top_of old) o a) skipped ∙ ap (λ (m : Mode). core 0 m (top_of old) o a) mode in
    let was : before ≡ with_feed (core 0 Names (top_of old) o a) before.feed =
    ap (λ (y : Core). with_feed y before.feed) (sym stands.0 ∙ here) in
    let point : Frame = warned Geometry w (named Geometry place (top_of old)) in
    let ran : run k.1 before ≡ st 0 Names point o a =
    ap (λ (s : State). run k.1 s) was
    ∙ runs k.1 rest before.feed o a (text_found text) k.4 (subst (λ (s : State). Leads frames (k.1 ++ rest) s (text_found text)) was leads) in
    let now : core_of new ≡ core 0 Names point o a = c ∙ ap (λ (y : Core). record y { top = point }) here in
    subst (λ (s : State). Stands new s) (sym (ap (λ (ts : List Told). run ts start) k.2 ∙ (run-append k.0 k.1 start ∙ ran)))
    (now, holds_names new.skipped new.mode new.coordinates new.bbox [] (ap (λ (y : Core). y.mode) now))

-- The object uses `geometry` and has had none.
pub told_point : {frames : ℕ} (old new : FramedRules frames) (located : Located) (flat : Flat) (w : Warnings) (close : ℕ)
    → old.skipped ≡ 0 → old.mode ≡ Names → due_after Geometry (top_of old) ≡ Geometry → located.typed.word ≡ Word.Point → IsPointWith w flat
    → core_of new ≡ record (core_of old) { top = warned Geometry w (named Geometry located.place (top_of old)) }
    → (events : List Event) → StandsFor old events → StandsFor new (events ++ point_events located flat close)
told_point {frames} old new located flat w close skipped mode due word deserved c =
    told_by old new (point_events located flat close) located.place w skipped mode
    (λ xs rest feed o a z. point_run frames xs rest located flat w close feed (top_of old) o a z due word deserved) c
