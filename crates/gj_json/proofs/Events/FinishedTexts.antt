-- What the end of a text answers, and the levels that are open.
use Rattle.gj_json.proofs.Common.{Allowed, BegunAs, Bool, ConstantAt, EdgeAt, Event, Exact, FitsBroken, FitsLeaf, IsAdmitted, IsNumber, IsText}
use Rattle.gj_json.proofs.Common.{JsonFault, Keeps, LeafAs, Level, List, Mode, None, NumberOn, Option, Reader, RefusedFor, Some, StandsAs, StandsFor}
use Rattle.gj_json.proofs.Common.{StandsRefused, StandsWell, Text, Timed, Tree, Truncated, Under, ValueDone, all_events, ap, append_assoc, arith}
use Rattle.gj_json.proofs.Common.{depth, event_at, events, events_by, false, finish, finish_leaf, if◌then◌else◌, in_number, inner_of, leaf_timed}
use Rattle.gj_json.proofs.Common.{length, levels_of, levels_with, map-append, mark_events, open_at, option_to_list, partial_timed, refl, seen}
use Rattle.gj_json.proofs.Common.{stack_timed, subst, sym, text_events, text_with, true, under_leaf, under_of, value_of, ℕ, [], ◌++◌, ◌+◌, ◌↔◌, ◌∙◌}
use Rattle.gj_json.proofs.Common.{◌∷◌, ◌≡◌, ◌≤◌}
use Rattle.std.proofs.Common.{take}
use Rattle.std.specs.Option.{is_some}
use Rattle.std.proofs.lemmas.List.{append-nil}
use Rattle.std.proofs.Math.Seq.{take-append_seam}
use Rattle.gj_json.specs.declared.event.What.TheVariants as What
use Rattle.gj_json.specs.Tree.{number}
use Rattle.gj_json.specs.Internal.OpenLevels.{levels_in}
use Rattle.gj_json.specs.Internal.TextMachine.{Frame, in_array, in_object, Leaf, value_due, value_done, array_opened, object_opened, constant_on, number_on}
use Rattle.gj_json.specs.Internal.TextMachine.{string_on, name_due, name_on, colon_due, Broken, text_due, mark_one, mark_two, begun}
use Rattle.gj_json.specs.Internal.TextMachine.{is_number}
use Rattle.gj_json.specs.Internal.ToldEvents.{last_event}
use Rattle.gj_json.proofs.Machine.Completions.{Goes, TextFrom}
use Rattle.gj_json.proofs.Machine.CompletableStates.{fits_viable}
use Rattle.gj_json.proofs.Machine.CompletedEnds.{finish_iff}
use Rattle.gj_json.proofs.Events.OpenContainers.{open_levels}
use Rattle.gj_json.proofs.Events.PastEvents.{events_seen}
use Rattle.gj_json.proofs.Readers.ReadBytes.{well_of, open_of}
use Rattle.gj_number.specs.Literal.{StandsFor as LiteralStandsFor}
use Rattle.gj_json.specs.Internal.UnderWay.{nothing, number as number_under, text as text_under}
use Rattle.gj_json.proofs.Machine.BytesUnderWay.{has_number, mode_under}
use Rattle.gj_number.proofs.Grammar.DecidedNumbers.{number as decided_number}
use Rattle.gj_json.proofs.Machine.MachineTexts.{text_start, text_goes_on, Finishes, text_finishes, finishes_text}
use Rattle.gj_json.proofs.Events.EventTimes.{told}

-- what the last event says of the end of the machine's run
abbrev Says : ℕ → List Timed → Option (Option Event) → Option Tree → Type 0
Says d before None o = o ≡ None
Says d before (Some found) o = (tree : Tree) × (o ≡ Some tree) × (depth tree ≤ d) × (told (events tree) ≡ told before ++ option_to_list found)

-- the number under way may end here or not, and has this value where it may
abbrev pub EndsAs : Under → Bool → Option Exact → Type 0
EndsAs (number_under so_far) may_end value = (may_end ≡ is_number so_far) × (is_number so_far ≡ true → value ≡ value_of so_far)
EndsAs _ may_end value = Unit {0}

module _ (may_end : Bool) (value : Option Exact) where
  top_says : (d : ℕ) (stack : List Frame) (t : Tree) (n start : ℕ) → depth t + length stack ≤ d
      → Says d (stack_timed stack ++ events t) (last_event ValueDone (inner_of (levels_of stack)) may_end value start) (finish_leaf stack (value_done t) n)
  top_says d [] t n start f = (t, refl, omega (arith, f), sym (append-nil (told (events t))))
  top_says d (in_array place done ∷ stack) t n start f = refl
  top_says d (in_object place done np name ne ∷ stack) t n start f = refl

  number_says : (d : ℕ) (stack : List Frame) (place : ℕ) (so_far : List ℕ) (n : ℕ) → EndsAs (number_under so_far) may_end value
      → Says d (stack_timed stack ++ []) (last_event NumberOn (inner_of (levels_of stack)) may_end value place) (finish_leaf stack (number_on place so_far) n)
  number_says d [] place so_far n h = rw (h.0) (go (is_number so_far) h.1)
    where
      go : (t : Bool) → (t ≡ true → value ≡ value_of so_far)
          → Says d [] (if t then Some (Some (event_at place (What.Number value))) else None) (if t then Some (number place so_far n) else None)
      go true v = (number place so_far n, refl, omega arith, rw (v refl) refl)
      go false v = refl
  number_says d (in_array p done ∷ stack) place so_far n h = refl
  number_says d (in_object p done np name ne ∷ stack) place so_far n h = refl

  leaf_says : (d : ℕ) (stack : List Frame) (leaf : Leaf) (mode : Mode) (start n : ℕ) → LeafAs leaf mode → EndsAs (under_leaf leaf) may_end value
      → FitsLeaf d stack leaf → BegunAs leaf start → ConstantAt leaf n
      → Says d (stack_timed stack ++ leaf_timed leaf) (last_event mode (inner_of (levels_with leaf (levels_of stack))) may_end value start)
      (finish_leaf stack leaf n)
  leaf_says d stack (value_done t) mode start n a u f g w = rw a (top_says d stack t n start f.0)
  leaf_says d stack (number_on place so_far) mode start n a u f g w = rw (a, g) (number_says d stack place so_far n u)
  leaf_says d [] (constant_on which place []) mode start n a u f g w = absurd (omega (arith, w.1))
  leaf_says d [] (constant_on which place (x ∷ left)) mode start n a u f g w = rw (a.1) refl
  leaf_says d (frame ∷ stack) (constant_on which place left) mode start n a u f g w = rw (a.1) refl
  leaf_says d [] value_due mode start n a u f g w = rw a refl
  leaf_says d (frame ∷ stack) value_due mode start n a u f g w = rw a refl
  leaf_says d [] (array_opened place) mode start n a u f g w = rw a refl
  leaf_says d (frame ∷ stack) (array_opened place) mode start n a u f g w = rw a refl
  leaf_says d [] (object_opened place) mode start n a u f g w = rw a refl
  leaf_says d (frame ∷ stack) (object_opened place) mode start n a u f g w = rw a refl
  leaf_says d [] (string_on place so_far state) mode start n a u f g w = rw a refl
  leaf_says d (frame ∷ stack) (string_on place so_far state) mode start n a u f g w = rw a refl
  leaf_says d [] (name_due place done) mode start n a u f g w = rw a refl
  leaf_says d (frame ∷ stack) (name_due place done) mode start n a u f g w = rw a refl
  leaf_says d [] (name_on place done np so_far state) mode start n a u f g w = rw a refl
  leaf_says d (frame ∷ stack) (name_on place done np so_far state) mode start n a u f g w = rw a refl
  leaf_says d [] (colon_due place done np name ne) mode start n a u f g w = rw a refl
  leaf_says d (frame ∷ stack) (colon_due place done np name ne) mode start n a u f g w = rw a refl

-- ---- a whole text

abbrev TextSays : ℕ → List Timed → Option (Option Event) → Option Text → Type 0
TextSays d before None o = o ≡ None
TextSays d before (Some found) o = (text : Text) × (o ≡ Some text) × (depth text.value ≤ d) × (told (text_events text) ≡ told before ++ option_to_list found)

marked_says : (d : ℕ) (marked : Bool) (before : List Timed) (found : Option (Option Event)) (o : Option Tree) → Says d before found o
    → TextSays d (mark_events marked ++ before) found (text_with marked o)
marked_says d marked before None o h = rw h refl
marked_says d marked before (Some found) o h = (
  record { marked = marked; value = h.0 },
  rw (h.1) refl,
  h.2,
  map-append (λ (x : Timed). x.event) (mark_events marked) (events h.0) ∙ ap (λ xs. told (mark_events marked) ++ xs) h.3
      ∙ sym (append_assoc (told (mark_events marked)) (told before) (option_to_list found))
      ∙ ap (λ xs. xs ++ option_to_list found) (sym (map-append (λ (x : Timed). x.event) (mark_events marked) before)),
)

module _ (may_end : Bool) (value : Option Exact) where
  text_says : (d : ℕ) (s : Broken) (mode : Mode) (levels : List Level) (start n : ℕ) → StandsAs s mode levels → EndsAs (under_of s) may_end value
      → FitsBroken d s → EdgeAt s start n → TextSays d (seen s) (last_event mode (inner_of levels) may_end value start) (finish s n)
  text_says d text_due mode levels start n a u f e = rw (a.0) refl
  text_says d mark_one mode levels start n a u f e = rw (a.0) refl
  text_says d mark_two mode levels start n a u f e = rw (a.0) refl
  text_says d (begun marked s) mode levels start n a u f e =
      rw (a.1) (marked_says d marked (partial_timed s) _ (finish_leaf s.stack s.leaf n) (leaf_says may_end value d s.stack s.leaf mode start n a.0 u f e.0 e.1))

-- ---- the reader

abbrev pub Ends : Allowed → ℕ → List ℕ → Option (Option Event) → Type 0
Ends limits offset bytes None = RefusedFor Truncated limits bytes offset
Ends limits offset bytes (Some found) = (text : Text) × IsAdmitted limits text bytes × (all_events text ≡ events_by (length bytes) text ++ option_to_list found)

ends_go : (limits : Allowed) (mode : Mode) (levels : List Level) (start offset : ℕ) (bytes : List ℕ) (k : StandsWell limits mode levels start offset bytes)
    (o : Option (Option Event))
    → TextSays limits.depth (seen k.state) o (finish k.state (length bytes)) → Ends limits offset bytes o
ends_go limits mode levels start offset bytes k None h = (
  k.at,
  k.within,
  fits_viable limits.depth bytes (rw (k.runs) k.fits),
  λ text t. let g =
      text_finishes text bytes t.0 in let j : Finishes text (length bytes) (Some k.state) = rw (k.runs) at g in cc,
)
ends_go limits mode levels start offset bytes k (Some found) h =
    let f : Finishes h.0 (length bytes) (Some k.state) = h.1 in
    let t : IsText h.0 bytes = finishes_text h.0 bytes (rw (k.runs) f) in
    let c : TextFrom h.0 (length bytes) [] k.state = (finish_iff k.state h.0 (length bytes)).1 f in
    let s : events_by (length bytes) h.0 ≡ told (seen k.state) = events_seen k.state h.0 (length bytes) start [] (rw (← k.at) k.timely) c in
    (h.0, ((t, h.2), omega (arith, k.at, k.within)), h.3 ∙ ap (λ xs. xs ++ option_to_list found) (sym s))

-- what the literal says of the number under way
abbrev pub LiteralEnds : Reader → Bool → Option Exact → Type 0
LiteralEnds reader may_end value =
    (bytes : List ℕ) → LiteralStandsFor reader.literal bytes → ((may_end ≡ true) ↔ IsNumber bytes) × (IsNumber bytes → value ≡ value_of bytes)

ends_as : (u : Under) (reader : Reader) (may_end : Bool) (value : Option Exact) → LiteralEnds reader may_end value → Keeps u reader.literal reader.content
    → EndsAs u may_end value
ends_as nothing reader may_end value h k = tt
ends_as (text_under so_far state) reader may_end value h k = tt
ends_as (number_under so_far) reader may_end value h k = (
  go may_end (is_number so_far) (λ e. (decided_number so_far).1 ((h so_far k).0.0 e)) (λ e. (h so_far k).0.1 ((decided_number so_far).0 e)),
  λ e. (h so_far k).1 ((decided_number so_far).0 e),
)
  where
    go : (x y : Bool) → (x ≡ true → y ≡ true) → (y ≡ true → x ≡ true) → x ≡ y
    go true y f g = sym (f refl)
    go false true f g = g refl
    go false false f g = refl

pub ends : (reader : Reader) (bytes : List ℕ) (may_end : Bool) (value : Option Exact) → LiteralEnds reader may_end value → reader.fault ≡ None
    → StandsFor reader bytes
    → Ends reader.limits reader.offset bytes (last_event reader.mode (inner_of (levels_in reader.levels)) may_end value reader.start)
ends reader bytes may_end value l live h =
    let o = open_of reader bytes live h in
    let k = o.well in
    ends_go reader.limits reader.mode (levels_in reader.levels) reader.start reader.offset bytes k
    (last_event reader.mode (inner_of (levels_in reader.levels)) may_end value reader.start)
    (text_says may_end value reader.limits.depth k.state reader.mode (levels_in reader.levels) reader.start (length bytes) k.kept
    (ends_as (under_of k.state) reader may_end value l o.keeps) k.fits (rw (← k.at) k.timely.edge))

-- the number under way, read off the machine and not the literal
under_so : (u : Under) → (may_end : Bool) × (value : Option Exact) × EndsAs u may_end value
under_so nothing = (false, None, tt)
under_so (text_under so_far state) = (false, None, tt)
under_so (number_under so_far) = (is_number so_far, value_of so_far, (refl, λ e. refl))

pub under_ends : (reader : Reader) (bytes : List ℕ) → reader.fault ≡ None → StandsFor reader bytes
    → (may_end : Bool) × (value : Option Exact)
    × Ends reader.limits reader.offset bytes (last_event reader.mode (inner_of (levels_in reader.levels)) may_end value reader.start)
under_ends reader bytes live h =
    let o = open_of reader bytes live h in
    let k = o.well in
    let u = under_so (under_of k.state) in (
      u.0,
      u.1,
      ends_go reader.limits reader.mode (levels_in reader.levels) reader.start reader.offset bytes k
          (last_event reader.mode (inner_of (levels_in reader.levels)) u.0 u.1 reader.start)
          (text_says u.0 u.1 reader.limits.depth k.state reader.mode (levels_in reader.levels) reader.start (length bytes) k.kept u.2 k.fits
          (rw (← k.at) k.timely.edge)),
    )

pub none_is : {A : Type 0} (x : Option A) → is_some x ≡ false → x ≡ None
none_is None e = refl
none_is (Some y) e = cc

none_under : (u : Under) (may_end : Bool) (value : Option Exact) → has_number u ≡ false → EndsAs u may_end value
none_under nothing may_end value e = tt
none_under (text_under so_far state) may_end value e = tt
none_under (number_under so_far) may_end value e = cc

-- after a value that nothing is around
pub whole_ends : (reader : Reader) (bytes : List ℕ) → reader.fault ≡ None → reader.mode ≡ ValueDone → inner_of (levels_in reader.levels) ≡ None
    → StandsFor reader bytes → Ends reader.limits reader.offset bytes (Some None)
whole_ends reader bytes live done outer h =
    let o = open_of reader bytes live h in
    let k = o.well in
    let number_free : in_number reader.mode ≡ false = subst (λ (m : Mode). in_number m ≡ false) (sym done) refl in
    let free : has_number (under_of k.state) ≡ false = sym (mode_under k.state reader.mode (levels_in reader.levels) k.kept) ∙ number_free in
    let says : Option (Option Event) → Type 0 = λ o. TextSays reader.limits.depth (seen k.state) o (finish k.state (length bytes)) in
    let e : says (last_event reader.mode (inner_of (levels_in reader.levels)) false None reader.start) =
    text_says false None reader.limits.depth k.state reader.mode (levels_in reader.levels) reader.start (length bytes) k.kept
    (none_under (under_of k.state) false None free) k.fits (rw (← k.at) k.timely.edge) in
    let f = subst (λ (m : Mode). says (last_event m (inner_of (levels_in reader.levels)) false None reader.start)) done e in
    ends_go reader.limits reader.mode (levels_in reader.levels) reader.start reader.offset bytes k (Some None)
    (subst (λ (i : Option Level). says (last_event ValueDone i false None reader.start)) outer f)

well_levels : (limits : Allowed) (mode : Mode) (levels : List Level) (start offset : ℕ) (bytes rest : List ℕ) (text : Text)
    → StandsWell limits mode levels start offset bytes → IsText text (bytes ++ rest) → length levels ≡ open_at offset text
well_levels limits mode levels start offset bytes rest text k t =
    let c : TextFrom text (length bytes) rest k.state =
    (let j = text_goes_on text bytes rest t in let i : Goes (TextFrom text (length bytes) rest) (Some k.state) = rw (k.runs) at j in i) in
    open_levels k.state mode levels text offset start rest k.kept k.timely (rw (k.at) c)

taken_split : (bytes taken rest : List ℕ) (offset : ℕ) → bytes ≡ taken ++ rest → offset ≡ length taken → take offset bytes ≡ taken
taken_split bytes taken rest offset e n = rw (e, n) (take-append_seam taken rest)

pub levels_are : (reader : Reader) (bytes rest : List ℕ) (text : Text) → StandsFor reader bytes → IsText text (take reader.offset bytes ++ rest)
    → length (levels_in reader.levels) ≡ open_at reader.offset text
levels_are reader bytes rest text h t = go reader.fault refl
  where
    go : (o : Option JsonFault) → reader.fault ≡ o → length (levels_in reader.levels) ≡ open_at reader.offset text
    go None e =
        let w = well_of reader bytes e h in
        let f : take reader.offset bytes ≡ bytes = taken_split bytes bytes [] reader.offset (sym (append-nil bytes)) w.at in
        well_levels reader.limits reader.mode (levels_in reader.levels) reader.start reader.offset bytes rest text w (rw f at t)
    go (Some fault) e =
        let r : StandsRefused reader.limits fault reader.mode (levels_in reader.levels) reader.start reader.offset bytes = rw e at h in
        let f : take reader.offset bytes ≡ r.taken = taken_split bytes r.taken r.rest reader.offset r.split r.well.at in
        well_levels reader.limits reader.mode (levels_in reader.levels) reader.start reader.offset r.taken rest text r.well (rw f at t)

pub none_at_first : (text : Text) (rest : List ℕ) → IsText text rest → events_by 0 text ≡ []
none_at_first text rest t = events_seen text_due text 0 0 rest (record { seen_by = tt; edge = refl }) (text_start text rest t)
