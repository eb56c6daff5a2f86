-- What a piece leaves of a locator, and the path that it reports.
use Rattle.gj_json.proofs.Common.{Allowed, Err, Event, IsText, JsonFault, Level, List, Mode, None, Ok, Option, PathStep, Reader, Result, Some}
use Rattle.gj_json.proofs.Common.{StandsFor, StandsRefused, StandsWell, Text, TrailAt, ap, append_assoc, arith, events_by, inner_steps, length}
use Rattle.gj_json.proofs.Common.{length-take-le, path_at, refl, seen, subst, sym, ℕ, [], ◌++◌, ◌+◌, ◌-◌, ◌∙◌, ◌≡◌, ◌≤◌}
use Rattle.std.proofs.Common.{take}
use Rattle.std.specs.Prelude.{MatchResult}
use Rattle.std.proofs.Math.Seq.{take-append-add}
use Rattle.std.proofs.lemmas.List.{append-nil, take-append-le}
use Rattle.gj_json.specs.declared.locator.Locator.{Locator}
use Rattle.gj_json.specs.declared.path.Path.{Path}
use Rattle.gj_json.specs.Limits.{IsAllowed}
use Rattle.gj_json.specs.Internal.OpenLevels.{levels_in}
use Rattle.gj_json.specs.Reader.{Hears, HearsBy}
use Rattle.gj_json.specs.Path.{steps_of}
use Rattle.gj_json.specs.Internal.PathTrail.{Follows, begins, kept_steps}
use Rattle.gj_json.specs.Locator.{Trails, StandsFor as LocatorStandsFor}
use Rattle.gj_json.proofs.Machine.Completions.{Goes, TextFrom}
use Rattle.gj_json.proofs.Machine.MachineTexts.{text_goes_on}
use Rattle.gj_json.proofs.Machine.ReachedStates.{reached}
use Rattle.gj_json.proofs.Events.EventTimes.{told}
use Rattle.gj_json.proofs.Events.PastEvents.{events_seen}
use Rattle.gj_json.proofs.Readers.CallsInTurn.{live_offset, refused_offset, refused_within, refused_stands, taken_within}
use Rattle.gj_json.proofs.Readers.ReadBytes.{well_of}
use Rattle.gj_json.proofs.Paths.PathSteps.{outward, from_back}
use Rattle.gj_json.proofs.Paths.EventTrails.{seen_trail}
use Rattle.gj_json.proofs.Paths.PathsOfStates.{path_leads}
use Rattle.gj_json.proofs.Grammar.NonemptyTokens.{whole_text}
use Rattle.gj_json.proofs.Pieces.PieceRests.{take_all_of}

-- ---- a piece

abbrev Heard : Locator → List Event → Type 0
Heard locator events = Follows (inner_steps locator.trail) events []

-- what the reader reported of a piece, by how many bytes it took
hears_to : (old new : Reader) (heard : List Event → Type 0) (events : List Event) (bytes given : List ℕ) (result : Result (Unit {0}) JsonFault)
    → StandsFor new (bytes ++ given)
    → MatchResult result (λ done. new.fault ≡ None) (λ fault. new.fault ≡ Some fault) → HearsBy heard events bytes given result
    → Hears heard events (length bytes) new.offset (take new.offset (bytes ++ given))
hears_to old new heard events bytes given (Ok done) k live w =
    let n : new.offset ≡ length (bytes ++ given) = live_offset new (bytes ++ given) live k in
    rw (take_all_of (bytes ++ given) new.offset n, n) w
hears_to old new heard events bytes given (Err fault) k refused w = rw (sym (refused_offset new (bytes ++ given) fault refused k)) w

trails_on : (old new : Locator) (bytes given : List ℕ) (events : List Event) → old.reader.offset ≡ length bytes → old.reader.offset ≤ new.reader.offset
    → new.reader.offset ≤ length (bytes ++ given)
    → ((text : Text) (rest : List ℕ) → IsText text (take old.reader.offset bytes ++ rest) → events_by (length (take old.reader.offset bytes)) text ≡ events)
    → Hears (Heard new) events (length bytes) new.reader.offset (take new.reader.offset (bytes ++ given))
    → Trails new.trail (take new.reader.offset (bytes ++ given))
trails_on old new bytes given events at on within before w = record { events = events ++ w.0; follows = w.1; complete = λ text rest t. complete text rest t }
  where
    complete : (text : Text) (rest : List ℕ) → IsText text (take new.reader.offset (bytes ++ given) ++ rest)
        → events_by (length (take new.reader.offset (bytes ++ given))) text ≡ events ++ w.0
    complete text rest t =
        let n : length (take new.reader.offset (bytes ++ given)) ≡ new.reader.offset = length-take-le new.reader.offset (bytes ++ given) within in
        let more = new.reader.offset - length bytes in
        let m : new.reader.offset ≡ length bytes + more = omega (arith, at, on) in
        let f : take new.reader.offset (bytes ++ given) ≡ bytes ++ take more given = ap (λ k. take k (bytes ++ given)) m ∙ take-append-add bytes given more in
        let P : List ℕ → Type 0 = λ xs. IsText text (xs ++ rest) in
        let Q : List ℕ → Type 0 = λ xs. IsText text xs in
        let R : List ℕ → Type 0 = λ xs. IsText text (xs ++ (take more given ++ rest)) in
        let g : take old.reader.offset bytes ≡ bytes = take_all_of bytes old.reader.offset at in
        let u : IsText text (take old.reader.offset bytes ++ (take more given ++ rest)) =
        subst R (sym g) (subst Q (append_assoc bytes (take more given) rest) (subst P f t)) in
        let e : events_by (length bytes) text ≡ events = ap (λ xs. events_by (length xs) text) (sym g) ∙ before text (take more given ++ rest) u in
        ap (λ k. events_by k text) n ∙ w.2 text rest t ∙ ap (λ es. es ++ w.0) e

-- before the first byte nothing is complete
pub first_trails : (trail : Path) (offset : ℕ) → offset ≡ 0 → inner_steps trail ≡ []
    → ((text : Text) (rest : List ℕ) → IsText text rest → events_by 0 text ≡ []) → Trails trail (take offset [])
first_trails trail offset e r none = rw e (record { events = []; follows = r; complete = none })

-- a locator that has refused a byte stands for whatever follows
refused_on : (locator : Locator) (bytes more : List ℕ) (fault : JsonFault) → locator.reader.fault ≡ Some fault → LocatorStandsFor locator bytes
    → LocatorStandsFor locator (bytes ++ more)
refused_on locator bytes more fault e h =
    let t : take locator.reader.offset (bytes ++ more) ≡ take locator.reader.offset bytes =
    take-append-le locator.reader.offset bytes more (refused_within locator.reader bytes fault e h.stands) in
    let P : List ℕ → Type 0 = λ xs. Trails locator.trail xs in
    record { allowed = h.allowed; stands = refused_stands locator.reader bytes more fault e h.stands; trails = subst P (sym t) h.trails }

pub fed_on : (old new : Locator) (bytes given : List ℕ) (result : Result (Unit {0}) JsonFault) → new.reader.limits ≡ old.reader.limits
    → old.reader.offset ≤ new.reader.offset
    → MatchResult result (λ done. new.reader.fault ≡ None) (λ fault. new.reader.fault ≡ Some fault)
    → ((fault : JsonFault) → old.reader.fault ≡ Some fault → (new.reader ≡ old.reader) × (new.trail ≡ old.trail))
    → (StandsFor old.reader bytes → StandsFor new.reader (bytes ++ given))
    → ((events : List Event) → old.reader.fault ≡ None → StandsFor old.reader bytes → Heard old events → HearsBy (Heard new) events bytes given result)
    → LocatorStandsFor old bytes → LocatorStandsFor new (bytes ++ given)
fed_on old new bytes given result same on refusal again stands heard h = go old.reader.fault refl
  where
    live : old.reader.fault ≡ None → LocatorStandsFor new (bytes ++ given)
    live e =
        let k = stands h.stands in
        let w = hears_to old.reader new.reader (Heard new) h.trails.events bytes given result k refusal (heard h.trails.events e h.stands h.trails.follows) in
        record {
          allowed = rw same h.allowed;
          stands = k;
          trails = trails_on old new bytes given h.trails.events (live_offset old.reader bytes e h.stands) on
              (taken_within new.reader (bytes ++ given) k) h.trails.complete w;
        }

    go : (o : Option JsonFault) → old.reader.fault ≡ o → LocatorStandsFor new (bytes ++ given)
    go None e = live e
    go (Some fault) e =
        let a = again fault e in
        let P : Locator → Type 0 = λ l. LocatorStandsFor l (bytes ++ given) in
        let kept : old ≡ new =
        ap (λ (r : Reader). record { trail = old.trail; reader = r }) (sym a.0) ∙ ap (λ (t : Path). record { trail = t; reader = new.reader }) (sym a.1) in
        subst P kept (refused_on old bytes given fault e h)

-- ---- the path

well_leads : (limits : Allowed) (mode : Mode) (levels : List Level) (start offset : ℕ) (taken rest : List ℕ) (text : Text) (trail : Path)
    → IsAllowed limits.depth limits.bytes → StandsWell limits mode levels start offset taken → Trails trail taken
    → IsText text (taken ++ rest) → path_at offset text ≡ outward (kept_steps (begins mode start offset) (inner_steps trail)) []
well_leads limits mode levels start offset taken rest text trail a k w t =
    let from : TextFrom text (length taken) rest k.state =
    (let j = text_goes_on text taken rest t in let i : Goes (TextFrom text (length taken) rest) (Some k.state) = rw (k.runs) at j in i) in
    let c : TextFrom text offset rest k.state = rw (k.at) from in
    let seen_by : events_by offset text ≡ told (seen k.state) = events_seen k.state text offset start rest k.timely c in
    let e : w.events ≡ told (seen k.state) = sym (w.complete text rest t) ∙ ap (λ n. events_by n text) (sym k.at) ∙ seen_by in
    let P : List Event → Type 0 = λ es. Follows (inner_steps trail) es [] in
    let few = (reached taken k.state k.runs).few in
    let at : TrailAt k.state (inner_steps trail) =
    seen_trail k.state limits.depth (inner_steps trail) k.fits a.most_levels (omega (arith, few, k.at, k.within, a.most_bytes)) (subst P e w.follows) in
    path_leads k.state mode levels text offset start rest (inner_steps trail) (whole_text text (taken ++ rest) t) k.kept k.timely at c

locator_leads : (locator : Locator) (bytes rest : List ℕ) (text : Text) → LocatorStandsFor locator bytes
    → IsText text (take locator.reader.offset bytes ++ rest)
    → path_at locator.reader.offset text ≡ outward
    (kept_steps (begins locator.reader.mode locator.reader.start locator.reader.offset) (inner_steps locator.trail)) []
locator_leads locator bytes rest text h t = go locator.reader.fault refl
  where
    from : (taken more : List ℕ) → bytes ≡ taken ++ more
        → StandsWell locator.reader.limits locator.reader.mode (levels_in locator.reader.levels) locator.reader.start locator.reader.offset taken
        → path_at locator.reader.offset text ≡ outward
        (kept_steps (begins locator.reader.mode locator.reader.start locator.reader.offset) (inner_steps locator.trail)) []
    from taken more e w =
        let f : take locator.reader.offset bytes ≡ taken = ap (λ xs. take locator.reader.offset xs) e
        ∙ take-append-le locator.reader.offset taken more (omega (arith, w.at)) ∙ take_all_of taken locator.reader.offset w.at in
        let P : List ℕ → Type 0 = λ xs. Trails locator.trail xs in
        let Q : List ℕ → Type 0 = λ xs. IsText text (xs ++ rest) in
        well_leads locator.reader.limits locator.reader.mode
        (levels_in locator.reader.levels) locator.reader.start locator.reader.offset taken rest text locator.trail h.allowed w (subst P f h.trails)
        (subst Q f t)

    go : (o : Option JsonFault) → locator.reader.fault ≡ o
        → path_at locator.reader.offset text ≡ outward
        (kept_steps (begins locator.reader.mode locator.reader.start locator.reader.offset) (inner_steps locator.trail)) []
    go None e = from bytes [] (sym (append-nil bytes)) (well_of locator.reader bytes e h.stands)
    go (Some fault) e =
        let r : StandsRefused locator.reader.limits fault locator.reader.mode
        (levels_in locator.reader.levels) locator.reader.start locator.reader.offset bytes = rw e at h.stands in
        from r.taken r.rest r.split r.well

-- this path has the steps that are kept
abbrev pub Keeps : Locator → Path → Type 0
Keeps locator path = inner_steps path ≡ kept_steps (begins locator.reader.mode locator.reader.start locator.reader.offset) (inner_steps locator.trail)

pub path_told : (locator : Locator) (path : Path) → Keeps locator path
    → (bytes rest : List ℕ) (text : Text) → LocatorStandsFor locator bytes → IsText text (take locator.reader.offset bytes ++ rest)
    → steps_of path ≡ path_at locator.reader.offset text
path_told locator path e bytes rest text h t =
    let g : outward (inner_steps path) [] ≡ steps_of path = from_back path.steps path.count [] path.room ∙ append-nil (steps_of path) in
    sym g ∙ ap (λ (xs : List PathStep). outward xs []) e ∙ sym (locator_leads locator bytes rest text h t)

pub path_taken : (locator : Locator) (path : Path) → Keeps locator path
    → (bytes rest : List ℕ) (text : Text) → LocatorStandsFor locator bytes → locator.reader.fault ≡ None → IsText text (bytes ++ rest)
    → steps_of path ≡ path_at (length bytes) text
path_taken locator path e bytes rest text h live t =
    let o : locator.reader.offset ≡ length bytes = live_offset locator.reader bytes live h.stands in
    let f : bytes ≡ take locator.reader.offset bytes = sym (take_all_of bytes locator.reader.offset o) in
    let u : IsText text (take locator.reader.offset bytes ++ rest) = subst (λ (xs : List ℕ). IsText text (xs ++ rest)) f t in
    path_told locator path e bytes rest text h u ∙ ap (λ n. path_at n text) o

pub path_refused : (locator : Locator) (path : Path) → Keeps locator path
    → (bytes rest : List ℕ) (text : Text) (fault : JsonFault) → LocatorStandsFor locator bytes → locator.reader.fault ≡ Some fault
    → IsText text (take fault.place bytes ++ rest) → steps_of path ≡ path_at fault.place text
path_refused locator path e bytes rest text fault h refused t =
    let o : fault.place ≡ locator.reader.offset = refused_offset locator.reader bytes fault refused h.stands in
    let u : IsText text (take locator.reader.offset bytes ++ rest) = subst (λ n. IsText text (take n bytes ++ rest)) o t in
    path_told locator path e bytes rest text h u ∙ ap (λ n. path_at n text) (sym o)
