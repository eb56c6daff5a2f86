-- What a call that takes bytes leaves, one call after another.
use Rattle.gj_json.proofs.Common.{Allowed, Applied, Cause, Close, Completed, Depth, Err, Event, FeedsAll, FeedsTo, Go, IsOpenFor, IsRefusal, IsText, JsonFault}
use Rattle.gj_json.proofs.Common.{Length, Level, List, Mode, Move, None, OfPrefix, Ok, Open, Option, PassesTo, Reader, Refuse, RefusesWith, Result, Skips, Some}
use Rattle.gj_json.proofs.Common.{StandsFor, StandsOpen, StandsRefused, Syntax, Takes, ValueDone, ap, append_assoc, arith, drop, eqb_tells, events_by}
use Rattle.gj_json.proofs.Common.{get_or, inl, inr, length, length-take-le, move_by, opened, outer_of, refl, subst, sym, take-add, take-append-drop}
use Rattle.gj_json.proofs.Common.{take_more, told_by, told_on, under_of, ℕ, [], ◌++◌, ◌+◌, ◌-◌, ◌<◌, ◌∙◌, ◌∷◌, ◌≡◌, ◌≤◌}
use Rattle.std.proofs.Common.{take}
use Rattle.std.proofs.Common.{append-nil}
use Rattle.std.specs.Result.{MatchResult, IfOk}
use Rattle.std.proofs.lemmas.List.{length-append, take-append-le}
use Rattle.std.proofs.Math.Seq.{take-append-add}
use Rattle.gj_json.specs.Internal.OpenLevels.{levels_in}
use Rattle.gj_json.specs.Internal.FedReader.{SkipsBy, leading, in_literal, in_text, Feeds, HearsTwo}
use Rattle.gj_json.proofs.Machine.BytesUnderWay.{mode_under, mode_state}
use Rattle.gj_json.proofs.Readers.NumberUnderWay.{keeps_none}
use Rattle.gj_json.specs.Reader.{Answers, Hears, HearsBy}
use Rattle.gj_json.specs.Internal.ReaderStep.{IsRefusedWith}
use Rattle.gj_json.proofs.Readers.ReadBytes.{pushed, completed, stop, well_viable, well_of, open_of, refuses_on, lasts}
use Rattle.gj_json.proofs.Events.EventsOfSteps.{emitted_few}
use Rattle.gj_json.proofs.Pieces.QuietRuns.{quiet_run, digits_run, text_run}
use Rattle.gj_json.proofs.Pieces.PieceRests.{take_all_of, rest_of, left_at, more_within}

-- ---- what a reader that stands for bytes says of them

-- a reader that has refused a byte stands for whatever follows
pub refused_stands : (reader : Reader) (bytes more : List ℕ) (fault : JsonFault) → reader.fault ≡ Some fault → StandsFor reader bytes
    → StandsFor reader (bytes ++ more)
refused_stands reader bytes more fault e h =
    let k : StandsRefused reader.limits fault reader.mode (levels_in reader.levels) reader.start reader.offset bytes = rw e at h in
    let g : StandsRefused reader.limits fault reader.mode (levels_in reader.levels) reader.start reader.offset (bytes ++ more) = record {
      by_byte = k.by_byte;
      refusal = lasts reader.limits bytes more fault.cause fault.place k.by_byte k.refusal;
      place = k.place;
      taken = k.taken;
      rest = k.rest ++ more;
      split = ap (λ xs. xs ++ more) k.split ∙ append_assoc k.taken k.rest more;
      well = k.well;
    } in
    rw e g

pub answers_ok : {A : Type 0} (reader : Reader) (bytes : List ℕ) (limits : Allowed) (result : Result A JsonFault) (x : A) → result ≡ Ok x
    → reader.limits ≡ limits → reader.fault ≡ None → StandsFor reader bytes → Answers limits bytes result
answers_ok reader bytes limits result x r l e h =
    let k = well_of reader bytes e h in
    rw (r, ← l) (well_viable reader.limits.depth bytes k.state k.runs k.fits, omega (arith, k.at, k.within))

pub kept_answer : (reader : Reader) (bytes : List ℕ) (fault : JsonFault) → reader.fault ≡ Some fault → StandsFor reader bytes
    → IsRefusal reader.limits bytes fault × ((more : List ℕ) → IsRefusal reader.limits (bytes ++ more) fault)
kept_answer reader bytes fault e h =
    let k : StandsRefused reader.limits fault reader.mode (levels_in reader.levels) reader.start reader.offset bytes = rw e at h in
    (k.refusal, λ more. lasts reader.limits bytes more fault.cause fault.place k.by_byte k.refusal)

pub live_offset : (reader : Reader) (bytes : List ℕ) → reader.fault ≡ None → StandsFor reader bytes → reader.offset ≡ length bytes
live_offset reader bytes e h = (well_of reader bytes e h).at

pub refused_offset : (reader : Reader) (bytes : List ℕ) (fault : JsonFault) → reader.fault ≡ Some fault → StandsFor reader bytes → fault.place ≡ reader.offset
refused_offset reader bytes fault e h =
    let k : StandsRefused reader.limits fault reader.mode (levels_in reader.levels) reader.start reader.offset bytes = rw e at h in k.place

pub refused_within : (reader : Reader) (bytes : List ℕ) (fault : JsonFault) → reader.fault ≡ Some fault → StandsFor reader bytes → reader.offset ≤ length bytes
refused_within reader bytes fault e h =
    let k : StandsRefused reader.limits fault reader.mode (levels_in reader.levels) reader.start reader.offset bytes = rw e at h in
    omega (arith, k.well.at, ap length k.split, length-append k.taken k.rest)

pub taken_within : (reader : Reader) (bytes : List ℕ) → StandsFor reader bytes → reader.offset ≤ length bytes
taken_within reader bytes h = go reader.fault refl
  where
    go : (o : Option JsonFault) → reader.fault ≡ o → reader.offset ≤ length bytes
    go None e = omega (arith, live_offset reader bytes e h)
    go (Some fault) e = refused_within reader bytes fault e h

-- ---- the bytes that were taken

-- nothing was taken: nothing is reported
nothing : (n m : ℕ) (bytes : List ℕ) → m ≡ n → Completed n m bytes []
nothing n m bytes e = λ T rest t. rw e (sym (append-nil (events_by n T)))

hears_nothing : (heard : List Event → Type 0) (events : List Event) (n m : ℕ) (bytes : List ℕ) → m ≡ n → heard events → Hears heard events n m bytes
hears_nothing heard events n m bytes e h = ([], rw append-nil h, nothing n m bytes e)

-- ---- one byte

-- what a byte did: it was taken, or it was refused
pub data Outcome (old new : Reader) (result : Result Move JsonFault) : Type 0 where
  took : (made : Move) → result ≡ Ok made → new.offset ≡ old.offset + 1 → new.fault ≡ old.fault → new.limits ≡ old.limits → Outcome old new result
  refused : (fault : JsonFault) → result ≡ Err fault → new.offset ≡ old.offset → new.fault ≡ Some fault → new.limits ≡ old.limits → Outcome old new result

passes_outcome : (made : Move) (mode : Mode) (levels : List Level) (old new : Reader) (result : Result Move JsonFault)
    → PassesTo made mode levels old new result → Outcome old new result
passes_outcome made mode levels old new result h = took made h.answer h.passes.offset h.passes.fault h.passes.limits

refuses_outcome : (cause : Cause) (old new : Reader) (result : Result Move JsonFault) → RefusesWith cause old new result → Outcome old new result
refuses_outcome cause old new result h = refused h.fault h.answer h.refused.offset h.refused.kept h.refused.limits

pub outcome : (made : Move) (old new : Reader) (result : Result Move JsonFault) → length (levels_in old.levels) ≤ old.limits.depth → Applied made old new result
    → Outcome old new result
outcome Refuse old new result n h = refuses_outcome Syntax old new result h
outcome (Go mode ending) old new result n h = passes_outcome (Go mode ending) mode (levels_in old.levels) old new result h
outcome (Open level) old new result n h = elim (eqb_tells (length (levels_in old.levels)) old.limits.depth) [
  | inl u ↦ refuses_outcome Depth old new result (h.0 u.1)
  | inr u ↦ passes_outcome (Open level) (opened level) (level ∷ levels_in old.levels) old new result (h.1 (omega (arith, u.1)))
]
outcome (Close level) old new result n h = passes_outcome (Close level) ValueDone (outer_of (levels_in old.levels)) old new result h

-- the events of a byte, heard
byte_hears : {before after : List Event → Type 0} (old new : Reader) (b : ℕ) (bytes : List ℕ) (events : List Event) (result : Result Move JsonFault)
    → old.fault ≡ None → StandsFor old bytes → Outcome old new result
    → Takes before after old new b result → before events → Hears after events old.offset new.offset (take new.offset (bytes ++ b ∷ []))
byte_hears {before} {after} old new b bytes events result live h (took made r o f l) w k =
    let es = told_by old w.turn w.value b in
    let n : new.offset ≡ length (bytes ++ b ∷ []) = omega (arith, o, live_offset old bytes live h, length-append bytes (b ∷ [])) in
    let t : take new.offset (bytes ++ b ∷ []) ≡ bytes ++ b ∷ [] = take_all_of (bytes ++ b ∷ []) new.offset n in
    let c : Completed old.offset (old.offset + 1) (bytes ++ b ∷ []) es = completed old b bytes w.turn w.value w.says live h in
    let j : after (events ++ told_on result es) = w.told events k in
    (es, rw r at j, rw (t, o) c)
byte_hears {before} {after} old new b bytes events result live h (refused fault r o f l) w k =
    let j : after (events ++ told_on result (told_by old w.turn w.value b)) = w.told events k in
    let z : after (events ++ []) = rw r at j in
    hears_nothing after events old.offset new.offset (take new.offset (bytes ++ b ∷ [])) o (rw append-nil at z)

pub outcome_on : (old new : Reader) (result : Result Move JsonFault) → Outcome old new result → (new.limits ≡ old.limits) × (old.offset ≤ new.offset)
outcome_on old new result (took made r o f l) = (l, omega (arith, o))
outcome_on old new result (refused fault r o f l) = (l, omega (arith, o))

pub byte_feeds : {before after : List Event → Type 0} (old new : Reader) (b : ℕ) (result : Result Move JsonFault) → old.fault ≡ None
    → old.offset < old.limits.bytes → length (levels_in old.levels) ≤ old.limits.depth
    → Takes before after old new b result → Feeds before after old new (b ∷ [])
byte_feeds {before} {after} old new b result live room nested w =
    let o = outcome (move_by old w.turn b) old new result nested w.applied in
    let l = outcome_on old new result o in
    record {
      limits = l.0;
      on = l.1;
      stands = λ bytes h. (pushed old new b bytes result live room nested w h).0;
      told = λ bytes events h k. byte_hears old new b bytes events result live h o w k;
    }

-- ---- bytes that complete nothing

skip_well : (old new : Reader) (given : List ℕ) → old.fault ≡ None → Skips old new given → (bytes : List ℕ)
    → StandsOpen old.limits new.mode (levels_in old.levels) new.literal new.content old.start (old.offset + length given) (bytes ++ given)
    → StandsFor new (bytes ++ given)
skip_well old new given live s bytes w = rw (s.fault, live, s.limits, s.levels, s.start, s.offset) w

-- what bytes leave that complete nothing
pub skipped : (old new : Reader) (given : List ℕ) (bytes : List ℕ) → SkipsBy old new given → old.offset + length given ≤ old.limits.bytes
    → StandsOpen old.limits old.mode (levels_in old.levels) old.literal old.content old.start old.offset bytes
    → StandsOpen old.limits new.mode (levels_in old.levels) new.literal new.content old.start (old.offset + length given) (bytes ++ given)
    × Completed old.offset (old.offset + length given) (bytes ++ given) []
skipped old new given bytes (leading leads other none) room k =
    let q = quiet_run old.limits (levels_in old.levels) old.start given old.mode new.mode old.offset bytes k.well room leads in (
      record {
        well = q.0;
        keeps =
            keeps_none (under_of q.0.state) new.literal new.content (sym (mode_under q.0.state new.mode (levels_in old.levels) q.0.kept) ∙ other)
            (sym (mode_state q.0.state new.mode (levels_in old.levels) q.0.kept) ∙ none);
      },
      q.1,
    )
skipped old new given bytes (in_literal from to goes) room k =
    let P : Mode → Type 0 = λ m. StandsOpen old.limits m (levels_in old.levels) old.literal old.content old.start old.offset bytes in
    let Q : Mode → Type 0 =
    λ m. StandsOpen old.limits m (levels_in old.levels) new.literal new.content old.start (old.offset + length given) (bytes ++ given) in
    let d = digits_run old.limits (levels_in old.levels) old.start given old.literal new.literal old.content new.content old.offset bytes
    (subst P from k) goes room in
    (subst Q (sym to) d.0, d.1)
skipped old new given bytes (in_text first last characters modes reads holds) room k =
    text_run old.limits (levels_in old.levels) old.start given characters first last old.mode new.mode old.literal new.literal old.content new.content
    old.offset bytes k modes reads holds room

pub skip_feeds : {heard : List Event → Type 0} (old new : Reader) (given : List ℕ) → old.fault ≡ None → old.offset + length given ≤ old.limits.bytes
    → Skips old new given → FeedsAll heard heard old new given
skip_feeds {heard} old new given live room s = record {
  feeds = record {
    limits = s.limits;
    on = omega (arith, s.offset);
    stands = λ bytes h. skip_well old new given live s bytes (run bytes h).0;
    told = λ bytes events h k.
        let n : new.offset ≡ length (bytes ++ given) = omega (arith, s.offset, live_offset old bytes live h, length-append bytes given) in
        let t : take new.offset (bytes ++ given) ≡ bytes ++ given = take_all_of (bytes ++ given) new.offset n in
        let c : Completed old.offset (old.offset + length given) (bytes ++ given) [] = (run bytes h).1 in
        ([], rw append-nil k, rw (t, s.offset) c);
  };
  live = s.fault ∙ live;
  offset = s.offset;
}
  where
    run : (bytes : List ℕ) → StandsFor old bytes
        → StandsOpen old.limits new.mode (levels_in old.levels) new.literal new.content old.start (old.offset + length given) (bytes ++ given)
        × Completed old.offset (old.offset + length given) (bytes ++ given) []
    run bytes h = skipped old new given bytes s.by room (open_of old bytes live h)

-- ---- one call after another

pub feeds_nothing : {heard : List Event → Type 0} (reader : Reader) → reader.fault ≡ None → FeedsAll heard heard reader reader []
feeds_nothing {heard} reader live = record {
  feeds = record {
    limits = refl;
    on = omega arith;
    stands = λ bytes h. rw append-nil h;
    told = λ bytes events h k. hears_nothing heard events reader.offset reader.offset (take reader.offset (bytes ++ [])) refl k;
  };
  live = live;
  offset = omega arith;
}

hears_both : {before middle after : List Event → Type 0} (first next last : Reader) (xs ys bytes : List ℕ) (events : List Event)
    → FeedsAll before middle first next xs → Feeds middle after next last ys → StandsFor first bytes → before events
    → Hears after events first.offset last.offset (take last.offset (bytes ++ (xs ++ ys)))
hears_both {before} {middle} {after} first next last xs ys bytes events f g h k =
    let a = f.feeds.told bytes events h k in
    let s : StandsFor next (bytes ++ xs) = f.feeds.stands bytes h in
    let b = g.told (bytes ++ xs) (events ++ a.0) s a.1 in
    let n : next.offset ≡ length (bytes ++ xs) = live_offset next (bytes ++ xs) f.live s in
    let m : last.offset ≡ length (bytes ++ xs) + (last.offset - length (bytes ++ xs)) = omega (arith, g.on) in
    let t : take last.offset ((bytes ++ xs) ++ ys) ≡ (bytes ++ xs) ++ take (last.offset - length (bytes ++ xs)) ys =
    ap (λ c. take c ((bytes ++ xs) ++ ys)) m ∙ take-append-add (bytes ++ xs) ys (last.offset - length (bytes ++ xs)) in
    let u : take next.offset (bytes ++ xs) ≡ bytes ++ xs = take_all_of (bytes ++ xs) next.offset n in (
      a.0 ++ b.0,
      rw (← append_assoc events a.0 b.0) b.1,
      λ T rest w.
          let v : IsText T (take last.offset ((bytes ++ xs) ++ ys) ++ rest) = rw (append_assoc bytes xs ys) w in
          let x : IsText T (((bytes ++ xs) ++ take (last.offset - length (bytes ++ xs)) ys) ++ rest) = rw t at v in
          let y : IsText T ((bytes ++ xs) ++ (take (last.offset - length (bytes ++ xs)) ys ++ rest)) = rw (append_assoc (bytes ++ xs)) at x in
          let z : IsText T (take next.offset (bytes ++ xs) ++ (take (last.offset - length (bytes ++ xs)) ys ++ rest)) = rw u y in
          b.2 T rest v ∙ ap (λ es. es ++ b.0) (a.2 T _ z) ∙ append_assoc (events_by first.offset T) a.0 b.0,
    )

pub feeds_on : {before middle after : List Event → Type 0} (first next last : Reader) (xs ys : List ℕ) → FeedsAll before middle first next xs
    → Feeds middle after next last ys → Feeds before after first last (xs ++ ys)
feeds_on {before} {middle} {after} first next last xs ys f g = record {
  limits = g.limits ∙ f.feeds.limits;
  on = omega (arith, g.on, f.feeds.on);
  stands = λ bytes h. rw (← append_assoc bytes xs ys) (g.stands (bytes ++ xs) (f.feeds.stands bytes h));
  told = λ bytes events h k. hears_both {before = before} {middle = middle} {after = after} first next last xs ys bytes events f g h k;
}

-- what comes after a refused byte changes nothing
pub feeds_more : {before after : List Event → Type 0} (old new : Reader) (given more : List ℕ) (fault : JsonFault) → Feeds before after old new given
    → new.fault ≡ Some fault → Feeds before after old new (given ++ more)
feeds_more {before} {after} old new given more fault f e = record {
  limits = f.limits;
  on = f.on;
  stands = λ bytes h. rw (← append_assoc bytes given more) (refused_stands new (bytes ++ given) more fault e (f.stands bytes h));
  told = λ bytes events h k.
      let g = f.told bytes events h k in
      let l : new.offset ≤ length (bytes ++ given) = refused_within new (bytes ++ given) fault e (f.stands bytes h) in
      let t : take new.offset (bytes ++ (given ++ more)) ≡ take new.offset (bytes ++ given) =
      ap (λ xs. take new.offset xs) (sym (append_assoc bytes given more)) ∙ take-append-le new.offset (bytes ++ given) more l in
      (g.0, g.1, rw t g.2);
}

-- ---- what a byte answers

pub ok_live : (old new : Reader) (result : Result Move JsonFault) (x : Move) → Outcome old new result → result ≡ Ok x → (new.fault ≡ old.fault)
    × (new.offset ≡ old.offset + 1)
ok_live old new result x (took made r o f l) e = (f, o)
ok_live old new result x (refused fault r o f l) e = cc

pub err_kept : (old new : Reader) (result : Result Move JsonFault) (fault : JsonFault) → Outcome old new result → result ≡ Err fault → new.fault ≡ Some fault
err_kept old new result fault (took made r o f l) e = cc
err_kept old new result fault (refused other r o f l) e = let k : other ≡ fault = cc in f ∙ ap (λ (x : JsonFault). Some x) k

pub byte_all : {before after : List Event → Type 0} (old new : Reader) (b : ℕ) (result : Result Move JsonFault) (x : Move) → old.fault ≡ None
    → old.offset < old.limits.bytes → length (levels_in old.levels) ≤ old.limits.depth
    → Takes before after old new b result → result ≡ Ok x → FeedsAll before after old new (b ∷ [])
byte_all old new b result x live room nested w e =
    let k = ok_live old new result x (outcome (move_by old w.turn b) old new result nested w.applied) e in
    record { feeds = byte_feeds old new b result live room nested w; live = k.0 ∙ live; offset = k.1 }

pub byte_to : {before after : List Event → Type 0} (old new : Reader) (b : ℕ) (result : Result Move JsonFault) (fault : JsonFault) → old.fault ≡ None
    → old.offset < old.limits.bytes → length (levels_in old.levels) ≤ old.limits.depth
    → Takes before after old new b result → result ≡ Err fault → FeedsTo before after old new (b ∷ []) fault
byte_to old new b result fault live room nested w e =
    record {
      feeds = byte_feeds old new b result live room nested w;
      refused =
          err_kept old new result fault (outcome (move_by old w.turn b) old new result nested w.applied) e;
    }

pub completed_at : (m n : ℕ) (bytes : List ℕ) (es fs : List Event) → m ≡ n → fs ≡ es → Completed m (m + 1) bytes es → Completed n (n + 1) bytes fs
completed_at m n bytes es fs e f h = rw (f, ← e) h

-- what a byte reports, and whether it is refused
pub byte_told : {before after : List Event → Type 0} (old new : Reader) (b : ℕ) (bytes : List ℕ) (events : List Event) (result : Result Move JsonFault)
    → old.fault ≡ None → StandsFor old bytes
    → Takes before after old new b result → before events → IfOk result (λ done. HearsTwo after events bytes b)
byte_told {before} {after} old new b bytes events (Ok done) live h w k = record {
  found = told_by old w.turn w.value b;
  told = w.told events k;
  few = emitted_few _ _ _ _ _ _;
  completed = completed_at old.offset (length bytes) (bytes ++ b ∷ []) _ _ (live_offset old bytes live h) refl
      (completed old b bytes w.turn w.value w.says live h);
}
byte_told old new b bytes events (Err fault) live h w k = tt

pub byte_refusal : (old new : Reader) (result : Result Move JsonFault) → old.fault ≡ None → Outcome old new result
    → MatchResult result (λ done. new.fault ≡ None) (λ fault. new.fault ≡ Some fault)
byte_refusal old new result live (took made r o f l) = rw r (f ∙ live)
byte_refusal old new result live (refused fault r o f l) = rw r f

-- the byte after the most that are allowed
pub length_stands : {A : Type 0} (old new : Reader) (b : ℕ) (bytes : List ℕ) (fault : JsonFault) (result : Result A JsonFault) → result ≡ Err fault
    → old.fault ≡ None → old.offset ≡ old.limits.bytes → IsRefusedWith Length old new fault → StandsFor old bytes
    → StandsFor new (bytes ++ b ∷ []) × Answers old.limits (bytes ++ b ∷ []) result
length_stands old new b bytes fault result r live full w h =
    let k = well_of old bytes live h in
    refuses_on old new b bytes Length result k (record { fault = fault; answer = r; refused = w }) tt
    (stop old.limits old.mode (levels_in old.levels) old.start old.offset bytes b k, full)

pub length_to : {heard : List Event → Type 0} (old new : Reader) (b : ℕ) (fault : JsonFault) → old.fault ≡ None → old.offset ≡ old.limits.bytes
    → IsRefusedWith Length old new fault → FeedsTo heard heard old new (b ∷ []) fault
length_to {heard} old new b fault live full w = record {
  feeds = record {
    limits = w.limits;
    on = omega (arith, w.offset);
    stands = λ bytes h. let r : Result (Unit {0}) JsonFault = Err fault in (length_stands old new b bytes fault r refl live full w h).0;
    told = λ bytes events h k. hears_nothing heard events old.offset new.offset (take new.offset (bytes ++ b ∷ [])) w.offset k;
  };
  refused = w.kept;
}

pub feeds_all_on : {before middle after : List Event → Type 0} (first next last : Reader) (xs ys : List ℕ) → FeedsAll before middle first next xs
    → FeedsAll middle after next last ys → FeedsAll before after first last (xs ++ ys)
feeds_all_on first next last xs ys f g =
    record { feeds = feeds_on first next last xs ys f g.feeds; live = g.live; offset = omega (arith, g.offset, f.offset, length-append xs ys) }

pub feeds_to_on : {before middle after : List Event → Type 0} (first next last : Reader) (xs ys more : List ℕ) (fault : JsonFault)
    → FeedsAll before middle first next xs → FeedsTo middle after next last ys fault
    → FeedsTo before after first last ((xs ++ ys) ++ more) fault
feeds_to_on first next last xs ys more fault f g =
    record { feeds = feeds_more first last (xs ++ ys) more fault (feeds_on first next last xs ys f g.feeds) g.refused; refused = g.refused }

-- ---- quiet bytes and then a byte, from the start of a piece

pub of_prefix : {Holds : List ℕ → Type 0} {piece : List ℕ} {count : ℕ} → count ≤ length piece → Holds (take count piece) → OfPrefix Holds piece count
of_prefix within holds = record { within = within; holds = holds }

pub prefix_as : {P Q : List ℕ → Type 0} {piece : List ℕ} {count : ℕ} → OfPrefix P piece count → ((given : List ℕ) → P given → Q given)
    → OfPrefix Q piece count
prefix_as f h = record { within = f.within; holds = h _ f.holds }

pub front_skipped : {heard : List Event → Type 0} {old mid : Reader} {piece : List ℕ} {n : ℕ} → IsOpenFor old piece → OfPrefix (Skips old mid) piece n
    → OfPrefix (FeedsAll heard heard old mid) piece n
front_skipped {heard} {old} {mid} {piece} {n} takes s =
    of_prefix s.within (skip_feeds old mid (take n piece) takes.0 (omega (arith, takes.1, length-take-le n piece s.within)) s.holds)

byte_taken : (piece : List ℕ) (n : ℕ) → n < length piece → take n piece ++ get_or piece n 0 ∷ [] ≡ take (n + 1) piece
byte_taken piece n w = sym (take_more piece n 0 w)

-- a prefix of a piece that was taken, and the byte after it
module _ {before middle after : List Event → Type 0} {old mid new : Reader} {piece : List ℕ} {n : ℕ} {result : Result Move JsonFault} (w : n < length piece)
    (takes : IsOpenFor old piece) (f : OfPrefix (FeedsAll before middle old mid) piece n) (t : Takes middle after mid new (get_or piece n 0) result) where
  mid_room : mid.offset < mid.limits.bytes
  mid_room = let e : mid.limits.bytes ≡ old.limits.bytes =
      ap (λ (a : Allowed). a.bytes) f.holds.feeds.limits in omega (arith, takes.1, f.holds.offset, length-take-le n piece f.within)

  pub some_all : (x : Move) → result ≡ Ok x → OfPrefix (FeedsAll before after old new) piece (n + 1)
  some_all x e =
      let g : FeedsAll middle after mid new (get_or piece n 0 ∷ []) = byte_all mid new (get_or piece n 0) result x f.holds.live mid_room mid.nested t e in
      let P : List ℕ → Type 0 = λ xs. FeedsAll before after old new xs in
      of_prefix (omega arith) (subst P (byte_taken piece n w) (feeds_all_on old mid new (take n piece) (get_or piece n 0 ∷ []) f.holds g))

  pub some_to : (fault : JsonFault) → result ≡ Err fault → FeedsTo before after old new piece fault
  some_to fault e =
      let g : FeedsTo middle after mid new (get_or piece n 0 ∷ []) fault = byte_to mid new (get_or piece n 0) result fault f.holds.live mid_room mid.nested t e in
      let P : List ℕ → Type 0 = λ xs. FeedsTo before after old new xs fault in
      let k : (take n piece ++ get_or piece n 0 ∷ []) ++ drop (n + 1) piece ≡ piece =
      ap (λ xs. xs ++ drop (n + 1) piece) (byte_taken piece n w) ∙ take-append-drop (n + 1) piece in
      subst P k (feeds_to_on old mid new (take n piece) (get_or piece n 0 ∷ []) (drop (n + 1) piece) fault f.holds g)

-- ---- one prefix of a piece after another

pub piece_all : {before middle after : List Event → Type 0} (first next last : Reader) (piece : List ℕ) (at n : ℕ)
    → FeedsAll before middle first next (take at piece) → FeedsAll middle after next last (take n (drop at piece))
    → FeedsAll before after first last (take (at + n) piece)
piece_all {before} {middle} {after} first next last piece at n f g =
    let P : List ℕ → Type 0 = λ xs. FeedsAll before after first last xs in
    subst P (sym (take-add at n piece)) (feeds_all_on first next last (take at piece) (take n (drop at piece)) f g)

-- the same, of a rest of the piece
pub piece_left : {before middle after : List Event → Type 0} (first next last : Reader) (piece rest : List ℕ) (n : ℕ) → length rest ≤ length piece
    → rest ≡ drop (length piece - length rest) piece → n ≤ length rest → FeedsAll before middle first next (take (length piece - length rest) piece)
    → FeedsAll middle after next last (take n rest)
    → FeedsAll before after first last (take (length piece - length (take (length rest - n) (drop n rest))) piece)
piece_left {before} {middle} {after} first next last piece rest n within e few f g =
    let P : List ℕ → Type 0 = λ xs. FeedsAll middle after next last (take n xs) in
    let Q : ℕ → Type 0 = λ k. FeedsAll before after first last (take k piece) in
    subst Q (left_at piece rest n within few) (piece_all first next last piece (length piece - length rest) n f (subst P e g))

pub rest_all : {before after : List Event → Type 0} (old new : Reader) (piece : List ℕ) (at n : ℕ)
    → FeedsAll before after old new (take n (take (length piece - at) (drop at piece))) → FeedsAll before after old new (take n (drop at piece))
rest_all {before} {after} old new piece at n f = let P : List ℕ → Type 0 = λ xs. FeedsAll before after old new (take n xs) in subst P (rest_of piece at) f

pub then_all : {before middle after : List Event → Type 0} {first next last : Reader} {piece : List ℕ} {at n : ℕ}
    → OfPrefix (FeedsAll before middle first next) piece at
    → OfPrefix (FeedsAll middle after next last) (take (length piece - at) (drop at piece)) n → OfPrefix (FeedsAll before after first last) piece (at + n)
then_all {before} {middle} {after} {first} {next} {last} {piece} {at} {n} f g =
    of_prefix (more_within piece at n f.within g.within) (piece_all first next last piece at n f.holds (rest_all next last piece at n g.holds))

-- and where that was no byte
pub then_none : {before middle after : List Event → Type 0} {first next last : Reader} {piece : List ℕ} {at n : ℕ}
    → OfPrefix (FeedsAll before middle first next) piece at
    → OfPrefix (FeedsAll middle after next last) (take (length piece - at) (drop at piece)) n → n ≡ 0
    → OfPrefix (FeedsAll before after first last) piece at
then_none {before} {middle} {after} {first} {next} {last} {piece} {at} {n} f g none =
    let P : ℕ → Type 0 = λ k. OfPrefix (FeedsAll before after first last) piece k in
    let e : at + n ≡ at = omega (arith, none) in
    subst P e (then_all f g)

pub then_to : {before middle after : List Event → Type 0} {first next last : Reader} {piece : List ℕ} {at : ℕ} {fault : JsonFault}
    → OfPrefix (FeedsAll before middle first next) piece at
    → FeedsTo middle after next last (take (length piece - at) (drop at piece)) fault → FeedsTo before after first last piece fault
then_to {before} {middle} {after} {first} {next} {last} {piece} {at} {fault} f g =
    let rest : List ℕ = take (length piece - at) (drop at piece) in
    let P : List ℕ → Type 0 = λ xs. FeedsTo before after first last xs fault in
    let e : take at piece ++ rest ≡ piece = ap (λ xs. take at piece ++ xs) (rest_of piece at) ∙ take-append-drop at piece in
    subst P (append-nil (take at piece ++ rest) ∙ e) (feeds_to_on first next last (take at piece) rest [] fault f.holds g)

-- ---- a piece that is longer than allowed

module _ (piece : List ℕ) (room : ℕ) (longer : room < length piece) where
  around : (take room piece ++ get_or piece room 0 ∷ []) ++ drop (room + 1) piece ≡ piece
  around = ap (λ xs. xs ++ drop (room + 1) piece) (byte_taken piece room longer) ∙ take-append-drop (room + 1) piece

  pub beyond : {before after : List Event → Type 0} (old mid new : Reader) (fault : JsonFault) → FeedsAll before after old mid (take room piece)
      → old.offset + room ≡ old.limits.bytes → IsRefusedWith Length mid new fault → FeedsTo before after old new piece fault
  beyond {before} {after} old mid new fault f full w =
      let e : mid.limits.bytes ≡ old.limits.bytes = ap (λ (a : Allowed). a.bytes) f.feeds.limits in
      let m : mid.offset ≡ mid.limits.bytes = omega (arith, f.offset, length-take-le room piece (omega arith)) in
      let g : FeedsTo after after mid new (get_or piece room 0 ∷ []) fault = length_to mid new (get_or piece room 0) fault f.live m w in
      let P : List ℕ → Type 0 = λ xs. FeedsTo before after old new xs fault in
      subst P around (feeds_to_on old mid new (take room piece) (get_or piece room 0 ∷ []) (drop (room + 1) piece) fault f g)

  pub within_to : {before after : List Event → Type 0} (old new : Reader) (fault : JsonFault) → FeedsTo before after old new (take room piece) fault
      → FeedsTo before after old new piece fault
  within_to {before} {after} old new fault f =
      let P : List ℕ → Type 0 = λ xs. FeedsTo before after old new xs fault in
      subst P (take-append-drop room piece)
      (record { feeds = feeds_more old new (take room piece) (drop room piece) fault f.feeds f.refused; refused = f.refused })

-- ---- what a piece answers

pub to_answer : {before after : List Event → Type 0} (old new : Reader) (given bytes : List ℕ) (fault : JsonFault) → FeedsTo before after old new given fault
    → StandsFor old bytes → IsRefusal old.limits (bytes ++ given) fault × ((more : List ℕ) → IsRefusal old.limits ((bytes ++ given) ++ more) fault)
to_answer old new given bytes fault f h = let k = kept_answer new (bytes ++ given) fault f.refused (f.feeds.stands bytes h) in rw (f.feeds.limits) at k

-- by what a whole piece leaves
pub by_answer : (before after : List Event → Type 0) (old new : Reader) (given bytes : List ℕ) (result : Result (Unit {0}) JsonFault)
    → MatchResult result (λ done. FeedsAll before after old new given) (FeedsTo before after old new given) → StandsFor old bytes
    → Answers old.limits (bytes ++ given) result
by_answer before after old new given bytes (Ok x) f h = answers_ok new (bytes ++ given) old.limits (Ok x) x refl f.feeds.limits f.live (f.feeds.stands bytes h)
by_answer before after old new given bytes (Err fault) f h = to_answer old new given bytes fault f h

-- ---- what a piece is heard as

pub heard_all : {before after : List Event → Type 0} (old new : Reader) (given bytes : List ℕ) (events : List Event) → old.fault ≡ None
    → FeedsAll before after old new given → StandsFor old bytes → before events
    → Hears after events (length bytes) (length (bytes ++ given)) (bytes ++ given)
heard_all old new given bytes events live f h k =
    let t = f.feeds.told bytes events h k in
    let m : old.offset ≡ length bytes = live_offset old bytes live h in
    let n : new.offset ≡ length (bytes ++ given) = live_offset new (bytes ++ given) f.live (f.feeds.stands bytes h) in
    let e : take new.offset (bytes ++ given) ≡ bytes ++ given = take_all_of (bytes ++ given) new.offset n in
    rw (m, e, n) at t

pub heard_to : {before after : List Event → Type 0} (old new : Reader) (given bytes : List ℕ) (events : List Event) (fault : JsonFault) → old.fault ≡ None
    → FeedsTo before after old new given fault → StandsFor old bytes → before events
    → Hears after events (length bytes) fault.place (take fault.place (bytes ++ given))
heard_to old new given bytes events fault live f h k =
    let t = f.feeds.told bytes events h k in
    let m : old.offset ≡ length bytes = live_offset old bytes live h in
    let n : new.offset ≡ fault.place = sym (refused_offset new (bytes ++ given) fault f.refused (f.feeds.stands bytes h)) in
    rw (m, n) at t

pub heard_by : (before after : List Event → Type 0) (old new : Reader) (given bytes : List ℕ) (events : List Event) (result : Result (Unit {0}) JsonFault)
    → old.fault ≡ None
    → MatchResult result (λ done. FeedsAll before after old new given) (FeedsTo before after old new given) → StandsFor old bytes → before events
    → HearsBy after events bytes given result
heard_by before after old new given bytes events (Ok x) live f h k = heard_all old new given bytes events live f h k
heard_by before after old new given bytes events (Err fault) live f h k = heard_to old new given bytes events fault live f h k

pub by_on : (before after : List Event → Type 0) (old new : Reader) (given : List ℕ) (result : Result (Unit {0}) JsonFault)
    → MatchResult result (λ done. FeedsAll before after old new given) (FeedsTo before after old new given) → old.offset ≤ new.offset
by_on before after old new given (Ok x) f = f.feeds.on
by_on before after old new given (Err fault) f = f.feeds.on
