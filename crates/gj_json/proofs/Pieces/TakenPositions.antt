-- Positions that are taken as their cut values: the reader goes as over their arrays, one after another.
use Rattle.gj_json.proofs.Common.{AllByRecursion, Array, CutPosition, Event, FeedsAll, Flat, IsMode, IsWhite, List, Mode, None, Passed, Reader, Some}
use Rattle.gj_json.proofs.Common.{SpellsPositions, ValueDue, ap, append_assoc, arith, awaits, cut, drop, flat_events, get_or, get_or-drop, inner_of}
use Rattle.gj_json.proofs.Common.{length, place_after, place_after_all, refl, subst, suc, sym, take-add, true, zero, ℕ, [], ◌++◌, ◌+◌, ◌-◌, ◌<◌, ◌^◌}
use Rattle.gj_json.proofs.Common.{◌∙◌, ◌∷◌, ◌≡◌, ◌≤◌}
use Rattle.std.proofs.Common.{take}
use Rattle.std.proofs.Common.{append-nil, length-drop}
use Rattle.std.proofs.lemmas.List.{drop-drop}
use Rattle.gj_json.specs.Bytes.{comma}
use Rattle.gj_json.specs.CutPosition.{AreCutPositions, flats_events}
use Rattle.gj_json.specs.Internal.OpenLevels.{levels_in}
use Rattle.gj_json.specs.Internal.SpelledPositions.{SpellsPosition}
use Rattle.gj_json.proofs.Pieces.PieceRests.{rest_of}
use Rattle.gj_json.proofs.Pieces.TakenFlats.{comma_taken, mid_of, to_mid, from_mid}
use Rattle.gj_json.proofs.Pieces.ReadPositions.{all_on, first_of}
use Rattle.gj_json.proofs.Readers.CallsInTurn.{feeds_all_on}

-- a sink that has heard these events had heard some before, and then the arrays of these positions
abbrev pub Then : (List Event → Type 0) → List CutPosition → List Event → Type 0
Then before ps es = (flats : List Flat) × AreCutPositions ps flats × (events : List Event) × before events × (es ≡ events ++ flats_events flats)

-- what is heard may say less
pub heard_less : {before after less : List Event → Type 0} (old new : Reader) (given : List ℕ) → FeedsAll before after old new given
    → ((events : List Event) → after events → less events) → FeedsAll before less old new given
heard_less {before} {after} {less} old new given fed says = record {
  feeds = record {
    limits = fed.feeds.limits;
    on = fed.feeds.on;
    stands = fed.feeds.stands;
    told = λ bytes events h k. let t = fed.feeds.told bytes events h k in (t.0, says _ t.1, t.2);
  };
  live = fed.live;
  offset = fed.offset;
}

-- ---- what is in its room for positions, and how it looks for them, says nothing of a reader

abbrev pub with_room : (r : Reader) → List CutPosition → ℕ → IsMode r.mode → r.offset ≤ r.limits.bytes → r.limits.bytes ≤ 2 ^ 60 → length (levels_in r.levels) ≤ r.limits.depth → Reader
with_room r ps alone sound within small nested = record {
  limits = r.limits;
  offset = r.offset;
  start = r.start;
  levels = r.levels;
  literal = r.literal;
  content = r.content;
  mode = r.mode;
  fault = r.fault;
  names = r.names;
  positions = ps;
  alone = alone;
  sound = sound;
  within = within;
  small = small;
  nested = nested;
}

module _ (old new : Reader) {ps : List CutPosition} {alone : ℕ} where
  pub room_filled : {before after : List Event → Type 0} (given : List ℕ) {sound : IsMode new.mode} {within : new.offset ≤ new.limits.bytes} {small : new.limits.bytes ≤ 2 ^ 60}
      {nested : length (levels_in new.levels) ≤ new.limits.depth} → FeedsAll before after old new given
      → FeedsAll before after old (with_room new ps alone sound within small nested) given
  room_filled given fed = record {
    feeds = record { limits = fed.feeds.limits; on = fed.feeds.on; stands = fed.feeds.stands; told = fed.feeds.told };
    live = fed.live;
    offset = fed.offset;
  }

  pub room_passed : {count : ℕ} {mode : Mode} {sound : IsMode old.mode} {within : old.offset ≤ old.limits.bytes} {small : old.limits.bytes ≤ 2 ^ 60}
      {nested : length (levels_in old.levels) ≤ old.limits.depth} → Passed count mode (with_room old ps alone sound within small nested) new → Passed count mode old new
  room_passed p = record {
    limits = p.limits;
    fault = p.fault;
    levels = p.levels;
    start = p.start;
    literal = p.literal;
    content = p.content;
    offset = p.offset;
    mode_is = p.mode_is;
  }

one_then : (gap : ℕ) (before : List Event → Type 0) (p : CutPosition) (start : ℕ) (piece : List ℕ) (s : SpellsPosition gap p start piece) (events : List Event)
    → before events → Then before (p ∷ []) (events ++ flat_events s.flat)
one_then gap before p start piece s events h =
    (s.flat ∷ [], (s.is, tt), events, h, ap (λ es. events ++ es) (sym (append-nil (flat_events s.flat))))

then_more : (before : List Event → Type 0) (p : CutPosition) (ps : List CutPosition) (es : List Event) → Then (Then before (p ∷ [])) ps es
    → Then before (p ∷ ps) es
then_more before p ps es (flats, are, mid, (one ∷ [], is, events, h, first), more) = (
  one ∷ flats,
  (is.0, are),
  events,
  h,
  more ∙ ap (λ xs. xs ++ flats_events flats) first ∙ append_assoc events (flat_events one ++ []) (flats_events flats)
      ∙ ap (λ xs. events ++ (xs ++ flats_events flats)) (append-nil (flat_events one)),
)
then_more before p ps es (flats, are, mid, ([], is, events, h, first), more) = absurd is
then_more before p ps es (flats, are, mid, (one ∷ two ∷ others, is, events, h, first), more) = absurd is.1

-- one of them, with its comma and the white space after that
one_taken : {before : List Event → Type 0} (gap : ℕ) (p : CutPosition) (old new : Reader) (piece : List ℕ) (s : SpellsPosition gap p old.offset piece)
    → old.fault ≡ None → awaits old.mode ≡ true → length (levels_in old.levels) < old.limits.depth → inner_of (levels_in old.levels) ≡ Some Array
    → old.offset + length piece ≤ old.limits.bytes → Passed (s.count + (1 + gap)) ValueDue old new
    → FeedsAll before (Then before (p ∷ [])) old new (take (s.count + (1 + gap)) piece)
one_taken {before} gap p old new piece s live due deep inner room passed =
    let w = s.within in
    let z : s.count + 0 ≡ s.count = omega arith in
    let rest = take (length piece - s.count) (drop s.count piece) in
    let here : get_or rest 0 0 ≡ comma =
    ap (λ xs. get_or xs 0 0) (rest_of piece s.count) ∙ get_or-drop s.count piece 0 0 ∙ ap (λ i. get_or piece i 0) z ∙ s.comma in
    let enough : 1 + gap ≤ length rest = omega (arith, ap length (rest_of piece s.count), length-drop s.count piece) in
    let few : s.count + 1 + gap - (s.count + 1) ≡ 1 + gap - 1 = omega arith in
    let same : cut piece (s.count + 1) (s.count + 1 + gap) ≡ cut rest 1 (1 + gap) =
    ap (λ k. take k (drop (s.count + 1) piece)) few ∙ sym (ap (λ xs. take (1 + gap - 1) xs) (drop-drop 1 s.count piece))
    ∙ sym (ap (λ xs. cut xs 1 (1 + gap)) (rest_of piece s.count)) in
    let White : List ℕ → Type 0 = λ xs. AllByRecursion IsWhite xs in
    comma_taken old new s.flat piece s.count (1 + gap) live due deep room (omega arith) s.spelled (omega arith) enough here (subst White same s.white)
    inner passed (λ events h. one_then gap before p old.offset piece s events h)

pub positions_taken : {before : List Event → Type 0} (gap : ℕ) (p : CutPosition) (ps : List CutPosition) (old new : Reader) (piece : List ℕ)
    → SpellsPositions gap (p ∷ ps) old.offset piece → old.fault ≡ None → awaits old.mode ≡ true → length (levels_in old.levels) < old.limits.depth
    → inner_of (levels_in old.levels) ≡ Some Array → old.offset + length piece ≤ old.limits.bytes
    → Passed (place_after_all gap (p ∷ ps) old.offset - old.offset) ValueDue old new
    → FeedsAll before (Then before (p ∷ ps)) old new (take (place_after_all gap (p ∷ ps) old.offset - old.offset) piece)
positions_taken {before} gap p [] old new piece s live due deep inner room passed =
    let c = s.0.close in
    let e : place_after gap p - old.offset ≡ s.0.count + (1 + gap) = omega arith in
    let P : ℕ → Type 0 = λ n. FeedsAll before (Then before (p ∷ [])) old new (take n piece) in
    let Q : ℕ → Type 0 = λ n. Passed n ValueDue old new in
    subst P (sym e) (one_taken gap p old new piece s.0 live due deep inner room (subst Q e passed))
positions_taken {before} gap p (q ∷ ps) old new piece s live due deep inner room passed =
    let n = s.0.count + (1 + gap) in
    let w = s.0.within in
    let c = s.0.close in
    let after = place_after gap p in
    let end = place_after_all gap (q ∷ ps) after in
    let rest = drop n piece in
    let e : after - old.offset ≡ n = omega arith in
    let sound : IsMode ValueDue = omega arith in
    let within : old.offset + n ≤ old.limits.bytes = omega arith in
    let mid : Reader = mid_of old n ValueDue sound within in
    let there : after ≡ mid.offset = omega arith in
    let P : ℕ → List ℕ → Type 0 = λ m xs. SpellsPositions gap (q ∷ ps) m xs in
    let spelled : SpellsPositions gap (q ∷ ps) mid.offset rest = subst (λ (m : ℕ). P m rest) there (subst (λ (m : ℕ). P after (drop m piece)) e s.1) in
    let more = all_on gap (q ∷ ps) after (drop (after - old.offset) piece) s.1 in
    let k = place_after_all gap (q ∷ ps) mid.offset - mid.offset in
    let same : end ≡ place_after_all gap (q ∷ ps) mid.offset = ap (place_after_all gap (q ∷ ps)) there in
    let both : end - old.offset ≡ n + k = omega arith in
    let first : FeedsAll before (Then before (p ∷ [])) old mid (take n piece) =
    one_taken gap p old mid piece s.0 live due deep inner room (to_mid old n ValueDue sound within) in
    let last : FeedsAll (Then before (p ∷ [])) (Then (Then before (p ∷ [])) (q ∷ ps)) mid new (take k rest) =
    positions_taken {before = Then before (p ∷ [])} gap q ps mid new rest spelled live refl deep inner (omega (arith, length-drop n piece))
    (from_mid old new n k (end - old.offset) ValueDue ValueDue sound within both passed) in
    let joined : take n piece ++ take k rest ≡ take (end - old.offset) piece = sym (ap (λ m. take m piece) both ∙ take-add n k piece) in
    let Q : List ℕ → Type 0 = λ xs. FeedsAll before (Then before (p ∷ q ∷ ps)) old new xs in
    subst Q joined
    (heard_less old new (take n piece ++ take k rest) (feeds_all_on old mid new (take n piece) (take k rest) first last) (then_more before p (q ∷ ps)))

-- the first ones of them
pub first_taken : {before : List Event → Type 0} (gap : ℕ) (ps : List CutPosition) (k : ℕ) (old new : Reader) (piece : List ℕ) → 0 < k → k ≤ length ps
    → SpellsPositions gap ps old.offset piece → old.fault ≡ None → awaits old.mode ≡ true → length (levels_in old.levels) < old.limits.depth
    → inner_of (levels_in old.levels) ≡ Some Array → old.offset + length piece ≤ old.limits.bytes
    → Passed (place_after_all gap (take k ps) old.offset - old.offset) ValueDue old new
    → FeedsAll before (Then before (take k ps)) old new (take (place_after_all gap (take k ps) old.offset - old.offset) piece)
first_taken gap [] k old new piece some few s live due deep inner room passed = absurd (omega (arith, some, few))
first_taken gap (p ∷ ps) zero old new piece some few s live due deep inner room passed = absurd (omega (arith, some))
first_taken gap (p ∷ ps) (suc k) old new piece some few s live due deep inner room passed =
    positions_taken gap p (take k ps) old new piece (first_of gap (p ∷ ps) (suc k) old.offset piece s) live due deep inner room passed
