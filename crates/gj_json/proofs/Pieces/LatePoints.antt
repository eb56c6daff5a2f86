-- A member `geometry` that is a whole Point whose coordinates stand before its type, taken at once: the tokens that it is, one after another.
use Rattle.gj_json.proofs.Common.{AllByRecursion, Allowed, Coordinates, Ending, Event, FeedsAll, Flat, Geometry, IsFlat, IsQuoted, IsWhite, Lands}
use Rattle.gj_json.proofs.Common.{Level, List, Mode, NameDue, None, Object, Reader, StandsWell, TypeName, ValueDone, ValueDue, What, Word, ap}
use Rattle.gj_json.proofs.Common.{append_assoc, ap₂, arith, close_brace, codes, cut, drop, event_at, flat_events, length, length-take-le, names}
use Rattle.gj_json.proofs.Common.{open_brace, opened, refl, string, subst, sym, take-add, true, ℕ, [], ◌++◌, ◌+◌, ◌-◌, ◌<◌, ◌∙◌, ◌∷◌, ◌≡◌, ◌≤◌}
use Rattle.std.proofs.Common.{take}
use Rattle.std.proofs.Common.{length-drop}
use Rattle.std.proofs.lemmas.List.{length-append}
use Rattle.gj_json.specs.Bytes.{comma}
use Rattle.gj_json.specs.declared.class.Class.TheVariants.{Comma as comma_class}
use Rattle.gj_json.specs.declared.head.LatePoint.{LatePoint}
use Rattle.gj_json.specs.Head.{late_point_events}
use Rattle.gj_json.specs.Names.{known_of, word_of}
use Rattle.gj_json.specs.Internal.LatePoints.{before_position, after_position, IsLatePoint}
use Rattle.gj_json.specs.Internal.OpenLevels.{levels_in}
use Rattle.gj_json.specs.Internal.WholeHeads.{quoted, named}
use Rattle.gj_json.proofs.Grammar.ClassOfBytes.{class_is}
use Rattle.gj_json.proofs.Grammar.UsualTokens.{plain}
use Rattle.gj_json.proofs.Pieces.PieceCuts.{cut_length}
use Rattle.gj_json.proofs.Pieces.QuietModes.{quiet_leads}
use Rattle.gj_json.proofs.Pieces.TakenFlats.{value_well, flat_well}
use Rattle.gj_json.proofs.Pieces.TakenHeads as Heads
use Rattle.gj_json.proofs.Pieces.TakenHeads.{Carries, moved_on, both, quiet, white_names, name_carries, close_carries}
use Rattle.gj_json.proofs.Pieces.TakenTokens.{Moved, lands_feeds, done_go, as_string, string_leads, open_well}

module _ (limits : Allowed) where
  -- up to the coordinates
  abbrev front_told : List ℕ → ℕ → List Event
  front_told gap n =
      let bracket = n + length (named (codes "geometry") gap) in
      event_at n (What.Name Geometry) ∷ event_at bracket What.OpenObject ∷ event_at (bracket + 1) (What.Name Coordinates) ∷ []

  front_carries : (mode : Mode) (levels : List Level) (gap : List ℕ) → names mode ≡ true → length levels + 1 ≤ limits.depth → AllByRecursion IsWhite gap
      → Carries limits mode levels ValueDue (Object ∷ levels) (before_position gap) (front_told gap)
  front_carries mode levels gap w deep white =
      let all = Object ∷ levels in
      let first = named (codes "geometry") gap in
      let last = named (codes "coordinates") gap in
      let whole = both limits mode ValueDue ValueDue levels levels all first (open_brace ∷ last)
      (λ n. event_at n (What.Name (known_of (codes "geometry"))) ∷ [])
      (λ n. event_at n What.OpenObject ∷ event_at (n + 1) (What.Name (known_of (codes "coordinates"))) ∷ [])
      (name_carries limits mode levels (codes "geometry") gap w (Heads.geometry_quoted limits) white)
      (both limits ValueDue (opened Object) ValueDue levels all all (open_brace ∷ []) last (λ n. event_at n What.OpenObject ∷ [])
      (λ n. event_at n (What.Name (known_of (codes "coordinates"))) ∷ [])
      (record { moved = λ start offset bytes k room. open_well limits levels start ValueDue offset bytes k refl Object (omega (arith, room)) deep })
      (name_carries limits (opened Object) all (codes "coordinates") gap refl (Heads.coordinates_quoted limits) white)) in
      rw (Heads.geometry_known limits, Heads.coordinates_known limits) at whole

  point_quoted : IsQuoted (codes "Point") (quoted (codes "Point"))
  point_quoted = record { spelled = refl; reads = plain (codes "Point") }

  point_known : word_of (codes "Point") ≡ Word.Point
  unfolding word_of
  point_known = refl

  -- from the comma after the coordinates on
  abbrev back_told : List ℕ → ℕ → List Event
  back_told gap n =
      let name_at = n + 1 + length gap in
      let word_at = name_at + length (named (codes "type") gap) in
      event_at name_at (What.Name TypeName) ∷ event_at word_at (What.Text Word.Point)
      ∷ event_at (word_at + length (quoted (codes "Point"))) What.CloseObject ∷ []

  back_carries : (levels : List Level) (gap : List ℕ) → length levels + 1 ≤ limits.depth → AllByRecursion IsWhite gap
      → Carries limits ValueDone (Object ∷ levels) ValueDone levels (after_position gap) (back_told gap)
  back_carries levels gap deep white =
      let all = Object ∷ levels in
      let name = named (codes "type") gap in
      let text = quoted (codes "Point") in
      let last = close_brace ∷ [] in
      let typed : ℕ → List Event = λ n. event_at n (What.Text (word_of (codes "Point"))) ∷ event_at (n + length text) What.CloseObject ∷ [] in
      let told : ℕ → List Event = λ n. event_at n (What.Name (known_of (codes "type"))) ∷ typed (n + length name) in
      let whole = both limits ValueDone NameDue ValueDone all all levels (comma ∷ []) (gap ++ (name ++ (text ++ last))) (λ n. []) (λ n. told (n + length gap))
      (record {
        moved = λ start offset bytes k room.
            done_go limits all start offset bytes comma k (omega (arith, room)) NameDue Ending.Item (rw (class_is comma_class comma refl (λ e. cc)) refl);
      })
      (both limits NameDue NameDue ValueDone all all levels gap (name ++ (text ++ last)) (λ n. []) told
      (quiet limits NameDue NameDue all gap (quiet_leads NameDue gap (white_names limits gap white)))
      (both limits NameDue ValueDue ValueDone all all levels name (text ++ last) (λ n. event_at n (What.Name (known_of (codes "type"))) ∷ []) typed
      (name_carries limits NameDue all (codes "type") gap refl (Heads.type_quoted limits) white)
      (both limits ValueDue ValueDone ValueDone all all levels text last (λ n. event_at n (What.Text (word_of (codes "Point"))) ∷ [])
      (λ n. event_at n What.CloseObject ∷ [])
      (record {
        moved = λ start offset bytes k room.
            let g = value_well limits all start ValueDue offset bytes k refl (string offset (codes "Point") (offset + length text)) text
            (string_leads text offset (as_string point_quoted)) (omega (arith, deep)) room in record { start = start; well = g.well; more = g.more };
      })
      (close_carries limits levels)))) in
      rw (Heads.type_known limits, point_known) at whole

-- ---- from reader to reader

pub late_point_taken : {before after : List Event → Type 0} (old new : Reader) (piece : List ℕ) (point : LatePoint) (flat : Flat)
    → old.fault ≡ None → names old.mode ≡ true → old.offset + length piece ≤ old.limits.bytes → length (levels_in old.levels) + 1 < old.limits.depth
    → IsLatePoint point flat old.offset piece → Lands (point.close - old.offset + 1) ValueDone (levels_in old.levels) old new
    → ((events : List Event) → before events → after (events ++ late_point_events point flat))
    → FeedsAll before after old new (take (point.close - old.offset + 1) piece)
late_point_taken {before} {after} old new piece point flat live due room deep h p heard =
    let levels = levels_in old.levels in
    let limits = old.limits in
    let within = Object ∷ levels in
    let count = point.close - old.offset + 1 in
    let from = h.first.count in
    let until = h.until in
    let end = h.last.close + 1 in
    let front_gap = h.begins.gap in
    let back_gap = h.ends.gap in
    let xs = before_position front_gap in
    let ys = cut piece from until in
    let zs = after_position back_gap in
    let given = xs ++ (ys ++ zs) in
    let nx : length xs ≡ from = ap length (sym h.begins.spelled) ∙ length-take-le from piece (omega (arith, h.some, h.within)) in
    let ny : length ys ≡ until - from = cut_length piece from until (omega (arith, h.within)) in
    let nz : length zs ≡ end =
    ap length (sym h.ends.spelled) ∙ length-take-le end (drop until piece) (omega (arith, h.within, length-drop until piece)) in
    let upto : from + (until - from) ≡ until = omega (arith, h.some) in
    let n : count ≡ until + end = omega (arith, h.close) in
    let front : take until piece ≡ xs ++ ys =
    ap (λ n. take n piece) (sym upto) ∙ take-add from (until - from) piece ∙ ap (λ b. b ++ ys) h.begins.spelled in
    let same : take count piece ≡ given =
    ap (λ n. take n piece) n ∙ take-add until end piece ∙ ap₂ (λ (a b : List ℕ). a ++ b) front h.ends.spelled ∙ append_assoc xs ys zs in
    let long : length given ≡ count = ap length (sym same) ∙ length-take-le count piece (omega (arith, n, h.within)) in
    let k : ℕ = old.offset + length xs in
    let l : ℕ = k + length ys in
    let m : ℕ = l + length zs in
    let es : List Event = front_told limits front_gap old.offset ++ (flat_events flat ++ back_told limits back_gap l) in
    let told : ℕ → ℕ → ℕ → ℕ → ℕ → ℕ → List Event =
    λ a b c d e f. event_at a (What.Name Geometry) ∷ event_at b What.OpenObject ∷ event_at c (What.Name Coordinates)
    ∷ (flat_events flat ++ (event_at d (What.Name TypeName) ∷ event_at e (What.Text Word.Point) ∷ event_at f What.CloseObject ∷ [])) in
    let bracket : point.bracket ≡ old.offset + length (named (codes "geometry") front_gap) = omega (arith, h.bracket, h.begins.bracket_place) in
    let coordinates : point.coordinates ≡ old.offset + length (named (codes "geometry") front_gap) + 1 =
    omega (arith, h.coordinates, h.begins.bracket_place) in
    let name_at : point.name_at ≡ l + 1 + length back_gap = omega (arith, h.name_at, h.ends.name_place, nx, ny, h.some) in
    let word_at : point.word_at ≡ l + 1 + length back_gap + length (named (codes "type") back_gap) =
    omega (arith, h.word_at, h.ends.word_place, h.ends.name_place, nx, ny, h.some) in
    let parts : length zs ≡ 1 + (length back_gap + (length (named (codes "type") back_gap) + (length (quoted (codes "Point")) + 1))) =
    omega (
      arith,
      length-append back_gap (named (codes "type") back_gap ++ (quoted (codes "Point") ++ close_brace ∷ [])),
      length-append (named (codes "type") back_gap) (quoted (codes "Point") ++ close_brace ∷ []),
      length-append (quoted (codes "Point")) (close_brace ∷ []),
    ) in
    let close : point.close ≡ l + 1 + length back_gap + length (named (codes "type") back_gap) + length (quoted (codes "Point")) =
    omega (arith, h.close, nx, ny, nz, parts, h.some) in
    let alike : told point.place point.bracket point.coordinates point.name_at point.word_at point.close ≡ es =
    rw (h.place, bracket, coordinates, name_at, word_at, close) refl in
    let flat_bytes : IsFlat flat k ys = (let P : ℕ → Type 0 = λ n. IsFlat flat (old.offset + n) ys in subst P (sym nx) h.flat_bytes) in
    let moved : (bytes : List ℕ) → StandsWell limits old.mode levels old.start old.offset bytes
    → Moved limits ValueDone levels old.offset (old.offset + length given) bytes given es =
    λ bytes o. (let a =
    (front_carries limits old.mode levels front_gap due (omega (arith, deep)) h.begins.white).moved old.start old.offset bytes o
    (omega (arith, room, nx, h.some, h.within)) in
    let b =
    flat_well limits within a.start ValueDue k (bytes ++ xs) a.well refl flat ys flat_bytes (omega (arith, deep))
    (omega (arith, room, nx, ny, h.some, h.within)) in
    let c =
    (back_carries limits levels back_gap (omega (arith, deep)) h.ends.white).moved a.start l ((bytes ++ xs) ++ ys) b.well
    (omega (arith, room, nx, ny, nz, h.some, h.within)) in
    let rest =
    moved_on limits ValueDone ValueDone within levels k l m (bytes ++ xs) ys zs (flat_events flat) (back_told limits back_gap l)
    (record { start = a.start; well = b.well; more = b.more }) c in
    let whole =
    moved_on limits ValueDue ValueDone within levels old.offset k m bytes xs (ys ++ zs) (front_told limits front_gap old.offset)
    (flat_events flat ++ back_told limits back_gap l) a rest in
    let T : ℕ → Type 0 = λ n. Moved limits ValueDone levels old.offset n bytes given es in
    let e : m ≡ old.offset + length given = omega (arith, long, n, nx, ny, nz, h.some) in
    subst T e whole) in
    let P : ℕ → Type 0 = λ n. Lands n ValueDone levels old new in
    let Q : List Event → Type 0 = λ ls. (events : List Event) → before events → after (events ++ ls) in
    let S : List ℕ → Type 0 = λ zs. FeedsAll before after old new zs in
    subst S (sym same)
    (lands_feeds {before = before} {after = after} old new given ValueDone levels es live (subst P (sym long) p) refl moved (subst Q alike heard))
