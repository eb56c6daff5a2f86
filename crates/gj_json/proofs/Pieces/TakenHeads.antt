-- The beginnings of objects, taken at once: the tokens that they are, one after another.
use Rattle.gj_json.proofs.Common.{AllByRecursion, Allowed, Array, ColonDue, Coordinates, Ending, Event, FeedsAll, Flat, Geometry, IsQuiet, IsQuoted}
use Rattle.gj_json.proofs.Common.{IsText, IsTyped, IsWhite, Lands, Level, List, Mode, NameDue, None, Object, Reader, StandsWell, TypeName, ValueDone}
use Rattle.gj_json.proofs.Common.{ValueDue, What, Word, ap, append_assoc, arith, awaits, close_brace, codes, cut, drop, event_at, events_by}
use Rattle.gj_json.proofs.Common.{flat_events, get_or, inner_of, length, length-take-le, names, open_brace, opened, refl, string, subst, sym, take-add}
use Rattle.gj_json.proofs.Common.{take_more, true, ℕ, [], ◌++◌, ◌+◌, ◌-◌, ◌<◌, ◌∙◌, ◌∷◌, ◌≡◌, ◌≤◌}
use Rattle.std.proofs.Common.{take}
use Rattle.std.proofs.lemmas.List.{length-append}
use Rattle.gj_json.specs.Bytes.{comma, colon}
use Rattle.gj_json.specs.declared.class.Class.TheVariants.{CloseObject as close_class, Comma as comma_class, White as white_class}
use Rattle.gj_json.specs.declared.head.Located.{Located}
use Rattle.gj_json.specs.declared.heads.UsualLocated.{UsualLocated}
use Rattle.gj_json.specs.declared.heads.UsualNext.{UsualNext}
use Rattle.gj_json.specs.declared.names.Known.TheVariants.{Properties}
use Rattle.gj_json.specs.Names.{known_of, word_of}
use Rattle.gj_json.specs.Head.{located_events, point_events}
use Rattle.gj_json.specs.Internal.OpenLevels.{levels_in}
use Rattle.gj_json.specs.Internal.QuietBytes.{Leads}
use Rattle.gj_json.specs.Internal.WholeHeads.{quoted, named, BeginsTyped, IsEnclosed, IsFollowing, IsFound, IsLocatedAt, OpensProperties}
use Rattle.gj_json.specs.Internal.WholeTokens.{may_begin}
use Rattle.gj_json.proofs.Grammar.ClassOfBytes.{class_is}
use Rattle.gj_json.proofs.Grammar.SpelledTokens.{colon_by}
use Rattle.gj_json.proofs.Grammar.UsualTokens.{plain}
use Rattle.gj_json.proofs.Pieces.QuietModes.{quiet_leads}
use Rattle.gj_json.proofs.Pieces.QuietRuns.{quiet_run}
use Rattle.gj_json.proofs.Pieces.PieceCuts.{cut_length, cut_byte, cut_joins}
use Rattle.gj_json.proofs.Pieces.TakenFlats.{all_quiet, value_well, flat_well}
use Rattle.gj_json.proofs.Pieces.TakenTokens.{Moved, lands_feeds, done_go, close_well, closes_value, as_string, string_leads, name_well, may_begin_due, open_well}

-- ---- bytes that lead from one mode to another, wherever they stand, and what is complete behind them

pub record Carries (limits : Allowed) (mode : Mode) (levels : List Level) (next : Mode) (after : List Level)
    (given : List ℕ) (es : ℕ → List Event) : Type 0 where
  pub moved : (start offset : ℕ) (bytes : List ℕ) → StandsWell limits mode levels start offset bytes → offset + length given ≤ limits.bytes
      → Moved limits next after offset (offset + length given) bytes given (es offset)

-- bytes after others
pub moved_on : (limits : Allowed) (mid next : Mode) (around after : List Level) (from m to : ℕ) (bytes xs ys : List ℕ) (es fs : List Event)
    → Moved limits mid around from m bytes xs es → Moved limits next after m to (bytes ++ xs) ys fs → Moved limits next after from to bytes (xs ++ ys) (es ++ fs)
moved_on limits mid next around after from m to bytes xs ys es fs a b =
    let Q : List ℕ → Type 0 = λ zs. StandsWell limits next after b.start to zs in
    record {
      start = b.start;
      well = subst Q (append_assoc bytes xs ys) b.well;
      more = λ T rest t.
          let u : IsText T (((bytes ++ xs) ++ ys) ++ rest) = rw (append_assoc bytes xs ys) t in
          let v : IsText T ((bytes ++ xs) ++ (ys ++ rest)) = rw (append_assoc (bytes ++ xs) ys rest) at u in
          b.more T rest u ∙ ap (λ zs. zs ++ fs) (a.more T (ys ++ rest) v) ∙ append_assoc (events_by from T) es fs;
    }

module _ (limits : Allowed) where
  pub both : (mode mid next : Mode) (levels around after : List Level) (xs ys : List ℕ) (es fs : ℕ → List Event) → Carries limits mode levels mid around xs es
      → Carries limits mid around next after ys fs → Carries limits mode levels next after (xs ++ ys) (λ n. es n ++ fs (n + length xs))
  both mode mid next levels around after xs ys es fs f g = record {
    moved = λ start offset bytes k room.
        let l = length-append xs ys in
        let a = f.moved start offset bytes k (omega (arith, room, l)) in
        let b = g.moved a.start (offset + length xs) (bytes ++ xs) a.well (omega (arith, room, l)) in
        let e : offset + length xs + length ys ≡ offset + length (xs ++ ys) = omega (arith, l) in
        let P : ℕ → Type 0 = λ n. Moved limits next after offset n bytes (xs ++ ys) (es offset ++ fs (offset + length xs)) in
        subst P e (moved_on limits mid next around after offset (offset + length xs) _ bytes xs ys (es offset) (fs (offset + length xs)) a b);
  }

  pub quiet : (mode next : Mode) (levels : List Level) (given : List ℕ) → Leads mode given next → Carries limits mode levels next levels given (λ n. [])
  quiet mode next levels given leads = record {
    moved = λ start offset bytes k room.
        let g = quiet_run limits levels start given mode next offset bytes k room leads in record { start = start; well = g.0; more = g.1 };
  }

  pub white_names : (gap : List ℕ) → AllByRecursion IsWhite gap → AllByRecursion (IsQuiet NameDue) gap
  white_names [] h = tt
  white_names (x ∷ xs) h = (record { moves = λ turn inner words. rw (class_is white_class x h.0 (λ e. cc)) refl; on = refl }, white_names xs h.1)

  white_opened : (gap : List ℕ) → AllByRecursion IsWhite gap → AllByRecursion (IsQuiet (opened Object)) gap
  white_opened [] h = tt
  white_opened (x ∷ xs) h = (record { moves = λ turn inner words. rw (class_is white_class x h.0 (λ e. cc)) refl; on = refl }, white_opened xs h.1)

  -- a name, its colon and white space
  pub name_carries : (mode : Mode) (levels : List Level) (content gap : List ℕ) → names mode ≡ true → IsQuoted content (quoted content)
      → AllByRecursion IsWhite gap
      → Carries limits mode levels ValueDue levels (named content gap) (λ n. event_at n (What.Name (known_of content)) ∷ [])
  name_carries mode levels content gap w q white =
      both mode ColonDue ValueDue levels levels levels (quoted content) (colon ∷ gap) (λ n. event_at n (What.Name (known_of content)) ∷ []) (λ n. [])
      (record { moved = λ start offset bytes k room. name_well limits levels start mode offset bytes k w (quoted content) (as_string q) room })
      (quiet ColonDue ValueDue levels (colon ∷ gap) (ValueDue, colon_by, quiet_leads ValueDue gap (all_quiet gap white)))

  -- a string in an object, the comma after it and white space
  text_carries : (levels : List Level) (content given gap : List ℕ) → length levels + 1 ≤ limits.depth → IsQuoted content given → AllByRecursion IsWhite gap
      → Carries limits ValueDue (Object ∷ levels) NameDue (Object ∷ levels) (given ++ (comma ∷ gap)) (λ n. event_at n (What.Text (word_of content)) ∷ [])
  text_carries levels content given gap deep q white =
      let all = Object ∷ levels in
      both ValueDue ValueDone NameDue all all all given (comma ∷ gap) (λ n. event_at n (What.Text (word_of content)) ∷ []) (λ n. [])
      (record {
        moved = λ start offset bytes k room.
            let g = value_well limits all start ValueDue offset bytes k refl (string offset content (offset + length given)) given
            (string_leads given offset (as_string q)) (omega (arith, deep)) room in record { start = start; well = g.well; more = g.more };
      })
      (both ValueDone NameDue NameDue all all all (comma ∷ []) gap (λ n. []) (λ n. [])
      (record {
        moved = λ start offset bytes k room.
            done_go limits all start offset bytes comma k (omega (arith, room)) NameDue Ending.Item (rw (class_is comma_class comma refl (λ e. cc)) refl);
      })
      (quiet NameDue NameDue all gap (quiet_leads NameDue gap (white_names gap white))))

  pub type_quoted : IsQuoted (codes "type") (quoted (codes "type"))
  type_quoted = record { spelled = refl; reads = plain (codes "type") }

  pub type_known : known_of (codes "type") ≡ TypeName
  unfolding known_of
  type_known = refl

  -- an object that begins by its type
  abbrev typed_told : List ℕ → List ℕ → Word → ℕ → List Event
  typed_told inside gap word n =
      event_at n What.OpenObject ∷ event_at (n + 1 + length inside) (What.Name TypeName)
      ∷ event_at (n + 1 + length inside + length (named (codes "type") gap)) (What.Text word) ∷ []

  typed_carries : (mode : Mode) (levels : List Level) (place name_at word_at : ℕ) (word : Word) (inside gap bytes : List ℕ) → may_begin mode ≡ true
      → length levels + 1 ≤ limits.depth → AllByRecursion IsWhite inside → AllByRecursion IsWhite gap
      → BeginsTyped place name_at word_at word inside gap bytes
      → Carries limits mode levels NameDue (Object ∷ levels) bytes (typed_told inside gap word)
  typed_carries mode levels place name_at word_at word inside gap bytes w deep white_inside white h =
      let all = Object ∷ levels in
      let name = named (codes "type") gap in
      let text = h.type_bytes ++ (comma ∷ gap) in
      let told : ℕ → List Event = λ n. event_at n (What.Name (known_of (codes "type"))) ∷ event_at (n + length name) (What.Text (word_of h.content)) ∷ [] in
      let whole = both mode (opened Object) NameDue levels all all (open_brace ∷ []) (inside ++ (name ++ text)) (λ n. event_at n What.OpenObject ∷ [])
      (λ n. told (n + length inside))
      (record { moved = λ start offset bytes k room. open_well limits levels start mode offset bytes k w Object (omega (arith, room)) deep })
      (both (opened Object) (opened Object) NameDue all all all inside (name ++ text) (λ n. []) told
      (quiet (opened Object) (opened Object) all inside (quiet_leads (opened Object) inside (white_opened inside white_inside)))
      (both (opened Object) ValueDue NameDue all all all name text (λ n. event_at n (What.Name (known_of (codes "type"))) ∷ [])
      (λ n. event_at n (What.Text (word_of h.content)) ∷ []) (name_carries (opened Object) all (codes "type") gap refl type_quoted white)
      (text_carries levels h.content h.type_bytes gap deep h.is_quoted white))) in
      let P : List ℕ → Type 0 = λ xs. Carries limits mode levels NameDue all xs (typed_told inside gap word) in
      subst P (sym h.spelled) (rw (type_known, h.known_as) at whole)

  pub geometry_quoted : IsQuoted (codes "geometry") (quoted (codes "geometry"))
  geometry_quoted = record { spelled = refl; reads = plain (codes "geometry") }

  pub geometry_known : known_of (codes "geometry") ≡ Geometry
  unfolding known_of
  geometry_known = refl

  pub coordinates_quoted : IsQuoted (codes "coordinates") (quoted (codes "coordinates"))
  coordinates_quoted = record { spelled = refl; reads = plain (codes "coordinates") }

  pub coordinates_known : known_of (codes "coordinates") ≡ Coordinates
  unfolding known_of
  coordinates_known = refl

  -- a member `geometry` up to its coordinates
  abbrev located_told : List ℕ → List ℕ → List ℕ → List ℕ → Word → ℕ → List Event
  located_told before inside gap object_bytes word n =
      let bracket = n + length (named (codes "geometry") before) in
      event_at n (What.Name Geometry) ∷ (typed_told inside gap word bracket ++ event_at (bracket + length object_bytes) (What.Name Coordinates) ∷ [])

  located_carries : (mode : Mode) (levels : List Level) (bracket name_at word_at : ℕ) (word : Word) (before inside gap object_bytes : List ℕ)
      → names mode ≡ true → length levels + 1 ≤ limits.depth
      → AllByRecursion IsWhite before → AllByRecursion IsWhite inside → AllByRecursion IsWhite gap
      → BeginsTyped bracket name_at word_at word inside gap object_bytes
      → Carries limits mode levels ValueDue (Object ∷ levels)
      (named (codes "geometry") before ++ (object_bytes ++ named (codes "coordinates") gap)) (located_told before inside gap object_bytes word)
  located_carries mode levels bracket name_at word_at word before inside gap object_bytes w deep white_before white_inside white h =
      let all = Object ∷ levels in
      let first = named (codes "geometry") before in
      let last = named (codes "coordinates") gap in
      let whole = both mode ValueDue ValueDue levels levels all first (object_bytes ++ last) (λ n. event_at n (What.Name (known_of (codes "geometry"))) ∷ [])
      (λ n. typed_told inside gap word n ++ event_at (n + length object_bytes) (What.Name (known_of (codes "coordinates"))) ∷ [])
      (name_carries mode levels (codes "geometry") before w geometry_quoted white_before)
      (both ValueDue NameDue ValueDue levels all all object_bytes last (typed_told inside gap word)
      (λ n. event_at n (What.Name (known_of (codes "coordinates"))) ∷ [])
      (typed_carries ValueDue levels bracket name_at word_at word inside gap object_bytes refl deep white_inside white h)
      (name_carries NameDue all (codes "coordinates") gap refl coordinates_quoted white)) in
      rw (geometry_known, coordinates_known) at whole

  properties_quoted : IsQuoted (codes "properties") (quoted (codes "properties"))
  properties_quoted = record { spelled = refl; reads = plain (codes "properties") }

  properties_known : known_of (codes "properties") ≡ Properties
  unfolding known_of
  properties_known = refl

  -- a member `properties` up to the bracket of its object, and with it
  abbrev opened_told : List ℕ → ℕ → List Event
  opened_told gap n = event_at n (What.Name Properties) ∷ event_at (n + length (named (codes "properties") gap)) What.OpenObject ∷ []

  opened_carries : (mode : Mode) (levels : List Level) (gap : List ℕ) → names mode ≡ true → length levels + 1 ≤ limits.depth → AllByRecursion IsWhite gap
      → Carries limits mode levels (opened Object) (Object ∷ levels) (named (codes "properties") gap ++ open_brace ∷ []) (opened_told gap)
  opened_carries mode levels gap w deep white =
      let all = Object ∷ levels in
      let name = named (codes "properties") gap in
      let whole = both mode ValueDue (opened Object) levels levels all name (open_brace ∷ []) (λ n. event_at n (What.Name (known_of (codes "properties"))) ∷ [])
      (λ n. event_at n What.OpenObject ∷ []) (name_carries mode levels (codes "properties") gap w properties_quoted white)
      (record { moved = λ start offset bytes k room. open_well limits levels start ValueDue offset bytes k refl Object (omega (arith, room)) deep }) in
      rw (properties_known) at whole

  -- the end of an object in an object, with the end of that and the comma after it, and an object that begins by its type
  pub close_carries : (levels : List Level)
      → Carries limits ValueDone (Object ∷ levels) ValueDone levels (close_brace ∷ []) (λ n. event_at n What.CloseObject ∷ [])
  close_carries levels = record {
    moved = λ start offset bytes k room.
        close_well limits (Object ∷ levels) start offset bytes close_brace ValueDone k (omega (arith, room)) Object
        (closes_value ValueDone (inner_of (Object ∷ levels)) close_brace Object refl (rw (class_is close_class close_brace refl (λ e. cc)) refl));
  }

  white_done : (gap : List ℕ) → AllByRecursion IsWhite gap → AllByRecursion (IsQuiet ValueDone) gap
  white_done [] h = tt
  white_done (x ∷ xs) h = (record { moves = λ turn inner words. rw (class_is white_class x h.0 (λ e. cc)) refl; on = refl }, white_done xs h.1)

  done_carries : (levels : List Level) (gap : List ℕ) → AllByRecursion IsWhite gap → Carries limits ValueDone levels ValueDone levels gap (λ n. [])
  done_carries levels gap white = quiet ValueDone ValueDone levels gap (quiet_leads ValueDone gap (white_done gap white))

  -- the end of an element that is an object, the comma after it, and an object that begins by its type, with white space between them
  following_carries : (around : List Level) (name_at word_at : ℕ) (word : Word) (inside gap before between bytes : List ℕ) → length around + 2 ≤ limits.depth
      → AllByRecursion IsWhite inside → AllByRecursion IsWhite gap → AllByRecursion IsWhite before → AllByRecursion IsWhite between
      → BeginsTyped 0 name_at word_at word inside gap bytes
      → Carries limits ValueDone (Object ∷ Array ∷ around) NameDue (Object ∷ Array ∷ around) (before ++ (close_brace ∷ comma ∷ (between ++ bytes)))
      (λ n. event_at (n + length before) What.CloseObject ∷ typed_told inside gap word (n + length before + 1 + 1 + length between))
  following_carries around name_at word_at word inside gap before between bytes deep white_inside white white_before white_between h =
      let second = Object ∷ Array ∷ around in
      let third = Array ∷ around in
      both ValueDone ValueDone NameDue second second second before (close_brace ∷ comma ∷ (between ++ bytes)) (λ n. [])
      (λ n. event_at n What.CloseObject ∷ typed_told inside gap word (n + 1 + 1 + length between)) (done_carries second before white_before)
      (both ValueDone ValueDone NameDue second third second (close_brace ∷ []) (comma ∷ (between ++ bytes)) (λ n. event_at n What.CloseObject ∷ [])
      (λ n. typed_told inside gap word (n + 1 + length between)) (close_carries third)
      (both ValueDone ValueDue NameDue third third second (comma ∷ []) (between ++ bytes) (λ n. []) (λ n. typed_told inside gap word (n + length between))
      (record {
        moved = λ start offset bytes k room.
            done_go limits third start offset bytes comma k (omega (arith, room)) ValueDue Ending.Item (rw (class_is comma_class comma refl (λ e. cc)) refl);
      })
      (both ValueDue ValueDue NameDue third third second between bytes (λ n. []) (typed_told inside gap word)
      (quiet ValueDue ValueDue third between (quiet_leads ValueDue between (all_quiet between white_between)))
      (typed_carries ValueDue third 0 name_at word_at word inside gap bytes refl (omega (arith, deep)) white_inside white h))))

-- ---- from reader to reader

pub typed_taken : {before after : List Event → Type 0} (old new : Reader) (piece : List ℕ) (count name_at word_at : ℕ) (word : Word) → old.fault ≡ None
    → awaits old.mode ≡ true → old.offset + length piece ≤ old.limits.bytes → count ≤ length piece → length (levels_in old.levels) < old.limits.depth
    → IsTyped piece count name_at word_at word → Lands count NameDue (Object ∷ levels_in old.levels) old new
    → ((events : List Event) → before events → after (events ++ (event_at old.offset What.OpenObject ∷ event_at (old.offset + name_at) (What.Name TypeName)
    ∷ event_at (old.offset + word_at) (What.Text word) ∷ [])))
    → FeedsAll before after old new (take count piece)
typed_taken {before} {after} old new piece count name_at word_at word live due room w deep h p heard =
    let levels = levels_in old.levels in
    let long : length (take count piece) ≡ count = length-take-le count piece w in
    let carries =
    typed_carries old.limits old.mode levels 0 name_at word_at word h.inside h.gap (take count piece) (may_begin_due old.mode due) (omega (arith, deep))
    h.white_inside h.white h.begins in
    let d : old.offset + name_at ≡ old.offset + 1 + length h.inside = omega (arith, h.begins.name_place) in
    let e : old.offset + word_at ≡ old.offset + 1 + length h.inside + length (named (codes "type") h.gap) =
    omega (arith, h.begins.name_place, h.begins.word_place) in
    let told : ℕ → ℕ → List Event =
    λ m n. event_at old.offset What.OpenObject ∷ event_at m (What.Name TypeName) ∷ event_at n (What.Text word) ∷ [] in
    let alike : told (old.offset + name_at) (old.offset + word_at) ≡ typed_told old.limits h.inside h.gap word old.offset = rw (d, e) refl in
    let P : ℕ → Type 0 = λ n. Lands n NameDue (Object ∷ levels) old new in
    let Q : List Event → Type 0 = λ es. (events : List Event) → before events → after (events ++ es) in
    lands_feeds {before = before} {after = after} old new (take count piece) NameDue (Object ∷ levels)
    (typed_told old.limits h.inside h.gap word old.offset) live
    (subst P (sym long) p) refl (λ bytes k. carries.moved old.start old.offset bytes k (omega (arith, long, room, w))) (subst Q alike heard)

pub opened_taken : {before after : List Event → Type 0} (old new : Reader) (piece : List ℕ) (count : ℕ) → old.fault ≡ None → names old.mode ≡ true
    → old.offset + length piece ≤ old.limits.bytes → count ≤ length piece → length (levels_in old.levels) < old.limits.depth
    → OpensProperties (take count piece) → Lands count (opened Object) (Object ∷ levels_in old.levels) old new
    → ((events : List Event) → before events
    → after (events ++ (event_at old.offset (What.Name Properties) ∷ event_at (old.offset + count - 1) What.OpenObject ∷ [])))
    → FeedsAll before after old new (take count piece)
opened_taken {before} {after} old new piece count live due room w deep h p heard =
    let levels = levels_in old.levels in
    let given = take count piece in
    let name = named (codes "properties") h.gap in
    let long : length given ≡ count = length-take-le count piece w in
    let told : ℕ → List Event = λ n. event_at old.offset (What.Name Properties) ∷ event_at n What.OpenObject ∷ [] in
    let parts : length given ≡ length name + 1 = ap length h.spelled ∙ length-append name (open_brace ∷ []) in
    let e : old.offset + count - 1 ≡ old.offset + length name = omega (arith, long, parts) in
    let carries = opened_carries old.limits old.mode levels h.gap due (omega (arith, deep)) h.white in
    let C : List ℕ → Type 0 = λ xs. Carries old.limits old.mode levels (opened Object) (Object ∷ levels) xs (opened_told old.limits h.gap) in
    let whole : C given = subst C (sym h.spelled) carries in
    let P : ℕ → Type 0 = λ n. Lands n (opened Object) (Object ∷ levels) old new in
    let Q : ℕ → Type 0 = λ n. (events : List Event) → before events → after (events ++ told n) in
    lands_feeds {before = before} {after = after} old new given (opened Object) (Object ∷ levels) (opened_told old.limits h.gap old.offset) live
    (subst P (sym long) p) refl (λ bytes k. whole.moved old.start old.offset bytes k (omega (arith, long, room, w))) (subst Q e heard)

-- the bytes of an end and of what comes before and after it
end_bytes : (piece : List ℕ) (close at : ℕ) → close + 2 ≤ at → at ≤ length piece → get_or piece close 0 ≡ close_brace → get_or piece (close + 1) 0 ≡ comma
    → take at piece ≡ cut piece 0 close ++ (close_brace ∷ comma ∷ cut piece (close + 2) at)
end_bytes piece close at w within e f =
    let two : close + 1 + 1 ≡ close + 2 = omega arith in
    let rest : cut piece close at ≡ close_brace ∷ comma ∷ cut piece (close + 2) at =
    cut_byte piece close at (omega (arith, w, within)) (omega (arith, w)) ∙ ap (λ b. b ∷ cut piece (close + 1) at) e
    ∙ ap (λ xs. close_brace ∷ xs)
    (cut_byte piece (close + 1) at (omega (arith, w, within)) (omega (arith, w)) ∙ ap (λ b. b ∷ cut piece (close + 1 + 1) at) f
    ∙ ap (λ n. comma ∷ cut piece n at) two) in
    let whole : at ≡ at - 0 = omega arith in
    ap (λ n. take n piece) whole ∙ cut_joins piece 0 close at (omega arith) (omega (arith, w)) ∙ ap (λ xs. cut piece 0 close ++ xs) rest

in_four : (xs ys zs : List ℕ) → (xs ++ (close_brace ∷ comma ∷ ys)) ++ zs ≡ xs ++ (close_brace ∷ comma ∷ (ys ++ zs))
in_four xs ys zs = append_assoc xs (close_brace ∷ comma ∷ ys) zs

pub following_taken : {before after : List Event → Type 0} (old new : Reader) (piece : List ℕ) (next : UsualNext) (around : List Level)
    → old.fault ≡ None → old.mode ≡ ValueDone → old.offset + length piece ≤ old.limits.bytes → next.at + next.typed.count ≤ length piece
    → levels_in old.levels ≡ Object ∷ Array ∷ around → IsFollowing piece next
    → Lands (next.at + next.typed.count) NameDue (Object ∷ Array ∷ around) old new
    → ((events : List Event) → before events → after (events ++ (event_at (old.offset + next.close) What.CloseObject
    ∷ event_at (old.offset + next.at) What.OpenObject ∷ event_at (old.offset + next.at + next.typed.name_at) (What.Name TypeName)
    ∷ event_at (old.offset + next.at + next.typed.word_at) (What.Text next.typed.word) ∷ [])))
    → FeedsAll before after old new (take (next.at + next.typed.count) piece)
following_taken {before} {after} old new piece next around live done room w levels h p heard =
    let t = h.typed in
    let count = next.typed.count in
    let front = cut piece 0 next.close in
    let between = cut piece (next.close + 2) next.at in
    let given = take count (drop next.at piece) in
    let all = front ++ (close_brace ∷ comma ∷ (between ++ given)) in
    let same : take (next.at + count) piece ≡ all =
    take-add next.at count piece ∙ ap (λ xs. xs ++ given) (end_bytes piece next.close next.at h.after (omega (arith, w)) h.bracket h.comma)
    ∙ in_four front between given in
    let long : length (take (next.at + count) piece) ≡ next.at + count = length-take-le (next.at + count) piece w in
    let n : length all ≡ next.at + count = ap length (sym same) ∙ long in
    let nf : length front ≡ next.close = cut_length piece 0 next.close (omega (arith, w, h.after)) ∙ omega arith in
    let nb : length between ≡ next.at - (next.close + 2) = cut_length piece (next.close + 2) next.at (omega (arith, w)) in
    let deep : length around + 2 ≤ old.limits.depth = omega (arith, old.nested, ap length levels) in
    let carries =
    following_carries old.limits around next.typed.name_at next.typed.word_at next.typed.word t.inside t.gap front between given deep t.white_inside t.white
    h.white_before h.white_after t.begins in
    let start : ℕ = old.offset + length front + 1 + 1 + length between in
    let d : old.offset + next.close ≡ old.offset + length front = omega (arith, nf) in
    let e : old.offset + next.at ≡ start = omega (arith, nf, nb, h.after) in
    let f : old.offset + next.at + next.typed.name_at ≡ start + 1 + length t.inside = omega (arith, nf, nb, h.after, t.begins.name_place) in
    let g : old.offset + next.at + next.typed.word_at ≡ start + 1 + length t.inside + length (named (codes "type") t.gap) =
    omega (arith, nf, nb, h.after, t.begins.name_place, t.begins.word_place) in
    let told : ℕ → ℕ → ℕ → ℕ → List Event =
    λ k l m o. event_at k What.CloseObject ∷ event_at l What.OpenObject ∷ event_at m (What.Name TypeName) ∷ event_at o (What.Text next.typed.word) ∷ [] in
    let all_told : List Event =
    event_at (old.offset + length front) What.CloseObject ∷ typed_told old.limits t.inside t.gap next.typed.word start in
    let alike : told (old.offset + next.close) (old.offset + next.at) (old.offset + next.at + next.typed.name_at) (old.offset + next.at + next.typed.word_at)
    ≡ all_told =
    rw (g, f, e, d) refl in
    let P : ℕ → Type 0 = λ n. Lands n NameDue (Object ∷ Array ∷ around) old new in
    let Q : List Event → Type 0 = λ es. (events : List Event) → before events → after (events ++ es) in
    let S : List ℕ → Type 0 = λ xs. FeedsAll before after old new xs in
    let from : (bytes : List ℕ) → StandsWell old.limits old.mode (levels_in old.levels) old.start old.offset bytes
    → StandsWell old.limits ValueDone (Object ∷ Array ∷ around) old.start old.offset bytes =
    λ bytes k. (let M : Mode → Type 0 = λ m. StandsWell old.limits m (Object ∷ Array ∷ around) old.start old.offset bytes in
    let L : List Level → Type 0 = λ ls. StandsWell old.limits old.mode ls old.start old.offset bytes in
    subst M done (subst L levels k)) in
    subst S (sym same)
    (lands_feeds {before = before} {after = after} old new all NameDue (Object ∷ Array ∷ around) all_told live (subst P (sym n) p) refl
    (λ bytes k. carries.moved old.start old.offset bytes (from bytes k) (omega (arith, n, room, w))) (subst Q alike heard))

-- the beginning of a member `geometry`, as it is found and reported
found_told : (limits : Allowed) (start : ℕ) (piece : List ℕ) (usual : UsualLocated) (located : Located) (h : IsFound piece usual)
    → IsLocatedAt start usual located
    → located_events located ≡ located_told limits h.located.before h.located.inside h.located.gap h.located.object_bytes usual.word start
found_told limits start piece usual located h i =
    let l = h.located in
    let first = named (codes "geometry") l.before in
    let e : located.typed.place ≡ start + length first = omega (arith, i.bracket, l.bracket_place) in
    let d : located.typed.name_at ≡ start + length first + 1 + length l.inside = omega (arith, i.name_at, l.bracket_place, l.begins.name_place) in
    let f : located.typed.word_at ≡ start + length first + 1 + length l.inside + length (named (codes "type") l.gap) =
    omega (arith, i.word_at, l.bracket_place, l.begins.name_place, l.begins.word_place) in
    let g : located.coordinates ≡ start + length first + length l.object_bytes = omega (arith, i.coordinates, l.bracket_place, l.coordinates_place) in
    rw (i.place, e, d, f, i.word, g) refl

found_moved : (limits : Allowed) (mode : Mode) (levels : List Level) (start offset : ℕ) (bytes piece : List ℕ) (usual : UsualLocated) (h : IsFound piece usual)
    → names mode ≡ true → length levels < limits.depth → offset + length piece ≤ limits.bytes
    → StandsWell limits mode levels start offset bytes
    → Moved limits ValueDue (Object ∷ levels) offset (offset + usual.count) bytes (take usual.count piece)
    (located_told limits h.located.before h.located.inside h.located.gap h.located.object_bytes usual.word offset)
found_moved limits mode levels start offset bytes piece usual h due deep room k =
    let l = h.located in
    let long : length (take usual.count piece) ≡ usual.count = length-take-le usual.count piece h.within in
    let told = located_told limits l.before l.inside l.gap l.object_bytes usual.word in
    let carries =
    located_carries limits mode levels usual.bracket usual.name_at usual.word_at usual.word l.before l.inside l.gap l.object_bytes due
    (omega (arith, deep)) l.white_before l.white_inside l.white l.begins in
    let C : List ℕ → Type 0 = λ xs. Carries limits mode levels ValueDue (Object ∷ levels) xs told in
    let whole : C (take usual.count piece) = subst C (sym l.spelled) carries in
    let P : ℕ → Type 0 = λ n. Moved limits ValueDue (Object ∷ levels) offset (offset + n) bytes (take usual.count piece) (told offset) in
    subst P long (whole.moved start offset bytes k (omega (arith, long, room, h.within)))

pub found_taken : {before after : List Event → Type 0} (old new : Reader) (piece : List ℕ) (usual : UsualLocated) (located : Located)
    → old.fault ≡ None → names old.mode ≡ true → old.offset + length piece ≤ old.limits.bytes → length (levels_in old.levels) < old.limits.depth
    → IsFound piece usual → IsLocatedAt old.offset usual located → Lands usual.count ValueDue (Object ∷ levels_in old.levels) old new
    → ((events : List Event) → before events → after (events ++ located_events located))
    → FeedsAll before after old new (take usual.count piece)
found_taken {before} {after} old new piece usual located live due room deep h i p heard =
    let levels = levels_in old.levels in
    let long : length (take usual.count piece) ≡ usual.count = length-take-le usual.count piece h.within in
    let told = located_told old.limits h.located.before h.located.inside h.located.gap h.located.object_bytes usual.word old.offset in
    let P : ℕ → Type 0 = λ n. Lands n ValueDue (Object ∷ levels) old new in
    let M : ℕ → List ℕ → Type 0 = λ n bytes. Moved old.limits ValueDue (Object ∷ levels) old.offset (old.offset + n) bytes (take usual.count piece) told in
    let Q : List Event → Type 0 = λ es. (events : List Event) → before events → after (events ++ es) in
    lands_feeds {before = before} {after = after} old new (take usual.count piece) ValueDue (Object ∷ levels) told live (subst P (sym long) p) refl
    (λ bytes k. subst (λ n. M n bytes) (sym long) (found_moved old.limits old.mode levels old.start old.offset bytes piece usual h due deep room k))
    (subst Q (found_told old.limits old.offset piece usual located h i) heard)

-- a member `geometry` that is a whole Point
in_three : (xs ys gap last : List ℕ) → ((xs ++ ys) ++ gap) ++ last ≡ xs ++ (ys ++ (gap ++ last))
in_three xs ys gap last = simp append_assoc

pub point_taken : {before after : List Event → Type 0} (old new : Reader) (piece : List ℕ) (usual : UsualLocated) (located : Located) (flat : Flat) (end : ℕ)
    → old.fault ≡ None → names old.mode ≡ true → old.offset + length piece ≤ old.limits.bytes → length (levels_in old.levels) + 1 < old.limits.depth
    → IsFound piece usual → IsLocatedAt old.offset usual located → end < length piece → IsEnclosed flat old.offset usual.count end piece
    → Lands (end + 1) ValueDone (levels_in old.levels) old new
    → ((events : List Event) → before events → after (events ++ point_events located flat (old.offset + end)))
    → FeedsAll before after old new (take (end + 1) piece)
point_taken {before} {after} old new piece usual located flat end live due room deep h i w f p heard =
    let levels = levels_in old.levels in
    let limits = old.limits in
    let within = Object ∷ levels in
    let until = f.until in
    let xs = take usual.count piece in
    let ys = cut piece usual.count until in
    let gap = cut piece until end in
    let last = close_brace ∷ [] in
    let given = xs ++ (ys ++ (gap ++ last)) in
    let nx : length xs ≡ usual.count = length-take-le usual.count piece h.within in
    let ny : length ys ≡ until - usual.count = cut_length piece usual.count until (omega (arith, f.before, w)) in
    let ng : length gap ≡ end - until = cut_length piece until end (omega (arith, w)) in
    let upto : usual.count + (until - usual.count) ≡ until = omega (arith, f.some) in
    let upon : until + (end - until) ≡ end = omega (arith, f.before) in
    let front : take until piece ≡ xs ++ ys = ap (λ n. take n piece) (sym upto) ∙ take-add usual.count (until - usual.count) piece in
    let middle : take end piece ≡ (xs ++ ys) ++ gap =
    ap (λ n. take n piece) (sym upon) ∙ take-add until (end - until) piece ∙ ap (λ zs. zs ++ gap) front in
    let same : take (end + 1) piece ≡ given =
    take_more piece end 0 w ∙ ap (λ b. take end piece ++ b ∷ []) f.bracket ∙ ap (λ zs. zs ++ last) middle ∙ in_three xs ys gap last in
    let long : length given ≡ end + 1 = ap length (sym same) ∙ length-take-le (end + 1) piece (omega arith) in
    let told = located_told limits h.located.before h.located.inside h.located.gap h.located.object_bytes usual.word old.offset in
    let es : List Event = told ++ (flat_events flat ++ event_at (old.offset + end) What.CloseObject ∷ []) in
    let P : ℕ → Type 0 = λ n. Lands n ValueDone levels old new in
    let Q : List Event → Type 0 = λ ls. (events : List Event) → before events
    → after (events ++ (ls ++ (flat_events flat ++ event_at (old.offset + end) What.CloseObject ∷ []))) in
    let S : List ℕ → Type 0 = λ zs. FeedsAll before after old new zs in
    let k : ℕ = old.offset + usual.count in
    let l : ℕ = k + length ys in
    let m : ℕ = l + length gap in
    let closing : ℕ → Event = λ n. event_at n What.CloseObject in
    let moved : (bytes : List ℕ) → StandsWell limits old.mode levels old.start old.offset bytes
    → Moved limits ValueDone levels old.offset (old.offset + length given) bytes given es =
    λ bytes o. (let a = found_moved limits old.mode levels old.start old.offset bytes piece usual h due (omega (arith, deep)) room o in
    let b =
    flat_well limits within a.start ValueDue k (bytes ++ xs) a.well refl flat ys f.flat_bytes (omega (arith, deep))
    (omega (arith, room, ny, f.some, f.before, w)) in
    let c =
    (done_carries limits within gap f.white).moved a.start l ((bytes ++ xs) ++ ys) b.well (omega (arith, room, ny, ng, f.some, f.before, w)) in
    let d =
    (close_carries limits levels).moved c.start m (((bytes ++ xs) ++ ys) ++ gap) c.well (omega (arith, room, ny, ng, f.some, f.before, w)) in
    let end_of =
    moved_on limits ValueDone ValueDone within levels l m (m + 1) ((bytes ++ xs) ++ ys) gap last [] (closing m ∷ []) c d in
    let rest =
    moved_on limits ValueDone ValueDone within levels k l (m + 1) (bytes ++ xs) ys (gap ++ last) (flat_events flat) (closing m ∷ [])
    (record { start = a.start; well = b.well; more = b.more }) end_of in
    let whole =
    moved_on limits ValueDue ValueDone within levels old.offset k (m + 1) bytes xs (ys ++ (gap ++ last)) told
    (flat_events flat ++ closing m ∷ []) a rest in
    let R : ℕ → Type 0 = λ n. Moved limits ValueDone levels old.offset (n + 1) bytes given (told ++ (flat_events flat ++ closing n ∷ [])) in
    let T : ℕ → Type 0 = λ n. Moved limits ValueDone levels old.offset n bytes given es in
    let e : m ≡ old.offset + end = omega (arith, ny, ng, f.some, f.before) in
    let g : old.offset + end + 1 ≡ old.offset + length given = omega (arith, long) in
    subst T g (subst R e whole)) in
    subst S (sym same)
    (lands_feeds {before = before} {after = after} old new given ValueDone levels es live (subst P (sym long) p) refl moved
    (subst Q (found_told limits old.offset piece usual located h i) heard))
