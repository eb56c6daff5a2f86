-- A written line is read as what it was written for.
use Rattle.part_lines.proofs.Common.{arith, ◌≡◌, ◌<◌, ◌≤◌, ℕ, refl, ap, sym, subst, ◌∙◌, Bool, true, false, Some, List, [], ◌∷◌, ◌++◌, ◌+◌, length, map, replicate, take}
use Rattle.part_lines.proofs.Common.{codes, flat_map, All, Kind, Warnings, Code, Note, PartLine}
use Rattle.std.proofs.Common.{◌^◌, suc, zero, min, cond, None, Option, filter, string_bytes, drop}
use Rattle.std.specs.Prelude.{option_and_then, unwrap_or, ◌==◌, ◌||◌, if◌then◌else◌}
use Rattle.std.proofs.lemmas.Bool.{or_parts}
use Rattle.std.proofs.lemmas.Bool.Decides.{nat_tests}
use Rattle.std.proofs.lemmas.List.{length-replicate}
use Rattle.std.proofs.lemmas.List.Concat.{flat_map-append}
use Rattle.std.proofs.lemmas.List.Elements.{All-nil, All-cons}
use Rattle.serde_json.specs.Data.{Data, Members, no_members, string, boolean, array, object}
use Rattle.serde_json.specs.Find.{get, get_member, as_number, as_u64, as_str, as_bool, as_array}
use Rattle.serde_json.specs.Read.{read}
use Rattle.serde_json.specs.View.{items_of}
use Rattle.serde_json.specs.Written.{compact_text}
use Rattle.std.specs.Io.Iter.{u64_saturate}
use Rattle.gj_coords.specs.declared.kind.Kind.TheVariants.{W1, W2, W3, W4, W5, W6, W7, W8, W9}
use Rattle.gj_coords.proofs.Lists.ListsStoodFor.{kept_of}
use Rattle.gj_coords.specs.Internal.ByKind.{same_itself}
use Rattle.gj_coords.specs.Internal.KeptWarningLaws.{joined_noted_none, noted_of-append}
use Rattle.gj_coords.specs.Internal.KeptWarnings.{noted_as, noted_of, nothing_noted, joined_noted, kept, warnings_of, first_in, count_in}
use Rattle.gj_coords.specs.Internal.WarningLaws.{by_kind_alike}
use Rattle.gj_coords.specs.Warnings.{Warning, warning_at, kinds, same_kind, places_of, greatest_count, least_place, lesser_place}
use Rattle.gj_coords.specs.WarningsStand.{StandsFor}
use Rattle.gj_coords.specs.declared.kind_warnings.KindWarnings.{KindWarnings}
use Rattle.geolint_report.specs.Items.{item_number}
use Rattle.report_forms.specs.Passing.{contains}
use Rattle.part_lines.specs.Lines.{framing_word, every_word, line_base}
use Rattle.part_lines.specs.LineText.{num, members_of, object_of, name_of, file_members, chosen_kind, chosen_kinds, settings_members, warning_members}
use Rattle.part_lines.specs.LineText.{warning_if, kind_items, warning_items, valid_members, fault_members, tally_members, note_members, note_items}
use Rattle.part_lines.specs.LineText.{listed_members, head_members, members_with, body_text, line_text}
use Rattle.part_lines.specs.Sealed.{body_in, object_in, sealed}
use Rattle.part_lines.proofs.SealedLines.{body-there}
use Rattle.part_lines.specs.LineObject.{number_in, text_in, array_in, IsKindName, AreKindsIn, AreWarnings, AreWarningsOf, IsVerdictIn, AreNotes, IsListedIf, IsLineIn}
use Rattle.part_lines.specs.Writable.{Fits, AreWritableWarnings, IsWritableVerdict, AreWritableNotes, IsWritableIf, IsWritable}
use Rattle.report_forms.specs.declared.options.Kinds.{Kinds}
use Rattle.part_lines.specs.declared.line.Listed.{Listed}
use Rattle.geolint_report.specs.declared.every.listing.Item.{Item}
use Rattle.gj_rules.specs.declared.sequence.verdict.SeqVerdict.{SeqVerdict}
use Rattle.gj_rules.specs.declared.verdict.Verdict.{Verdict}
use Rattle.part_lines.proofs.ReadTexts.{read-text, settled, settled_items, settled_members, settled-items}
use Rattle.part_lines.proofs.MembersRead.{few, object-read}
use Rattle.part_lines.proofs.WrittenItems.{line-members, line-ends}

-- ---- what its members say

number-there : (name : List ℕ) (it : Data) (n : ℕ) → get name it ≡ Some (num n) → number_in name it ≡ Some n
number-there name it n is = ap (λ o. option_and_then as_u64 (option_and_then as_number o)) is

text-there : (name : List ℕ) (it : Data) (text : List ℕ) → get name it ≡ Some (string text) → text_in name it ≡ Some text
text-there name it text is = ap (λ o. option_and_then as_str o) is

array-there : (name : List ℕ) (it : Data) (ds : List Data) → get name it ≡ Some (array (settled_items (items_of ds)))
    → array_in name it ≡ Some (items_of (map settled ds))
array-there name it ds is = ap (λ o. option_and_then as_array o) is ∙ ap Some (settled-items ds)

place-there : (n : ℕ) → Fits n → Some (u64_saturate n) ≡ Some n
place-there n small = ap Some (omega (arith, small))

-- what is read of the line with a verdict, and with notes or none
abbrev found-with : PartLine → ℕ → SeqVerdict → Option Listed → Members
found-with line begin verdict listed = settled_members (members_of ((codes "geolint_part", num 2) ∷ members_with line begin verdict listed)) no_members

-- those before the verdict
abbrev HeadIn : PartLine → Members → Type 0
HeadIn line ms =
    (get_member (codes "geolint_part") ms ≡ Some (num 2)) × (get_member (codes "part") ms ≡ Some (num line.share.number))
    × (get_member (codes "parts") ms ≡ Some (num line.share.parts)) × (get_member (codes "path") ms ≡ Some (string (string_bytes line.file.path)))
    × (get_member (codes "size") ms ≡ Some (num line.file.size)) × (get_member (codes "modified") ms ≡ Some (string (string_bytes line.file.modified)))
    × (get_member (codes "framing") ms ≡ Some (string (framing_word line.settings.framing)))
    × (get_member (codes "max_bytes") ms ≡ Some (num line.settings.limits.bytes)) × (get_member (codes "strict") ms ≡ Some (boolean line.settings.strictness.strict))
    × (get_member (codes "allow") ms ≡ Some (array (settled_items (items_of (chosen_kinds line.settings.strictness.allowed)))))
    × (get_member (codes "deny") ms ≡ Some (array (settled_items (items_of (chosen_kinds line.settings.strictness.denied)))))
    × (get_member (codes "begin") ms ≡ Some (num line.checked.begin)) × (get_member (codes "end") ms ≡ Some (num line.checked.end))

chosen-names : (chosen : Kinds) (all : List Kind) → All IsKindName (map settled (flat_map (chosen_kind chosen) all))
chosen-names chosen [] = All-nil IsKindName
chosen-names chosen (kind ∷ all) = by_test (contains chosen kind) (chosen-names chosen all)
  where
    by_test : (b : Bool) → All IsKindName (map settled (flat_map (chosen_kind chosen) all))
        → All IsKindName (map settled ((if b then name_of (Code.Kind kind) ∷ [] else []) ++ flat_map (chosen_kind chosen) all))
    by_test true rest = All-cons IsKindName (name_of (Code.Kind kind)) (map settled (flat_map (chosen_kind chosen) all)) (kind, refl) rest
    by_test false rest = rest

all-names : (chosen : Kinds) → All IsKindName (map settled (chosen_kinds chosen))
unfolding chosen_kinds
all-names chosen = chosen-names chosen kinds

kinds-there : (name : List ℕ) (it : Data) (chosen : Kinds) → get name it ≡ Some (array (settled_items (items_of (chosen_kinds chosen)))) → AreKindsIn name it
kinds-there name it chosen is = (map settled (chosen_kinds chosen), array-there name it (chosen_kinds chosen) is, all-names chosen)

notes-in : (begin : ℕ) (notes : List Note) → AreWritableNotes begin notes → AreNotes begin (map settled (note_items begin notes)) notes
unfolding note_items note_members
notes-in begin [] all = refl
notes-in begin (note ∷ notes) all = (
  note,
  all.0.number,
  notes,
  record {
    number = ap (λ (i : Item). Some (item_number i)) all.0.item;
    item = all.0.item;
    code = refl;
    at = place-there (note.told.place + begin) all.0.place_fits;
  },
  refl,
  notes-in begin notes all.1,
)

abbrev ListedIn : ℕ → Listed → Members → Type 0
ListedIn begin listed ms =
    (get_member (codes "every") ms ≡ Some (string (every_word listed.asked.with_warnings))) × (get_member (codes "most") ms ≡ Some (num listed.asked.room))
    × (get_member (codes "items") ms ≡ Some (num listed.notes.tally.items)) × (get_member (codes "items_broken") ms ≡ Some (num listed.notes.tally.broken))
    × (get_member (codes "findings") ms ≡ Some (num listed.notes.count))
    × (get_member (codes "listed") ms ≡ Some (array (settled_items (items_of (note_items begin listed.notes.notes.items)))))

abbrev ListedInIf : ℕ → Option Listed → Members → Type 0
ListedInIf begin (Some listed) ms = ListedIn begin listed ms
ListedInIf begin None ms = get_member (codes "every") ms ≡ None

listed-said : (begin : ℕ) (listed : Option Listed) (ms : Members) → IsWritableIf begin listed → ListedInIf begin listed ms → IsListedIf (object ms) begin listed
listed-said begin (Some listed) ms fits (every, most, items, broken, count, notes) = record {
  every = text-there (codes "every") (object ms) _ every;
  most = number-there (codes "most") (object ms) _ most;
  skipped = fits.skipped;
  items = number-there (codes "items") (object ms) _ items;
  broken = number-there (codes "items_broken") (object ms) _ broken;
  count = number-there (codes "findings") (object ms) _ count;
  notes = (
    map settled (note_items begin listed.notes.notes.items),
    array-there (codes "listed") (object ms) (note_items begin listed.notes.notes.items) notes,
    notes-in begin listed.notes.notes.items fits.notes,
  );
}
listed-said begin None ms fits none = none

-- ---- the warnings

abbrev warnings-when : Kind → ℕ → Option ℕ → List Warning
warnings-when kind count (Some place) = replicate count (warning_at place kind)
warnings-when kind count None = []

abbrev kind-warnings : Warnings → Kind → List Warning
kind-warnings warnings kind = warnings-when kind (count_in kind warnings) (first_in kind warnings)

are-warnings : (begin : ℕ) (warnings : Warnings) → ((kind : Kind) → count_in kind warnings < 2 ^ 32)
    → ((kind : Kind) (place : ℕ) → first_in kind warnings ≡ Some place → Fits (place + begin)) → (all : List Kind)
    → AreWarnings begin (map settled (flat_map (kind_items begin warnings) all)) (flat_map (kind-warnings warnings) all)
unfolding warning_members
are-warnings begin warnings small fit [] = refl
are-warnings begin warnings small fit (kind ∷ all) = by_first (first_in kind warnings) refl (are-warnings begin warnings small fit all)
  where
    by_first : (first : Option ℕ) → first_in kind warnings ≡ first
        → AreWarnings begin (map settled (flat_map (kind_items begin warnings) all)) (flat_map (kind-warnings warnings) all)
        → AreWarnings begin (map settled (warning_if begin kind (count_in kind warnings) first ++ flat_map (kind_items begin warnings) all))
        (warnings-when kind (count_in kind warnings) first ++ flat_map (kind-warnings warnings) all)
    by_first None is rest = rest
    by_first (Some place) is rest = (
      kind,
      count_in kind warnings,
      place,
      flat_map (kind-warnings warnings) all,
      record { name = refl; count = refl; fits = small kind; at = place-there (place + begin) (fit kind place is) },
      refl,
      rest,
    )

-- of one kind, the places of so many at one place
places-same : (kind : Kind) (place n : ℕ) → places_of kind (replicate n (warning_at place kind)) ≡ replicate n place
places-same kind place zero = refl
places-same kind place (suc n) =
    let others = filter (λ (w : Warning). same_kind w.kind kind) (replicate n (warning_at place kind)) in
    ap (λ (b : Bool). map (λ (w : Warning). w.place) (cond b (warning_at place kind ∷ others) others)) (same_itself kind)
    ∙ ap (λ (l : List ℕ). place ∷ l) (places-same kind place n)

places-other : (kind other : Kind) (place n : ℕ) → same_kind other kind ≡ false → places_of kind (replicate n (warning_at place other)) ≡ []
places-other kind other place zero apart = refl
places-other kind other place (suc n) apart =
    let others = filter (λ (w : Warning). same_kind w.kind kind) (replicate n (warning_at place other)) in
    ap (λ (b : Bool). map (λ (w : Warning). w.place) (cond b (warning_at place other ∷ others) others)) apart
    ∙ places-other kind other place n apart

least-same : (place n : ℕ) → least_place (replicate (suc n) place) ≡ Some place
least-same place zero = refl
least-same place (suc n) = ap (λ o. lesser_place (Some place) o) (least-same place n) ∙ ap Some (both place)
  where
    both : (p : ℕ) → min p p ≡ p
    both p = omega arith

noted-same : (kind : Kind) (place n : ℕ) → 0 < n → n ≤ greatest_count → noted_of kind (replicate n (warning_at place kind)) ≡ noted_as n place
noted-same kind place zero some within = absurd (omega (arith, some))
noted-same kind place (suc n) some within =
    let long : min (length (replicate (suc n) place)) greatest_count ≡ suc n = omega (arith, length-replicate (suc n) place, within) in
    ap (λ (l : List ℕ). noted_as (min (length l) greatest_count) (unwrap_or (least_place l) 0)) (places-same kind place (suc n))
    ∙ (ap (λ (o : Option ℕ). noted_as (min (length (replicate (suc n) place)) greatest_count) (unwrap_or o 0)) (least-same place n)
    ∙ ap (λ (m : ℕ). noted_as m place) long)

noted-other : (kind other : Kind) (place n : ℕ) → same_kind other kind ≡ false → noted_of kind (replicate n (warning_at place other)) ≡ nothing_noted
noted-other kind other place n apart =
    ap (λ (l : List ℕ). noted_as (min (length l) greatest_count) (unwrap_or (least_place l) 0)) (places-other kind other place n apart)

abbrev is-among : Kind → List Kind → Bool
is-among kind [] = false
is-among kind (other ∷ all) = same_kind other kind || is-among kind all

noted-when : (kind other : Kind) (count : ℕ) (first : Option ℕ) → same_kind other kind ≡ false → noted_of kind (warnings-when other count first) ≡ nothing_noted
noted-when kind other count (Some place) apart = noted-other kind other place count apart
noted-when kind other count None apart = refl

noted-all-other : (warnings : Warnings) (kind : Kind) (all : List Kind) → is-among kind all ≡ false
    → noted_of kind (flat_map (kind-warnings warnings) all) ≡ nothing_noted
noted-all-other warnings kind [] apart = refl
noted-all-other warnings kind (other ∷ all) apart =
    let (here, later) = or_parts (same_kind other kind) (is-among kind all) apart in
    noted_of-append kind (kind-warnings warnings other) (flat_map (kind-warnings warnings) all)
    ∙ (ap (λ (k : KindWarnings). joined_noted k (noted_of kind (flat_map (kind-warnings warnings) all)))
    (noted-when kind other (count_in other warnings) (first_in other warnings) here)
    ∙ noted-all-other warnings kind all later)

-- what is kept of one kind
noted-kept : (kind : Kind) (k : KindWarnings) (t : Bool) → (k.count == 0) ≡ t → k.count ≤ greatest_count → (k.count ≡ 0 → k.first ≡ 0)
    → noted_of kind (warnings-when kind k.count (if k.count == 0 then None else Some k.first)) ≡ k
noted-kept kind k true e within none =
    let zero-count : k.count ≡ 0 = grind (arith, nat_tests, e) in
    ap (λ (b : Bool). noted_of kind (warnings-when kind k.count (if b then None else Some k.first))) e
    ∙ (ap (λ (n : ℕ). noted_as n 0) (sym zero-count) ∙ ap (λ (n : ℕ). noted_as k.count n) (sym (none zero-count)))
noted-kept kind k false e within none =
    let some : 0 < k.count = grind (arith, nat_tests, e) in
    ap (λ (b : Bool). noted_of kind (warnings-when kind k.count (if b then None else Some k.first))) e
    ∙ noted-same kind k.first k.count some within

kind-noted : (warnings : Warnings) (list : List Warning) → StandsFor warnings list → (kind : Kind)
    → noted_of kind (kind-warnings warnings kind) ≡ noted_of kind list
kind-noted warnings list stands kind =
    let is = kept_of warnings kind list stands in
    let within : (kept warnings kind).count ≤ greatest_count = omega (arith, few kind warnings list stands) in
    noted-kept kind (kept warnings kind) ((kept warnings kind).count == 0) refl within
    (λ zero-count. ap (λ (k : KindWarnings). k.first) is
    ∙ none-first (places_of kind list) (sym (ap (λ (k : KindWarnings). k.count) is) ∙ zero-count)) ∙ is
  where
    none-first : (places : List ℕ) → min (length places) greatest_count ≡ 0 → unwrap_or (least_place places) 0 ≡ 0
    none-first [] e = refl
    none-first (place ∷ places) e = absurd (omega (arith, e))

noted-among : (warnings : Warnings) (list : List Warning) → StandsFor warnings list → (kind : Kind) (before after : List Kind) → is-among kind before ≡ false
    → is-among kind after ≡ false
    → noted_of kind (flat_map (kind-warnings warnings) (before ++ kind ∷ after)) ≡ noted_of kind list
noted-among warnings list stands kind before after apart others =
    let one = kind-warnings warnings kind in
    ap (noted_of kind) (flat_map-append (kind-warnings warnings) before (kind ∷ after))
    ∙ (noted_of-append kind (flat_map (kind-warnings warnings) before) (one ++ flat_map (kind-warnings warnings) after)
    ∙ (ap (λ (k : KindWarnings). joined_noted k (noted_of kind (one ++ flat_map (kind-warnings warnings) after))) (noted-all-other warnings kind before apart)
    ∙ (noted_of-append kind one (flat_map (kind-warnings warnings) after)
    ∙ (ap (joined_noted (noted_of kind one)) (noted-all-other warnings kind after others)
    ∙ (joined_noted_none (noted_of kind one) ∙ kind-noted warnings list stands kind)))))

noted-all : (warnings : Warnings) (list : List Warning) → StandsFor warnings list → (kind : Kind)
    → noted_of kind (flat_map (kind-warnings warnings) kinds) ≡ noted_of kind list
noted-all warnings list stands W1 = noted-among warnings list stands W1 (take 0 kinds) (drop 1 kinds) refl refl
noted-all warnings list stands W2 = noted-among warnings list stands W2 (take 1 kinds) (drop 2 kinds) refl refl
noted-all warnings list stands W3 = noted-among warnings list stands W3 (take 2 kinds) (drop 3 kinds) refl refl
noted-all warnings list stands W4 = noted-among warnings list stands W4 (take 3 kinds) (drop 4 kinds) refl refl
noted-all warnings list stands W5 = noted-among warnings list stands W5 (take 4 kinds) (drop 5 kinds) refl refl
noted-all warnings list stands W6 = noted-among warnings list stands W6 (take 5 kinds) (drop 6 kinds) refl refl
noted-all warnings list stands W7 = noted-among warnings list stands W7 (take 6 kinds) (drop 7 kinds) refl refl
noted-all warnings list stands W8 = noted-among warnings list stands W8 (take 7 kinds) (drop 8 kinds) refl refl
noted-all warnings list stands W9 = noted-among warnings list stands W9 (take 8 kinds) (drop 9 kinds) refl refl

stand-again : (warnings : Warnings) (list : List Warning) → StandsFor warnings list → StandsFor warnings (flat_map (kind-warnings warnings) kinds)
unfolding warnings_of
stand-again warnings list stands =
    stands ∙ by_kind_alike (λ kind. noted_of kind list) (λ kind. noted_of kind (flat_map (kind-warnings warnings) kinds))
    (λ kind. sym (noted-all warnings list stands kind))

-- ---- the verdict is what they say

warnings-said : (begin : ℕ) (warnings : Warnings) → AreWritableWarnings begin warnings
    → AreWarningsOf begin (map settled (warning_items begin warnings)) warnings
unfolding warning_items
warnings-said begin warnings fits = (
  flat_map (kind-warnings warnings) kinds,
  are-warnings begin warnings (λ kind. few kind warnings fits.list fits.stands) fits.fit kinds,
  stand-again warnings fits.list fits.stands,
)

all-warnings-said : (begin : ℕ) (warnings : Warnings) → AreWritableWarnings begin warnings
    → (items : List Data) × (Some (settled_items (items_of (warning_items begin warnings))) ≡ Some (items_of items)) × AreWarningsOf begin items warnings
all-warnings-said begin warnings fits = (
  map settled (warning_items begin warnings),
  ap Some (settled-items (warning_items begin warnings)),
  warnings-said begin warnings fits,
)

-- with any verdict, and with notes or none
members-said : (line : PartLine) (begin : ℕ) (verdict : SeqVerdict) (listed : Option Listed) → IsWritableVerdict begin verdict
    → HeadIn line (found-with line begin verdict listed) × ListedInIf begin listed (found-with line begin verdict listed)
    × IsVerdictIn (object (found-with line begin verdict listed)) begin verdict
unfolding head_members file_members settings_members valid_members fault_members listed_members tally_members
members-said line begin (SeqVerdict.Valid records warnings) (Some listed) fits = (
  (refl, refl, refl, refl, refl, refl, refl, refl, refl, refl, refl, refl, refl),
  (refl, refl, refl, refl, refl, refl),
  (refl, all-warnings-said begin warnings fits.1),
)
members-said line begin (SeqVerdict.Record n (Verdict.Broken fault)) (Some listed) fits = (
  (refl, refl, refl, refl, refl, refl, refl, refl, refl, refl, refl, refl, refl),
  (refl, refl, refl, refl, refl, refl),
  (refl, refl, (refl, place-there (fault.place + begin) fits.1)),
)
members-said line begin (SeqVerdict.Record n (Verdict.NotJson fault)) (Some listed) fits = (
  (refl, refl, refl, refl, refl, refl, refl, refl, refl, refl, refl, refl, refl),
  (refl, refl, refl, refl, refl, refl),
  (refl, refl, (refl, place-there (fault.place + begin) fits.1)),
)
members-said line begin (SeqVerdict.Valid records warnings) None fits = (
  (refl, refl, refl, refl, refl, refl, refl, refl, refl, refl, refl, refl, refl),
  refl,
  (refl, all-warnings-said begin warnings fits.1),
)
members-said line begin (SeqVerdict.Record n (Verdict.Broken fault)) None fits = (
  (refl, refl, refl, refl, refl, refl, refl, refl, refl, refl, refl, refl, refl),
  refl,
  (refl, refl, (refl, place-there (fault.place + begin) fits.1)),
)
members-said line begin (SeqVerdict.Record n (Verdict.NotJson fault)) None fits = (
  (refl, refl, refl, refl, refl, refl, refl, refl, refl, refl, refl, refl, refl),
  refl,
  (refl, refl, (refl, place-there (fault.place + begin) fits.1)),
)
members-said line begin (SeqVerdict.Record n (Verdict.Valid warnings)) listed fits = absurd fits

line-said : (line : PartLine) → IsWritable line → IsLineIn (settled (object_of (line-members line))) line
line-said line fits =
    let ms = found-with line (line_base line) line.checked.verdict line.listed in
    let it = object ms in
    let (head, notes, verdict) = members-said line (line_base line) line.checked.verdict line.listed fits.verdict in
    let (version, part, parts, path, size, modified, framing, bytes, strict, allow, deny, begin, end) = head in
    record {
      version = number-there (codes "geolint_part") it 2 version;
      file = record {
        path = text-there (codes "path") it _ path;
        size = number-there (codes "size") it _ size;
        modified = text-there (codes "modified") it _ modified;
      };
      settings = record {
        framing = text-there (codes "framing") it _ framing;
        max_bytes = number-there (codes "max_bytes") it _ bytes;
        limits = fits.limits;
        depth = fits.depth;
        strict = ap (λ o. option_and_then as_bool o) strict;
        allow = kinds-there (codes "allow") it line.settings.strictness.allowed allow;
        deny = kinds-there (codes "deny") it line.settings.strictness.denied deny;
      };
      share = record { part = number-there (codes "part") it _ part; parts = number-there (codes "parts") it _ parts };
      checked = record {
        begin = number-there (codes "begin") it _ begin;
        end = number-there (codes "end") it _ end;
        verdict = verdict;
      };
      listed = listed-said (line_base line) line.listed ms fits.listed notes;
    }

pub line-read : (line : PartLine) → IsWritable line
    → (text : List ℕ) × (it : Data) × (line_text line ≡ text ++ codes "\n") × (text ≡ sealed (body_in text)) × (read (object_in text) ≡ Some it)
    × IsLineIn it line
line-read line fits =
    let body = body_text line in
    let there : body ≡ body_in (sealed body) = sym (body-there body) in
    let it = object_of (line-members line) in
    let same : compact_text it ≡ object_in (sealed body) = line-ends line ∙ ap (λ (l : List ℕ). l ++ codes "}") there in (
      sealed body,
      settled it,
      refl,
      ap sealed there,
      subst (λ (l : List ℕ). read l ≡ Some (settled it)) same (read-text 3 it (omega arith) (object-read line fits)),
      line-said line fits,
    )
