-- The notes on the records of one part more.
use Rattle.part_lines.proofs.Common.{arith, ◌≡◌, ◌+◌, ◌<◌, ◌≤◌, ℕ, refl, ap, sym, subst, ◌∙◌, Bool, true, false, List, [], ◌∷◌, ◌++◌, length, map, take}
use Rattle.part_lines.proofs.Common.{Some, flat_map, Syntax, Kind, Warnings, kinds, Framing, Note, CheckedPart}
use Rattle.std.proofs.Common.{◌-◌, ◌^◌, suc, zero, inl, inr, drop, None, length-append, vec_len}
use Rattle.std.specs.Prelude.{◌⊎◌, Option, cond, count_by, sum_by}
use Rattle.std.specs.Io.Iter.{u64_saturate}
use Rattle.std.proofs.lemmas.List.{length-map, length-take, take-map, take-take, take_all}
use Rattle.std.proofs.lemmas.List.Sums.{sum_by-cons, sum_by-append, sum_by_push}
use Rattle.gj_json.specs.Limits.{Allowed}
use Rattle.gj_rules.specs.RecordFindings.{AreAllFindings}
use Rattle.gj_rules.specs.Sequence.{not_json}
use Rattle.gj_rules.specs.declared.records.record.Record.{Record}
use Rattle.gj_rules.specs.declared.verdict.Verdict.{Verdict}
use Rattle.gj_rules.specs.declared.verdict.Verdict.TheVariants.{Valid, Broken, NotJson}
use Rattle.gj_join.proofs.JoinedFindings.{AllNumbered, Stray, all-among, numbered-or-stray, found-none}
use Rattle.gj_join.specs.Joined.{records_among}
use Rattle.gj_join.specs.Parts.{limits_after}
use Rattle.geolint_report.specs.Every.{notes_if, kind_notes, record_notes_by, record_notes, notes_of_records, AreNotesOfRecords}
use Rattle.geolint_report.specs.Items.{item_number}
use Rattle.geolint_report.specs.Tallies.{of_broken, notes_code, count_of, Tallies, IsTotal}
use Rattle.geolint_report.specs.declared.every.listing.Asked.{Asked}
use Rattle.geolint_report.specs.declared.every.listing.Item.{Item}
use Rattle.geolint_report.specs.declared.every.tally.Tally.{Tally}
use Rattle.geolint_report.specs.declared.report.Told.{Told}
use Rattle.file_parts.proofs.NotesOfWholes.{goes-on}
use Rattle.file_parts.specs.Checked.{IsPartOf, AreNotesOfPart}
use Rattle.file_parts.specs.Cuts.{bytes_between}
use Rattle.file_parts.specs.JoinedNotes.{moved_note, joined_notes}
use Rattle.part_lines.specs.Internal.NotesSoFar.{ListsWhatIsAsked, numbered_among, records_noted, AreNotesTo}
use Rattle.part_lines.specs.declared.line.Listed.{Listed}
use Rattle.part_lines.specs.declared.notes.SoFar.{SoFar}

-- ---- lists

take-both : {A : Type 0} (room many : ℕ) (xs ys : List A) → room ≤ many → take room (take room xs ++ take many ys) ≡ take room (xs ++ ys)
take-both zero many xs ys le = refl
take-both (suc n) many [] ys le = take-take (suc n) many ys le
take-both (suc n) many (x ∷ xs) ys le = ap (λ l. x ∷ l) (take-both n many xs ys (omega (arith, le)))

-- with no room nothing is taken
take-alike : {A : Type 0} (room : ℕ) (xs ys : List A) → (0 < room → xs ≡ ys) → take room xs ≡ take room ys
take-alike zero xs ys same = refl
take-alike (suc n) xs ys same = ap (take (suc n)) (same (omega arith))

-- ---- what is counted

counted-moved : (p : Note → Bool) (m : Note → Note) → ((note : Note) → p (m note) ≡ p note) → (notes : List Note) → count_by p (map m notes) ≡ count_by p notes
counted-moved p m same [] = refl
counted-moved p m same (note ∷ notes) =
    sum_by-cons (λ (n : Note). cond (p n) 1 0) (m note) (map m notes)
    ∙ (ap (λ (b : Bool). cond b 1 0 + count_by p (map m notes)) (same note)
    ∙ (ap (λ (n : ℕ). cond (p note) 1 0 + n) (counted-moved p m same notes) ∙ sym (sum_by-cons (λ (n : Note). cond (p n) 1 0) note notes)))

counted-both : (p : Note → Bool) (m : Note → Note) → ((note : Note) → p (m note) ≡ p note) → (notes more : List Note)
    → count_by p (notes ++ map m more) ≡ count_by p notes + count_by p more
counted-both p m same notes more =
    sum_by-append (λ (n : Note). cond (p n) 1 0) notes (map m more) ∙ ap (λ (n : ℕ). count_by p notes + n) (counted-moved p m same more)

saturated : (old new one all sum more both : ℕ) → old ≡ u64_saturate all → old ≡ u64_saturate sum → one ≡ u64_saturate more → new ≡ u64_saturate (sum + one)
    → both ≡ all + more → new ≡ u64_saturate both
saturated old new one all sum more both is is_sum is_one is_new is_both = omega (arith, is, is_sum, is_one, is_new, is_both)

summed : (count : Tally → ℕ) (old new one : Tally) (tallies : List Tally) (all more both : ℕ) → count old ≡ u64_saturate all
    → count old ≡ u64_saturate (sum_by count tallies) → count one ≡ u64_saturate more
    → count new ≡ u64_saturate (sum_by count (tallies ++ one ∷ []))
    → both ≡ all + more → count new ≡ u64_saturate both
summed count old new one tallies all more both is is_sum is_one is_new is_both =
    saturated (count old) (count new) (count one) all (sum_by count tallies) more both is is_sum is_one
    (is_new ∙ ap (λ (n : ℕ). u64_saturate n) (sum_by_push count tallies one)) is_both

tallied : (old new one : Tally) (tallies : List Tally) (count by : ℕ) (notes more : List Note) → Tallies old notes → Tallies one more → IsTotal old tallies
    → IsTotal new (tallies ++ one ∷ []) → Tallies new (joined_notes count by notes more)
tallied old new one tallies count by notes more of_old of_one total totals = record {
  broken = summed (λ (t : Tally). t.broken) old new one tallies (count_by of_broken notes) (count_by of_broken more) _ of_old.broken total.broken of_one.broken
      totals.broken (counted-both of_broken (moved_note count by) (λ note. refl) notes more);
  codes = λ code small. summed (count_of code) old new one tallies (count_by (notes_code code) notes) (count_by (notes_code code) more) _
      (of_old.codes code small) (total.codes code small) (of_one.codes code small) (totals.codes code small)
      (counted-both (notes_code code) (moved_note count by) (λ note. refl) notes more);
}

-- ---- how many of the findings are records

abbrev NotesNumbered : List Note → Type 0
NotesNumbered [] = Unit {0}
NotesNumbered (note ∷ notes) = (0 < item_number note.item) × NotesNumbered notes

numbered-append : (notes more : List Note) → NotesNumbered notes → NotesNumbered more → NotesNumbered (notes ++ more)
numbered-append [] more h k = k
numbered-append (note ∷ notes) more h k = (h.0, numbered-append notes more h.1 k)

if-numbered : (item : Item) (told : Option (Told × ℕ)) → 0 < item_number item → NotesNumbered (notes_if item told)
if-numbered item (Some told) some = (some, tt)
if-numbered item None some = tt

kinds-numbered : (item : Item) (warnings : Warnings) → 0 < item_number item → (all : List Kind) → NotesNumbered (flat_map (kind_notes item warnings) all)
kinds-numbered item warnings some [] = tt
kinds-numbered item warnings some (kind ∷ all) =
    numbered-append (kind_notes item warnings kind) (flat_map (kind_notes item warnings) all) (if-numbered item _ some)
    (kinds-numbered item warnings some all)

verdict-numbered : (with_warnings : Bool) (number : ℕ) (verdict : Verdict) → 0 < number
    → NotesNumbered (record_notes_by with_warnings (Item.Record number) verdict)
verdict-numbered true number (Valid warnings) some = kinds-numbered (Item.Record number) warnings some kinds
verdict-numbered false number (Valid warnings) some = tt
verdict-numbered with_warnings number (Broken fault) some = (some, tt)
verdict-numbered with_warnings number (NotJson fault) some = (some, tt)

notes-numbered : (with_warnings : Bool) (found : List Record) → AllNumbered found → NotesNumbered (notes_of_records with_warnings found)
unfolding notes_of_records
notes-numbered with_warnings [] all = tt
notes-numbered with_warnings (one ∷ found) all =
    numbered-append (record_notes with_warnings one) (flat_map (record_notes with_warnings) found)
    (verdict-numbered with_warnings one.number one.verdict all.0) (notes-numbered with_warnings found all.1)

some-numbered : (items number : ℕ) → 0 < number → numbered_among items number ≡ items
some-numbered items zero some = absurd (omega (arith, some))
some-numbered items (suc n) some = refl

first-numbered : (items room : ℕ) (notes : List Note) → NotesNumbered notes → records_noted items (take room notes) ≡ items
first-numbered items zero notes all = refl
first-numbered items (suc n) [] all = refl
first-numbered items (suc n) (note ∷ notes) all = some-numbered items (item_number note.item) all.0

first-stray : (items room : ℕ) (with_warnings : Bool) (first : Record) (rest : List Record) (place : ℕ) → 0 < room → first.number ≡ 0
    → first.verdict ≡ not_json place Syntax
    → records_noted items (take room (notes_of_records with_warnings (first ∷ rest))) ≡ items - 1
unfolding notes_of_records
first-stray items zero with_warnings first rest place some none refused = absurd (omega (arith, some))
first-stray items (suc n) with_warnings first rest place some none refused =
    ap (λ (v : Verdict). records_noted items
    (take (suc n) (record_notes_by with_warnings (Item.Record first.number) v ++ flat_map (record_notes with_warnings) rest))) refused
    ∙ ap (λ (k : ℕ). numbered_among items k) none

pub are-records : (items room : ℕ) (with_warnings : Bool) (found : List Record) → 0 < room → items ≡ u64_saturate (length found) → items < 2 ^ 64 - 1
    → AllNumbered found ⊎ Stray found
    → records_noted items (take room (notes_of_records with_warnings found)) ≡ records_among found
are-records items room with_warnings found some counted small (inl all) =
    let long : items ≡ length found = omega (arith, counted, small) in
    first-numbered items room (notes_of_records with_warnings found) (notes-numbered with_warnings found all) ∙ (long ∙ sym (all-among found all))
are-records items room with_warnings found some counted small (inr stray) =
    let long : items ≡ length found = omega (arith, counted, small) in
    let more : length found ≡ length (stray.first ∷ stray.rest) = ap (λ (l : List Record). length l) stray.is in
    let less : items - 1 ≡ 0 + length stray.rest = omega (arith, long, more) in
    ap (λ (l : List Record). records_noted items (take room (notes_of_records with_warnings l))) stray.is
    ∙ (first-stray items room with_warnings stray.first stray.rest stray.place some stray.none stray.refused
    ∙ (less
    ∙ (ap (λ (n : ℕ). records_among (record { number = n; place = stray.first.place; end = stray.first.end; verdict = stray.first.verdict } ∷ stray.rest))
    (sym stray.none) ∙ ap records_among (sym stray.is))))

-- ---- one part more

-- what is done with the notes of a part
pub record Adds (asked : Asked) (old new : SoFar) (listed : Listed) : Type 0 where
  pub notes : vec_len old.notes.notes ≤ asked.room
      → new.notes.notes.items ≡ take asked.room (old.notes.notes.items ++ map (moved_note old.records old.end) listed.notes.notes.items)
  pub count : new.notes.count ≡ u64_saturate (old.notes.count + listed.notes.count)
  pub tally : (tallies : List Tally) → IsTotal old.notes.tally tallies → IsTotal new.notes.tally (tallies ++ listed.notes.tally ∷ [])
  pub records : new.records ≡ old.records + records_noted listed.notes.tally.items listed.notes.notes.items
  pub small : listed.notes.tally.items < 2 ^ 64 - 1

pub next-notes : (framing : Framing) (limits : Allowed) (asked : Asked) (text : List ℕ) (old new : SoFar) (part : CheckedPart) (listed : Listed)
    → asked.skipped ≡ 0
    → ListsWhatIsAsked listed.asked asked → part.begin < part.end → part.begin ≡ old.end → new.end ≡ part.end → Adds asked old new listed
    → IsPartOf framing limits text part
    → AreNotesOfPart framing limits (Some listed.asked) text part (Some listed.notes)
    → AreNotesTo framing limits asked text old → AreNotesTo framing limits asked text new
next-notes framing limits asked text old new part listed none lists has there ends adds is_part of_part before =
    let bytes = is_part.right has in
    let (more, are_more, told) = of_part.some has in
    let found = before.found in
    let with_warnings = asked.with_warnings in
    let room = asked.room in
    let many = listed.asked.room in
    let count = records_among found in
    let here = subst (λ (n : ℕ). AreAllFindings framing limits (take n text) found) (sym there) before.are_found in
    let on = goes-on framing limits text part found more has bytes here are_more in
    let all = notes_of_records with_warnings found in
    let others = notes_of_records with_warnings more in
    let same : notes_of_records listed.asked.with_warnings more ≡ others = ap (λ (b : Bool). notes_of_records b more) lists.kind in
    let kept : old.notes.notes.items ≡ take room all = before.are_notes.are_first.first ∙ ap (λ (s : ℕ). take room (drop s all)) none in
    let given : listed.notes.notes.items ≡ take many others = told.are_first.first
    ∙ (ap (λ (s : ℕ). take many (drop s (notes_of_records listed.asked.with_warnings more))) lists.skipped ∙ ap (λ (l : List Note). take many l) same) in
    let few : vec_len old.notes.notes ≤ room = omega (arith, ap (λ (l : List Note). length l) kept, length-take room all) in
    let whole = joined_notes count part.begin all others in
    let counted : 0 < room → old.records ≡ count = before.counted in
    let alike : take room (old.notes.notes.items ++ map (moved_note old.records old.end) listed.notes.notes.items)
    ≡ take room (old.notes.notes.items ++ map (moved_note count part.begin) listed.notes.notes.items) =
    take-alike room _ _ (λ some. ap (λ (n : ℕ). old.notes.notes.items ++ map (moved_note n old.end) listed.notes.notes.items) (counted some)
    ∙ ap (λ (n : ℕ). old.notes.notes.items ++ map (moved_note count n) listed.notes.notes.items) (sym there)) in
    let joined : new.notes.notes.items ≡ take room whole = adds.notes few
    ∙ (alike
    ∙ (ap (λ (l : List Note). take room (l ++ map (moved_note count part.begin) listed.notes.notes.items)) kept
    ∙ (ap (λ (l : List Note). take room (take room all ++ map (moved_note count part.begin) l)) given
    ∙ (ap (λ (l : List Note). take room (take room all ++ l)) (sym (take-map (moved_note count part.begin) many others))
    ∙ take-both room many all (map (moved_note count part.begin) others) lists.room)))) in
    let is_whole = on.notes with_warnings in
    let long : length whole ≡ length all + length others =
    length-append all (map (moved_note count part.begin) others)
    ∙ ap (λ (n : ℕ). length all + n) (length-map others (moved_note count part.begin)) in
    let total = adds.tally before.tallies before.total in
    let of_others : Tallies listed.notes.tally others = subst (λ (l : List Note). Tallies listed.notes.tally l) same told.tallied in
    let noted : listed.notes.count ≡ u64_saturate (length others) = told.are_first.count_is ∙ ap (λ (l : List Note). u64_saturate (length l)) same in
    let is_count : new.notes.count ≡ u64_saturate (length whole) = omega (arith, adds.count, before.are_notes.are_first.count_is, noted, long) in
    let is_tally : Tallies new.notes.tally whole =
    tallied old.notes.tally new.notes.tally listed.notes.tally before.tallies count part.begin all others before.are_notes.tallied of_others
    before.total total in
    let is_items : new.notes.tally.items ≡ u64_saturate (length on.whole) =
    summed (λ (t : Tally). t.items) old.notes.tally new.notes.tally listed.notes.tally before.tallies (length found) (length more) (length on.whole)
    before.are_notes.items_are before.total.items told.items_are total.items on.long in
    record {
      within = subst (λ (n : ℕ). n ≤ length text) (sym ends) bytes.within;
      found = on.whole;
      are_found = subst (λ (n : ℕ). AreAllFindings framing limits (take n text) on.whole) (sym ends) on.are_found;
      are_notes = record {
        are_first = record {
          first = joined
              ∙ (ap (λ (l : List Note). take room l) (sym is_whole)
              ∙ ap (λ (s : ℕ). take room (drop s (notes_of_records with_warnings on.whole))) (sym none));
          count_is = is_count ∙ ap (λ (l : List Note). u64_saturate (length l)) (sym is_whole);
        };
        tallied = subst (λ (l : List Note). Tallies new.notes.tally l) (sym is_whole) is_tally;
        items_are = is_items;
      };
      counted = λ some.
          let left = limits_after limits part.begin in
          let records : records_noted listed.notes.tally.items listed.notes.notes.items ≡ records_among more =
          ap (λ (l : List Note). records_noted listed.notes.tally.items l) given
          ∙ are-records listed.notes.tally.items many with_warnings more (omega (arith, some, lists.room)) told.items_are adds.small
          (numbered-or-stray framing left (bytes_between part.begin part.end text) more are_more) in
          omega (arith, adds.records, counted some, records, on.among);
      tallies = before.tallies ++ listed.notes.tally ∷ [];
      total = total;
    }

-- ---- none of them, and all of them

nothing-kept : (room skipped : ℕ) → take room (drop {A = Note} skipped []) ≡ []
nothing-kept zero skipped = refl
nothing-kept (suc n) zero = refl
nothing-kept (suc n) (suc m) = refl

pub no-notes : (framing : Framing) (limits : Allowed) (asked : Asked) (text : List ℕ) (none : SoFar) → none.end ≡ 0 → none.records ≡ 0
    → none.notes.notes.items ≡ [] → none.notes.count ≡ 0
    → none.notes.tally.items ≡ 0 → Tallies none.notes.tally [] → IsTotal none.notes.tally []
    → AreNotesTo framing limits asked text none
unfolding notes_of_records
no-notes framing limits asked text none ends records notes count items counts total = record {
  within = omega (arith, ends);
  found = [];
  are_found = subst (λ (n : ℕ). AreAllFindings framing limits (take n text) []) (sym ends) (found-none framing limits);
  are_notes = record {
    are_first = record { first = notes ∙ sym (nothing-kept asked.room asked.skipped); count_is = count };
    tallied = counts;
    items_are = items;
  };
  counted = λ some. records;
  tallies = [];
  total = total;
}

pub all-notes : (framing : Framing) (limits : Allowed) (asked : Asked) (text : List ℕ) (all : SoFar) → length text ≡ all.end
    → AreNotesTo framing limits asked text all
    → AreNotesOfRecords framing asked all.notes.notes.items all.notes.count all.notes.tally limits text
all-notes framing limits asked text all ends are = (
  are.found,
  subst (λ (l : List ℕ). AreAllFindings framing limits l are.found) (take_all all.end text (omega (arith, ends))) are.are_found,
  are.are_notes,
)
