-- What is told of the records of a whole, given what is told of those of its parts.
use Rattle.file_parts.proofs.Common.{arith, ◌≡◌, ◌+◌, ◌-◌, ◌<◌, ◌≤◌, ℕ, refl, ap, sym, subst, ◌∙◌, List, length, take, Allowed, Framing, CheckedPart}
use Rattle.std.proofs.Common.{zero-add, Bool, true, false, inl, inr, [], ◌∷◌, ◌++◌, map, drop, Some, None, length-append}
use Rattle.std.specs.Prelude.{◌⊎◌, ◌==◌, if◌then◌else◌}
use Rattle.std.specs.List.{flat_map}
use Rattle.std.proofs.lemmas.List.{map-append, length-map, length-take-le}
use Rattle.std.proofs.lemmas.List.Concat.{flat_map-append}
use Rattle.std.proofs.Math.Seq.{take-add}
use Rattle.gj_coords.specs.Internal.KeptWarnings.{kept, shifted, shifted_noted}
use Rattle.gj_coords.specs.Internal.WarningLaws.{kept_by_kind}
use Rattle.gj_coords.specs.Warnings.{kinds}
use Rattle.gj_coords.specs.declared.kind.Kind.{Kind}
use Rattle.gj_coords.specs.declared.kind_warnings.KindWarnings.{KindWarnings}
use Rattle.gj_coords.specs.declared.warnings.Warnings.{Warnings}
use Rattle.gj_rules.specs.RecordFindings.{AreAllFindings}
use Rattle.gj_rules.specs.Sequence.{shifted_verdict}
use Rattle.gj_rules.specs.declared.records.record.Record.{Record}
use Rattle.gj_rules.specs.declared.verdict.Verdict.{Verdict}
use Rattle.gj_rules.specs.declared.verdict.Verdict.TheVariants.{Valid, Broken, NotJson}
use Rattle.gj_join.proofs.JoinedFindings.{all-joined, all-after, all-among, among-both, none-found}
use Rattle.gj_join.specs.Joined.{moved_finding, records_among, joined_findings}
use Rattle.gj_join.specs.Parts.{separator_last, may_begin, ArePartsOf, limits_after}
use Rattle.geolint_report.specs.Every.{notes_if, kind_notes, record_notes_by, record_notes, notes_of_records}
use Rattle.geolint_report.specs.Report.{told_from}
use Rattle.geolint_report.specs.declared.every.listing.Item.{Item}
use Rattle.geolint_report.specs.declared.every.listing.Note.{Note}
use Rattle.file_parts.specs.Checked.{IsVerdictOfBytes}
use Rattle.file_parts.specs.Cuts.{MayBeCut, bytes_between}
use Rattle.file_parts.specs.JoinedNotes.{moved_note, joined_notes}
use Rattle.file_parts.proofs.JoinedVerdicts.{begins_taken, none_before}

-- ---- notes on records further on

flat-moved : {X : Type 0} (f g : X → List Note) (m : Note → Note) → ((x : X) → f x ≡ map m (g x)) → (xs : List X) → flat_map f xs ≡ map m (flat_map g xs)
flat-moved f g m each [] = refl
flat-moved f g m each (x ∷ xs) =
    ap (λ (l : List Note). l ++ flat_map f xs) (each x)
    ∙ (ap (λ (l : List Note). map m (g x) ++ l) (flat-moved f g m each xs) ∙ sym (map-append m (g x) (flat_map g xs)))

flat-moved-by : {X Y : Type 0} (f : Y → List Note) (h : X → Y) (g : X → List Note) (m : Note → Note) → ((x : X) → f (h x) ≡ map m (g x)) → (xs : List X)
    → flat_map f (map h xs) ≡ map m (flat_map g xs)
flat-moved-by f h g m each [] = refl
flat-moved-by f h g m each (x ∷ xs) =
    ap (λ (l : List Note). l ++ flat_map f (map h xs)) (each x)
    ∙ (ap (λ (l : List Note). map m (g x) ++ l) (flat-moved-by f h g m each xs) ∙ sym (map-append m (g x) (flat_map g xs)))

abbrev notes-kept : Item → Kind → KindWarnings → List Note
notes-kept item kind k = notes_if item (told_from kind k.count (if k.count == 0 then None else Some k.first))

kept-moved : (kind : Kind) (count by number : ℕ) (k : KindWarnings) (t : Bool) → (k.count == 0) ≡ t
    → notes-kept (Item.Record (number + count)) kind (shifted_noted by k) ≡ map (moved_note count by) (notes-kept (Item.Record number) kind k)
kept-moved kind count by number k true e = rw e refl
kept-moved kind count by number k false e = rw e refl

kind-moved : (count by number : ℕ) (warnings : Warnings) (kind : Kind)
    → kind_notes (Item.Record (number + count)) (shifted warnings by) kind ≡ map (moved_note count by) (kind_notes (Item.Record number) warnings kind)
unfolding shifted
kind-moved count by number warnings kind =
    ap (notes-kept (Item.Record (number + count)) kind) (kept_by_kind (λ k. shifted_noted by (kept warnings k)) kind)
    ∙ kept-moved kind count by number (kept warnings kind) ((kept warnings kind).count == 0) refl

verdict-moved : (with_warnings : Bool) (count by number : ℕ) (verdict : Verdict)
    → record_notes_by with_warnings (Item.Record (number + count)) (shifted_verdict by verdict)
    ≡ map (moved_note count by) (record_notes_by with_warnings (Item.Record number) verdict)
verdict-moved true count by number (Valid warnings) =
    flat-moved (kind_notes (Item.Record (number + count)) (shifted warnings by)) (kind_notes (Item.Record number) warnings) (moved_note count by)
    (kind-moved count by number warnings) kinds
verdict-moved false count by number (Valid warnings) = refl
verdict-moved with_warnings count by number (Broken fault) = refl
verdict-moved with_warnings count by number (NotJson fault) = refl

notes-both : (with_warnings : Bool) (count by : ℕ) (found more : List Record)
    → notes_of_records with_warnings (found ++ map (moved_finding count by) more)
    ≡ joined_notes count by (notes_of_records with_warnings found) (notes_of_records with_warnings more)
unfolding notes_of_records
notes-both with_warnings count by found more =
    flat_map-append (record_notes with_warnings) found (map (moved_finding count by) more)
    ∙ ap (λ (l : List Note). flat_map (record_notes with_warnings) found ++ l)
    (flat-moved-by (record_notes with_warnings) (moved_finding count by) (record_notes with_warnings) (moved_note count by)
    (λ one. verdict-moved with_warnings count by one.number one.verdict) more)

pub notes-joined : (with_warnings : Bool) (end : ℕ) (found more : List Record)
    → notes_of_records with_warnings (joined_findings end found more)
    ≡ joined_notes (records_among found) end (notes_of_records with_warnings found) (notes_of_records with_warnings more)
notes-joined with_warnings end found more = notes-both with_warnings (records_among found) end found more

-- ---- the bytes up to the end of a part

still : (note : Note) → moved_note 0 0 note ≡ note
still note = by_item note.item
  where
    same : (n m : ℕ) → n ≡ m + 0 → n ≡ m
    same n m e = omega (arith, e)

    by_item : (item : Item) → moved_note 0 0 (record { item = item; told = note.told }) ≡ record { item = item; told = note.told }
    by_item (Item.Feature index id) =
        ap (λ (n : ℕ). record { item = Item.Feature index id; told = record { code = note.told.code; place = n } })
        (same (note.told.place + 0) note.told.place refl)
    by_item (Item.Record number) =
        ap (λ (n : ℕ). record { item = Item.Record (number + 0); told = record { code = note.told.code; place = n } })
        (same (note.told.place + 0) note.told.place refl)
        ∙ ap (λ (n : ℕ). record { item = Item.Record n; told = note.told }) (same (number + 0) number refl)

all-still : (notes : List Note) → map (moved_note 0 0) notes ≡ notes
all-still [] = refl
all-still (note ∷ notes) =
    ap (λ (n : Note). n ∷ map (moved_note 0 0) notes) (still note) ∙ ap (λ (l : List Note). note ∷ l) (all-still notes)

-- what is found up to there, where that is what was found before the part and this is found of the part itself
pub record GoesOn (framing : Framing) (limits : Allowed) (text : List ℕ) (begin end : ℕ) (found more : List Record) : Type 0 where
  pub whole : List Record
  pub are_found : AreAllFindings framing limits (take end text) whole
  pub notes : (with_warnings : Bool) → notes_of_records with_warnings whole
      ≡ joined_notes (records_among found) begin (notes_of_records with_warnings found) (notes_of_records with_warnings more)
  pub long : length whole ≡ length found + length more
  pub among : records_among whole ≡ records_among found + records_among more

goes-first : (framing : Framing) (limits : Allowed) (text : List ℕ) (begin end : ℕ) (found more : List Record) → begin ≡ 0
    → AreAllFindings framing limits (take begin text) found
    → AreAllFindings framing (limits_after limits begin) (bytes_between begin end text) more
    → GoesOn framing limits text begin end found more
unfolding notes_of_records
goes-first framing limits text begin end found more first are of_it =
    let none : found ≡ [] = none-found framing limits found
    (subst (λ (n : ℕ). AreAllFindings framing limits (take n text) found) first are) in
    let at_start = subst (λ (n : ℕ). AreAllFindings framing (limits_after limits n) (take (end - n) (drop n text)) more) first of_it in
    let all = subst (λ (l : Allowed). AreAllFindings framing l (take (end - 0) (drop 0 text)) more) (none_before limits) at_start in
    let less : end - 0 ≡ end = omega arith in
    record {
      whole = more;
      are_found = subst (λ (n : ℕ). AreAllFindings framing limits (take n text) more) less all;
      notes = λ with_warnings.
          let told = notes_of_records with_warnings more in
          sym (ap (λ (l : List Record). joined_notes (records_among l) begin (notes_of_records with_warnings l) told) none
          ∙ (ap (λ (n : ℕ). map (moved_note 0 n) told) first ∙ all-still told));
      long = sym (zero-add (length more)) ∙ ap (λ (l : List Record). length l + length more) (sym none);
      among = sym (zero-add (records_among more)) ∙ ap (λ (l : List Record). records_among l + records_among more) (sym none);
    }

goes-further : (framing : Framing) (limits : Allowed) (text : List ℕ) (begin end : ℕ) (found more : List Record) → begin < end → begin ≤ length text
    → MayBeCut framing limits text begin
    → AreAllFindings framing limits (take begin text) found
    → AreAllFindings framing (limits_after limits begin) (bytes_between begin end text) more
    → GoesOn framing limits text begin end found more
goes-further framing limits text begin end found more has within cut are of_it =
    let more_bytes = end - begin in
    let first = take begin text in
    let second = bytes_between begin end text in
    let parts : ArePartsOf framing limits first second = record {
      cut = ap (may_begin framing (separator_last framing first)) (begins_taken framing more_bytes (drop begin text) (omega (arith, has))) ∙ cut.parts.cut;
      within = cut.parts.within;
    } in
    let long : length first ≡ begin = length-take-le begin text within in
    let both : begin + more_bytes ≡ end = omega (arith, has) in
    let rest = subst (λ (n : ℕ). AreAllFindings framing (limits_after limits n) second more) (sym long) of_it in
    let whole = joined_findings (length first) found more in
    let all : AreAllFindings framing limits (first ++ second) whole = all-joined framing limits first second found more parts are rest in
    let numbered = all-after framing limits first second more parts rest in
    record {
      whole = whole;
      are_found = subst (λ (l : List ℕ). AreAllFindings framing limits l whole) (sym (take-add begin more_bytes text) ∙ ap (λ (n : ℕ). take n text) both) all;
      notes = λ with_warnings. notes-joined with_warnings (length first) found more
          ∙ ap (λ (n : ℕ). joined_notes (records_among found) n (notes_of_records with_warnings found) (notes_of_records with_warnings more)) long;
      long = length-append found (map (moved_finding (records_among found) (length first)) more)
          ∙ ap (λ (n : ℕ). length found + n) (length-map more (moved_finding (records_among found) (length first)));
      among = among-both (length first) found more numbered ∙ ap (λ (n : ℕ). records_among found + n) (sym (all-among more numbered));
    }

pub goes-on : (framing : Framing) (limits : Allowed) (text : List ℕ) (part : CheckedPart) (found more : List Record) → part.begin < part.end
    → IsVerdictOfBytes framing limits text part
    → AreAllFindings framing limits (take part.begin text) found
    → AreAllFindings framing (limits_after limits part.begin) (bytes_between part.begin part.end text) more
    → GoesOn framing limits text part.begin part.end found more
goes-on framing limits text part found more has bytes are of_it = by_cut bytes.cut
  where
    by_cut : (part.begin ≡ 0) ⊎ MayBeCut framing limits text part.begin → GoesOn framing limits text part.begin part.end found more
    by_cut (inl first) = goes-first framing limits text part.begin part.end found more first are of_it
    by_cut (inr cut) =
        goes-further framing limits text part.begin part.end found more has (omega (arith, bytes.within, has)) cut are of_it
