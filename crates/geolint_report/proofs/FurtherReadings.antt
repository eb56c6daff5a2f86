-- Lemmas on a further reading.
use Rattle.geolint_report.proofs.Common.{arith, ap, sym, subst, ◌∙◌, inl, inr, ◌≡◌, ◌<◌, ◌≤◌, ◌^◌, ◌++◌, [], List, ℕ, length, take, drop, true, false}
use Rattle.geolint_report.proofs.Common.{append_assoc, length-take-le, Option, Some, None, Allowed, Framing, Asked, Note}
use Rattle.std.proofs.Common.{Bool, nat_lt, if◌then◌else◌, ◌+◌}
use Rattle.std.proofs.lemmas.Bool.Decides.{nat_tests}
use Rattle.std.proofs.lemmas.List.{take-append-drop}
use Rattle.gj_json.specs.Events.{all_events}
use Rattle.gj_json.specs.Text.{IsText, IsTextWithin}
use Rattle.gj_json.specs.Tree.{Text}
use Rattle.gj_rules.specs.declared.feature_linter.FeatureLinter.{FeatureLinter}
use Rattle.gj_rules.specs.declared.records.Records.{Records}
use Rattle.gj_rules.specs.declared.records.record.Record.{Record}
use Rattle.gj_rules.specs.declared.sequence.verdict.SeqVerdict.{SeqVerdict}
use Rattle.gj_rules.specs.declared.records.framing.RecordEnd.TheVariants.{Input, Limit}
use Rattle.gj_rules.specs.FeatureFindings.{findings_by}
use Rattle.gj_rules.specs.FeatureLinter.{StandsFor as LinterStandsFor, limits_of as linter_limits, offset_of, sink_of}
use Rattle.gj_rules.specs.FeaturesTold.{TellFindings}
use Rattle.gj_rules.specs.RecordFindings.{AreAllFindings, AreFindings, AreFindingsSoFar, but_last}
use Rattle.gj_rules.specs.Records.{parts_from, entries_in}
use Rattle.gj_rules.specs.RecordsStand.{StandsFor as RecordsStandFor, framing_of, limits_of as records_limits, HaveTold, HaveToldAllIf}
use Rattle.geolint_report.specs.declared.every.further.Further.{Further}
use Rattle.geolint_report.specs.declared.every.further.Reader.{Reader}
use Rattle.geolint_report.specs.declared.every.further.Reader.TheVariants.{OfText, OfRecords}
use Rattle.geolint_report.specs.declared.every.listing.Listing.{Listing}
use Rattle.geolint_report.specs.Every.{GaveBy, KeepsNotes, KeepsRecords, notes_of, notes_of_records}
use Rattle.geolint_report.specs.Further.{AreNextBy, AreNextIn}
use Rattle.geolint_report.proofs.CursorPlaces.{taken}
use Rattle.geolint_report.specs.Internal.FurtherReading.{AreReported, ListsFirst, ReaderStandsIn, RecordsStandIn, StandsIn, StandsBy}

-- ---- before the first byte

none-found : (framing : Framing) (limits : Allowed) → AreFindingsSoFar framing limits [] []
none-found framing limits =
    let short : nat_lt limits.bytes 0 ≡ false = grind (arith, nat_tests) in
    subst (λ (b : Bool). AreFindings framing limits.depth
    (entries_in framing (if b then parts_from framing Limit 0 (take limits.bytes []) else but_last (parts_from framing Input 0 []))) []) (sym short) tt

pub text-begun : (framing : Option Framing) (limits : Allowed) (linter : FeatureLinter Listing) → framing ≡ None → LinterStandsFor KeepsNotes linter []
    → linter_limits linter ≡ limits → (text : Option (List ℕ))
    → StandsBy framing limits text (record { reader = OfText linter; offset = 0; has_ended = false })
text-begun framing limits linter is stands under text =
    subst (λ (f : Option Framing). StandsBy f limits text (record { reader = OfText linter; offset = 0; has_ended = false })) (sym is) (by-text text)
  where
    by-text : (text : Option (List ℕ)) → StandsBy None limits text (record { reader = OfText linter; offset = 0; has_ended = false })
    by-text None = tt
    by-text (Some text) = (stands, under)

pub records-begun : (framing : Option Framing) (kind : Framing) (limits : Allowed) (records : Records) (listing : Listing) → framing ≡ Some kind
    → RecordsStandFor records [] [] → framing_of records ≡ kind → records_limits records ≡ limits → KeepsRecords listing [] → (text : Option (List ℕ))
    → StandsBy framing limits text (record { reader = OfRecords records listing; offset = 0; has_ended = false })
records-begun framing kind limits records listing is stands kinds under keeps text =
    subst (λ (f : Option Framing). StandsBy f limits text (record { reader = OfRecords records listing; offset = 0; has_ended = false })) (sym is)
    (by-text text)
  where
    by-text : (text : Option (List ℕ)) → StandsBy (Some kind) limits text (record { reader = OfRecords records listing; offset = 0; has_ended = false })
    by-text None = tt
    by-text (Some text) =
        ([], record { stands = stands; framing_is = kinds; limits_are = under; findings = none-found kind limits; keeps = keeps })

-- ---- what is told of it

-- the features that are complete in the bytes that were taken, of each text that these begin
pub text-lists : (limits : Allowed) (text : List ℕ) (offset : ℕ) (linter : FeatureLinter Listing)
    → ((whole : Text) (bytes : List ℕ) → IsText whole bytes → length (all_events whole) ≤ length bytes) → (linter_limits linter).bytes ≤ 2 ^ 60
    → ((bytes rest : List ℕ) (whole : Text) → LinterStandsFor KeepsNotes linter bytes
    → IsTextWithin (linter_limits linter).depth whole (take (offset_of linter) bytes ++ rest) → length (all_events whole) < 2 ^ 63
    → TellFindings (KeepsNotes (sink_of linter)) (findings_by (offset_of linter) whole))
    → LinterStandsFor KeepsNotes linter (take offset text) → linter_limits linter ≡ limits → ListsFirst None limits text (sink_of linter)
text-lists limits text offset linter few short tells stands under =
    let had = take offset text in
    let taken = offset_of linter in
    let rest = drop taken had ++ drop offset text in
    let whole : take taken had ++ rest ≡ text =
    sym (append_assoc (take taken had) (drop taken had) (drop offset text))
    ∙ (ap (λ (ys : List ℕ). ys ++ drop offset text) (take-append-drop taken had) ∙ take-append-drop offset text) in
    let most : (linter_limits linter).bytes ≡ limits.bytes = ap (λ (l : Allowed). l.bytes) under in (
      taken,
      λ all admitted.
          let events = few all text admitted.0.0 in
          tells had rest all stands (subst (λ (l : Allowed). IsTextWithin l.depth all (take taken had ++ rest)) (sym under)
          (subst (λ (ys : List ℕ). IsTextWithin limits.depth all ys) (sym whole) admitted.0)) (omega (arith, events, admitted.1, most, short)),
    )

pub reader-lists : (framing : Option Framing) (limits : Allowed) (text : List ℕ) (offset : ℕ) (has_ended : Bool) (reader : Reader)
    (linter : FeatureLinter Listing) → reader ≡ OfText linter
    → ((whole : Text) (bytes : List ℕ) → IsText whole bytes → length (all_events whole) ≤ length bytes) → (linter_limits linter).bytes ≤ 2 ^ 60
    → ((bytes rest : List ℕ) (whole : Text) → LinterStandsFor KeepsNotes linter bytes
    → IsTextWithin (linter_limits linter).depth whole (take (offset_of linter) bytes ++ rest) → length (all_events whole) < 2 ^ 63
    → TellFindings (KeepsNotes (sink_of linter)) (findings_by (offset_of linter) whole))
    → ReaderStandsIn framing limits text offset has_ended reader → ListsFirst framing limits text (sink_of linter)
reader-lists framing limits text offset has_ended reader linter is few short tells stands =
    by-framing framing (subst (λ (r : Reader). ReaderStandsIn framing limits text offset has_ended r) is stands)
  where
    by-framing : (framing : Option Framing) → ReaderStandsIn framing limits text offset has_ended (OfText linter)
        → ListsFirst framing limits text (sink_of linter)
    by-framing None (stands, under) = text-lists limits text offset linter few short tells stands under
    by-framing (Some kind) stands = absurd stands

next-in : (framing : Option Framing) (limits : Allowed) (text : List ℕ) (asked : Asked) (listing : Listing) → listing.asked ≡ asked
    → listing.has_failed ≡ false → ListsFirst framing limits text listing → AreNextIn framing asked limits text listing.notes.items
next-in None limits text asked listing same fine (n, lists) = (
  n,
  λ whole admitted.
      let (features, keeps, say) = lists whole admitted in (
        features,
        subst (λ (a : Asked). listing.notes.items ≡ take a.room (drop a.skipped (notes_of a.with_warnings features))) same (keeps.keeps.notes fine),
        say,
      ),
)
next-in (Some framing) limits text asked listing same fine (found, are, keeps) = (
  found,
  are,
  subst (λ (a : Asked). listing.notes.items ≡ take a.room (drop a.skipped (notes_of_records a.with_warnings found))) same (keeps.keeps.notes fine),
)

-- the notes of a listing are those that are asked for
pub next-by : (framing : Option Framing) (limits : Allowed) (text : Option (List ℕ)) (asked : Asked) (further : Further) (listing : Listing) (notes : List Note)
    → listing.asked ≡ asked → listing.has_failed ≡ false → notes ≡ listing.notes.items
    → ((text : List ℕ) → StandsIn framing limits text further → ListsFirst framing limits text listing) → StandsBy framing limits text further
    → AreNextBy framing asked limits text notes
next-by framing limits None asked further listing notes same fine are lists stands = tt
next-by framing limits (Some text) asked further listing notes same fine are lists stands =
    subst (λ (ns : List Note). AreNextIn framing asked limits text ns) (sym are) (next-in framing limits text asked listing same fine (lists text stands))

-- ---- a piece more, or the end

-- records that have reported so much, and may have ended
pub reported : (has_ended : Bool) (framing : Framing) (limits : Allowed) (text : List ℕ) (offset : ℕ) (records : Records) (listing : Listing) (found : List Record)
    → AreReported framing limits (take offset text) records listing found → RecordsStandIn has_ended framing limits text offset records listing
reported false framing limits text offset records listing found are = (found, are)
reported true framing limits text offset records listing found are = (found, inr (offset, are.findings), are.keeps)

-- a linter that stands for more bytes, or has another listing
pub text-now : (framing : Option Framing) (limits : Allowed) (text : List ℕ) (offset now : ℕ) (has_ended : Bool) (reader : Reader)
    (old new : FeatureLinter Listing) → reader ≡ OfText old → linter_limits new ≡ linter_limits old
    → (LinterStandsFor KeepsNotes old (take offset text) → LinterStandsFor KeepsNotes new (take now text))
    → ReaderStandsIn framing limits text offset has_ended reader → ReaderStandsIn framing limits text now has_ended (OfText new)
text-now framing limits text offset now has_ended reader old new is same on stands =
    by-framing framing (subst (λ (r : Reader). ReaderStandsIn framing limits text offset has_ended r) is stands)
  where
    by-framing : (framing : Option Framing) → ReaderStandsIn framing limits text offset has_ended (OfText old)
        → ReaderStandsIn framing limits text now has_ended (OfText new)
    by-framing None (stands, under) = (on stands, same ∙ under)
    by-framing (Some kind) stands = absurd stands

pub records-fed : (framing : Option Framing) (limits : Allowed) (text piece : List ℕ) (offset now : ℕ) (has_ended over : Bool) (reader : Reader)
    (old new : Records) (listing next : Listing) → has_ended ≡ false → reader ≡ OfRecords old listing → framing_of new ≡ framing_of old
    → records_limits new ≡ records_limits old
    → ((bytes : List ℕ) (before found : List Record) → RecordsStandFor old bytes found → KeepsRecords listing (before ++ found)
    → HaveTold (KeepsRecords next) new (bytes ++ piece) before found)
    → take now text ≡ take offset text ++ piece → ReaderStandsIn framing limits text offset has_ended reader
    → ReaderStandsIn framing limits text now over (OfRecords new next)
records-fed framing limits text piece offset now has_ended over reader old new listing next live is same_kind same_limits tells longer stands =
    by-framing framing (subst (λ (b : Bool). ReaderStandsIn framing limits text offset b (OfRecords old listing)) live
    (subst (λ (r : Reader). ReaderStandsIn framing limits text offset has_ended r) is stands))
  where
    by-framing : (framing : Option Framing) → ReaderStandsIn framing limits text offset false (OfRecords old listing)
        → ReaderStandsIn framing limits text now over (OfRecords new next)
    by-framing None stands = absurd stands
    by-framing (Some kind) (found, are) =
        let told = tells (take offset text) [] found are.stands are.keeps in
        let all = found ++ told.more in
        let kind_is = same_kind ∙ are.framing_is in
        let under = same_limits ∙ are.limits_are in
        reported over kind limits text now new next all
        (record {
          stands = subst (λ (bytes : List ℕ). RecordsStandFor new bytes all) (sym longer) told.stands;
          framing_is = kind_is;
          limits_are = under;
          findings = subst (λ (bytes : List ℕ). AreFindingsSoFar kind limits bytes all) (sym longer)
              (subst (λ (l : Allowed). AreFindingsSoFar kind l (take offset text ++ piece) all) under
              (subst (λ (f : Framing). AreFindingsSoFar f (records_limits new) (take offset text ++ piece) all) kind_is told.findings));
          keeps = told.heard;
        })

pub records-ended : (framing : Option Framing) (limits : Allowed) (text : List ℕ) (offset : ℕ) (has_ended one : Bool) (reader : Reader)
    (old new : Records) (listing next : Listing) (verdict : SeqVerdict) → has_ended ≡ false → reader ≡ OfRecords old listing
    → ((bytes : List ℕ) (before found : List Record) → RecordsStandFor old bytes found → KeepsRecords listing (before ++ found)
    → HaveToldAllIf one (KeepsRecords next) (framing_of old) (records_limits old) bytes before found verdict)
    → take offset text ≡ text → ReaderStandsIn framing limits text offset has_ended reader
    → ReaderStandsIn framing limits text offset true (OfRecords new next)
records-ended framing limits text offset has_ended one reader old new listing next verdict live is tells whole stands =
    by-framing framing (subst (λ (b : Bool). ReaderStandsIn framing limits text offset b (OfRecords old listing)) live
    (subst (λ (r : Reader). ReaderStandsIn framing limits text offset has_ended r) is stands))
  where
    by-framing : (framing : Option Framing) → ReaderStandsIn framing limits text offset false (OfRecords old listing)
        → ReaderStandsIn framing limits text offset true (OfRecords new next)
    by-framing None stands = absurd stands
    by-framing (Some kind) (found, are) =
        let told = (tells (take offset text) [] found are.stands are.keeps).have in
        let all = found ++ told.more in (
          all,
          inl (subst (λ (bytes : List ℕ). AreAllFindings kind limits bytes all) whole
              (subst (λ (l : Allowed). AreAllFindings kind l (take offset text) all) are.limits_are
              (subst (λ (f : Framing). AreAllFindings f (records_limits old) (take offset text) all) are.framing_is told.findings))),
          told.heard,
        )

-- a read gave these bytes
pub read-more : (framing : Option Framing) (limits : Allowed) (text : Option (List ℕ)) (count : ℕ) (piece : List ℕ) (old new : Further)
    → old.has_ended ≡ false → count ≤ length piece → GaveBy text old.offset count piece
    → ((text : List ℕ) → old.has_ended ≡ false → take (old.offset + length (take count piece)) text ≡ take old.offset text ++ take count piece
    → StandsIn framing limits text old → StandsIn framing limits text new)
    → StandsBy framing limits text old → StandsBy framing limits text new
read-more framing limits None count piece old new live bound gave takes stands = tt
read-more framing limits (Some text) count piece old new live bound gave takes stands =
    let short : length (take count piece) ≡ count = length-take-le count piece bound in
    takes text live
    (subst (λ (n : ℕ). take (old.offset + n) text ≡ take old.offset text ++ take count piece) (sym short)
    (taken text piece old.offset count count bound (omega arith) gave)) stands
