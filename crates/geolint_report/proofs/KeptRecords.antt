-- Lemmas on the notes of records that are kept.
use Rattle.geolint_report.proofs.Common.{arith, ◌≡◌, ◌<◌, ◌≤◌, ℕ, ◌+◌, ◌++◌, ◌∷◌, [], List, true, false, ap, sym, ◌∙◌, subst, append-nil, inl, inr}
use Rattle.geolint_report.proofs.Common.{cases_lt, u64_saturate, flat_map, Option, Some, None, Allowed, Framing, IsWholeVerdict, Asked, Note}
use Rattle.std.proofs.Common.{Bool}
use Rattle.std.proofs.lemmas.List.Concat.{flat_map-append}
use Rattle.std.specs.Io.KnownBytes.{Consumes, IsAtEnd}
use Rattle.gj_rules.specs.declared.records.record.Record.{Record}
use Rattle.gj_rules.specs.declared.sequence.verdict.SeqVerdict.{SeqVerdict}
use Rattle.gj_rules.specs.RecordsStand.{HaveToldAll}
use Rattle.geolint_report.specs.declared.every.listing.Listing.{Listing}
use Rattle.geolint_report.specs.Every.{Keeps, record_notes, notes_of_records, KeepsRecords, ListsRecords, ListsBy}
use Rattle.geolint_report.specs.Judged.{JudgesBy}
use Rattle.geolint_report.proofs.KeptNotes.{items-more}

-- the notes of one record more
notes-more : (with_warnings : Bool) (records : List Record) (found : Record)
    → notes_of_records with_warnings (records ++ found ∷ []) ≡ notes_of_records with_warnings records ++ record_notes with_warnings found
unfolding notes_of_records
notes-more with_warnings records found =
    flat_map-append (record_notes with_warnings) records (found ∷ [])
    ∙ ap (λ (ys : List Note). flat_map (record_notes with_warnings) records ++ ys) (append-nil (record_notes with_warnings found))

pub KeepsRecords-none : (listing : Listing) → Keeps listing [] → listing.tally.items ≡ 0 → KeepsRecords listing []
unfolding notes_of_records
KeepsRecords-none listing keeps none = record { keeps = keeps; items_are = none }

pub KeepsRecords-more : (old new : Listing) (records : List Record) (found : Record) → new.asked ≡ old.asked
    → new.tally.items ≡ u64_saturate (old.tally.items + 1)
    → ((all : List Note) → Keeps old all → Keeps new (all ++ record_notes old.asked.with_warnings found)) → KeepsRecords old records
    → KeepsRecords new (records ++ found ∷ [])
KeepsRecords-more old new records found asked counted adds before =
    let all = notes_of_records old.asked.with_warnings records in
    record {
      keeps = subst (λ (a : Asked). Keeps new (notes_of_records a.with_warnings (records ++ found ∷ []))) (sym asked)
          (subst (λ (ys : List Note). Keeps new ys) (sym (notes-more old.asked.with_warnings records found)) (adds all before.keeps));
      items_are = items-more old new records found counted before.items_are;
    }

-- ---- when the input has ended

pub listed-of : (listing : Listing) (kind framing : Framing) (here limits : Allowed) (bytes : List ℕ) (found : List Record) (verdict : SeqVerdict)
    → kind ≡ framing → here ≡ limits
    → HaveToldAll (KeepsRecords listing) kind here bytes [] found verdict → ListsRecords framing limits bytes listing
listed-of listing kind framing here limits bytes found verdict kinds same all =
    subst (λ (l : Allowed). ListsRecords framing l bytes listing) same
    (subst (λ (f : Framing). ListsRecords f here bytes listing) kinds (found ++ all.more, all.findings, all.heard))

pub verdict-of : (listing : Listing) (kind framing : Framing) (here limits : Allowed) (bytes : List ℕ) (found : List Record) (verdict : SeqVerdict)
    → kind ≡ framing → here ≡ limits
    → HaveToldAll (KeepsRecords listing) kind here bytes [] found verdict → IsWholeVerdict framing limits bytes verdict
verdict-of listing kind framing here limits bytes found verdict kinds same all =
    subst (λ (l : Allowed). IsWholeVerdict framing l bytes verdict) same
    (subst (λ (f : Framing). IsWholeVerdict f here bytes verdict) kinds (found ++ all.more, all.findings, all.whole))

pub Lists-end : (framing : Framing) (limits : Allowed) (old new : Option (List ℕ)) (read : List ℕ) (listing : Listing) → Consumes old new read → IsAtEnd new
    → ListsRecords framing limits read listing → ListsBy (Some framing) limits old listing
Lists-end framing limits None new read listing took ended lists = tt
Lists-end framing limits (Some all) None read listing took ended lists = absurd took
Lists-end framing limits (Some all) (Some rest) read listing took ended lists =
    let is : all ≡ read = took ∙ (ap (λ (ys : List ℕ). read ++ ys) ended ∙ append-nil read) in
    subst (λ (bytes : List ℕ). ListsRecords framing limits bytes listing) (sym is) lists

pub Lists-lasting : (framing : Framing) (limits : Allowed) (old new : Option (List ℕ)) (read : List ℕ) (listing : Listing) → Consumes old new read
    → ((more : List ℕ) → ListsRecords framing limits (read ++ more) listing) → ListsBy (Some framing) limits old listing
Lists-lasting framing limits None new read listing took lasts = tt
Lists-lasting framing limits (Some all) None read listing took lasts = absurd took
Lists-lasting framing limits (Some all) (Some rest) read listing took lasts =
    subst (λ (bytes : List ℕ). ListsRecords framing limits bytes listing) (sym took) (lasts rest)

-- a verdict that is right by one definition is so by another that follows from it
pub Judges-as : {V : Type 0} (Is Other : Allowed → List ℕ → V → Type 0) (limits : Allowed) (old new : Option (List ℕ)) (verdict : V)
    → ((bytes : List ℕ) → Is limits bytes verdict → Other limits bytes verdict) → JudgesBy Is limits old new verdict → JudgesBy Other limits old new verdict
Judges-as Is Other limits None new verdict follows judged = tt
Judges-as Is Other limits (Some all) None verdict follows judged = judged
Judges-as Is Other limits (Some all) (Some rest) verdict follows judged = record {
  read = judged.read;
  split = judged.split;
  of_read = follows judged.read judged.of_read;
  lasting = λ some more. follows (judged.read ++ more) (judged.lasting some more);
  of_all = follows all judged.of_all;
}

-- ---- while it goes on

-- no byte is beyond the limit
pub fits-under : (b : Bool) (most long : ℕ) → b ≡ false → (most < long → b ≡ true) → long ≤ most
fits-under b most long live over = elim (cases_lt most long) [
  | inl beyond ↦ (let is = over beyond in absurd (cc))
  | inr within ↦ omega (arith, within)
]
