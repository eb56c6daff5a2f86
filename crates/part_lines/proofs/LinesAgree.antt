-- The object of a line says all members of one line.
use Rattle.part_lines.proofs.Common.{arith, ◌≡◌, ◌+◌, ℕ, refl, ap, sym, subst, ◌∙◌, Bool, true, false, Some, List, [], ◌∷◌, ◌++◌, codes, replicate}
use Rattle.part_lines.proofs.Common.{Kind, Warnings, CheckedPart, Code, Framing, Note, PartLine}
use Rattle.std.proofs.Common.{None, Option}
use Rattle.std.specs.Prelude.{◌==◌, option_and_then}
use Rattle.std.proofs.lemmas.Bool.Decides.{nat_tests}
use Rattle.std.proofs.lemmas.Option.{same_Some}
use Rattle.part_lines.proofs.ReadItems.{items_of-same}
use Rattle.part_lines.proofs.NamesRead.{same-code}
use Rattle.gj_coords.specs.Internal.KeptWarnings.{warnings_of}
use Rattle.gj_coords.specs.Warnings.{Warning, warning_at}
use Rattle.gj_coords.specs.declared.fault.Rule.{Rule}
use Rattle.gj_json.specs.declared.fault.Cause.{Cause}
use Rattle.serde_json.specs.Data.{Data, Items}
use Rattle.serde_json.specs.Find.{get, as_str}
use Rattle.serde_json.specs.View.{items_of}
use Rattle.part_lines.specs.Agreed.{AreSameNotes, AreSameIf, Agree}
use Rattle.geolint_report.specs.Texts.{code_name}
use Rattle.part_lines.specs.Lines.{framing_word, every_word, base_of, line_base}
use Rattle.part_lines.specs.LineObject.{number_in, text_in, truth_in, array_in, IsRecordIn, AreWarnings, AreWarningsIn, IsVerdictIn, IsCheckedIn, IsNoteIn}
use Rattle.part_lines.specs.LineObject.{AreNotes, IsListedIn, IsListedIf, IsLineIn}
use Rattle.gj_rules.specs.declared.records.framing.Framing.TheVariants.{Sequence, Lines}
use Rattle.geolint_report.specs.declared.every.listing.Item.{Item}
use Rattle.part_lines.specs.declared.line.Listed.{Listed}
use Rattle.gj_rules.specs.declared.sequence.verdict.SeqVerdict.{SeqVerdict}
use Rattle.gj_rules.specs.declared.verdict.Verdict.{Verdict}

-- ---- names

pub both-said : {A : Type 0} (o : Option A) (x y : A) → o ≡ Some x → o ≡ Some y → x ≡ y
both-said o x y e f = same_Some x y (sym e ∙ f)

same-rule : (one other : Rule) → code_name (Code.Rule one) ≡ code_name (Code.Rule other) → one ≡ other
same-rule one other e = let same = same-code (Code.Rule one) (Code.Rule other) e in cc

same-kind : (one other : Kind) → code_name (Code.Kind one) ≡ code_name (Code.Kind other) → one ≡ other
same-kind one other e = let same = same-code (Code.Kind one) (Code.Kind other) e in cc

same-cause : (one other : Cause) → code_name (Code.Cause one) ≡ code_name (Code.Cause other) → one ≡ other
same-cause one other e = let same = same-code (Code.Cause one) (Code.Cause other) e in cc

apart : (x y : ℕ) (xs ys : List ℕ) → (x == y) ≡ false → x ∷ xs ≡ y ∷ ys → ⊥
apart x y xs ys other e =
    let same : x ≡ y = cc in
    grind (arith, nat_tests, other, same)

pub same-framing : (one other : Option Framing) → framing_word one ≡ framing_word other → one ≡ other
same-framing (Some Sequence) (Some Sequence) e = refl
same-framing (Some Lines) (Some Lines) e = refl
same-framing None None e = refl
same-framing (Some Sequence) (Some Lines) e = absurd (apart 115 110 _ _ refl e)
same-framing (Some Lines) (Some Sequence) e = absurd (apart 110 115 _ _ refl e)
same-framing (Some Sequence) None e = absurd (apart 115 102 _ _ refl e)
same-framing (Some Lines) None e = absurd (apart 110 102 _ _ refl e)
same-framing None (Some Sequence) e = absurd (apart 102 115 _ _ refl e)
same-framing None (Some Lines) e = absurd (apart 102 110 _ _ refl e)

same-every : (one other : Bool) → every_word one ≡ every_word other → one ≡ other
same-every true true e = refl
same-every false false e = refl
same-every true false e = absurd (apart 119 102 _ _ refl e)
same-every false true e = absurd (apart 102 119 _ _ refl e)

arrays-same : (o : Option Items) (one other : List Data) → o ≡ Some (items_of one) → o ≡ Some (items_of other) → one ≡ other
arrays-same o one other e f = items_of-same one other (both-said o (items_of one) (items_of other) e f)

-- ---- the verdict

place-same : (o : Option ℕ) (begin one other : ℕ) → o ≡ Some (one + begin) → o ≡ Some (other + begin) → one ≡ other
place-same o begin one other e f = let sum = both-said o (one + begin) (other + begin) e f in omega (arith, sum)

warnings-same : (begin : ℕ) (items : List Data) (one other : List Warning) → AreWarnings begin items one → AreWarnings begin items other → one ≡ other
warnings-same begin [] one other e f = e ∙ sym f
warnings-same begin (it ∷ items) one other (kind, count, place, rest, first, split, more) (k, n, p, others, is, halves, after) =
    let same_kind : kind ≡ k = same-kind kind k (both-said (text_in (codes "kind") it) _ _ first.name is.name) in
    let same_count : count ≡ n = both-said (number_in (codes "count") it) count n first.count is.count in
    let same_place : place ≡ p = place-same (number_in (codes "at") it) begin place p first.at is.at in
    let same_rest : rest ≡ others = warnings-same begin items rest others more after in
    split
    ∙ (ap (λ (l : List Warning). replicate count (warning_at place kind) ++ l) same_rest
    ∙ (ap (λ (m : ℕ). replicate m (warning_at place kind) ++ others) same_count
    ∙ (ap (λ (m : ℕ). replicate n (warning_at m kind) ++ others) same_place
    ∙ (ap (λ (x : Kind). replicate n (warning_at p x) ++ others) same_kind ∙ sym halves))))

all-warnings-same : (it : Data) (begin : ℕ) (one other : Warnings) → AreWarningsIn it begin one → AreWarningsIn it begin other → one ≡ other
all-warnings-same it begin one other (items, found, (list, are, stands)) (others, there, (more, they, stand)) =
    let same : items ≡ others = arrays-same (array_in (codes "warnings") it) items others found there in
    let lists : list ≡ more = warnings-same begin others list more (subst (λ (l : List Data). AreWarnings begin l list) same are) they in
    stands ∙ (ap (λ (l : List Warning). warnings_of l) lists ∙ sym stand)

record-same : (it : Data) (begin : ℕ) (one other : Verdict) → IsRecordIn it begin one → IsRecordIn it begin other → one ≡ other
record-same it begin (Verdict.Broken a) (Verdict.Broken b) e f =
    let rule = same-rule a.rule b.rule (both-said (text_in (codes "fault") it) _ _ e.0 f.0) in
    let place = place-same (number_in (codes "at") it) begin a.place b.place e.1 f.1 in
    ap (λ (r : Rule). Verdict.Broken (record { place = a.place; rule = r })) rule
    ∙ ap (λ (p : ℕ). Verdict.Broken (record { place = p; rule = b.rule })) place
record-same it begin (Verdict.NotJson a) (Verdict.NotJson b) e f =
    let cause = same-cause a.cause b.cause (both-said (text_in (codes "fault") it) _ _ e.0 f.0) in
    let place = place-same (number_in (codes "at") it) begin a.place b.place e.1 f.1 in
    ap (λ (c : Cause). Verdict.NotJson (record { place = a.place; cause = c })) cause
    ∙ ap (λ (p : ℕ). Verdict.NotJson (record { place = p; cause = b.cause })) place
record-same it begin (Verdict.Broken a) (Verdict.NotJson b) e f =
    let same = same-code (Code.Rule a.rule) (Code.Cause b.cause) (both-said (text_in (codes "fault") it) _ _ e.0 f.0) in cc
record-same it begin (Verdict.NotJson a) (Verdict.Broken b) e f =
    let same = same-code (Code.Cause a.cause) (Code.Rule b.rule) (both-said (text_in (codes "fault") it) _ _ e.0 f.0) in cc
record-same it begin (Verdict.Valid warnings) other e f = absurd e
record-same it begin other (Verdict.Valid warnings) e f = absurd f

some-none : {A : Type 0} (o : Option A) (x : A) → o ≡ Some x → o ≡ None → ⊥
some-none o x e f = let g : Some x ≡ None = sym e ∙ f in cc

verdict-same : (it : Data) (begin : ℕ) (one other : SeqVerdict) → IsVerdictIn it begin one → IsVerdictIn it begin other → one ≡ other
verdict-same it begin (SeqVerdict.Valid a warnings) (SeqVerdict.Valid b others) e f =
    let many = both-said (number_in (codes "records") it) a b e.0 f.0 in
    ap (λ (n : ℕ). SeqVerdict.Valid n warnings) many ∙ ap (SeqVerdict.Valid b) (all-warnings-same it begin warnings others e.1 f.1)
verdict-same it begin (SeqVerdict.Record a one) (SeqVerdict.Record b other) e f =
    let (none, which, fault) = e in
    let (lacks, that, same) = f in
    ap (λ (n : ℕ). SeqVerdict.Record n one) (both-said (number_in (codes "record") it) a b which that)
    ∙ ap (SeqVerdict.Record b) (record-same it begin one other fault same)
verdict-same it begin (SeqVerdict.Valid a warnings) (SeqVerdict.Record b other) e f = absurd (some-none (number_in (codes "records") it) a e.0 f.0)
verdict-same it begin (SeqVerdict.Record a one) (SeqVerdict.Valid b others) e f = absurd (some-none (number_in (codes "records") it) b f.0 e.0)

checked-same : (it : Data) (framing : Option Framing) (one other : CheckedPart) → IsCheckedIn it framing one → IsCheckedIn it framing other → one ≡ other
checked-same it framing one other e f =
    let begin = both-said (number_in (codes "begin") it) one.begin other.begin e.begin f.begin in
    let end = both-said (number_in (codes "end") it) one.end other.end e.end f.end in
    let verdict = verdict-same it (base_of framing other.begin) one.verdict other.verdict
    (subst (λ (n : ℕ). IsVerdictIn it (base_of framing n) one.verdict) begin e.verdict) f.verdict in
    ap (λ (n : ℕ). record { begin = n; end = one.end; verdict = one.verdict }) begin
    ∙ (ap (λ (n : ℕ). record { begin = other.begin; end = n; verdict = one.verdict }) end
    ∙ ap (λ (v : SeqVerdict). record { begin = other.begin; end = other.end; verdict = v }) verdict)

-- ---- the notes on records

note-same : (it : Data) (begin : ℕ) (one other : Note) (n m : ℕ) → IsNoteIn it begin one n → IsNoteIn it begin other m → one ≡ other
note-same it begin one other n m e f =
    let items : one.item ≡ other.item =
    e.item ∙ (ap (λ (k : ℕ). Item.Record k) (both-said (number_in (codes "record") it) n m e.number f.number) ∙ sym f.item) in
    let code = same-code one.told.code other.told.code (both-said (text_in (codes "code") it) _ _ e.code f.code) in
    let place = place-same (number_in (codes "at") it) begin one.told.place other.told.place e.at f.at in
    ap (λ (i : Item). record { item = i; told = one.told }) items
    ∙ (ap (λ (c : Code). record { item = other.item; told = record { code = c; place = one.told.place } }) code
    ∙ ap (λ (p : ℕ). record { item = other.item; told = record { code = other.told.code; place = p } }) place)

notes-same : (begin : ℕ) (items : List Data) (one other : List Note) → AreNotes begin items one → AreNotes begin items other → one ≡ other
notes-same begin [] one other e f = e ∙ sym f
notes-same begin (it ∷ items) one other (note, n, rest, first, split, more) (that, m, others, is, halves, after) =
    split
    ∙ (ap (λ (x : Note). x ∷ rest) (note-same it begin note that n m first is)
    ∙ (ap (λ (l : List Note). that ∷ l) (notes-same begin items rest others more after) ∙ sym halves))

listed-same : (it : Data) (begin : ℕ) (one other : Listed) → IsListedIn it begin one → IsListedIn it begin other → AreSameNotes one other
listed-same it begin one other e f =
    let every = same-every one.asked.with_warnings other.asked.with_warnings (both-said (text_in (codes "every") it) _ _ e.every f.every) in
    let room = both-said (number_in (codes "most") it) one.asked.room other.asked.room e.most f.most in
    let skipped : one.asked.skipped ≡ other.asked.skipped = e.skipped ∙ sym f.skipped in
    let (items, found, are) = e.notes in
    let (others, there, they) = f.notes in
    let same = arrays-same (array_in (codes "listed") it) items others found there in
    record {
      asked = ap (λ (b : Bool). record { with_warnings = b; skipped = one.asked.skipped; room = one.asked.room }) every
          ∙ (ap (λ (n : ℕ). record { with_warnings = other.asked.with_warnings; skipped = n; room = one.asked.room }) skipped
          ∙ ap (λ (n : ℕ). record { with_warnings = other.asked.with_warnings; skipped = other.asked.skipped; room = n }) room);
      notes = notes-same begin others one.notes.notes.items other.notes.notes.items
          (subst (λ (l : List Data). AreNotes begin l one.notes.notes.items) same are) they;
      count = both-said (number_in (codes "findings") it) _ _ e.count f.count;
      items = both-said (number_in (codes "items") it) _ _ e.items f.items;
      broken = both-said (number_in (codes "items_broken") it) _ _ e.broken f.broken;
    }

said-every : (it : Data) (text : List ℕ) → text_in (codes "every") it ≡ Some text → get (codes "every") it ≡ None → ⊥
said-every it text e f = some-none (text_in (codes "every") it) text e (ap (λ o. option_and_then as_str o) f)

listed-alike : (it : Data) (begin : ℕ) (one other : Option Listed) → IsListedIf it begin one → IsListedIf it begin other → AreSameIf one other
listed-alike it begin (Some one) (Some other) e f = listed-same it begin one other e f
listed-alike it begin None None e f = tt
listed-alike it begin (Some one) None e f = absurd (said-every it (every_word one.asked.with_warnings) e.every f)
listed-alike it begin None (Some other) e f = absurd (said-every it (every_word other.asked.with_warnings) f.every e)

-- ---- the line

pub agree : (it : Data) (one other : PartLine) → IsLineIn it one → IsLineIn it other → Agree one other
agree it one other e f =
    let framing = same-framing one.settings.framing other.settings.framing (both-said (text_in (codes "framing") it) _ _ e.settings.framing f.settings.framing) in
    let checked = checked-same it other.settings.framing one.checked other.checked
    (subst (λ (it_is : Option Framing). IsCheckedIn it it_is one.checked) framing e.checked) f.checked in
    let bytes = both-said (number_in (codes "max_bytes") it) one.settings.limits.bytes other.settings.limits.bytes e.settings.max_bytes f.settings.max_bytes in
    let depth : one.settings.limits.depth ≡ other.settings.limits.depth = e.settings.depth ∙ sym f.settings.depth in
    let part = both-said (number_in (codes "part") it) one.share.number other.share.number e.share.part f.share.part in
    let parts = both-said (number_in (codes "parts") it) one.share.parts other.share.parts e.share.parts f.share.parts in
    record {
      file = record {
        path = both-said (text_in (codes "path") it) _ _ e.file.path f.file.path;
        size = both-said (number_in (codes "size") it) _ _ e.file.size f.file.size;
        modified = both-said (text_in (codes "modified") it) _ _ e.file.modified f.file.modified;
      };
      framing = framing;
      limits = ap (λ (n : ℕ). record { depth = n; bytes = one.settings.limits.bytes }) depth
          ∙ ap (λ (n : ℕ). record { depth = other.settings.limits.depth; bytes = n }) bytes;
      strict = both-said (truth_in (codes "strict") it) _ _ e.settings.strict f.settings.strict;
      number = part;
      parts = parts;
      checked = checked;
      listed = listed-alike it (line_base other) one.listed other.listed
          (subst (λ (n : ℕ). IsListedIf it n one.listed) (ap (λ (o : Option Framing). base_of o one.checked.begin) framing
          ∙ ap (λ (c : CheckedPart). base_of other.settings.framing c.begin) checked) e.listed) f.listed;
    }
