-- A run that has told lines of the features of its last file.
use Rattle.geolint_files.proofs.Common.{arith, ◌≡◌, ◌-◌, ◌++◌, ◌∷◌, [], List, ℕ, length, refl, sym, subst, ap, ◌∙◌, Bool, map, Option, Some, None, Vec}
use Rattle.geolint_files.proofs.Common.{Global, StandBy, Finding, Reading, Report, Log, Options, Summary, Counts, Outcome, framing_in}
use Rattle.std.proofs.Common.{true, false, not, zero, suc, ◌<◌, ◌≤◌, ◌+◌, take, get_or, append_assoc, append-nil, length-append, ◌^◌}
use Rattle.std.specs.Io.Iter.{u64_saturate}
use Rattle.std.specs.Io.KnownBytes.{Appends, Keeps}
use Rattle.std.proofs.KnownBytes.{Appends-trans, Appends-kept, Keeps-refl}
use Rattle.std.proofs.lemmas.List.{map-append, take_more, take_all}
use Rattle.std.proofs.lemmas.Bool.{true≢false}
use Rattle.std.proofs.lemmas.Option.{none-some}
use Rattle.gj_json.specs.Limits.{Allowed}
use Rattle.gj_rules.specs.declared.records.framing.Framing.{Framing}
use Rattle.geolint_report.specs.declared.every.cursor.Cursors.{Cursors}
use Rattle.geolint_report.specs.declared.every.listing.Asked.{Asked}
use Rattle.geolint_report.specs.declared.every.listing.Note.{Note}
use Rattle.geolint_report.specs.declared.every.tally.Tally.{Tally}
use Rattle.report_forms.specs.declared.every.Entry.{Entry}
use Rattle.geolint_report.specs.Tallies.{IsTotal}
use Rattle.report_forms.specs.declared.formats.lines.Style.{Style}
use Rattle.report_forms.specs.declared.options.Every.{Every}
use Rattle.geolint_files.specs.declared.run.Run.{Run}
use Rattle.geolint_files.specs.Outcome.{worst}
use Rattle.geolint_report.specs.Further.{AreNextBy}
use Rattle.geolint_files.specs.Internal.RunState.{HasTold, TellsFile, TellsLines, ToldFurther, SameTold}
use Rattle.geolint_files.specs.Listed.{asked_in, asked_by, IsEntryOf, AreEntriesOf, AreLinesOf, others_of, asked_when, asked_after, AreFurther}
use Rattle.geolint_files.specs.Listed.{joined, most_of, IsPlaced, ArePlacedLines}
use Rattle.geolint_files.proofs.Runs.ToldFiles.{tallies-append, tallies-none}
use Rattle.geolint_files.specs.Run.{ToldFile, judged, listed, FeatureLine, others_line, finding_in, tallies_in, outcome_in, Written, AddsFiles, AddsLine}
use Rattle.geolint_files.specs.Run.{AddsLines, begun}

-- ---- what is written

AddsLines-more : (options : Options) (style : Style) (lines more : List FeatureLine) (a b c : Written)
    → AddsLines options style lines a b → AddsLines options style more b c → AddsLines options style (lines ++ more) a c
AddsLines-more options style [] more a b c none adds = subst (λ (before : Written). AddsLines options style more before c) none adds
AddsLines-more options style (first ∷ rest) more a b c (middle, here, others) adds =
    (middle, here, AddsLines-more options style rest more middle b c others adds)

-- the last file has these lines more
AddsFiles-lines : (options : Options) (style : Style) (files : List ToldFile) (report : Report) (tally : Tally) (before lines : List FeatureLine)
    (a b c : Written)
    → AddsFiles options style (files ++ listed report before tally ∷ []) a b → AddsLines options style lines b c
    → AddsFiles options style (files ++ listed report (before ++ lines) tally ∷ []) a c
AddsFiles-lines options style [] report tally before lines a b c (middle, adds, none) more = (
  c,
  record {
    asked = adds.asked;
    middle = adds.middle;
    report_told = adds.report_told;
    lines_told = AddsLines-more options style before lines adds.middle middle c adds.lines_told
        (subst (λ (w : Written). AddsLines options style lines w c) none more);
  },
  refl,
)
AddsFiles-lines options style (first ∷ rest) report tally before lines a b c (middle, here, others) more =
    (middle, here, AddsFiles-lines options style rest report tally before lines middle b c others more)

-- a file that was judged is one of which no feature is told yet
AddsFiles-as : (options : Options) (style : Style) (files : List ToldFile) (report : Report) (tally : Tally) (a b : Written)
    → (options.every ≡ Every.Nothing → ⊥)
    → AddsFiles options style (files ++ judged report ∷ []) a b → AddsFiles options style (files ++ listed report [] tally ∷ []) a b
AddsFiles-as options style [] report tally a b asked (middle, adds, none) =
    (middle, record { asked = asked; middle = middle; report_told = adds; lines_told = refl }, none)
AddsFiles-as options style (first ∷ rest) report tally a b asked (middle, here, others) =
    (middle, here, AddsFiles-as options style rest report tally middle b asked others)

-- ---- what is counted

outcomes-are : (options : Options) (files : List ToldFile) (one other : ToldFile) → outcome_in options one ≡ outcome_in options other
    → worst (map (outcome_in options) (files ++ one ∷ [])) ≡ worst (map (outcome_in options) (files ++ other ∷ []))
outcomes-are options files one other same =
    ap worst (map-append (outcome_in options) files (one ∷ [])
    ∙ (ap (λ (o : Outcome). map (outcome_in options) files ++ o ∷ []) same ∙ sym (map-append (outcome_in options) files (other ∷ []))))

findings-are : (files : List ToldFile) (one other : ToldFile) → finding_in one ≡ finding_in other
    → map finding_in (files ++ one ∷ []) ≡ map finding_in (files ++ other ∷ [])
findings-are files one other same =
    map-append finding_in files (one ∷ []) ∙ (ap (λ (f : Option Finding). map finding_in files ++ f ∷ []) same ∙ sym (map-append finding_in files (other ∷ [])))

tallies-are : (files : List ToldFile) (one other : ToldFile) → tallies_in (one ∷ []) ≡ tallies_in (other ∷ [])
    → tallies_in (files ++ one ∷ []) ≡ tallies_in (files ++ other ∷ [])
tallies-are files one other same =
    tallies-append files (one ∷ []) ∙ (ap (λ (tallies : List Tally). tallies_in files ++ tallies) same ∙ sym (tallies-append files (other ∷ [])))

-- a call counted the features or the records of a file
pub record HasCounted {W : Type 0} (tally : Tally) (old new : Run W) : Type 0 where
  pub options : new.options ≡ old.options
  pub style : new.style ≡ old.style
  pub outcome : new.outcome ≡ old.outcome
  pub summary : new.summary ≡ old.summary
  pub out : new.out ≡ old.out
  pub log : new.log ≡ old.log
  pub line : new.line ≡ old.line
  pub adds : (tallies : List Tally) → IsTotal old.tally tallies → IsTotal new.tally (tallies ++ tally ∷ [])

-- ---- a call that told lines

-- what a call did that told a line
pub record AddsOneLine {W : Type 0} (contents : W → Option (List ℕ)) (line : FeatureLine) (old new : Run W) : Type 0 where
  pub same : SameTold old new
  pub told : List ℕ
  pub out : old.line.items ≡ [] → Appends (contents old.out) (contents new.out) told
  pub line_is : new.line.items ≡ []
  pub adds : old.line.items ≡ [] → (bytes : List ℕ) → AddsLine old.options old.style line
      (record { bytes = bytes; is_first = old.log.is_first; unread = old.log.unread.items })
      (record { bytes = bytes ++ told; is_first = new.log.is_first; unread = new.log.unread.items })

AddsLine-at : (options given : Options) (style asked : Style) (line : FeatureLine) (before after : Written) (is_first : Bool) (unread : List ℕ)
    → given ≡ options → asked ≡ style → is_first ≡ before.is_first → unread ≡ before.unread
    → AddsLine given asked line (record { bytes = before.bytes; is_first = is_first; unread = unread }) after → AddsLine options style line before after
AddsLine-at options given style asked line before after is_first unread options_are style_is first unread_is adds =
    subst (λ (o : Options). AddsLine o style line before after) options_are
    (subst (λ (s : Style). AddsLine given s line before after) style_is
    (subst (λ (f : Bool). AddsLine given asked line (record { bytes = before.bytes; is_first = f; unread = before.unread }) after) first
    (subst (λ (u : List ℕ). AddsLine given asked line (record { bytes = before.bytes; is_first = is_first; unread = u }) after) unread_is adds)))

pub TellsLines-of : {W : Type 0} (contents : W → Option (List ℕ)) (line : FeatureLine) (old new : Run W) → AddsOneLine contents line old new
    → TellsLines contents (line ∷ []) old new
TellsLines-of contents line old new one = record {
  tells = λ held options style files report before tally has.
      let written = has.written in
      record {
        options_are = one.same.options ∙ has.options_are;
        style_is = one.same.style ∙ has.style_is;
        outcome = one.same.outcome ∙ (has.outcome ∙ outcomes-are options files (listed report before tally) (listed report (before ++ line ∷ []) tally) refl);
        summary = subst (λ (summary : Summary). Counts summary (map finding_in (files ++ listed report (before ++ line ∷ []) tally ∷ [])))
            (sym one.same.summary)
            (subst (Counts old.summary) (findings-are files (listed report before tally) (listed report (before ++ line ∷ []) tally) refl) has.summary);
        tally = subst (λ (now : Tally). IsTotal now (tallies_in (files ++ listed report (before ++ line ∷ []) tally ∷ []))) (sym one.same.tally)
            (subst (IsTotal old.tally) (tallies-are files (listed report before tally) (listed report (before ++ line ∷ []) tally) refl) has.tally);
        written = record { bytes = written.bytes ++ one.told; is_first = new.log.is_first; unread = new.log.unread.items };
        files_told = AddsFiles-lines options style files report tally before (line ∷ []) (begun options.format) written _ has.files_told (
          _,
          AddsLine-at options old.options style old.style line written _ old.log.is_first old.log.unread.items has.options_are has.style_is has.first
              has.unread (one.adds has.line written.bytes),
          refl,
        );
        out = Appends-trans held (contents old.out) (contents new.out) written.bytes one.told has.out (one.out has.line);
        first = refl;
        unread = refl;
        line = one.line_is;
      };
}

pub TellsLines-then : {W : Type 0} (contents : W → Option (List ℕ)) (lines more : List FeatureLine) (old middle new : Run W)
    → TellsLines contents lines old middle → TellsLines contents more middle new → TellsLines contents (lines ++ more) old new
TellsLines-then contents lines more old middle new first second = record {
  tells = λ held options style files report before tally has.
      subst (λ (all : List FeatureLine). HasTold contents held options style (files ++ listed report all tally ∷ []) new) (append_assoc before lines more)
      (second.tells held options style files report (before ++ lines) tally (first.tells held options style files report before tally has));
}

-- a call that wrote nothing
pub record IsShown {W : Type 0} (contents : W → Option (List ℕ)) (old new : Run W) : Type 0 where
  pub same : SameTold old new
  pub log : new.log ≡ old.log
  pub line : new.line ≡ old.line
  pub out : Keeps (contents old.out) (contents new.out)

HasTold-shown : {W : Type 0} (contents : W → Option (List ℕ)) (held : Option (List ℕ)) (options : Options) (style : Style) (files : List ToldFile)
    (old new : Run W)
    → IsShown contents old new → HasTold contents held options style files old → HasTold contents held options style files new
HasTold-shown contents held options style files old new shown has = record {
  options_are = shown.same.options ∙ has.options_are;
  style_is = shown.same.style ∙ has.style_is;
  outcome = shown.same.outcome ∙ has.outcome;
  summary = subst (λ (summary : Summary). Counts summary (map finding_in files)) (sym shown.same.summary) has.summary;
  tally = subst (λ (tally : Tally). IsTotal tally (tallies_in files)) (sym shown.same.tally) has.tally;
  written = has.written;
  files_told = has.files_told;
  out = Appends-kept _ _ _ has.written.bytes has.out shown.out;
  first = ap (λ log. log.is_first) shown.log ∙ has.first;
  unread = ap (λ log. log.unread.items) shown.log ∙ has.unread;
  line = ap (λ line. line.items) shown.line ∙ has.line;
}

pub TellsLines-none : {W : Type 0} (contents : W → Option (List ℕ)) (old new : Run W) → IsShown contents old new → TellsLines contents [] old new
TellsLines-none contents old new shown = record {
  tells = λ held options style files report before tally has.
      subst (λ (all : List FeatureLine). HasTold contents held options style (files ++ listed report all tally ∷ []) new) (sym (append-nil before))
      (HasTold-shown contents held options style (files ++ listed report before tally ∷ []) old new shown has);
}

pub TellsLines-shown : {W : Type 0} (contents : W → Option (List ℕ)) (lines : List FeatureLine) (old middle new : Run W)
    → TellsLines contents lines old middle → IsShown contents middle new → TellsLines contents lines old new
TellsLines-shown contents lines old middle new tells shown = record {
  tells = λ held options style files report before tally has.
      HasTold-shown contents held options style (files ++ listed report (before ++ lines) tally ∷ []) middle new shown
      (tells.tells held options style files report before tally has);
}

-- a file was told, its features were counted, and then lines of them were told
pub TellsFile-listed : {W : Type 0} (contents : W → Option (List ℕ)) (report : Report) (lines : List FeatureLine) (tally : Tally)
    (old middle counted new : Run W)
    → (old.options.every ≡ Every.Nothing → ⊥) → TellsFile contents (judged report) old middle → HasCounted tally middle counted
    → TellsLines contents lines counted new
    → TellsFile contents (listed report lines tally) old new
TellsFile-listed contents report lines tally old middle counted new asked first counts second = record {
  tells = λ held options style files has.
      let then = first.tells held options style files has in
      let all = files ++ listed report [] tally ∷ [] in
      second.tells held options style files report [] tally (record {
        options_are = counts.options ∙ then.options_are;
        style_is = counts.style ∙ then.style_is;
        outcome = counts.outcome ∙ (then.outcome ∙ outcomes-are options files (judged report) (listed report [] tally) refl);
        summary = subst (λ (summary : Summary). Counts summary (map finding_in all)) (sym counts.summary)
            (subst (Counts middle.summary) (findings-are files (judged report) (listed report [] tally) refl) then.summary);
        tally = subst (IsTotal counted.tally) (sym (tallies-append files (listed report [] tally ∷ [])))
            (counts.adds (tallies_in files) (subst (IsTotal middle.tally) (tallies-none files (judged report) refl) then.tally));
        written = then.written;
        files_told = AddsFiles-as options style files report tally (begun options.format) then.written
            (λ none. asked (ap (λ (o : Options). o.every) has.options_are ∙ none)) then.files_told;
        out = subst (λ out. Appends held (contents out) then.written.bytes) (sym counts.out) then.out;
        first = ap (λ (log : Log). log.is_first) counts.log ∙ then.first;
        unread = ap (λ (log : Log). log.unread.items) counts.log ∙ then.unread;
        line = ap (λ (line : Vec ℕ Global). line.items) counts.line ∙ then.line;
      });
}

-- ---- lines of notes, one by one

pub AreEntriesOf-more : (Right : Entry → Type 0) (name : List ℕ) (notes : List Note) (lines : List FeatureLine) (note : Note) (line : FeatureLine)
    → AreEntriesOf Right name notes lines → IsEntryOf Right name note line → AreEntriesOf Right name (notes ++ note ∷ []) (lines ++ line ∷ [])
AreEntriesOf-more Right name [] [] note line are is = (is, tt)
AreEntriesOf-more Right name [] (first ∷ rest) note line are is = absurd are
AreEntriesOf-more Right name (one ∷ more) [] note line are is = absurd are
AreEntriesOf-more Right name (one ∷ more) (first ∷ rest) note line (here, others) is = (here, AreEntriesOf-more Right name more rest note line others is)

-- nothing is told yet
pub none-told : {W : Type 0} (contents : W → Option (List ℕ)) (Right : Entry → Type 0) (name : List ℕ) (run : Run W)
    → (lines : List FeatureLine) × AreEntriesOf Right name [] lines × TellsLines contents lines run run
none-told contents Right name run = (
  [],
  tt,
  TellsLines-none contents run run
      (record {
        same = record { options = refl; style = refl; outcome = refl; summary = refl; tally = refl };
        log = refl;
        line = refl;
        out =
            Keeps-refl (contents run.out);
      }),
)

-- a note more is told
pub more-told : {W : Type 0} (contents : W → Option (List ℕ)) (Right : Entry → Type 0) (name : List ℕ) (notes : List Note) (i : ℕ) (d : Note)
    (line : FeatureLine) (old middle new : Run W) → i < length notes
    → (lines : List FeatureLine) × AreEntriesOf Right name (take i notes) lines × TellsLines contents lines old middle
    → IsEntryOf Right name (get_or notes i d) line → TellsLines contents (line ∷ []) middle new
    → (lines : List FeatureLine) × AreEntriesOf Right name (take (i + 1) notes) lines × TellsLines contents lines old new
more-told contents Right name notes i d line old middle new within (lines, are, tells) is told = (
  lines ++ line ∷ [],
  subst (λ (ns : List Note). AreEntriesOf Right name ns (lines ++ line ∷ [])) (sym (take_more notes i d within))
      (AreEntriesOf-more Right name (take i notes) lines (get_or notes i d) line are is),
  TellsLines-then contents lines (line ∷ []) old middle new tells told,
)

-- all are told, and then how many others there are
pub all-told : {W : Type 0} (contents : W → Option (List ℕ)) (Right : Entry → Type 0) (name : List ℕ) (notes : List Note) (count : ℕ) (old middle new : Run W)
    → (lines : List FeatureLine) × AreEntriesOf Right name notes lines × TellsLines contents lines old middle
    → TellsLines contents (others_of name (count - length notes)) middle new
    → (lines : List FeatureLine) × AreLinesOf Right name notes count lines × TellsLines contents lines old new
all-told contents Right name notes count old middle new (lines, are, tells) others = (
  lines ++ others_of name (count - length notes),
  record { entries = lines; are = are; all = refl },
  TellsLines-then contents lines (others_of name (count - length notes)) old middle new tells others,
)

pub whole-told : {W : Type 0} (contents : W → Option (List ℕ)) (Right : Entry → Type 0) (name : List ℕ) (notes : List Note) (i : ℕ) (old new : Run W)
    → length notes ≤ i
    → (lines : List FeatureLine) × AreEntriesOf Right name (take i notes) lines × TellsLines contents lines old new
    → (lines : List FeatureLine) × AreEntriesOf Right name notes lines × TellsLines contents lines old new
whole-told contents Right name notes i old new whole (lines, are, tells) =
    (lines, subst (λ (ns : List Note). AreEntriesOf Right name ns lines) (take_all i notes whole) are, tells)

-- the call begins where nothing of what is told has changed
pub TellsLines-after : {W : Type 0} (contents : W → Option (List ℕ)) (lines : List FeatureLine) (old middle new : Run W) → IsShown contents old middle
    → TellsLines contents lines middle new → TellsLines contents lines old new
TellsLines-after contents lines old middle new shown tells = record {
  tells = λ held options style files report before tally has.
      tells.tells held options style files report before tally
      (HasTold-shown contents held options style (files ++ listed report before tally ∷ []) old middle shown has);
}

-- what is asked of the features of a file is asked at all
pub asked-every : (options : Options) (reading : Reading) (asked : Asked) → asked_when reading (asked_in options) ≡ Some asked → options.every ≡ Every.Nothing
    → ⊥
asked-every options reading asked is nothing = by-reading reading (asked_in options) is (ap (λ (every : Every). asked_by every options.most) nothing)
  where
    by-reading : (reading : Reading) (given : Option Asked) → asked_when reading given ≡ Some asked → given ≡ None → ⊥
    by-reading Reading.Text given is none = none-some asked (sym none ∙ is)
    by-reading Reading.Quick given is none = none-some asked is
    by-reading Reading.Sequence given is none = none-some asked (sym none ∙ is)
    by-reading Reading.Lines given is none = none-some asked (sym none ∙ is)

-- nothing is asked of features where only yes or no is asked
pub asked-slowly : (reading : Reading) (given : Option Asked) (asked : Asked) → asked_when reading given ≡ Some asked → reading ≡ Reading.Quick → ⊥
asked-slowly reading given asked is quick = none-some asked (sym (ap (λ (r : Reading). asked_when r given) quick) ∙ is)

-- notes are given exactly of what is a text
pub text-noted : (b : Bool) → true ≡ not b → b ≡ false
text-noted true is = absurd (true≢false is)
text-noted false is = refl

pub refused-unnoted : (b : Bool) → false ≡ not b → b ≡ true
refused-unnoted true is = refl
refused-unnoted false is = absurd (true≢false (sym is))

pub others_of-some : (name : List ℕ) (count : ℕ) → 0 < count → others_of name count ≡ others_line name count ∷ []
others_of-some name zero some = absurd (omega (arith, some))
others_of-some name (suc count) some = refl

-- ---- notes of several readings

AreEntriesOf-then : (Right : Entry → Type 0) (name : List ℕ) (notes more : List Note) (lines others : List FeatureLine)
    → AreEntriesOf Right name notes lines → AreEntriesOf Right name more others → AreEntriesOf Right name (notes ++ more) (lines ++ others)
AreEntriesOf-then Right name [] more [] others are then = then
AreEntriesOf-then Right name [] more (first ∷ rest) others are then = absurd are
AreEntriesOf-then Right name (one ∷ notes) more [] others are then = absurd are
AreEntriesOf-then Right name (one ∷ notes) more (first ∷ rest) others (here, are) then =
    (here, AreEntriesOf-then Right name notes more rest others are then)

pub both-told : {W : Type 0} (contents : W → Option (List ℕ)) (Right : Entry → Type 0) (name : List ℕ) (notes more : List Note) (old middle new : Run W)
    → (lines : List FeatureLine) × AreEntriesOf Right name notes lines × TellsLines contents lines old middle
    → (lines : List FeatureLine) × AreEntriesOf Right name more lines × TellsLines contents lines middle new
    → (lines : List FeatureLine) × AreEntriesOf Right name (notes ++ more) lines × TellsLines contents lines old new
both-told contents Right name notes more old middle new (lines, are, tells) (others, then, others_told) = (
  lines ++ others,
  AreEntriesOf-then Right name notes more lines others are then,
  TellsLines-then contents lines others old middle new tells others_told,
)

-- how many others there are, where the notes that are told are counted as far as a u64 goes
pub others-left : (count told : ℕ) (held more : List Note) → count < 2 ^ 64 → told ≡ u64_saturate (length held + length more)
    → count - told ≡ count - length (held ++ more)
others-left count told held more small is = omega (arith, small, is, length-append held more)

pub joined-more : (further : List (List Note)) (notes : List Note) → joined (further ++ notes ∷ []) ≡ joined further ++ notes
joined-more [] notes = append-nil notes
joined-more (first ∷ more) notes = ap (λ (ns : List Note). first ++ ns) (joined-more more notes) ∙ sym (append_assoc first (joined more) notes)

-- a piece of a further reading more
pub AreFurther-more : (framing : Option Framing) (asked : Asked) (most : ℕ) (limits : Allowed) (text : Option (List ℕ)) (before : ℕ)
    (further : List (List Note)) (notes : List Note) → AreFurther framing asked most limits text before further
    → AreNextBy framing (asked_after asked most (u64_saturate (before + length (joined further)))) limits text notes
    → AreFurther framing asked most limits text before (further ++ notes ∷ [])
AreFurther-more framing asked most limits text before [] notes are next =
    let same : before + 0 ≡ before = omega arith in
    (subst (λ (n : ℕ). AreNextBy framing (asked_after asked most (u64_saturate n)) limits text notes) same next, tt)
AreFurther-more framing asked most limits text before (first ∷ more) notes (here, are) next =
    let same : before + length (first ++ joined more) ≡ before + length first + length (joined more) = omega (arith, length-append first (joined more)) in (
      here,
      AreFurther-more framing asked most limits text (before + length first) more notes are
          (subst (λ (n : ℕ). AreNextBy framing (asked_after asked most (u64_saturate n)) limits text notes) same next),
    )

-- what is told after some pieces of a further reading
pub record IsTold {W : Type 0} (contents : W → Option (List ℕ)) (Right : Entry → Type 0) (name : List ℕ) (framing : Option Framing) (asked : Asked)
    (most : ℕ) (limits : Allowed) (text : Option (List ℕ)) (held told : ℕ) (old new : Run W) : Type 0 where
  pub further : List (List Note)
  pub found : AreFurther framing asked most limits text held further
  pub count : told ≡ u64_saturate (held + length (joined further))
  pub lines : List FeatureLine
  pub are : AreEntriesOf Right name (joined further) lines
  pub tells : TellsLines contents lines old new

pub IsTold-none : {W : Type 0} (contents : W → Option (List ℕ)) (Right : Entry → Type 0) (name : List ℕ) (framing : Option Framing) (asked : Asked)
    (most : ℕ) (limits : Allowed) (text : Option (List ℕ)) (held : ℕ) (run : Run W) → held < 2 ^ 64
    → IsTold contents Right name framing asked most limits text held held run run
IsTold-none contents Right name framing asked most limits text held run small =
    let (lines, are, tells) = none-told contents Right name run in
    record { further = []; found = tt; count = omega (arith, small); lines = lines; are = are; tells = tells }

pub IsTold-more : {W : Type 0} (contents : W → Option (List ℕ)) (Right : Entry → Type 0) (name : List ℕ) (framing : Option Framing) (asked : Asked)
    (most : ℕ) (limits : Allowed) (text : Option (List ℕ)) (held told last : ℕ) (notes : List Note) (old middle new : Run W)
    → IsTold contents Right name framing asked most limits text held told old middle
    → AreNextBy framing (asked_after asked most told) limits text notes → last ≡ length notes
    → (lines : List FeatureLine) × AreEntriesOf Right name notes lines × TellsLines contents lines middle new
    → IsTold contents Right name framing asked most limits text held (u64_saturate (told + last)) old new
IsTold-more contents Right name framing asked most limits text held told last notes old middle new before next count more =
    let all = joined before.further in
    let longer = joined-more before.further notes in
    let (lines, are, tells) = both-told contents Right name all notes old middle new (before.lines, before.are, before.tells) more in
    let is : told ≡ u64_saturate (held + length all) = before.count in
    record {
      further = before.further ++ notes ∷ [];
      found = AreFurther-more framing asked most limits text held before.further notes before.found
          (subst (λ (n : ℕ). AreNextBy framing (asked_after asked most n) limits text notes) is next);
      count = omega (arith, is, count, length-append all notes, ap (λ (ns : List Note). length ns) longer);
      lines = lines;
      are = subst (λ (ns : List Note). AreEntriesOf Right name ns lines) (sym longer) are;
      tells = tells;
    }

-- the notes that were held, those of a further reading, and how many others there are
pub all-placed : {W : Type 0} (contents : W → Option (List ℕ)) (reading : Reading) (asked : Asked) (most : ℕ) (limits : Allowed) (name : List ℕ)
    (text : Option (List ℕ)) (held : List Note) (count told : ℕ) (old middle last new : Run W) → count < 2 ^ 64
    → (lines : List FeatureLine) × AreEntriesOf (IsPlaced (framing_in reading) text) name held lines × TellsLines contents lines old middle
    → ToldFurther contents reading asked (most_of most) limits name text (length held) told middle last
    → TellsLines contents (others_of name (count - told)) last new
    → (lines : List FeatureLine) × ArePlacedLines reading asked most limits name text held count lines × TellsLines contents lines old new
all-placed contents reading asked most limits name text held count told old middle last new small first (further, found, only, is, more) others =
    let right = IsPlaced (framing_in reading) text in
    let all = held ++ joined further in
    let (lines, are, tells) = all-told contents right name all count old last new
    (both-told contents right name held (joined further) old middle last first more)
    (subst (λ (n : ℕ). TellsLines contents (others_of name n) last new) (others-left count told held (joined further) small is) others) in
    (lines, (further, found, only, are), tells)

-- what stands by one name of a file's bytes, by the other
pub StandBy-then : (framing : Option Framing) (text now : Option (List ℕ)) (old new : Cursors) → now ≡ text
    → (StandBy framing now old → StandBy framing now new) → StandBy framing text old → StandBy framing text new
StandBy-then framing text now old new same then stand =
    subst (λ (t : Option (List ℕ)). StandBy framing t new) same (then (subst (λ (t : Option (List ℕ)). StandBy framing t old) (sym same) stand))
