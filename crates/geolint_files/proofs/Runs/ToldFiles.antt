-- A run that has told one file more, or some.
use Rattle.geolint_files.proofs.Common.{◌≡◌, ◌++◌, ◌∷◌, [], List, ℕ, refl, sym, subst, ap, ◌∙◌, Bool, map, Option, Some, None, Vec, Global, Finding, Report}
use Rattle.geolint_files.proofs.Common.{Log, Options, Summary, Counts, Outcome}
use Rattle.std.proofs.Common.{append_assoc, append-nil}
use Rattle.std.specs.Prelude.{Result, Ok, Err, IsSomeAnd}
use Rattle.std.specs.Io.KnownBytes.{Appends, Keeps}
use Rattle.std.specs.Result.{OnOk}
use Rattle.std.proofs.KnownBytes.{Appends-trans}
use Rattle.std.proofs.lemmas.List.{map-append}
use Rattle.geolint_report.specs.declared.every.tally.Tally.{Tally}
use Rattle.geolint_report.specs.declared.sites.Sites.{Sites}
use Rattle.geolint_report.specs.Tallies.{IsTotal}
use Rattle.report_forms.specs.declared.formats.lines.Style.{Style}
use Rattle.geolint_files.specs.declared.run.Run.{Run}
use Rattle.geolint_files.specs.Outcome.{worst}
use Rattle.geolint_files.specs.Internal.RunState.{HasTold, TellsFile, TellsFiles, Unchanged}
use Rattle.geolint_files.specs.Run.{ToldFile, judged, not_read, listed, finding_in, tallies_in, outcome_in, Written, AddsFile, AddsFiles, begun}

pub on_ok : {T E P : Type 0} (r : Result T E) → P → OnOk r P
on_ok (Ok value) holds = holds
on_ok (Err error) holds = tt

pub kept-Appends : (a b c : Option (List ℕ)) (bytes : List ℕ) → Keeps a b → Appends b c bytes → Appends a c bytes
kept-Appends None b c bytes kept adds = tt
kept-Appends (Some xs) None c bytes kept adds = absurd kept
kept-Appends (Some xs) (Some ys) None bytes kept adds = absurd adds
kept-Appends (Some xs) (Some ys) (Some zs) bytes kept adds = adds ∙ ap (λ (held : List ℕ). held ++ bytes) kept

AddsFiles-more : (options : Options) (style : Style) (files : List ToldFile) (file : ToldFile) (a b c : Written)
    → AddsFiles options style files a b → AddsFile options style file b c → AddsFiles options style (files ++ file ∷ []) a c
AddsFiles-more options style [] file a b c none adds = (c, subst (λ (before : Written). AddsFile options style file before c) none adds, refl)
AddsFiles-more options style (first ∷ more) file a b c (middle, here, rest) adds = (middle, here, AddsFiles-more options style more file middle b c rest adds)

-- ---- what is counted of features and records

pub tallies-append : (files more : List ToldFile) → tallies_in (files ++ more) ≡ tallies_in files ++ tallies_in more
tallies-append [] more = refl
tallies-append (judged report ∷ files) more = tallies-append files more
tallies-append (not_read name reason ∷ files) more = tallies-append files more
tallies-append (listed report lines tally ∷ files) more = ap (λ (tallies : List Tally). tally ∷ tallies) (tallies-append files more)

-- a file more, of which nothing is counted
pub tallies-none : (files : List ToldFile) (file : ToldFile) → tallies_in (file ∷ []) ≡ [] → tallies_in (files ++ file ∷ []) ≡ tallies_in files
tallies-none files file none =
    tallies-append files (file ∷ []) ∙ (ap (λ (tallies : List Tally). tallies_in files ++ tallies) none ∙ append-nil (tallies_in files))

-- what a call did that told a file: to the counts, and to what is written
pub record AddsOne {W : Type 0} (contents : W → Option (List ℕ)) (file : ToldFile) (old new : Run W) : Type 0 where
  pub options : new.options ≡ old.options
  pub style : new.style ≡ old.style
  pub outcome : (outcomes : List Outcome) → old.outcome ≡ worst outcomes → new.outcome ≡ worst (outcomes ++ outcome_in old.options file ∷ [])
  pub summary : (files : List (Option Finding)) → Counts old.summary files → Counts new.summary (files ++ finding_in file ∷ [])
  pub tally : new.tally ≡ old.tally
  pub none : tallies_in (file ∷ []) ≡ []
  pub told : List ℕ
  pub out : old.line.items ≡ [] → Appends (contents old.out) (contents new.out) told
  pub line : new.line.items ≡ []
  pub adds : old.line.items ≡ [] → (bytes : List ℕ) → AddsFile old.options old.style file
      (record { bytes = bytes; is_first = old.log.is_first; unread = old.log.unread.items })
      (record { bytes = bytes ++ told; is_first = new.log.is_first; unread = new.log.unread.items })

AddsFile-at : (options given : Options) (style asked : Style) (file : ToldFile) (before after : Written) (is_first : Bool) (unread : List ℕ)
    → given ≡ options → asked ≡ style → is_first ≡ before.is_first → unread ≡ before.unread
    → AddsFile given asked file (record { bytes = before.bytes; is_first = is_first; unread = unread }) after → AddsFile options style file before after
AddsFile-at options given style asked file before after is_first unread options_are style_is first unread_is adds =
    subst (λ (o : Options). AddsFile o style file before after) options_are
    (subst (λ (s : Style). AddsFile given s file before after) style_is
    (subst (λ (f : Bool). AddsFile given asked file (record { bytes = before.bytes; is_first = f; unread = before.unread }) after) first
    (subst (λ (u : List ℕ). AddsFile given asked file (record { bytes = before.bytes; is_first = is_first; unread = u }) after) unread_is adds)))

pub TellsFile-of : {W : Type 0} (contents : W → Option (List ℕ)) (file : ToldFile) (old new : Run W) → AddsOne contents file old new
    → TellsFile contents file old new
TellsFile-of contents file old new one = record {
  tells = λ held options style files has.
      let before = has.written in
      let outcomes = map (outcome_in options) files in
      record {
        options_are = one.options ∙ has.options_are;
        style_is = one.style ∙ has.style_is;
        outcome = subst (λ (given : Options). new.outcome ≡ worst (outcomes ++ outcome_in given file ∷ [])) has.options_are (one.outcome outcomes has.outcome)
            ∙ ap worst (sym (map-append (outcome_in options) files (file ∷ [])));
        summary = subst (Counts new.summary) (sym (map-append finding_in files (file ∷ []))) (one.summary (map finding_in files) has.summary);
        tally = subst (IsTotal new.tally) (sym (tallies-none files file one.none))
            (subst (λ (tally : Tally). IsTotal tally (tallies_in files)) (sym one.tally) has.tally);
        written = record { bytes = before.bytes ++ one.told; is_first = new.log.is_first; unread = new.log.unread.items };
        files_told = AddsFiles-more options style files file (begun options.format) before _ has.files_told
            (AddsFile-at options old.options style old.style file before _ old.log.is_first old.log.unread.items has.options_are has.style_is has.first
            has.unread (one.adds has.line before.bytes));
        out = Appends-trans held (contents old.out) (contents new.out) before.bytes one.told has.out (one.out has.line);
        first = refl;
        unread = refl;
        line = one.line;
      };
}

-- ---- some more

pub HasTold-moved : {W : Type 0} (contents : W → Option (List ℕ)) (held : Option (List ℕ)) (options : Options) (style : Style) (files : List ToldFile)
    (old new : Run W)
    → Unchanged old new → HasTold contents held options style files old → HasTold contents held options style files new
HasTold-moved contents held options style files old new same has = record {
  options_are = same.same.options ∙ has.options_are;
  style_is = same.same.style ∙ has.style_is;
  outcome = same.same.outcome ∙ has.outcome;
  summary = subst (λ (summary : Summary). Counts summary (map finding_in files)) (sym same.same.summary) has.summary;
  tally = subst (λ (tally : Tally). IsTotal tally (tallies_in files)) (sym same.same.tally) has.tally;
  written = has.written;
  files_told = has.files_told;
  out = subst (λ out. Appends held (contents out) has.written.bytes) (sym same.out) has.out;
  first = ap (λ (log : Log). log.is_first) same.log ∙ has.first;
  unread = ap (λ (log : Log). log.unread.items) same.log ∙ has.unread;
  line = ap (λ (line : Vec ℕ Global). line.items) same.line ∙ has.line;
}

-- what a call told after one that changed nothing of that
pub TellsFile-after : {W : Type 0} (contents : W → Option (List ℕ)) (file : ToldFile) (old middle new : Run W)
    → Unchanged old middle → TellsFile contents file middle new → TellsFile contents file old new
TellsFile-after contents file old middle new same told = record {
  tells = λ held options style files has.
      told.tells held options style files (HasTold-moved contents held options style files old middle same has);
}

pub TellsFiles-none : {W : Type 0} (contents : W → Option (List ℕ)) (old new : Run W) → Unchanged old new → TellsFiles contents [] old new
TellsFiles-none contents old new same = record {
  tells = λ held options style files has.
      subst (λ (all : List ToldFile). HasTold contents held options style all new) (sym (append-nil files))
      (HasTold-moved contents held options style files old new same has);
}

pub TellsFiles-one : {W : Type 0} (contents : W → Option (List ℕ)) (file : ToldFile) (old new : Run W) → TellsFile contents file old new
    → TellsFiles contents (file ∷ []) old new
TellsFiles-one contents file old new told = record { tells = told.tells }

pub TellsFiles-then : {W : Type 0} (contents : W → Option (List ℕ)) (more rest : List ToldFile) (old middle new : Run W)
    → TellsFiles contents more old middle → TellsFiles contents rest middle new → TellsFiles contents (more ++ rest) old new
TellsFiles-then contents more rest old middle new first second = record {
  tells = λ held options style files has.
      subst (λ (all : List ToldFile). HasTold contents held options style all new) (append_assoc files more rest)
      (second.tells held options style (files ++ more) (first.tells held options style files has));
}

pub unchanged : {W : Type 0} (run : Run W) → Unchanged run run
unchanged run = record { same = record { options = refl; style = refl; outcome = refl; summary = refl; tally = refl }; out = refl; log = refl; line = refl }

-- a file was told with the sites that were sought
pub sought-told : {W : Type 0} {contents : W → Option (List ℕ)} {report : Report} {old new : Run W} (name : List ℕ) (finding : Finding)
    (Sought : Sites → Type 0)
    → TellsFile contents (judged report) old new → report.name.now ≡ name → report.finding ≡ finding → IsSomeAnd report.sites (λ sites. Sought sites.now)
    → (told : Report) × (told.name.now ≡ name) × (told.finding ≡ finding) × IsSomeAnd told.sites (λ sites. Sought sites.now)
    × TellsFile contents (judged told) old new
sought-told {report = report} name finding Sought tells name_is finding_is sought = (report, name_is, finding_is, sought, tells)
