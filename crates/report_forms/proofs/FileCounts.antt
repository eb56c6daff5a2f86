-- Lemmas on the counts of files.
use Rattle.report_forms.proofs.Common.{arith, refl, ◌&&◌, length, ◌≡◌, ◌<◌, ◌+◌, ℕ, Bool, true, false, List, [], ◌∷◌, ◌++◌, get_or, ap, sym, ◌∙◌}
use Rattle.report_forms.proofs.Common.{kinds, Kind, Cause, Code}
use Rattle.std.specs.Prelude.{cond, is_none, is_some}
use Rattle.std.specs.Io.Iter.{u64_saturate}
use Rattle.std.specs.List.{count_by}
use Rattle.std.proofs.lemmas.List.Sums.{sum_by-cons}
use Rattle.std.proofs.Common.{not, nat_le, ◌≢◌, inl, inr, map, ◌≤◌}
use Rattle.std.proofs.Common.{Option, Some, None}
use Rattle.std.proofs.lemmas.Bool.Decides.{nat_tests, eqb_tells}
use Rattle.std.proofs.lemmas.List.{get_or-map}
use Rattle.std.proofs.lemmas.List.FromFn.{get_or-range_with_len}
use Rattle.std.proofs.Math.Bool.{and-false, or-false}
use Rattle.gj_coords.specs.Warnings.{kind_number}
use Rattle.gj_coords.specs.declared.warnings.Warnings.{Warnings}
use Rattle.gj_coords.specs.Internal.KeptWarnings.{none_in, first_in}
use Rattle.gj_coords.specs.Internal.ByKind.{kind_range, one_kind}
use Rattle.gj_rules.specs.declared.sequence.verdict.SeqVerdict.{SeqVerdict}
use Rattle.gj_rules.specs.declared.verdict.Verdict.TheVariants.{Valid, Broken, NotJson}
use Rattle.geolint_report.specs.declared.judge.Finding.{Finding}
use Rattle.geolint_report.specs.declared.report.Told.{Told}
use Rattle.geolint_report.specs.Finding.{fault_of, warnings_of}
use Rattle.geolint_report.specs.Texts.{is_cause}
use Rattle.report_forms.specs.declared.summary.Summary.{Summary}
use Rattle.report_forms.specs.Counts.{of_fault, of_warnings, is_valid, is_warned, is_broken, is_refused, is_not_valid, warns, tells}
use Rattle.geolint_report.specs.Slots.{same, slot_of, more}
use Rattle.geolint_report.proofs.CodeSlots.{below, above, more-counted}
use Rattle.report_forms.specs.FileCounts.{Counts}
use Rattle.report_forms.specs.Internal.AddedFiles.{Adds}

-- ---- the kinds of warning in turn

-- the kind is told, and is among the first
abbrev pub until : ℕ → Warnings → Code → Bool
until i warnings (Code.Kind kind) = nat_le (kind_number kind) i && is_some (first_in kind warnings)
until i warnings code = false

pub until-none : (warnings : Warnings) (code : Code) → until 0 warnings code ≡ false
until-none warnings (Code.Kind kind) =
    ap (λ (b : Bool). b && is_some (first_in kind warnings)) (above (kind_number kind) 0 (omega (arith, (kind_range kind).0)))
until-none warnings other = refl

pub until-all : (i : ℕ) (warnings : Warnings) (code : Code) → length kinds ≤ i → until i warnings code ≡ warns code warnings
until-all i warnings (Code.Kind kind) all =
    ap (λ (b : Bool). b && is_some (first_in kind warnings)) (below (kind_number kind) i (omega (arith, all, (kind_range kind).1)))
until-all i warnings other all = refl

later : (m i : ℕ) → m ≢ i + 1 → nat_le m (i + 1) ≡ nat_le m i
later m i other = grind (arith, nat_tests, other)

pub until-more : (i : ℕ) (kind : Kind) (warnings : Warnings) (other : Code) (n : ℕ) → kind_number kind ≡ i + 1 → is_some (first_in kind warnings) ≡ true
    → more (same other (Code.Kind kind)) (more (until i warnings other) n) ≡ more (until (i + 1) warnings other) n
until-more i kind warnings (Code.Rule rule) n here has = refl
until-more i kind warnings (Code.Cause cause) n here has = refl
until-more i kind warnings Code.NotValid n here has = refl
until-more i kind warnings (Code.Kind j) n here has = elim (eqb_tells (kind_number j) (kind_number kind)) [
  | inl e ↦ (let is = one_kind j kind e.0 in
      let told : is_some (first_in j warnings) ≡ true = ap (λ (k : Kind). is_some (first_in k warnings)) is ∙ has in
      ap (λ (t : Bool). more t (more (nat_le (kind_number j) i && is_some (first_in j warnings)) n)) e.0
      ∙ (ap (λ (t : Bool). more true (more (t && is_some (first_in j warnings)) n)) (above (kind_number j) i (omega (arith, e.1, here)))
      ∙ sym (ap (λ (t : Bool). more (t && is_some (first_in j warnings)) n) (below (kind_number j) (i + 1) (omega (arith, e.1, here)))
      ∙ ap (λ (t : Bool). more t n) told)))
  | inr e ↦ (ap (λ (t : Bool). more t (more (nat_le (kind_number j) i && is_some (first_in j warnings)) n)) e.0
      ∙ ap (λ (t : Bool). more (t && is_some (first_in j warnings)) n) (sym (later (kind_number j) i (λ same. e.1 (same ∙ sym here)))))
]

pub until-same : (i : ℕ) (kind : Kind) (warnings : Warnings) (other : Code) → kind_number kind ≡ i + 1 → is_some (first_in kind warnings) ≡ false
    → until (i + 1) warnings other ≡ until i warnings other
until-same i kind warnings (Code.Rule rule) here has = refl
until-same i kind warnings (Code.Cause cause) here has = refl
until-same i kind warnings Code.NotValid here has = refl
until-same i kind warnings (Code.Kind j) here has = elim (eqb_tells (kind_number j) (kind_number kind)) [
  | inl e ↦ (let is = one_kind j kind e.0 in
      let none : is_some (first_in j warnings) ≡ false = ap (λ (k : Kind). is_some (first_in k warnings)) is ∙ has in
      ap (λ (t : Bool). nat_le (kind_number j) (i + 1) && t) none ∙ (and-false (nat_le (kind_number j) (i + 1))
      ∙ sym (ap (λ (t : Bool). nat_le (kind_number j) i && t) none ∙ and-false (nat_le (kind_number j) i))))
  | inr e ↦ ap (λ (t : Bool). t && is_some (first_in j warnings)) (later (kind_number j) i (λ same. e.1 (same ∙ sym here)))
]

pub kinds-at : (i : ℕ) (d : Kind) → i < length kinds → kind_number (get_or kinds i d) ≡ i + 1
kinds-at i d within =
    let number : get_or (map kind_number kinds) i 0 ≡ 1 + i = get_or-range_with_len 1 (length kinds) i 0 within in
    sym (get_or-map kind_number kinds i d 0 within) ∙ (number ∙ omega arith)

pub Adds-kind : (old mid new : Summary) (i : ℕ) (kind : Kind) (warnings : Warnings) → kind_number kind ≡ i + 1 → is_some (first_in kind warnings) ≡ true
    → Adds old mid false false false false false (until i warnings) → Adds mid new false false false false false (λ other. same other (Code.Kind kind))
    → Adds old new false false false false false (until (i + 1) warnings)
Adds-kind old mid new i kind warnings here has before adds = record {
  valid_is = adds.valid_is ∙ before.valid_is;
  warned_is = adds.warned_is ∙ before.warned_is;
  broken_is = adds.broken_is ∙ before.broken_is;
  refused_is = adds.refused_is ∙ before.refused_is;
  not_valid_is = adds.not_valid_is ∙ before.not_valid_is;
  unread_is = adds.unread_is ∙ before.unread_is;
  codes_are = λ code small. adds.codes_are code small ∙ (ap (λ (n : ℕ). more (same code (Code.Kind kind)) n) (before.codes_are code small)
      ∙ until-more i kind warnings code (get_or old.counts (slot_of code) 0) here has);
}

pub Adds-none : (old mid : Summary) (i : ℕ) (kind : Kind) (warnings : Warnings) → kind_number kind ≡ i + 1 → is_some (first_in kind warnings) ≡ false
    → Adds old mid false false false false false (until i warnings) → Adds old mid false false false false false (until (i + 1) warnings)
Adds-none old mid i kind warnings here has before = record {
  valid_is = before.valid_is;
  warned_is = before.warned_is;
  broken_is = before.broken_is;
  refused_is = before.refused_is;
  not_valid_is = before.not_valid_is;
  unread_is = before.unread_is;
  codes_are = λ code small. before.codes_are code small
      ∙ ap (λ (t : Bool). more t (get_or old.counts (slot_of code) 0)) (sym (until-same i kind warnings code here has));
}

-- a file is of a kind, and then codes of it are told
pub Adds-after : (old mid new : Summary) (valid warned broken refused : Bool) (told : Code → Bool) → mid.valid ≡ more valid old.valid
    → mid.warned ≡ more warned old.warned
    → mid.broken ≡ more broken old.broken → mid.refused ≡ more refused old.refused → mid.not_valid ≡ old.not_valid → mid.unread ≡ old.unread
    → mid.counts ≡ old.counts
    → Adds mid new false false false false false told → Adds old new valid warned broken refused false told
Adds-after old mid new valid warned broken refused told v w b r n u c adds = record {
  valid_is = adds.valid_is ∙ v;
  warned_is = adds.warned_is ∙ w;
  broken_is = adds.broken_is ∙ b;
  refused_is = adds.refused_is ∙ r;
  not_valid_is = adds.not_valid_is ∙ n;
  unread_is = adds.unread_is ∙ u;
  codes_are = λ code small. adds.codes_are code small ∙ ap (λ (counts : List ℕ). more (told code) (get_or counts (slot_of code) 0)) c;
}

pub no-cause : (code : Code) → ((cause : Cause) → code ≡ Code.Cause cause → ⊥) → is_cause code ≡ false
no-cause (Code.Rule rule) none = refl
no-cause (Code.Kind kind) none = refl
no-cause (Code.Cause cause) none = absurd (none cause refl)
no-cause Code.NotValid none = refl

-- ---- one file more

pub Counts-more : (old new : Summary) (files : List (Option Finding)) (file : Option Finding) (valid warned broken refused not_valid : Bool)
    (told : Code → Bool)
    → Counts old files → Adds old new valid warned broken refused not_valid told → is_none file ≡ false
    → is_valid file ≡ valid → is_warned file ≡ warned → is_broken file ≡ broken → is_refused file ≡ refused → is_not_valid file ≡ not_valid
    → ((code : Code) → tells code file ≡ told code)
    → Counts new (files ++ file ∷ [])
Counts-more old new files file valid warned broken refused not_valid told counts adds read v w b r n t = record {
  valid = more-counted is_valid files file valid old.valid new.valid v counts.valid adds.valid_is;
  warned = more-counted is_warned files file warned old.warned new.warned w counts.warned adds.warned_is;
  broken = more-counted is_broken files file broken old.broken new.broken b counts.broken adds.broken_is;
  refused = more-counted is_refused files file refused old.refused new.refused r counts.refused adds.refused_is;
  not_valid = more-counted is_not_valid files file not_valid old.not_valid new.not_valid n counts.not_valid adds.not_valid_is;
  unread = more-counted (λ (f : Option Finding). is_none f) files file false old.unread new.unread read counts.unread adds.unread_is;
  codes = λ code small. more-counted (tells code) files file (told code) (get_or old.counts (slot_of code) 0) (get_or new.counts (slot_of code) 0) (t code)
      (counts.codes code small) (adds.codes_are code small);
}

-- a file that has a fault is not valid
exclusive : (finding : Finding) (told : Told) → fault_of finding ≡ Some told → warnings_of finding ≡ None
exclusive (Finding.Text (Valid warnings)) told is = cc
exclusive (Finding.Text (Broken fault)) told is = refl
exclusive (Finding.Text (NotJson fault)) told is = refl
exclusive (Finding.Sequence (SeqVerdict.Valid records warnings)) told is = cc
exclusive other told is = refl

pub Counts-fault : (old new : Summary) (files : List (Option Finding)) (finding : Finding) (told : Told) → fault_of finding ≡ Some told → Counts old files
    → Adds old new false false (not (is_cause told.code)) (is_cause told.code) false (λ other. same other told.code) → Counts new (files ++ Some finding ∷ [])
Counts-fault old new files finding told is counts adds =
    let none = exclusive finding told is in
    Counts-more old new files (Some finding) false false (not (is_cause told.code)) (is_cause told.code) false (λ other. same other told.code) counts adds refl
    (rw none refl) (rw none refl) (rw is refl) (rw is refl) (rw is refl) (λ code. rw (is, none) (or-false (same code told.code)))

pub Counts-valid : (old new : Summary) (files : List (Option Finding)) (finding : Finding) (warnings : Warnings) → fault_of finding ≡ None
    → warnings_of finding ≡ Some warnings → Counts old files
    → Adds old new (none_in warnings) (not (none_in warnings)) false false false (λ code. warns code warnings) → Counts new (files ++ Some finding ∷ [])
Counts-valid old new files finding warnings none is counts adds =
    Counts-more old new files (Some finding) (none_in warnings) (not (none_in warnings)) false false false (λ code. warns code warnings) counts adds refl
    (rw is refl) (rw is refl) (rw none refl) (rw none refl) (rw (none, is) refl) (λ code. rw (none, is) refl)

pub Counts-not_valid : (old new : Summary) (files : List (Option Finding)) (finding : Finding) → fault_of finding ≡ None → warnings_of finding ≡ None
    → Counts old files
    → Adds old new false false false false true (λ code. false) → Counts new (files ++ Some finding ∷ [])
Counts-not_valid old new files finding none is counts adds =
    Counts-more old new files (Some finding) false false false false true (λ code. false) counts adds refl
    (rw is refl) (rw is refl) (rw none refl) (rw none refl) (rw (none, is) refl) (λ code. rw (none, is) refl)

pub Counts-unread : (old : Summary) (files : List (Option Finding)) (unread : ℕ) → unread ≡ more true old.unread → Counts old files
    → Counts (record old { unread = unread }) (files ++ None ∷ [])
Counts-unread old files unread is counts = record {
  valid = more-counted is_valid files None false old.valid old.valid refl counts.valid refl;
  warned = more-counted is_warned files None false old.warned old.warned refl counts.warned refl;
  broken = more-counted is_broken files None false old.broken old.broken refl counts.broken refl;
  refused = more-counted is_refused files None false old.refused old.refused refl counts.refused refl;
  not_valid = more-counted is_not_valid files None false old.not_valid old.not_valid refl counts.not_valid refl;
  unread = more-counted (λ (f : Option Finding). is_none f) files None true old.unread unread refl counts.unread is;
  codes = λ code small. more-counted (tells code) files None false (get_or old.counts (slot_of code) 0) (get_or old.counts (slot_of code) 0) refl
      (counts.codes code small) refl;
}

-- ---- no file

counted : (p : Option Finding → Bool) (file : Option Finding) (rest : List (Option Finding)) (count : ℕ) → count ≡ u64_saturate (count_by p (file ∷ rest))
    → p file ≡ true → count ≡ 0 → ⊥
counted p file rest count is one none =
    let here : ◌≡◌ {A = ℕ} (cond (p file) 1 0) 1 = ap (λ (b : Bool). cond b 1 0) one in
    let all : count_by p (file ∷ rest) ≡ cond (p file) 1 0 + count_by p rest = sum_by-cons (λ (f : Option Finding). cond (p f) 1 0) file rest in
    absurd (omega (arith, is, none, here, all))

-- where each count is 0 there is no file: each file is of one kind
pub none-counted : (summary : Summary) (files : List (Option Finding)) → Counts summary files → summary.valid ≡ 0 → summary.warned ≡ 0 → summary.broken ≡ 0
    → summary.refused ≡ 0 → summary.not_valid ≡ 0 → summary.unread ≡ 0 → files ≡ []
none-counted summary [] counts v w b r n u = refl
none-counted summary (None ∷ rest) counts v w b r n u = absurd (counted (λ (f : Option Finding). is_none f) None rest summary.unread counts.unread refl u)
none-counted summary (Some finding ∷ rest) counts v w b r n u = absurd (by-fault (fault_of finding) (warnings_of finding) refl refl)
  where
    by-cause : (told : Told) (c : Bool) → fault_of finding ≡ Some told → is_cause told.code ≡ c → ⊥
    by-cause told true is c = counted is_refused (Some finding) rest summary.refused counts.refused (ap (of_fault is_cause) is ∙ c) r
    by-cause told false is c =
        counted is_broken (Some finding) rest summary.broken counts.broken (ap (of_fault (λ code. not (is_cause code))) is ∙ ap not c) b

    by-warnings : (warnings : Warnings) (none : Bool) → warnings_of finding ≡ Some warnings → none_in warnings ≡ none → ⊥
    by-warnings warnings true is none = counted is_valid (Some finding) rest summary.valid counts.valid (ap (of_warnings none_in) is ∙ none) v
    by-warnings warnings false is none =
        counted is_warned (Some finding) rest summary.warned counts.warned (ap (of_warnings (λ warnings. not (none_in warnings))) is ∙ ap not none) w

    by-fault : (fault : Option Told) (warnings : Option Warnings) → fault_of finding ≡ fault → warnings_of finding ≡ warnings → ⊥
    by-fault (Some told) warnings is are = by-cause told (is_cause told.code) is refl
    by-fault None (Some warnings) is are = by-warnings warnings (none_in warnings) are refl
    by-fault None None is are = counted is_not_valid (Some finding) rest summary.not_valid counts.not_valid (rw (is, are) refl) n
