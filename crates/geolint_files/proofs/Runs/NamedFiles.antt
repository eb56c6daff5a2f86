-- Which files are told of names.
use Rattle.geolint_files.proofs.Common.{arith, ◌≡◌, ◌-◌, ◌++◌, ◌∷◌, [], List, ℕ, length, refl, sym, subst, ap, ◌∙◌, Bool, map, Option, Some, None, Vec, Global, Finding, Reading}
use Rattle.std.proofs.Common.{true, false, append_assoc, append-nil, reverse, inl, inr, ◌+◌, ◌<◌, ◌≤◌, ◌^◌}
use Rattle.std.specs.Io.Iter.{u64_saturate}
use Rattle.std.specs.Prelude.{Ok, ⊤}
use Rattle.std.proofs.lemmas.List.{map-append, reverse-append, reverse-reverse}
use Rattle.gj_json.specs.Limits.{Allowed}
use Rattle.geolint_report.specs.declared.every.listing.Asked.{Asked}
use Rattle.geolint_report.specs.Left.{NextIn, NextOf}
use Rattle.geolint_report.specs.Listed.{given, names_in}
use Rattle.geolint_report.specs.declared.name_lists.listed.Listed.{Listed}
use Rattle.geolint_report.specs.declared.name_lists.listed.NameEnd.{NameEnd}
use Rattle.geolint_files.specs.Listed.{IsOnceBy, IsTwiceBy}
use Rattle.geolint_files.specs.Named.{AreOf, none_named, file_named, folder_named, not_taken, name_in, given_of, GoesOn, AreOfList}
use Rattle.geolint_files.specs.Run.{ToldFile, judged, not_read, listed}
use Rattle.geolint_files.specs.Walk.{entries_in, is_taken, named_in}
use Rattle.geolint_files.specs.declared.run.Run.{Run}
use Rattle.geolint_files.specs.declared.walk.Pending.{Pending}
use Rattle.geolint_files.specs.Internal.RunState.{TellsFile, TellsFiles}
use Rattle.geolint_files.proofs.Runs.ToldFiles.{TellsFiles-one}

-- ---- one name

pub once-named : (asked : Option Asked) (Shows : Finding → Bool) (reading : Reading) (limits : Allowed) (name : List ℕ) (had : Option (List ℕ))
    (failed now_failed : ℕ) (file : ToldFile) → IsOnceBy asked Shows reading limits name had failed now_failed file → name_in file ≡ name
once-named None Shows reading limits name had failed now_failed (judged report) is = is.0
once-named None Shows reading limits name had failed now_failed (not_read told reason) is = is.0
once-named None Shows reading limits name had failed now_failed (listed report lines tally) is = absurd is
once-named (Some asked) Shows reading limits name had failed now_failed (judged report) is = is.1.0
once-named (Some asked) Shows reading limits name had failed now_failed (not_read told reason) is = is.0
once-named (Some asked) Shows reading limits name had failed now_failed (listed report lines tally) is = is.1

pub twice-named : (asked : Option Asked) (most : ℕ) (reading : Reading) (limits : Allowed) (name : List ℕ) (had text : Option (List ℕ))
    (failed now_failed : ℕ) (file : ToldFile)
    → IsTwiceBy asked most reading limits name had text failed now_failed file → name_in file ≡ name
twice-named None most reading limits name had text failed now_failed (judged report) is = is.0
twice-named None most reading limits name had text failed now_failed (not_read told reason) is = is.0
twice-named None most reading limits name had text failed now_failed (listed report lines tally) is = absurd is
twice-named (Some asked) most reading limits name had text failed now_failed (judged report) is = is.1.0
twice-named (Some asked) most reading limits name had text failed now_failed (not_read told reason) is = is.0
twice-named (Some asked) most reading limits name had text failed now_failed (listed report lines tally) is = is.1

pub unread-twice : (asked : Option Asked) (most : ℕ) (reading : Reading) (limits : Allowed) (name reason : List ℕ) (had text : Option (List ℕ)) (failed : ℕ)
    → IsTwiceBy asked most reading limits name had text failed (u64_saturate (failed + 1)) (not_read name reason)
unread-twice None most reading limits name reason had text failed = (refl, refl)
unread-twice (Some asked) most reading limits name reason had text failed = (refl, refl)

-- a file of this name, and what is told of the names after it
pub file-first : (endings : List (Vec ℕ Global)) (file : ToldFile) (name : List ℕ) (is_given : Bool) (names : List (List ℕ × Bool)) (files : List ToldFile)
    → name_in file ≡ name → AreOf endings names files → AreOf endings ((name, is_given) ∷ names) (file ∷ files)
file-first endings file name is_given names files is are =
    subst (λ (n : List ℕ). AreOf endings ((n, is_given) ∷ names) (file ∷ files)) is (file_named file is_given names files are)

pub one-of : {W : Type 0} (contents : W → Option (List ℕ)) (endings : List (Vec ℕ Global)) (file : ToldFile) (name : List ℕ) (old new : Run W)
    → name_in file ≡ name → TellsFile contents file old new
    → (files : List ToldFile) × AreOf endings ((name, true) ∷ []) files × TellsFiles contents files old new
one-of contents endings file name old new is tells =
    (file ∷ [], file-first endings file name true [] [] is none_named, TellsFiles-one contents file old new tells)

-- ---- some names, and then more

pub AreOf-then : (endings : List (Vec ℕ Global)) {names : List (List ℕ × Bool)} {files : List ToldFile} (more : List (List ℕ × Bool)) (others : List ToldFile)
    → AreOf endings names files → AreOf endings more others → AreOf endings (names ++ more) (files ++ others)
AreOf-then endings more others none_named then = then
AreOf-then endings more others (file_named file is_given names files are) then =
    file_named file is_given (names ++ more) (files ++ others) (AreOf-then endings more others are then)
AreOf-then endings more others (folder_named name is_given entries names files are) then =
    folder_named name is_given entries (names ++ more) (files ++ others)
    (subst (λ (ns : List (List ℕ × Bool)). AreOf endings ns (files ++ others)) (append_assoc (entries_in name entries) names more)
    (AreOf-then endings more others are then))
AreOf-then endings more others (not_taken name names files is are) then =
    not_taken name (names ++ more) (files ++ others) is (AreOf-then endings more others are then)

-- ---- a walk

pub GoesOn-then : (endings : List (Vec ℕ Global)) (before middle left : List (List ℕ × Bool)) (told more : List ToldFile) → GoesOn endings before middle told
    → GoesOn endings middle left more → GoesOn endings before left (told ++ more)
GoesOn-then endings before middle left told more first then = λ rest are.
    subst (λ (files : List ToldFile). AreOf endings before files) (sym (append_assoc told more rest)) (first (more ++ rest) (then rest are))

pub next-first : (left : List Pending) (pending : Pending)
    → reverse (named_in (left ++ pending ∷ [])) ≡ (pending.name.items, pending.is_given) ∷ reverse (named_in left)
next-first left pending =
    ap (λ (names : List (List ℕ × Bool)). reverse names) (map-append (λ (one : Pending). (one.name.items, one.is_given)) left (pending ∷ []))
    ∙ reverse-append (named_in left) ((pending.name.items, pending.is_given) ∷ [])

-- the name that was looked at leads to nothing, or to a folder of which no entry is looked at
pub GoesOn-nothing : (endings : List (Vec ℕ Global)) (name : List ℕ) (is_given : Bool) (names : List (List ℕ × Bool))
    → GoesOn endings ((name, is_given) ∷ names) names []
GoesOn-nothing endings name is_given names = λ rest are. folder_named name is_given [] names rest are

pub GoesOn-passed : (endings : List (Vec ℕ Global)) (name : List ℕ) (is_given : Bool) (names : List (List ℕ × Bool)) → is_given ≡ false
    → is_taken name endings ≡ false → GoesOn endings ((name, is_given) ∷ names) names []
GoesOn-passed endings name is_given names given taken = λ rest are.
    subst (λ (given : Bool). AreOf endings ((name, given) ∷ names) rest) (sym given) (not_taken name names rest taken are)

pub GoesOn-file : (endings : List (Vec ℕ Global)) (file : ToldFile) (name : List ℕ) (is_given : Bool) (names : List (List ℕ × Bool)) → name_in file ≡ name
    → GoesOn endings ((name, is_given) ∷ names) names (file ∷ [])
GoesOn-file endings file name is_given names is = λ rest are. file-first endings file name is_given names rest is are

pub GoesOn-entries : (endings : List (Vec ℕ Global)) (name : List ℕ) (is_given : Bool) (entries : List (Vec ℕ Global)) (before after : List Pending)
    → named_in after ≡ named_in before ++ reverse (entries_in name entries)
    → GoesOn endings ((name, is_given) ∷ reverse (named_in before)) (reverse (named_in after)) []
GoesOn-entries endings name is_given entries before after is = λ rest are.
    let next : reverse (named_in after) ≡ entries_in name entries ++ reverse (named_in before) =
    ap (λ (names : List (List ℕ × Bool)). reverse names) is ∙ (reverse-append (named_in before) (reverse (entries_in name entries))
    ∙ ap (λ (names : List (List ℕ × Bool)). names ++ reverse (named_in before)) (reverse-reverse (entries_in name entries))) in
    folder_named name is_given entries (reverse (named_in before)) rest (subst (λ (names : List (List ℕ × Bool)). AreOf endings names rest) next are)

-- ---- a list

-- these of its names were told, as they are given, and others are left
abbrev pub Left : NameEnd → Option (List ℕ) → Option (List ℕ) → List (List ℕ) → Type 0
Left end None rest names = ⊤
Left end (Some all) None names = ⊥
Left end (Some all) (Some rest) names =
    length all < 2 ^ 64 - 1 → (length rest ≤ length all) × (map given (names_in end all) ≡ names ++ map given (names_in end rest))

pub Left-start : (end : NameEnd) (known : Option (List ℕ)) → Left end known known []
Left-start end None = tt
Left-start end (Some all) = λ few. (omega arith, refl)

-- one more
pub Left-name : (E : Type 0) (end : NameEnd) (known before after : Option (List ℕ)) (names : List (List ℕ)) (kind : Listed) (name : List ℕ)
    → (kind ≡ Listed.End → ⊥) → Left end known before names → NextOf {E = E} before after end (Ok kind) name → Left end known after (names ++ name ∷ [])
Left-name E end None before after names kind name some left next = tt
Left-name E end (Some all) None after names kind name some left next = absurd left
Left-name E end (Some all) (Some rest) None names kind name some left next = absurd next
Left-name E end (Some all) (Some rest) (Some now) names kind name some left next = λ few.
    let (short, is) = left few in
    let (less, took) = next (omega (arith, few, short)) in (
      omega (arith, short, less),
      is ∙ (ap (λ (more : List (List ℕ)). names ++ more) (by-kind kind some took) ∙ sym (append_assoc names (name ∷ []) (map given (names_in end now)))),
    )
  where
    by-kind : (found : Listed) → (found ≡ Listed.End → ⊥) → NextIn end rest now found name → map given (names_in end rest) ≡ name ∷ map given (names_in end now)
    by-kind Listed.Name some (first, are, is, nul) = ap (map given) are ∙ ap (λ (n : List ℕ). n ∷ map given (names_in end now)) (sym is)
    by-kind Listed.NameWithNul some (first, are, is, nul) = ap (map given) are ∙ ap (λ (n : List ℕ). n ∷ map given (names_in end now)) (sym is)
    by-kind Listed.End some took = absurd (some refl)

pub all-listed : (E : Type 0) (endings : List (Vec ℕ Global)) (list : List ℕ) (end : NameEnd) (known before after : Option (List ℕ)) (names : List (List ℕ))
    (name : List ℕ) (told : List ToldFile)
    → Left end known before names → NextOf {E = E} before after end (Ok Listed.End) name → AreOf endings (given_of names) told
    → AreOfList endings list end known told
all-listed E endings list end None before after names name told left next are = (names, inl are)
all-listed E endings list end (Some all) None after names name told left next are = absurd left
all-listed E endings list end (Some all) (Some rest) None names name told left next are = absurd next
all-listed E endings list end (Some all) (Some rest) (Some now) names name told left next are = λ few.
    let (short, is) = left few in
    let (less, (none, none_now, nothing)) = next (omega (arith, few, short)) in
    let all_told : map given (names_in end all) ≡ names = is ∙ (ap (λ (more : List (List ℕ)). names ++ map given more) none ∙ append-nil names) in
    inl (subst (λ (ns : List (List ℕ)). AreOf endings (given_of ns) told) (sym all_told) are)

-- a read failed
pub some-listed : (endings : List (Vec ℕ Global)) (list reason : List ℕ) (end : NameEnd) (known before : Option (List ℕ)) (names : List (List ℕ))
    (told : List ToldFile)
    → Left end known before names → AreOf endings (given_of names) told → AreOfList endings list end known (told ++ not_read list reason ∷ [])
some-listed endings list reason end None before names told left are = (names, inr (names, [], sym (append-nil names), told, are, reason, refl))
some-listed endings list reason end (Some all) None names told left are = absurd left
some-listed endings list reason end (Some all) (Some rest) names told left are = λ few.
    inr (names, map given (names_in end rest), (left few).1, told, are, reason, refl)
