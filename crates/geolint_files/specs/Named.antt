-- Which files a run reports: one of each name of the words and of a list, in their order, and of a folder those of its entries.
use Rattle.std.specs.Prelude.{◌≡◌, ◌<◌, ◌-◌, ◌^◌, ◌⊎◌, ℕ, Bool, true, false, List, [], ◌∷◌, ◌++◌, map, reverse, length, Vec, Option, Some, None}
use Rattle.std.specs.Io.KnownBytes.{Appends}
use Rattle.std.specs.declared.alloc.Global.{Global}
use Rattle.geolint_report.specs.Listed.{given, names_in}
use Rattle.geolint_report.specs.declared.name_lists.listed.NameEnd.{NameEnd}
use Rattle.report_forms.specs.declared.formats.lines.Style.{Style}
use Rattle.geolint_files.specs.Outcome.{status_of}
use Rattle.geolint_files.specs.Run.{ToldFile, judged, not_read, listed, IsWholeReport, worst_of}
use Rattle.geolint_files.specs.Walk.{entries_in, is_taken, named_in}
use Rattle.geolint_files.specs.declared.outcome.Outcome.{Outcome}
use Rattle.geolint_files.specs.declared.walk.Walk.{Walk}
use Rattle.geolint_files.specs.declared.words.Order.{Order}

abbrev pub name_in : ToldFile → List ℕ
name_in (judged report) = report.name.now
name_in (not_read name reason) = name
name_in (listed report lines tally) = report.name.now

-- What is reported of names in their order, of each of which it is said whether it was given: a file of that name; of a folder what is reported of its
-- entries; and nothing only of an entry whose name is not taken. What is a folder, and which entries it has, the system says: these are the endings
-- beside the usual ones.
pub data AreOf (endings : List (Vec ℕ Global)) : List (List ℕ × Bool) → List ToldFile → Type 0 where
  none_named : AreOf endings [] []
  file_named : (file : ToldFile) (is_given : Bool) (names : List (List ℕ × Bool)) (files : List ToldFile) → AreOf endings names files
      → AreOf endings ((name_in file, is_given) ∷ names) (file ∷ files)
  folder_named : (name : List ℕ) (is_given : Bool) (entries : List (Vec ℕ Global)) (names : List (List ℕ × Bool)) (files : List ToldFile)
      → AreOf endings (entries_in name entries ++ names) files → AreOf endings ((name, is_given) ∷ names) files
  not_taken : (name : List ℕ) (names : List (List ℕ × Bool)) (files : List ToldFile) → is_taken name endings ≡ false → AreOf endings names files
      → AreOf endings ((name, false) ∷ names) files

-- the names that are still to be looked at, the next one first
abbrev pub next_in : Walk → List (List ℕ × Bool)
next_in walk = reverse (named_in walk.pending.items)

-- these are reported of the names that are to be looked at `before`, but for those that are `left`
abbrev pub GoesOn : List (Vec ℕ Global) → (before left : List (List ℕ × Bool)) → List ToldFile → Type 0
GoesOn endings before left told = (more : List ToldFile) → AreOf endings left more → AreOf endings before (told ++ more)

abbrev pub given_in : List (Vec ℕ Global) → List (List ℕ × Bool)
given_in paths = map (λ (path : Vec ℕ Global). (path.items, true)) paths

-- ---- the names in a list

abbrev pub given_of : List (List ℕ) → List (List ℕ × Bool)
given_of names = map (λ (name : List ℕ). (name, true)) names

-- all, or the first ones and then the list itself, which could not be read to its end
abbrev pub AreOfNames : List (Vec ℕ Global) → List ℕ → List (List ℕ) → List ToldFile → Type 0
AreOfNames endings list names files = AreOf endings (given_of names) files
    ⊎ ((first : List (List ℕ)) × (more : List (List ℕ)) × (names ≡ first ++ more) × (told : List ToldFile) × AreOf endings (given_of first) told
    × (reason : List ℕ) × (files ≡ told ++ not_read list reason ∷ []))

-- of a list that has these bytes, where its reader tells them
abbrev pub AreOfList : List (Vec ℕ Global) → List ℕ → NameEnd → Option (List ℕ) → List ToldFile → Type 0
AreOfList endings list end None files = (names : List (List ℕ)) × AreOfNames endings list names files
AreOfList endings list end (Some bytes) files = length bytes < 2 ^ 64 - 1 → AreOfNames endings list (map given (names_in end bytes)) files

-- ---- the words of a call

abbrev pub AreOfSome : List (Vec ℕ Global) → Option (Vec ℕ Global) → NameEnd → List ToldFile → Type 0
AreOfSome endings None end files = files ≡ []
AreOfSome endings (Some list) end files = AreOfList endings list.items end None files

-- of the paths, and then of the names in the list, of which the system tells no bytes before they are read
abbrev pub AreOfOrder : Order → List ToldFile → Type 0
AreOfOrder order files = (of_paths : List ToldFile) × (of_list : List ToldFile) × (files ≡ of_paths ++ of_list)
    × AreOf order.endings.items (given_in order.paths.items) of_paths × AreOfSome order.endings.items order.list order.name_end of_list

-- a run that ended: the report of all its files went out, and the outcome is the worst of theirs; without a file only where that is allowed
pub record IsRun (order : Order) (held holds : Option (List ℕ)) (outcome : Outcome) : Type 0 where
  pub files : List ToldFile
  pub of_order : AreOfOrder order files
  pub some : files ≡ [] → order.allows_empty ≡ true
  pub style : Style
  pub bytes : List ℕ
  pub whole : IsWholeReport order.options style files bytes
  pub out : Appends held holds bytes
  pub worst_is : outcome ≡ worst_of order.options files

abbrev pub IsOutcome : Order → Outcome → Type 0
IsOutcome order outcome = (held : Option (List ℕ)) × (holds : Option (List ℕ)) × IsRun order held holds outcome

-- that of the run, or 2 where it did not end, and 141 where nobody reads the report any more
abbrev pub IsStatus : Order → ℕ → Type 0
IsStatus order status = ((outcome : Outcome) × IsOutcome order outcome × (status ≡ status_of outcome)) ⊎ ((status ≡ 2) ⊎ (status ≡ 141))
