-- The lines, columns and paths of places that a second reading finds.
use Rattle.std.specs.Prelude.{◌≡◌, ◌<◌, ◌≤◌, ◌+◌, ◌-◌, ◌^◌, ℕ, List, [], ◌∷◌, ◌++◌, length, take, drop, map, get_or, Bool, true, false, ◌&&◌, ◌||◌, nat_eq}
use Rattle.std.specs.Prelude.{if◌then◌else◌, Option, Some, None, IsSome, ⊤}
use Rattle.std.specs.List.{Contains, list_any}
use Rattle.std.specs.Io.Iter.{u64_saturate}
use Rattle.gj_json.specs.Limits.{Allowed}
use Rattle.gj_json.specs.Path.{steps_of, path_at}
use Rattle.gj_json.specs.Refusal.{IsAdmitted}
use Rattle.gj_json.specs.Text.{IsText, IsTextWithin}
use Rattle.gj_json.specs.Tree.{Text}
use Rattle.gj_json.specs.declared.path.Path.{Path}
use Rattle.gj_places.specs.Keeping.{Keeps}
use Rattle.gj_places.specs.Lines.{line_of, column_of}
use Rattle.gj_rules.specs.Records.{Part, parts_of, separator_of}
use Rattle.gj_rules.specs.Sequence.{SequenceRecord, records_of}
use Rattle.gj_rules.specs.declared.records.framing.Framing.{Framing}
use Rattle.gj_rules.specs.declared.records.framing.Framing.TheVariants.{Sequence, Lines}
use Rattle.geolint_report.specs.declared.sites.Site.{Site}
use Rattle.geolint_report.specs.declared.sites.Sites.{Sites}
use Rattle.geolint_report.specs.declared.sites.Spot.{Spot}
-- these bytes are no more than are allowed, and some more make them a text within the depth
pub use Rattle.geolint_report.specs.Fed.{ShowNoRefusal as CanGoOn}

-- the place is in the text or at its end, and the line and the column are those of the bytes before it, as far as a u64 goes
pub record IsSpot (text : List ℕ) (place : ℕ) (spot : Spot) : Type 0 where
  pub within : place ≤ length text
  pub line : spot.line ≡ u64_saturate (line_of (take place text))
  pub column : spot.column ≡ u64_saturate (column_of (take place text))

-- each place that was found stands there
abbrev pub AreRight : List ℕ → List Site → Type 0
AreRight text sites =
    (i : ℕ) (other : Site) → i < length sites → (get_or sites i other).is_found ≡ true → IsSpot text (get_or sites i other).place (get_or sites i other).spot

-- as above, where the reader tells its bytes
abbrev pub RightBy : Option (List ℕ) → List Site → Type 0
RightBy None sites = ⊤
RightBy (Some text) sites = AreRight text sites

-- ---- paths

abbrev pub is_separator : Framing → ℕ → Bool
is_separator framing byte = nat_eq byte (separator_of framing)

abbrev pub has_separator : Framing → List ℕ → Bool
has_separator framing [] = false
has_separator framing (byte ∷ more) = is_separator framing byte || has_separator framing more

-- the bytes after the last separator, or all where there is none
abbrev pub last_record : Framing → List ℕ → List ℕ
last_record framing [] = []
last_record framing (byte ∷ more) = if has_separator framing (byte ∷ more) then last_record framing more else byte ∷ more

-- of the text that the first bytes of a file end in, the bytes among them: a text may be a record
abbrev pub text_of : Option Framing → List ℕ → List ℕ
text_of (Some framing) front = last_record framing front
text_of None front = front

-- the path is the one that these bytes lead to in each text that begins with them
abbrev pub IsPathOf : List ℕ → Path → Type 0
IsPathOf front path = (rest : List ℕ) (text : Text) → IsText text (front ++ rest) → steps_of path ≡ path_at (length front) text

-- a path that is reported for a place is that of the bytes up to the one there
abbrev pub LeadsTo : Option Framing → List ℕ → ℕ → Option Path → Type 0
LeadsTo framing bytes place None = ⊤
LeadsTo framing bytes place (Some path) = (place < length bytes) × IsPathOf (text_of framing (take (place + 1) bytes)) path

abbrev pub ArePaths : Option Framing → List ℕ → List Site → Type 0
ArePaths framing bytes sites =
    (i : ℕ) (other : Site) → i < length sites → (get_or sites i other).is_found ≡ true
    → LeadsTo framing bytes (get_or sites i other).place (get_or sites i other).path

-- as above, where the reader tells its bytes
abbrev pub PathsBy : Option Framing → Option (List ℕ) → List Site → Type 0
PathsBy framing None sites = ⊤
PathsBy framing (Some bytes) sites = ArePaths framing bytes sites

-- ---- which paths are reported

-- what a text of the file is read under: the limit on the bytes is not that of a record
abbrev pub text_limits : Option Framing → Allowed → Allowed
text_limits (Some framing) limits = record { depth = limits.depth; bytes = 2 ^ 60 }
text_limits None limits = limits

-- a text has begun in the first bytes of a file: in a sequence by a separator
abbrev pub has_begun : Option Framing → List ℕ → Bool
has_begun (Some Sequence) front = has_separator Sequence front
has_begun (Some Lines) front = true
has_begun None front = true

-- the text that the first bytes of a file end in has begun, and can go on
abbrev pub IsUnderWay : Allowed → Option Framing → List ℕ → Type 0
IsUnderWay limits framing front = (has_begun framing front ≡ true) × CanGoOn (text_limits framing limits) (text_of framing front)

-- where the text of the bytes up to a place can go on, the path is reported
abbrev pub IsTold : Allowed → Option Framing → List ℕ → ℕ → Option Path → Type 0
IsTold limits framing bytes place path = place < length bytes → IsUnderWay limits framing (take (place + 1) bytes) → IsSome path

-- that of each place that was found
abbrev pub AreTold : Allowed → Option Framing → List ℕ → List Site → Type 0
AreTold limits framing bytes sites =
    (i : ℕ) (other : Site) → i < length sites → (get_or sites i other).is_found ≡ true
    → IsTold limits framing bytes (get_or sites i other).place (get_or sites i other).path

-- as above, where the reader tells its bytes
abbrev pub ToldBy : Allowed → Option Framing → Option (List ℕ) → List Site → Type 0
ToldBy limits framing None sites = ⊤
ToldBy limits framing (Some bytes) sites = AreTold limits framing bytes sites

-- the place of a byte of a text: of the file, or of one of its records
abbrev pub IsInText : Allowed → Option Framing → List ℕ → ℕ → Type 0
IsInText limits (Some Sequence) bytes place =
    (r : SequenceRecord) × (text : Text) × Contains (records_of limits bytes) r × IsTextWithin limits.depth text r.bytes × (r.start ≤ place)
    × (place < r.start + length r.bytes)
IsInText limits (Some Lines) bytes place =
    (line : Part) × (text : Text) × Contains (parts_of Lines limits bytes) line × IsTextWithin limits.depth text line.bytes × (line.start ≤ place)
    × (place < line.start + length line.bytes)
IsInText limits None bytes place = (text : Text) × IsAdmitted limits text bytes × (place < length bytes)

-- each place of a text that was found is reported
abbrev pub AreToldInTexts : Allowed → Option Framing → List ℕ → List Site → Type 0
AreToldInTexts limits framing bytes sites =
    (i : ℕ) (other : Site) → i < length sites → (get_or sites i other).is_found ≡ true → IsInText limits framing bytes (get_or sites i other).place
    → IsSome (get_or sites i other).path

-- as above, where the reader tells its bytes
abbrev pub ToldInTextsBy : Allowed → Option Framing → Option (List ℕ) → List Site → Type 0
ToldInTextsBy limits framing None sites = ⊤
ToldInTextsBy limits framing (Some bytes) sites = AreToldInTexts limits framing bytes sites

-- ---- which places are found

-- as before a reading
abbrev pub NoneFound : List Site → Type 0
NoneFound sites = (i : ℕ) (other : Site) → i < length sites → (get_or sites i other).is_found ≡ false

-- the places that are sought, in the order in which they came
abbrev pub sought : Sites → List ℕ
sought sites = take sites.count (map (λ (site : Site). site.place) sites.sites)

abbrev pub is_found_at : ℕ → Site → Bool
is_found_at place site = site.is_found && nat_eq site.place place

-- each sought place that is in the text or at its end was found, as far as a u64 goes
abbrev pub AllFound : List ℕ → Sites → Type 0
AllFound text sites = (place : ℕ) → Contains (sought sites) place → place ≤ length text → place < 2 ^ 64 - 1 → list_any (is_found_at place) sites.sites ≡ true

-- as above, where the reader tells its bytes
abbrev pub FoundBy : Option (List ℕ) → Sites → Type 0
FoundBy None sites = ⊤
FoundBy (Some text) sites = AllFound text sites

-- ---- the excerpt

-- before a reading
abbrev pub IsUnread : Sites → Type 0
IsUnread sites = Keeps sites.excerpt [] [] × (sites.count ≤ length sites.sites)

-- the excerpt is that of the last place, where that is in the text or at its end, as far as a u64 goes
abbrev pub IsExcerpt : List ℕ → Sites → Type 0
IsExcerpt text sites = (before : List ℕ) (place : ℕ) → sought sites ≡ before ++ place ∷ [] → place ≤ length text → length text < 2 ^ 64 - 1
    → Keeps sites.excerpt (take place text) (drop place text)

-- as above, where the reader tells its bytes
abbrev pub ExcerptBy : Option (List ℕ) → Sites → Type 0
ExcerptBy None sites = ⊤
ExcerptBy (Some text) sites = IsExcerpt text sites

-- ---- all of that

-- what a second reading finds of places, where the reader tells its bytes
pub record AreSitesIn (limits : Allowed) (framing : Option Framing) (text : Option (List ℕ)) (sites : Sites) : Type 0 where
  pub right : RightBy text sites.sites
  pub paths : PathsBy framing text sites.sites
  pub told : ToldBy limits framing text sites.sites
  pub texts : ToldInTextsBy limits framing text sites.sites
  pub found : FoundBy text sites
  pub excerpt : ExcerptBy text sites
