-- What a second reading has reached.
use Rattle.std.specs.Prelude.{◌≡◌, ◌<◌, ◌≤◌, ◌+◌, ◌-◌, ◌^◌, ℕ, List, Option, [], length, take, drop, map, get_or, true, false, None, ◌++◌}
use Rattle.std.specs.Io.Iter.{u64_saturate}
use Rattle.gj_json.specs.Limits.{Allowed}
use Rattle.gj_places.specs.Counting.{StandsFor}
use Rattle.gj_places.specs.Keeping.{Keeps as KeepsLine}
use Rattle.gj_rules.specs.declared.records.framing.Framing.{Framing}
use Rattle.gj_places.specs.declared.excerpt.Excerpt.{Excerpt}
use Rattle.geolint_report.specs.declared.sites.Finder.{Finder}
use Rattle.geolint_report.specs.declared.sites.Site.{Site}
use Rattle.geolint_report.specs.declared.sites.Sites.{Sites}
use Rattle.geolint_report.specs.Internal.TextPaths.{StandsIn, KeepsIn}
use Rattle.geolint_report.specs.Sites.{AreRight, ArePaths, AreTold, sought}

-- after a text and some bytes of the next piece
pub record Reaches (finder : Finder) (sites : Sites) (text piece : List ℕ) : Type 0 where
  pub offset : finder.offset ≡ u64_saturate (length text)
  pub counted : finder.counted ≤ length piece
  pub lines : finder.next < sites.count → StandsFor finder.lines (text ++ take finder.counted piece)
  pub right : AreRight (text ++ piece) sites.sites

-- the locator is after a text and some bytes of the next piece, and each path so far is right
pub record Follows (framing : Option Framing) (finder : Finder) (sites : Sites) (text piece : List ℕ) : Type 0 where
  pub kind : finder.text_path.framing ≡ framing
  pub located : finder.located ≤ length piece
  pub near : finder.located ≤ finder.counted + 1
  pub stands : finder.next < sites.count → StandsIn finder.text_path (text ++ take finder.located piece)
  pub paths : ArePaths framing (text ++ piece) sites.sites

-- each place that was found is one of a byte
abbrev pub AreWithin : List ℕ → List Site → Type 0
AreWithin bytes sites = (i : ℕ) (other : Site) → i < length sites → (get_or sites i other).is_found ≡ true → (get_or sites i other).place < length bytes

-- the locator is after a text and some bytes of the next piece, unless a byte was refused, and each path so far is reported
pub record Tells (limits : Allowed) (framing : Option Framing) (finder : Finder) (sites : Sites) (text piece : List ℕ) : Type 0 where
  pub under : finder.text_path.limits ≡ limits
  pub keeps : finder.next < sites.count → KeepsIn finder.text_path (text ++ take finder.located piece)
  pub within : AreWithin (text ++ piece) sites.sites
  pub told : AreTold limits framing (text ++ piece) sites.sites

-- the bytes that the locator has change nothing of the count
pub record IsLocated (old new : Finder) : Type 0 where
  pub lines : new.lines ≡ old.lines
  pub offset : new.offset ≡ old.offset
  pub counted : new.counted ≡ old.counted
  pub next : new.next ≡ old.next
  pub kind : new.text_path.framing ≡ old.text_path.framing
  pub limits : new.text_path.limits ≡ old.text_path.limits

-- the places before the next were found, and the others are not among so many bytes from the start
pub record Seeks (finder : Finder) (sites : Sites) (passed : ℕ) : Type 0 where
  pub found : (k : ℕ) (other : Site) → k < finder.next → k < length sites.sites → (get_or sites.sites k other).is_found ≡ true
  pub ahead : (k : ℕ) (other : ℕ) → finder.next ≤ k → k < length (sought sites) → get_or (sought sites) k other < 2 ^ 64 - 1
      → passed ≤ get_or (sought sites) k other

-- the excerpt is that of a place in these bytes
pub record IsAt (excerpt : Excerpt) (place : ℕ) (bytes : List ℕ) : Type 0 where
  pub within : place ≤ length bytes
  pub keeps : KeepsLine excerpt (take place bytes) (drop place bytes)

-- after a text and some bytes of the next piece, the excerpt has all of these before the last place, or is that of the last place
pub record Shows (finder : Finder) (sites : Sites) (text piece : List ℕ) : Type 0 where
  pub stored : sites.count ≤ length sites.sites
  pub before : finder.next < sites.count → KeepsLine sites.excerpt (text ++ take finder.counted piece) []
  pub behind : (other : Site) → 0 < sites.count → sites.count ≤ finder.next
      → IsAt sites.excerpt (get_or sites.sites (sites.count - 1) other).place (text ++ take finder.counted piece)

-- one place is found, and nothing else changes
pub record Settles (old new : Sites) (i : ℕ) : Type 0 where
  pub count : new.count ≡ old.count
  pub places : map (λ (site : Site). site.place) new.sites ≡ map (λ (site : Site). site.place) old.sites
  pub here : (other : Site) → i < length new.sites → (get_or new.sites i other).is_found ≡ true
  pub kept : (k : ℕ) (other : Site) → k < length new.sites → (get_or old.sites k other).is_found ≡ true → (get_or new.sites k other).is_found ≡ true
