-- Which bytes of a text are kept, and how many come before them.
use Rattle.std.specs.Prelude.{◌≡◌, ◌⊎◌, ◌≤◌, ℕ, List, [], ◌++◌, length, take}
use Rattle.std.specs.Io.Iter.{u64_saturate}
use Rattle.gj_places.specs.Counting.{StandsFor}
use Rattle.gj_places.specs.Keeping.{Keeps}
use Rattle.gj_places.specs.declared.recent.Kept.{Kept}
use Rattle.gj_places.specs.declared.recent.Part.{Part}
use Rattle.gj_places.specs.declared.recent.Recent.{Recent}

-- the bytes that a part has
abbrev pub held : Part → List ℕ
held part = take part.length part.bytes

-- the text ends with those that are kept, and both parts of these stand where the counts say
pub record Recalls (recent : Recent) (bytes : List ℕ) : Type 0 where
  pub before : List ℕ
  pub all : bytes ≡ before ++ (held recent.older ++ held recent.newer)
  pub passed : recent.passed ≡ u64_saturate (length before)
  pub at_older : StandsFor recent.at_older before
  pub at_newer : StandsFor recent.at_newer (before ++ held recent.older)

-- all bytes are kept, or so many before the newer ones
pub record KeepsMost (recent : Recent) : Type 0 where
  pub older : (recent.passed ≡ 0) ⊎ (49152 ≤ length (held recent.older))

-- the text ends with these bytes, and what is told of those before them is right: all are among them, or so many before the newer ones
pub record IsKept (kept : Kept) (bytes : List ℕ) : Type 0 where
  pub before : List ℕ
  pub all : bytes ≡ before ++ (kept.older.now ++ kept.newer.now)
  pub passed : kept.passed ≡ u64_saturate (length before)
  pub lines : StandsFor kept.lines before
  pub excerpt : Keeps kept.excerpt before []
  pub most : (before ≡ []) ⊎ (48896 ≤ length kept.older.now)
