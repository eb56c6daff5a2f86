-- The files that are written: what their names end with, and of which file one is read.
use Rattle.std.specs.Prelude.{◌≡◌, ℕ, List, codes}
use Rattle.gj_split.specs.declared.splitter.Outputs.{Outputs}
use Rattle.std.specs.declared.fs.attrs.Metadata.{Metadata}
use Rattle.gj_split.specs.declared.files.part_file.Part.{Part}
use Rattle.gj_split.specs.declared.files.part_file.PartFile.{PartFile}
use Rattle.gj_split.specs.declared.files.file_ranges.FileRanges.{FileRanges}

abbrev pub ending_of : Part → List ℕ
ending_of Part.Valid = codes ".valid.geojsons"
ending_of Part.Broken = codes ".broken.geojsons"
ending_of Part.List = codes ".broken.json"

-- the part that a file is for
abbrev pub part_in : PartFile → Part
part_in file = file.part

-- each is for its own
pub record AreApart (parts : Outputs PartFile PartFile PartFile) : Type 0 where
  pub valid : part_in parts.valid ≡ Part.Valid
  pub broken : part_in parts.broken ≡ Part.Broken
  pub list : part_in parts.list ≡ Part.List

-- what was known of a file before it was read
abbrev pub known_before : FileRanges → Metadata
known_before ranges = ranges.before
