-- What goes out of a report, and what is out where a write fails.
use Rattle.std.specs.Prelude.{ℕ, ◌<◌, List, take, length, Option}
use Rattle.std.specs.Io.KnownBytes.{Appends}
pub use Rattle.geolint_report.specs.Line.{joined}

-- so many bytes are out, and not all: they are after those that the writer had taken, where it tells them
pub record IsFrontOut (old new : Option (List ℕ)) (bytes : List ℕ) (written : ℕ) : Type 0 where
  pub short : written < length bytes
  pub front : Appends old new (take written bytes)
