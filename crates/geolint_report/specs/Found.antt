-- What is reported of what stands at the place of a fault.
use Rattle.std.specs.Prelude.{ℕ, List, take}
use Rattle.geolint_report.specs.declared.found.Found.{Found}

abbrev pub found_bytes : Found → List ℕ
found_bytes found = take found.count found.bytes
