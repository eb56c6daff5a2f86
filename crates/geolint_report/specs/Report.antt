-- What a report says besides the finding: how often, which places, and the line, the column and the path that were found for a place.
use Rattle.std.specs.Prelude.{◌≡◌, ℕ, Bool, not, List, [], Option, Some, None, is_some, if◌then◌else◌}
use Rattle.std.specs.List.{find}
use Rattle.std.specs.Borrow.{Bor}
use Rattle.gj_coords.specs.declared.kind.Kind.{Kind}
use Rattle.gj_coords.specs.declared.warnings.Warnings.{Warnings}
use Rattle.gj_coords.specs.Internal.KeptWarnings.{first_in, count_in, none_in}
use Rattle.gj_json.specs.declared.path.Path.{Path}
use Rattle.gj_places.specs.declared.excerpt.Excerpt.{Excerpt}
use Rattle.geolint_report.specs.declared.judge.Finding.{Finding}
use Rattle.geolint_report.specs.declared.report.Report.{Report}
use Rattle.geolint_report.specs.declared.report.Told.{Told}
use Rattle.geolint_report.specs.declared.sites.Site.{Site}
use Rattle.geolint_report.specs.declared.sites.Sites.{Sites}
use Rattle.geolint_report.specs.declared.sites.Spot.{Spot}
use Rattle.geolint_report.specs.declared.texts.Code.{Code}
use Rattle.geolint_report.specs.Texts.{is_cause}
use Rattle.geolint_report.specs.Finding.{fault_of, warnings_of}
use Rattle.geolint_report.specs.Sites.{is_found_at}

-- ---- kinds of warning

-- a kind of warning with its least place, and how often it is given
abbrev pub told_from : Kind → ℕ → Option ℕ → Option (Told × ℕ)
told_from kind count (Some place) = Some (record { code = Code.Kind kind; place = place }, count)
told_from kind count None = None

abbrev pub warning_of : Kind → Warnings → Option (Told × ℕ)
warning_of kind warnings = told_from kind (count_in kind warnings) (first_in kind warnings)

-- what is written of a kind of warning: nothing where there is none
abbrev pub of_warning : (Told → ℕ → List ℕ) → Option (Told × ℕ) → List ℕ
of_warning write (Some warning) = write warning.0 warning.1
of_warning write None = []

-- ---- places

-- the site that was found for a place
abbrev pub site_in : ℕ → List Site → Option Site
site_in place sites = find (is_found_at place) sites

abbrev pub site_at : ℕ → Option (Bor Sites) → Option Site
site_at place (Some sites) = site_in place sites.now.sites
site_at place None = None

-- the line around the last place that was sought
abbrev pub excerpt_in : Option (Bor Sites) → Option Excerpt
excerpt_in (Some sites) = Some sites.now.excerpt
excerpt_in None = None

abbrev pub spot_from : Option Site → Option Spot
spot_from (Some site) = Some site.spot
spot_from None = None

abbrev pub path_from : Option Site → Option Path
path_from (Some site) = site.path
path_from None = None

-- where the place stands, if that was found
abbrev pub spot_of : Report → ℕ → Option Spot
spot_of report place = spot_from (site_at place report.sites)

-- its path, if one was found: none for a text that is refused, which need not have one there
abbrev pub path_of : Report → Told → Option Path
path_of report told = if is_cause told.code then None else path_from (site_at told.place report.sites)

-- ---- which places are reported

abbrev pub IsFirstPlace : Warnings → ℕ → Type 0
IsFirstPlace warnings place = (kind : Kind) × (first_in kind warnings ≡ Some place)

abbrev pub IsPlaceOf : Option Told → Option Warnings → ℕ → Type 0
IsPlaceOf (Some told) warnings place = place ≡ told.place
IsPlaceOf None (Some warnings) place = IsFirstPlace warnings place
IsPlaceOf None None place = ⊥

-- that of its fault, or the first of a kind of warning
abbrev pub IsToldPlace : Finding → ℕ → Type 0
IsToldPlace finding place = IsPlaceOf (fault_of finding) (warnings_of finding) place

abbrev pub has_places_of : Option Told → Option Warnings → Bool
has_places_of told (Some warnings) = not (none_in warnings)
has_places_of told None = is_some told

-- it has a fault, or a warning
abbrev pub has_places : Finding → Bool
has_places finding = has_places_of (fault_of finding) (warnings_of finding)
