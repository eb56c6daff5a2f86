-- What one file more adds to a summary.
use Rattle.std.specs.Prelude.{◌≡◌, ◌<◌, Bool, get_or}
use Rattle.geolint_report.specs.declared.texts.Code.{Code}
use Rattle.geolint_report.specs.declared.texts.TheConstants.{CODES}
use Rattle.geolint_report.specs.Slots.{slot_of, more}
use Rattle.report_forms.specs.declared.summary.Summary.{Summary}

-- one file more of these kinds, of which these codes are reported
pub record Adds (old new : Summary) (valid warned broken refused not_valid : Bool) (told : Code → Bool) : Type 0 where
  pub valid_is : new.valid ≡ more valid old.valid
  pub warned_is : new.warned ≡ more warned old.warned
  pub broken_is : new.broken ≡ more broken old.broken
  pub refused_is : new.refused ≡ more refused old.refused
  pub not_valid_is : new.not_valid ≡ more not_valid old.not_valid
  pub unread_is : new.unread ≡ old.unread
  pub codes_are : (code : Code) → slot_of code < CODES → get_or new.counts (slot_of code) 0 ≡ more (told code) (get_or old.counts (slot_of code) 0)
