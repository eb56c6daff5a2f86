-- What bytes a path was followed in.
use Rattle.std.specs.Prelude.{◌≡◌, ℕ, List, None, false}
use Rattle.gj_json.specs.Limits.{Allowed}
use Rattle.gj_json.specs.Locator as Locator
use Rattle.geolint_report.specs.declared.every.text_path.TextPath.{TextPath}
use Rattle.geolint_report.specs.Sites.{CanGoOn, IsUnderWay, text_limits, text_of}

-- until a byte of a text is refused, the locator has these bytes of it
abbrev pub Follows : TextPath → List ℕ → Type 0
Follows path text = path.is_lost ≡ false → Locator.StandsFor path.locator text × (Locator.refusal_of path.locator ≡ None)

-- it has those of the text that these bytes of the file end in
abbrev pub StandsIn : TextPath → List ℕ → Type 0
StandsIn path front = Follows path (text_of path.framing front)

-- while a text can go on, the locator is in it, under its limits
abbrev pub Keeps : Allowed → TextPath → List ℕ → Type 0
Keeps limits path text = CanGoOn limits text → (path.is_lost ≡ false) × (Locator.limits_of path.locator ≡ limits)

-- while the text that these bytes of the file end in can go on
abbrev pub KeepsIn : TextPath → List ℕ → Type 0
KeepsIn path front =
    IsUnderWay path.limits path.framing front → (path.is_lost ≡ false) × (Locator.limits_of path.locator ≡ text_limits path.framing path.limits)

-- bytes change neither what is a text of the file nor its limits
pub record IsFed (old new : TextPath) : Type 0 where
  pub kind : new.framing ≡ old.framing
  pub limits : new.limits ≡ old.limits
