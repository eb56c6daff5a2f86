-- What is found in a run of features, in plain numbers.
use Rattle.std.specs.Prelude.{◌≡◌, ℕ, min, List, [], ◌∷◌, ◌++◌, replicate}
use Rattle.gj_coords.specs.declared.kind.Kind.{Kind}
use Rattle.gj_coords.specs.Warnings.{Warning, warning_at, greatest_count}
use Rattle.gj_coords.specs.WarningsStand.{StandsFor}
use Rattle.gj_join.specs.declared.sum.FeatureSum.{FeatureSum}
use Rattle.geolint_c.specs.declared.report.Warned.{Warned}
use Rattle.geolint_c.specs.declared.sum.Sum.{Sum}
use Rattle.geolint_c.specs.Report.{all_warned, nothing_warned}

-- The numbers are those of the sum: `status` and `ended` are no part of it. The warnings are told as in a report.
pub record SaysSum (found : FeatureSum) (said : Sum) : Type 0 where
  pub begin : said.begin ≡ found.begin
  pub end : said.end ≡ found.end
  pub features : said.features ≡ found.features
  pub warnings : (all : List Warning) → StandsFor found.warnings all → said.warnings ≡ all_warned all

-- no sum, and why there is none
abbrev pub no_sum : ℕ → Sum
no_sum status = record { status = status; ended = 0; begin = 0; end = 0; features = 0; warnings = nothing_warned }

-- as many warnings of each of these kinds, all at its first place
abbrev pub all_said : List Kind → List Warned → List Warning
all_said [] said = []
all_said (kind ∷ kinds) [] = []
all_said (kind ∷ kinds) (one ∷ said) = replicate (min one.count greatest_count) (warning_at one.first kind) ++ all_said kinds said
