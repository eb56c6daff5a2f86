-- Whole features that follow one another in a text, and what they are apart from it.
use Rattle.std.specs.Prelude.{◌≡◌, ◌⊎◌, ℕ, ◌+◌, ◌-◌, ◌≤◌, List, [], ◌∷◌, ◌++◌, length, take, IsSome, None, codes, replicate}
use Rattle.std.specs.List.{AllByRecursion}
use Rattle.gj_json.specs.Bytes.{space}
use Rattle.gj_json.specs.Limits.{Allowed}
use Rattle.gj_json.specs.Text.{IsText, IsViableWithin}
use Rattle.gj_json.specs.Tree.{Text}
use Rattle.gj_coords.specs.WarningsStand.{StandsFor as WarningsStandFor}
use Rattle.gj_rules.specs.FeatureFindings.{FeatureFinding, feature_findings, warnings_found}
use Rattle.gj_join.specs.declared.sum.FeatureSum.{FeatureSum}

-- ---- where a feature has ended

-- one of these is of an object or an array that ends before the place
abbrev pub OneEnds : ℕ → List FeatureFinding → Type 0
OneEnds place [] = ⊥
OneEnds place (finding ∷ more) = (IsSome finding.close × (finding.end ≡ place)) ⊎ OneEnds place more

-- the bytes can become a text within the depth, and in each that begins with them a feature ends with them
pub record StandsAfterFeature (levels : ℕ) (bytes : List ℕ) : Type 0 where
  pub viable : IsViableWithin levels bytes
  pub ends : (rest : List ℕ) (text : Text) → IsText text (bytes ++ rest) → OneEnds (length bytes) (feature_findings text)

-- ---- runs

-- so many spaces
abbrev pub spaces : ℕ → List ℕ
spaces n = replicate n space

-- What a run is read after that begins at a place: with as many bytes before it, the places in it are those of the text.
abbrev pub stand_at : ℕ → List ℕ
stand_at begin = codes "{\"features\":[" ++ (spaces (begin - 15) ++ codes "{}")

-- from that place on, whole features, each after a comma
pub record IsRun (levels begin : ℕ) (run : List ℕ) : Type 0 where
  pub room : 15 ≤ begin
  pub ends : StandsAfterFeature levels (stand_at begin ++ run)

-- what makes a text of the stand and a run
abbrev pub stand_end : List ℕ
stand_end = codes "]}"

-- what is found in a run: in the features of that text but for the first, which is the stand's
pub record AreFindingsOf (begin : ℕ) (run : List ℕ) (found : List FeatureFinding) : Type 0 where
  pub text : Text
  pub text_of : IsText text (stand_at begin ++ (run ++ stand_end))
  pub first : FeatureFinding
  pub findings : feature_findings text ≡ first ∷ found

-- The sum says what is found in a run that stands at that place, if a feature has ended there. That it has is no part of it.
pub record IsSumOf (levels : ℕ) (run : List ℕ) (sum : FeatureSum) : Type 0 where
  pub is_run : IsRun levels sum.begin run
  pub end : sum.end ≡ sum.begin + length run
  pub found : List FeatureFinding
  pub findings : AreFindingsOf sum.begin run found
  pub features : sum.features ≡ length found
  pub sound : AllByRecursion (λ finding. finding.fault ≡ None) found
  pub warnings : WarningsStandFor sum.warnings (warnings_found found)

-- It is of the longest run without a fault that these bytes begin with after that place, and that ends within the limits.
pub record IsLongestSum (limits : Allowed) (begin : ℕ) (bytes : List ℕ) (sum : FeatureSum) : Type 0 where
  pub begins : sum.begin ≡ begin
  pub within : sum.end ≤ begin + length bytes
  pub is_sum : IsSumOf limits.depth (take (sum.end - begin) bytes) sum
  pub longest : (n : ℕ) (other : FeatureSum) → begin + n ≤ limits.bytes → other.begin ≡ begin → IsSumOf limits.depth (take n bytes) other
      → other.features ≤ sum.features

-- no bytes that follow these make the longest run longer
abbrev pub IsOver : Allowed → ℕ → List ℕ → Type 0
IsOver limits begin bytes = (sum : FeatureSum) (rest : List ℕ) → IsLongestSum limits begin bytes sum → IsLongestSum limits begin (bytes ++ rest) sum

-- a feature can have ended at the place: `{"features":[{}` has fifteen bytes and three levels
abbrev pub MayBegin : Allowed → ℕ → Type 0
MayBegin limits begin = (15 ≤ begin) × (begin ≤ limits.bytes) × (3 ≤ limits.depth)
