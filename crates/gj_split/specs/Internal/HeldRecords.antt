-- What two writers hold of the features that were reported, and what a linter was fed.
use Rattle.std.specs.Prelude.{◌≡◌, ℕ, List, [], ◌++◌, Option, Some, None}
use Rattle.std.specs.Io.KnownBytes.{Appends}
use Rattle.std.specs.List.{AllByRecursion}
use Rattle.gj_json.specs.Limits.{Allowed}
use Rattle.gj_json.specs.Refusal.{IsRefusal}
use Rattle.gj_json.specs.declared.fault.JsonFault.{JsonFault}
use Rattle.gj_rules.specs.FeatureLinter.{StandsFor, limits_of, refusal_of}
use Rattle.gj_rules.specs.declared.feature.Feature.{Feature}
use Rattle.gj_rules.specs.declared.feature_linter.FeatureLinter.{FeatureLinter}
use Rattle.gj_split.specs.Holding.{AreHeld}
use Rattle.gj_split.specs.Internal.ToldFeatures.{told_bytes, told_split, EndsKnown}
use Rattle.gj_split.specs.Split.{record_of}
use Rattle.gj_split.specs.declared.splitter.Counts.{Counts}

-- ---- what is held

-- those of features that were reported, each of which ends where its bytes show
pub record AreHeldAsTold (bytes : List ℕ) (features : List Feature) (valid broken : Option (List ℕ)) (counts : Counts) : Type 0 where
  pub held : AreHeld (told_split bytes features) valid broken counts
  pub ended : AllByRecursion (EndsKnown bytes) features

-- once it has stopped nothing is said
abbrev pub HoldsUnless : {A : Type 0} → Option A → List ℕ → List Feature → Option (List ℕ) → Option (List ℕ) → Counts → Type 0
HoldsUnless None bytes features valid broken counts = AreHeldAsTold bytes features valid broken counts
HoldsUnless (Some stop) bytes features valid broken counts = Unit {0}

-- where the source tells its bytes
abbrev pub Holds : {A : Type 0} → Option (List ℕ) → Option A → Option (List ℕ) → Option (List ℕ) → Counts → List Feature → Type 0
Holds known stop valid broken counts features = (bytes : List ℕ) → known ≡ Some bytes → HoldsUnless stop bytes features valid broken counts

-- what a record of a feature is
abbrev pub WritesRecord : List ℕ → Feature → Option (List ℕ) → Option (List ℕ) → Type 0
WritesRecord bytes feature old new = Appends old new (record_of (told_bytes bytes feature)) × EndsKnown bytes feature

-- ---- what was read

-- nothing follows, or a byte was refused, whatever follows
abbrev pub IsEndAfter : Allowed → List ℕ → List ℕ → Option JsonFault → Type 0
IsEndAfter limits taken rest None = rest ≡ []
IsEndAfter limits taken rest (Some fault) = (more : List ℕ) → IsRefusal limits (taken ++ more) fault

module _ {S : Type 0} where
  -- the linter was fed a whole text, or the bytes up to one that is refused and perhaps more
  pub record IsRead (Told : S → List Feature → Type 0) (linter : FeatureLinter S) (bytes : List ℕ) : Type 0 where
    pub taken : List ℕ
    pub rest : List ℕ
    pub joined : bytes ≡ taken ++ rest
    pub stands : StandsFor Told linter taken
    pub end : IsEndAfter (limits_of linter) taken rest (refusal_of linter)
