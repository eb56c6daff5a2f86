-- What a joiner keeps of the features that its linter reports, and what it gives the linter in the place of runs.
use Rattle.std.specs.Prelude.{◌≡◌, ◌↔◌, ℕ, suc, List, [], ◌∷◌, ◌++◌, length, Bool, IsTrue, Option, Some, None}
use Rattle.gj_json.specs.declared.fault.JsonFault.{JsonFault}
use Rattle.gj_json.specs.Broken.{Frame, in_array, value_done, begun}
use Rattle.gj_json.specs.Internal.TextMachine.{run}
use Rattle.gj_json.specs.Limits.{Allowed}
use Rattle.gj_json.specs.Text.{IsViableWithin}
use Rattle.gj_json.specs.Tree.{Tree}
use Rattle.gj_coords.specs.Internal.KeptWarnings.{joined}
use Rattle.gj_coords.specs.declared.warnings.Warnings.{Warnings}
use Rattle.gj_rules.specs.declared.feature.Feature.{Feature}
use Rattle.gj_rules.specs.declared.verdict.Verdict.{Verdict}
use Rattle.gj_rules.specs.declared.verdict.Verdict.TheVariants.{Valid}
use Rattle.gj_rules.specs.Verdict.{IsVerdict}
use Rattle.gj_join.specs.declared.last_end.LastEnd.{LastEnd}
use Rattle.gj_join.specs.Runs.{StandsAfterFeature}

-- ---- where the last feature has ended

-- where its closing bracket stands, and this where no feature was reported
abbrev pub last_close : Option ℕ → List Feature → Option ℕ
last_close close [] = close
last_close close (feature ∷ more) = last_close feature.close more

abbrev pub Tells : LastEnd → List Feature → Type 0
Tells last features = last.close ≡ last_close None features

-- the bracket is the last of so many bytes
abbrev pub EndsAt : Option ℕ → ℕ → Type 0
EndsAt None place = ⊥
EndsAt (Some close) place = suc close ≡ place

-- ---- a text and what the linter was given in its place

-- the machine stands after an element of an array
pub record IsAfterElement (bytes : List ℕ) : Type 0 where
  pub marked : Bool
  pub place : ℕ
  pub done : List Tree
  pub stack : List Frame
  pub value : Tree
  pub is : run bytes ≡ Some (begun marked (record { stack = in_array place done ∷ stack; leaf = value_done value }))

-- the verdict with the warnings of runs, given that of the rest
abbrev pub whole : Verdict → Warnings → Verdict
whole (Valid told) others = Valid (joined told others)
whole other others = other

-- Runs that have these warnings are passed over in `bytes`, and white space stands for them in `white`. However these go on, the
-- verdict of one is that of the other with those warnings, and features end at the same places.
pub record Joined (limits : Allowed) (refusal : Option JsonFault) (warnings : Warnings) (is_after : Bool) (white bytes : List ℕ) : Type 0 where
  pub long : length white ≡ length bytes
  pub viable : (after : List ℕ) → IsViableWithin limits.depth (white ++ after) → IsViableWithin limits.depth (bytes ++ after)
  pub verdicts : (after : List ℕ) (rest : Verdict) → IsVerdict limits (white ++ after) rest → IsVerdict limits (bytes ++ after) (whole rest warnings)
  pub ends : (byte : ℕ) (after : List ℕ)
      → StandsAfterFeature limits.depth (white ++ byte ∷ after) ↔ StandsAfterFeature limits.depth (bytes ++ byte ∷ after)
  pub here : IsTrue is_after → (refusal ≡ None) × StandsAfterFeature limits.depth bytes × IsAfterElement white
  pub always : refusal ≡ None → StandsAfterFeature limits.depth bytes → IsTrue is_after
