-- A feature that has ended, from one text that goes on from it.
use Rattle.std.proofs.Common.{ℕ, inl, inr, List, [], ◌∷◌, ◌++◌, length, sym, subst}
use Rattle.gj_json.specs.Text.{IsTextWithin}
use Rattle.gj_json.specs.Tree.{Text}
use Rattle.gj_rules.specs.FeatureFindings.{FeatureFinding, feature_findings, findings_by}
use Rattle.gj_rules.proofs.Features.ByFeature.{first_of_all}
use Rattle.gj_join.specs.Runs.{OneEnds, StandsAfterFeature}
use Rattle.gj_join.proofs.FeatureStates.{reached}
use Rattle.gj_join.proofs.RunsRead.{stands_after}

-- in one text that begins with the bytes, a feature ends with them
pub ended_feature : (levels : ℕ) (bytes rest : List ℕ) (text : Text) → IsTextWithin levels text (bytes ++ rest)
    → OneEnds (length bytes) (feature_findings text) → StandsAfterFeature levels bytes
ended_feature levels bytes rest text h one =
    let r = reached bytes rest text h.0 one in
    stands_after levels r.marked r.around bytes r.stands r.last (rest, text, h)

pub one_of_more : (place : ℕ) (found more : List FeatureFinding) → OneEnds place found → OneEnds place (found ++ more)
one_of_more place [] more h = absurd h
one_of_more place (one ∷ found) more (inl h) = inl h
one_of_more place (one ∷ found) more (inr h) = inr (one_of_more place found more h)

-- it is one of those that are complete in n bytes
pub ended_by : (levels : ℕ) (bytes rest : List ℕ) (text : Text) (n : ℕ) → IsTextWithin levels text (bytes ++ rest)
    → OneEnds (length bytes) (findings_by n text) → StandsAfterFeature levels bytes
ended_by levels bytes rest text n h one =
    let g = first_of_all text n in
    ended_feature levels bytes rest text h (subst (OneEnds (length bytes)) (sym g.1) (one_of_more (length bytes) (findings_by n text) g.0 one))
