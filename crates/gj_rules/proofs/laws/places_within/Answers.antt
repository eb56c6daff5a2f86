-- A refusal stands at a byte or at the end; the places of a broken rule and of a warning are those of the text.
use Rattle.gj_rules.proofs.Common.{Allowed, Judgement, List, arith, broken, length, valid, ◌≤◌}
use Rattle.std.proofs.Common.{ℕ}
use Rattle.gj_rules.specs.Places.{IsPlaceIn}
use Rattle.gj_rules.specs.Verdict.{refused, IsJudgement}
use Rattle.gj_rules.proofs.Texts.PlacesOfFaults.{least_within}
use Rattle.gj_rules.proofs.Texts.PlacesOfWarnings.{warnings_within}
use Rattle.gj_rules.proofs.laws.places_within.Goals as goal
use Rattle.gj_rules.proofs.Sequences.OpenRecords.{refused_within}

place_within : (limits : Allowed) (bytes : List ℕ) (judgement : Judgement) (place : ℕ) → IsJudgement limits bytes judgement → IsPlaceIn place judgement
    → place ≤ length bytes
place_within limits bytes (valid warnings) place h p = warnings_within h.0 bytes warnings p.0 place h.1.0.0 h.3 p.1
place_within limits bytes (broken fault) place h p = let l = least_within h.0 bytes fault h.1.0.0 h.2 in omega (arith, p, l)
place_within limits bytes (refused fault) place h p = let l = refused_within fault.cause limits bytes fault.place h in omega (arith, p, l)

pub returns : goal.returns
returns c = place_within
