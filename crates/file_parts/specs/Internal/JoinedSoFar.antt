-- What the parts up to a place are together.
use Rattle.std.specs.Prelude.{ℕ, ◌≤◌, List, length, take}
use Rattle.gj_json.specs.Limits.{Allowed}
use Rattle.gj_join.specs.Joined.{IsVerdictOf}
use Rattle.gj_rules.specs.declared.records.framing.Framing.{Framing}
use Rattle.gj_rules.specs.declared.sequence.verdict.SeqVerdict.{SeqVerdict}

pub record IsJoinedTo (framing : Framing) (limits : Allowed) (text : List ℕ) (end : ℕ) (verdict : SeqVerdict) : Type 0 where
  pub within : end ≤ length text
  pub verdict_of_it : IsVerdictOf framing limits (take end text) verdict
