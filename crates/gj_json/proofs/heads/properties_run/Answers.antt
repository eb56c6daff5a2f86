-- The beginning of a member `properties`, by its bytes.
use Rattle.gj_json.proofs.Common.{inl, refl, space, [], ◌∷◌}
use Rattle.gj_json.proofs.Grammar.UsualTokens.{same_bytes}
use Rattle.gj_json.proofs.heads.properties_run.Goals as goal

pub returns-then-begins-2-clause-opens : goal.returns-then-begins-2-clause-opens
returns-then-begins-2-clause-opens c = λ some. record { gap = space ∷ []; white = (inl refl, tt); spelled = same_bytes _ _ c.if-begins-2.ensures }
