use Rattle.gj_join.proofs.warnings.+warnings_at.Given as goal

abbrev pub decreases-warnings_at : goal.decreases-warnings_at
decreases-warnings_at l = l.count
