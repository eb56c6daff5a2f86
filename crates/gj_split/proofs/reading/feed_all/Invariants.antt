use Rattle.gj_split.proofs.Common.{List, None, Some, length, take, ℕ, [], ◌≡◌, ◌≤◌}
use Rattle.gj_rules.specs.FeatureLinter.{StandsFor, limits_of, refusal_of}
use Rattle.gj_split.proofs.reading.feed_all.Given as goal

abbrev pub invariant-loop-turn : goal.invariant-loop-turn
invariant-loop-turn g l = record {
  limits : limits_of l.linter ≡ limits_of l.initial.linter;
  running : refusal_of l.linter ≡ None;
  read : (bytes : List ℕ) → g.R.Ranges.text ≡ Some bytes → StandsFor g.S.FeatureSink.told l.initial.linter [] → (l.at ≤ length bytes)
      × StandsFor g.S.FeatureSink.told l.linter (take l.at bytes);
}
