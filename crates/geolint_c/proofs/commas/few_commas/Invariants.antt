-- How many commas the blocks have up to the index.
use Rattle.std.proofs.Common.{◌≡◌, ◌-◌, ◌*◌, ◌≤◌, ◌<◌, length, take}
use Rattle.gj_rules.specs.FeatureFindings.{commas}
use Rattle.geolint_c.proofs.commas.few_commas.Given as goal

abbrev pub invariant-loop-index : goal.invariant-loop-index
invariant-loop-index l = record {
  within : l.index ≤ length l.blocks;
  counted : l.count ≡ commas (take (l.index * 64) l.fn.piece);
  few : l.count < l.most;
}

abbrev pub decreases-loop-index : goal.decreases-loop-index
decreases-loop-index l = length l.blocks - l.index
