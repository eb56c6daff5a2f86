-- A bit for each comma, and how many bits there are.
use Rattle.std.proofs.Common.{◌≡◌, eqb, w8, length, ap, ◌∙◌, arith}
use Rattle.std.proofs.lemmas.List.Sums.{count_by-le-length}
use Rattle.std.proofs.lemmas.Simd.{bitmask_splat, ones-mask_l}
use Rattle.std.specs.Int.RustNames.{count_ones}
use Rattle.gj_rules.specs.FeatureFindings.{is_comma}
use Rattle.geolint_c.proofs.commas.commas_in.Goals as goal

pub returns : goal.returns
returns c =
    let lanes = c.args.lanes in
    let long : length lanes ≡ 64 = c.fits-lanes.0 in
    let ones = ap count_ones (bitmask_splat w8 eqb lanes 64 44 long (omega arith)) ∙ ones-mask_l is_comma lanes in
    record { value = ones; few = omega (arith, ones, count_by-le-length is_comma lanes, long) }
