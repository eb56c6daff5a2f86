use Rattle.gj_number.proofs.Common.{ap, arith, leb, length-map, map, mask_l, replicate, tops_compared, w8, ◌%◌, ◌^◌, ◌∙◌}
use Rattle.std.proofs.lemmas.Simd.{zip2_splat_left, mask_l-mod}
use Rattle.gj_number.proofs.lanes.from_ten.Goals as goal

pub returns : goal.returns
returns c =
    let v = c.args.lanes in
    let long = c.fits-lanes.0 in
    ap (λ ms. mask_l ms % 2 ^ 64) (tops_compared w8 leb (replicate 16 10) v ∙ zip2_splat_left leb 10 16 v long)
    ∙ mask_l-mod (map (leb 10) v) 64 (omega (arith, length-map v (leb 10)))
