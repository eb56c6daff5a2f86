use Rattle.gj_number.proofs.Common.{after_point, ap, arith, before_point, in_lanes, lane_of, length, length-map, length-take-le, take, ◌*◌, ◌+◌}
use Rattle.gj_number.proofs.Common.{◌-◌, ◌∙◌, ◌≡◌}
use Rattle.gj_number.proofs.Shorts.CutLanes.{placed_ok, placed_is}
use Rattle.gj_number.proofs.short.cut_lanes.placed_digits.Goals as goal

pub swizzle : goal.swizzle
swizzle c = placed_ok (256 * (c.args.natural - 1) + 16 * c.args.fraction) (omega arith)

pub returns : goal.returns
returns c =
    let n = c.args.natural in
    let f = c.args.fraction in
    let e = c.lanes_of.ensures in
    let piece = c.args.piece.now in
    let long : length c.lanes_of.result ≡ 16 = ap length e ∙ length-map (take 16 piece) lane_of ∙ length-take-le 16 piece c.requires.room in
    placed_is c.lanes_of.result long n f c.requires.some c.requires.few c.requires.few_after
    ∙ ap (λ xs. in_lanes (before_point n xs) (after_point n f xs)) e
