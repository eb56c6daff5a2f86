use Rattle.gj_number.proofs.Common.{ap, arith, leb, length, length-map, map, map-append, mask_l, subst, sym, true, ℕ, [], ◌++◌, ◌+◌, ◌<◌, ◌^◌, ◌∙◌}
use Rattle.gj_number.proofs.Common.{◌∷◌, ◌≡◌}
use Rattle.std.proofs.lemmas.Simd.{mask_l-lt}
use Rattle.gj_number.proofs.Shorts.SixteenLanes.{mask_ended}
use Rattle.gj_number.proofs.lanes.from_ten_ended.Goals as goal

pub overflow_add-result : goal.overflow_add-result
overflow_add-result c =
    let long : length (map (leb 10) c.args.lanes) ≡ 16 = length-map c.args.lanes (leb 10) ∙ c.fits-lanes.0 in
    let P : ℕ → Type 0 = λ n. mask_l (map (leb 10) c.args.lanes) < 2 ^ n in
    let l : mask_l (map (leb 10) c.args.lanes) < 2 ^ 16 = subst P long (mask_l-lt (map (leb 10) c.args.lanes)) in
    rw c.from_ten.ensures (omega arith)

pub returns : goal.returns
returns c =
    let long : length (map (leb 10) c.args.lanes) ≡ 16 = length-map c.args.lanes (leb 10) ∙ c.fits-lanes.0 in
    let e : mask_l (map (leb 10) c.args.lanes ++ true ∷ []) ≡ mask_l (map (leb 10) c.args.lanes) + 2 ^ 16 =
    mask_ended (map (leb 10) c.args.lanes) ∙ ap (λ n. mask_l (map (leb 10) c.args.lanes) + 2 ^ n) long in
    ap (λ n. n + 65536) c.from_ten.ensures ∙ sym e ∙ ap mask_l (sym (map-append (leb 10) c.args.lanes (10 ∷ [])))
