use Rattle.gj_coords.proofs.Common.{pos, ℤ, ◌*◌, ◌∙◌}
use Rattle.std.proofs.Common.{◌≡◌, ℕ, Option, Some, None, refl}
use Rattle.gj_number.specs.Exact.{cut_within, cut_of}
use Rattle.gj_number.specs.Short.{exact_of}
use Rattle.gj_coords.specs.Winding.{bounded_cut}
use Rattle.gj_coords.proofs.winding.cut_within.Goals as goal

same_bound : (most : ℕ) (cut : Option ℤ) → cut_within most cut ≡ bounded_cut (pos most) cut
same_bound most (Some cut) = refl
same_bound most None = refl

pub returns : goal.returns
returns c = c.cut_within.ensures ∙ same_bound (c.args.degrees * 10000000) (cut_of (exact_of c.args.number))
