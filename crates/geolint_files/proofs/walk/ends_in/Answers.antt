use Rattle.std.proofs.Common.{ap, ◌∙◌, ℕ, List, drop}
use Rattle.std.proofs.lemmas.List.{take_rest}
use Rattle.std.proofs.lemmas.Bool.Decides.{same_from_decides}
use Rattle.std.proofs.lemmas.Slice.Eq.{bytes_eq-Decides}
use Rattle.std.specs.Str.{str_eq_ignore_ascii_case}
use Rattle.geolint_files.proofs.walk.ends_in.Goals as goal

pub returns : goal.returns
returns c =
    same_from_decides _ _ c.eq_ignore_ascii_case.ensures.test (bytes_eq-Decides _ _)
    ∙ ap (λ (tail : List ℕ). str_eq_ignore_ascii_case tail c.args.ending.now) (take_rest c.args.name.now c.saturating_sub.result)
    ∙ ap (λ (from : ℕ). str_eq_ignore_ascii_case (drop from c.args.name.now) c.args.ending.now) c.saturating_sub.ensures
