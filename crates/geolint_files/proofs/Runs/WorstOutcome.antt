-- The worst of a list with one outcome more.
use Rattle.geolint_files.proofs.Common.{◌≡◌, ◌++◌, ◌∷◌, [], List, refl, ap, ◌∙◌, Outcome}
use Rattle.geolint_files.specs.declared.outcome.Outcome.TheVariants.{Pass, Fail, Unread}
use Rattle.geolint_files.specs.Outcome.{worse, worst}

worse-Pass : (a : Outcome) → worse a Pass ≡ a
worse-Pass Pass = refl
worse-Pass Fail = refl
worse-Pass Unread = refl

worse-assoc : (a b c : Outcome) → worse a (worse b c) ≡ worse (worse a b) c
worse-assoc Pass b c = refl
worse-assoc Unread b c = refl
worse-assoc Fail Pass c = refl
worse-assoc Fail Unread c = refl
worse-assoc Fail Fail Pass = refl
worse-assoc Fail Fail Fail = refl
worse-assoc Fail Fail Unread = refl

pub worst-more : (outcomes : List Outcome) (other : Outcome) → worst (outcomes ++ other ∷ []) ≡ worse (worst outcomes) other
worst-more [] other = worse-Pass other
worst-more (first ∷ more) other = ap (worse first) (worst-more more other) ∙ worse-assoc first (worst more) other
