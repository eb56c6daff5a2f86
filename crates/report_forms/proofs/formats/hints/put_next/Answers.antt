use Rattle.std.proofs.Common.{◌≡◌, ◌++◌, ◌∷◌, [], ◌-◌, ◌∙◌, List, ℕ, suc, arith, ap, drop, refl, sym}
use Rattle.report_forms.specs.Forms.Hints.{named}
use Rattle.report_forms.proofs.formats.hints.put_next.Goals as goal

passed : (word : List ℕ) (left : ℕ) (rest : List ℕ) → named word (suc left) rest ≡ named word left (drop 1 rest)
passed word left [] = refl
passed word left (byte ∷ more) = refl

pub returns-then-skipped-gt0 : goal.returns-then-skipped-gt0
returns-then-skipped-gt0 c =
    let less : c.args.skipped ≡ suc (c.args.skipped - 1) = omega arith in
    ap (λ (bytes : List ℕ). c.args.line.now.items ++ bytes)
    (sym (passed c.args.word.now (c.args.skipped - 1) c.args.rest.now) ∙ ap (λ (n : ℕ). named c.args.word.now n c.args.rest.now) (sym less))
