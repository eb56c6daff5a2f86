use Rattle.std.proofs.Common.{◌≡◌, ◌++◌, ◌+◌, ◌-◌, ◌∙◌, [], List, ℕ, ap, arith, append-nil, drop, take, length, length-drop, refl, sym}
use Rattle.std.proofs.Math.ListN.{drop_of_length-le}
use Rattle.std.proofs.lemmas.List.{drop-drop, take_all}
use Rattle.report_forms.specs.Forms.Hints.{named}
use Rattle.report_forms.proofs.formats.hints.put_named.Goals as goal

take-full-rest : (i : ℕ) (text : List ℕ) → take (length text - i) (drop i text) ≡ drop i text
take-full-rest i text = take_all (length text - i) (drop i text) (omega (arith, length-drop i text))

pub loop-i-preserved : goal.loop-i-preserved
loop-i-preserved c =
    let text = c.args.text.now in
    let word = c.args.word.now in
    let i = c.loop-i.i in
    let step : c.put_next.new.line.items ++ named word c.in_ok-skipped.skipped (drop 1 (drop i text)) ≡ c.loop-i.line.items ++ named word c.loop-i.skipped (drop i text) =
    cc (take-full-rest i text, c.in_ok-skipped.ensures) in
    record {
      done = ap (λ (rest : List ℕ). c.put_next.new.line.items ++ named word c.in_ok-skipped.skipped rest) (sym (drop-drop 1 i text))
          ∙ (step ∙ c.loop-i.invariant.done);
    }

pub returns : goal.returns
returns c =
    let text = c.args.text.now in
    let none : drop c.loop-i.i text ≡ [] = drop_of_length-le text (omega arith) in
    sym (append-nil c.loop-i.line.items)
    ∙ (ap (λ (rest : List ℕ). c.loop-i.line.items ++ named c.args.word.now c.loop-i.skipped rest) (sym none) ∙ c.loop-i.invariant.done)
